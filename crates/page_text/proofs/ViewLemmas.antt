-- The page that stands in bytes with the places of its records.
use Rattle.std.proofs.Common.{◌≡◌, ◌≢◌, ◌≤◌, ◌<◌, ◌+◌, ◌-◌, ℕ, zero, suc, Bool, List, [], ◌∷◌, ◌++◌, ◌∙◌, ap, ap₂, sym, refl, subst, arith, length, get_or, take, drop, replicate, Option, Some, None, append_assoc, length-append, inl, inr, ◌⊎◌}
use Rattle.std.specs.Prelude.{◌==◌, slice_index, if◌then◌else◌}
use Rattle.std.proofs.lemmas.List.{take_at, drop_at, drop-drop, take-append-drop, take_all, ext_get_or, get_or-replicate, length-replicate}
use Rattle.std.proofs.lemmas.Bool.{eq-eqb, eqb-true, cases_Bool}
use Rattle.ipl_base.specs.declared.limits.TheConstants.{PAGE_LEN, VALUE_LEN, VERSION}
use Rattle.ipl_format.specs.Numbers.{half}
use Rattle.ipl_format.proofs.NumberLemmas.{length-half}
use Rattle.ipl_format.specs.Page.{Slots, IsPage, IsShort, SpellsPage, slot_bytes, text_from, page_text, empty_page}
use Rattle.ipl_format.proofs.PageLemmas.{empty_pages_spell_nothing}
use Rattle.page_text.specs.Texts.{size_of, size_below, value_between, page_in, BytesView, IsIndexed, AreBounds}
use Rattle.page_text.proofs.SizeLemmas.{record_size, below_more, below_rise, text_size, text_split}

-- ---- slot by slot

page_length : (bytes bounds : List ℕ) → length (page_in bytes bounds) ≡ length bounds - 1
unfolding page_in
page_length bytes [] = refl
page_length bytes (a ∷ []) = omega arith
page_length bytes (a ∷ b ∷ rest) = let more = page_length bytes (b ∷ rest) in omega (arith, more)

slot_from : (bytes bounds : List ℕ) (i : ℕ) → i + 1 < length bounds
    → get_or (page_in bytes bounds) i None ≡ value_between bytes (get_or bounds i 0)
    (get_or bounds (suc i) 0)
unfolding page_in
slot_from bytes [] i h = absurd (omega arith)
slot_from bytes (a ∷ []) i h = absurd (omega arith)
slot_from bytes (a ∷ b ∷ rest) zero h = refl
slot_from bytes (a ∷ b ∷ rest) (suc i) h = slot_from bytes (b ∷ rest) i (omega arith)

page_slot : (bytes bounds : List ℕ) (i : ℕ) → i + 1 < length bounds
    → get_or (page_in bytes bounds) i None ≡ value_between bytes (slice_index bounds i)
    (slice_index bounds (i + 1))
page_slot bytes bounds i h = slot_from bytes bounds i h
    ∙ ap (λ (j : ℕ). value_between bytes (get_or bounds i 0) (get_or bounds j 0)) (omega arith)

-- ---- one record

-- a record that stands between two places gives its slot's value
pub value_is : (k from until : ℕ) (o : Option (List ℕ)) (front rest bytes : List ℕ)
    → bytes ≡ front ++ (slot_bytes VERSION k o ++ rest)
    → length front ≡ from → until ≡ from + size_of o → value_between bytes from until ≡ o
value_is k from until None front rest bytes e size ends =
    ap (λ (b : Bool). if b then None else Some (take (until - (from + 3)) (drop (from + 3) bytes)))
    (eq-eqb from until (omega (arith, ends)))
value_is k from until (Some v) front rest bytes e size ends =
    elim (cases_Bool (from == until)) [
      | inl same ↦ absurd (let x = eqb-true from until same in omega (arith, x, ends))
      | inr other ↦ ap (λ (b : Bool). if b then None else Some
          (take (until - (from + 3)) (drop (from + 3) bytes))) other
          ∙ ap (λ (t : List ℕ). Some t) (ap₂ (λ (n : ℕ) (t : List ℕ). take n t)
          (omega (arith, ends)) behind ∙ take_at v rest (length v) refl)
    ]
  where
    behind : drop (from + 3) bytes ≡ v ++ rest
    behind = sym (drop-drop 3 from bytes) ∙ (ap (drop 3) (ap (drop from) e
        ∙ drop_at front (slot_bytes VERSION k (Some v) ++ rest) from size)
        ∙ (ap (drop 2) (append_assoc (half (length v)) v rest)
        ∙ drop_at (half (length v)) (v ++ rest) 2 (length-half (length v))))

-- ---- the parts of a text

-- the bytes around a slot's record
pub record Around (slot : ℕ) (o : Option (List ℕ)) (bytes : List ℕ) (page : Slots) : Type 0 where
  pub front : List ℕ
  pub back : List ℕ
  pub rest : List ℕ
  pub bytes_are : bytes ≡ front ++ (slot_bytes VERSION slot o ++ (back ++ rest))
  pub front_is : front ≡ text_from VERSION 0 (take slot page)
  pub back_is : back ≡ text_from VERSION (suc slot) (drop (suc slot) page)
  pub front_size : length front ≡ size_below slot page
  pub all_size : length front + size_of o + length back ≡ size_below 64 page

pub whole_size : (page : Slots) → IsPage VERSION page
    → length (page_text VERSION page) ≡ size_below 64 page
whole_size page is =
    let long = is.slots in
    ap (λ (xs : Slots). length (text_from VERSION 0 xs))
    (sym (take_all 64 page (omega (arith, long))))
    ∙ text_size 0 64 page (omega (arith, long))

pub around : (bytes : List ℕ) (page : Slots) (slot : ℕ) → IsPage VERSION page → slot < 64
    → take (size_below 64 page) bytes ≡ page_text VERSION page
    → Around slot (get_or page slot None) bytes page
around bytes page slot is below text =
    let long = is.slots in
    let front = text_from VERSION 0 (take slot page) in
    let part = slot_bytes VERSION slot (get_or page slot None) in
    let back = text_from VERSION (suc slot) (drop (suc slot) page) in
    let rest = drop (size_below 64 page) bytes in
    let split : page_text VERSION page ≡ front ++ (part ++ back) =
    text_split 0 slot slot page (omega arith) (omega (arith, long)) in
    record {
      front = front;
      back = back;
      rest = rest;
      bytes_are = sym (take-append-drop (size_below 64 page) bytes)
          ∙ (ap (λ (t : List ℕ). t ++ rest) (text ∙ split)
          ∙ (append_assoc front (part ++ back) rest
          ∙ ap (λ (t : List ℕ). front ++ t) (append_assoc part back rest)));
      front_is = refl;
      back_is = refl;
      front_size = text_size 0 slot page (omega (arith, long));
      all_size = let whole = whole_size page is in let sum = ap length split in
          omega (
            arith,
            whole,
            sum,
            length-append front (part ++ back),
            length-append part back,
            record_size slot (get_or page slot None),
          );
    }

-- ---- the view

pub indexed_view : (bytes bounds : List ℕ) (page : Slots) → length bounds ≡ 65
    → IsIndexed bytes bounds page → page_in bytes bounds ≡ page
indexed_view bytes bounds page count h =
    ext_get_or None (page_in bytes bounds) page (omega
    (arith, page_length bytes bounds, count, h.slots.slots))
    (λ i within. let below : i < 64 = omega (arith, within, page_length bytes bounds, count) in
    let parts = around bytes page i h.slots below h.text in
    page_slot bytes bounds i (omega (arith, below, count))
    ∙ value_is i (slice_index bounds i) (slice_index bounds (i + 1))
    (get_or page i None) parts.front (parts.back ++ parts.rest) bytes parts.bytes_are
    (parts.front_size ∙ sym (h.places i (omega (arith, below))))
    (h.places (i + 1) (omega (arith, below)) ∙ (below_more i page
    (omega (arith, below, h.slots.slots))
    ∙ ap (λ (n : ℕ). n + size_of (get_or page i None)) (sym (h.places i (omega (arith, below)))))))

pub are_bounds : (bytes bounds : List ℕ) (page : Slots) → IsIndexed bytes bounds page
    → AreBounds bounds
are_bounds bytes bounds page h = record {
  rise = λ i j low high. let a = h.places i (omega (arith, low, high)) in let b = h.places j high in
      let c = below_rise i j page low in omega (arith, a, b, c);
  within = let a = h.places 64 (omega arith) in let b = whole_size page h.slots in
      let d = h.slots.fits in omega (arith, a, b, d);
}

none_below : (k n : ℕ) → size_below k (replicate n None) ≡ 0
unfolding size_below
none_below zero n = refl
none_below (suc k) zero = refl
none_below (suc k) (suc n) = let more = none_below k n in omega (arith, more)

-- with all places at 0 they are no text
pub nothing_in : (bytes bounds : List ℕ) → bounds ≡ replicate 65 0
    → IsIndexed bytes bounds empty_page
unfolding empty_page
nothing_in bytes bounds is = record {
  slots = (empty_pages_spell_nothing VERSION).slots;
  places = λ k within. ap (λ (l : List ℕ). slice_index l k) is
      ∙ (get_or-replicate 65 k 0 0 (omega (arith, within)) ∙ sym (none_below k 64));
  text = ap (λ (n : ℕ). take n bytes) (none_below 64 64) ∙ (empty_pages_spell_nothing VERSION).text;
}

-- ---- what is read

-- the text
pub text_is : (bytes bounds : List ℕ) (page : Slots) → IsIndexed bytes bounds page
    → SpellsPage VERSION (take (slice_index bounds 64) bytes) page
text_is bytes bounds page h = record {
  slots = h.slots;
  text =
      ap (λ (n : ℕ). take n bytes) (h.places 64 (omega arith)) ∙ h.text;
}

-- a slot's record is there, or it holds nothing
pub record Lies (bytes bounds : List ℕ) (page : Slots) (slot : ℕ) : Type 0 where
  pub value : get_or page slot None ≡ value_between bytes (slice_index bounds slot)
      (slice_index bounds (slot + 1))
  pub within : slice_index bounds (slot + 1) ≤ PAGE_LEN
  pub most : slice_index bounds (slot + 1) ≤ slice_index bounds slot + (3 + VALUE_LEN)
  pub least : slice_index bounds slot ≢ slice_index bounds (slot + 1)
      → slice_index bounds slot + 3 ≤ slice_index bounds (slot + 1)

short_size : (o : Option (List ℕ)) → IsShort VERSION o → size_of o ≤ 3 + VALUE_LEN
short_size None s = omega arith
short_size (Some v) s = omega (arith, s)

some_size : (o : Option (List ℕ)) → (size_of o ≡ 0) ⊎ (3 ≤ size_of o)
some_size None = inl refl
some_size (Some v) = inr (omega arith)

pub lies : (bytes bounds : List ℕ) (page : Slots) (slot : ℕ) → length bounds ≡ 65
    → IsIndexed bytes bounds page → slot < 64 → Lies bytes bounds page slot
lies bytes bounds page slot count h below =
    let here = h.places slot (omega (arith, below)) in
    let next = h.places (slot + 1) (omega (arith, below)) in
    let step = below_more slot page (omega (arith, below, h.slots.slots)) in
    let bound = are_bounds bytes bounds page h in
    let high = bound.rise (slot + 1) 64 (omega (arith, below)) (omega arith) in
    record {
      value = ap (λ (p : Slots). get_or p slot None) (sym (indexed_view bytes bounds page count h))
          ∙ page_slot bytes bounds slot (omega (arith, below, count));
      within = omega (arith, high, bound.within);
      most = let m = short_size (get_or page slot None)
          (h.slots.short slot None (omega (arith, below, h.slots.slots))) in
          omega (arith, here, next, step, m);
      least = λ other. let m = some_size (get_or page slot None) in
          omega (arith, here, next, step, m, other);
    }

-- the view is a page that is indexed
pub view_indexed : (bytes bounds : List ℕ) (page : Slots) → length bounds ≡ 65
    → IsIndexed bytes bounds page → IsIndexed bytes bounds (page_in bytes bounds)
view_indexed bytes bounds page count h = subst (IsIndexed bytes bounds)
    (sym (indexed_view bytes bounds page count h)) h

pub nothing_view : (bytes bounds : List ℕ) → bounds ≡ replicate 65 0
    → IsIndexed bytes bounds (page_in bytes bounds)
nothing_view bytes bounds is = view_indexed bytes bounds empty_page (ap length is
    ∙ length-replicate {A = ℕ} 65 0) (nothing_in bytes bounds is)

-- where the page has nothing, the bytes may be any
pub nothing_stays : (bytes bounds now : List ℕ) (view : BytesView) → length bounds ≡ 65
    → IsIndexed bytes bounds (page_in bytes bounds)
    → ◌≡◌ {A = BytesView} (record { bytes = bytes; page = page_in bytes bounds }) view
    → view.page ≡ empty_page → IsIndexed now bounds empty_page
unfolding empty_page
nothing_stays bytes bounds now view count h same empty =
    let page_is : page_in bytes bounds ≡ empty_page = ap (λ (v : BytesView). v.page) same ∙ empty in
    let was = subst (IsIndexed bytes bounds) page_is h in
    record {
      slots = was.slots;
      places = was.places;
      text = ap (λ (n : ℕ). take n now) (none_below 64 64)
          ∙ (empty_pages_spell_nothing VERSION).text;
    }
