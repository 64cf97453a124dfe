-- A page's text after the record of one slot was changed in it.
use Rattle.std.proofs.Common.{◌≡◌, ◌≤◌, ◌<◌, ◌+◌, ◌-◌, ℕ, List, ◌++◌, ◌∙◌, ap, ap₂, sym, refl, subst, arith, length, get_or, set, take, drop, Option, Some, None, append_assoc, inl, inr, take-append-drop}
use Rattle.std.specs.Prelude.{slice_index}
use Rattle.std.proofs.lemmas.Bool.{cases_lt}
use Rattle.std.proofs.lemmas.List.{take_at, drop_at, drop-drop, length-set, take_all}
use Rattle.ipl_base.specs.declared.limits.TheConstants.{PAGE_LEN, VALUE_LEN, VERSION}
use Rattle.ipl_format.specs.Page.{Slots, IsPage, IsShort, slot_bytes, page_text, text_from}
use Rattle.page_text.specs.Texts.{BytesView, size_of, size_below, page_in, IsIndexed, AreMoved}
use Rattle.page_text.proofs.SlotLemmas.{page_set}
use Rattle.page_text.proofs.SizeLemmas.{record_size, below_more, below_set, below_same, text_set, text_size}
use Rattle.page_text.proofs.ViewLemmas.{Around, around, whole_size}

-- ---- bytes

-- what stands behind a record is where it was moved, and another record is written before it
pub written_over : (at s n : ℕ) (front back mid part : List ℕ) → take at mid ≡ front
    → take n (drop (at + s) mid) ≡ back
    → (take at mid ++ part) ++ drop (at + s) mid
    ≡ front ++ (part ++ (back ++ drop n (drop (at + s) mid)))
written_over at s n front back mid part kept moved =
    append_assoc (take at mid) part (drop (at + s) mid)
    ∙ ap₂ (λ (x y : List ℕ). x ++ (part ++ y)) kept
    (sym (take-append-drop n (drop (at + s) mid))
    ∙ ap (λ (t : List ℕ). t ++ drop n (drop (at + s) mid)) moved)

-- ---- the page

-- a slot's record gives way to another, and the places are moved: so is the page
pub changed : (bytes bounds : List ℕ) (page : Slots) (slot : ℕ) (o : Option (List ℕ))
    (rest now places : List ℕ) → IsIndexed bytes bounds page
    → slot < 64 → IsShort VERSION o → length (page_text VERSION (set page slot o)) ≤ PAGE_LEN
    → (parts : Around slot (get_or page slot None) bytes page)
    → now ≡ parts.front ++ (slot_bytes VERSION slot o ++ (parts.back ++ rest))
    → AreMoved slot (slice_index bounds (slot + 1))
    (slice_index bounds slot + size_of o) bounds places
    → IsIndexed now places (set page slot o)
changed bytes bounds page slot o rest now places h below short fits parts is moved =
    let long = h.slots.slots in
    let page' = set page slot o in
    let slots : IsPage VERSION page' = page_set VERSION page slot o short h.slots fits in
    let here = h.places slot (omega (arith, below)) in
    let next = h.places (slot + 1) (omega (arith, below)) in
    let step = below_more slot page (omega (arith, below, long)) in
    let text : page_text VERSION page' ≡ parts.front ++ (slot_bytes VERSION slot o ++ parts.back) =
    text_set 0 slot slot page o (omega arith) (omega (arith, below, long))
    ∙ ap₂ (λ (x y : List ℕ). x ++ (slot_bytes VERSION slot o ++ y)) (sym parts.front_is)
    (sym parts.back_is) in
    let joined : now ≡ page_text VERSION page' ++ rest =
    is ∙ (ap (λ (t : List ℕ). parts.front ++ t) (sym
    (append_assoc (slot_bytes VERSION slot o) parts.back rest))
    ∙ (sym (append_assoc parts.front (slot_bytes VERSION slot o ++ parts.back) rest)
    ∙ ap (λ (t : List ℕ). t ++ rest) (sym text))) in
    record {
      slots = slots;
      places = λ k within. elim (cases_lt slot k) [
        | inr low ↦ moved.before k low ∙ (h.places k within ∙ sym (below_same slot k page o low))
        | inl high ↦ let one = moved.behind k high within in let old = h.places k within in
            let two = below_set slot k page o (omega (arith, below, long)) high in
            omega (arith, one, old, two, here, next, step)
      ];
      text = ap (take (size_below 64 page')) joined
          ∙ take_at (page_text VERSION page') rest (size_below 64 page') (whole_size page' slots);
    }

-- ---- a record taken out, and one put in

-- how long the text is with another value in the slot
pub with_size : (bytes bounds : List ℕ) (page : Slots) (slot : ℕ) (o : Option (List ℕ))
    → IsIndexed bytes bounds page → slot < 64
    → length (page_text VERSION (set page slot o)) + size_of (get_or page slot None)
    ≡ size_below 64 page + size_of o
with_size bytes bounds page slot o h below =
    let long : length (set page slot o) ≡ 64 = length-set page slot o ∙ h.slots.slots in
    let whole = ap (λ (xs : Slots). length (text_from VERSION 0 xs))
    (sym (take_all 64 (set page slot o) (omega (arith, long))))
    ∙ text_size 0 64 (set page slot o) (omega (arith, long)) in
    let two = below_set slot 64 page o (omega (arith, below, h.slots.slots)) below in
    omega (arith, whole, two)

-- by the places of the records
pub with_places : (bytes bounds : List ℕ) (page : Slots) (slot : ℕ) (o : Option (List ℕ))
    → IsIndexed bytes bounds page → slot < 64
    → length (page_text VERSION (set page slot o)) + slice_index bounds (slot + 1)
    ≡ slice_index bounds 64 + slice_index bounds slot + size_of o
with_places bytes bounds page slot o h below =
    let here = h.places slot (omega (arith, below)) in
    let next = h.places (slot + 1) (omega (arith, below)) in
    let last = h.places 64 (omega arith) in
    let step = below_more slot page (omega (arith, below, h.slots.slots)) in
    let whole = with_size bytes bounds page slot o h below in
    omega (arith, here, next, last, step, whole)

-- a value that fits has room in the place of the record that was
pub room_for : (bytes bounds : List ℕ) (page : Slots) (slot : ℕ) (o : Option (List ℕ))
    → IsIndexed bytes bounds page → slot < 64
    → length (page_text VERSION (set page slot o)) ≤ PAGE_LEN
    → slice_index bounds 64 + slice_index bounds slot + size_of o
    ≤ PAGE_LEN + slice_index bounds (slot + 1)
room_for bytes bounds page slot o h below fits =
    let whole = with_places bytes bounds page slot o h below in omega (arith, whole, fits)

-- what fits the page that is seen fits the one that stands there
pub fits_there : (bytes bounds : List ℕ) (view : BytesView) (slot : ℕ) (o : Option (List ℕ))
    → ◌≡◌ {A = BytesView} (record { bytes = bytes; page = page_in bytes bounds }) view
    → length (page_text VERSION (set view.page slot o)) ≤ PAGE_LEN
    → length (page_text VERSION (set (page_in bytes bounds) slot o)) ≤ PAGE_LEN
fits_there bytes bounds view slot o same =
    subst (λ (v : BytesView). length (page_text VERSION (set v.page slot o)) ≤ PAGE_LEN) (sym same)

-- an emptied slot always fits
pub none_fits : (bytes bounds : List ℕ) (page : Slots) (slot : ℕ) → IsIndexed bytes bounds page
    → slot < 64 → length (page_text VERSION (set page slot None)) ≤ PAGE_LEN
none_fits bytes bounds page slot h below =
    let whole = with_size bytes bounds page slot None h below in
    let all = whole_size page h.slots in
    let most = h.slots.fits in
    omega (arith, whole, all, most)

-- what stands before and behind a slot's record, by the places
pub record Beside (bytes bounds front back : List ℕ) (slot : ℕ) : Type 0 where
  pub before : take (slice_index bounds slot) bytes ≡ front
  pub behind : take (slice_index bounds 64 - slice_index bounds (slot + 1))
      (drop (slice_index bounds (slot + 1)) bytes) ≡ back

beside : (bytes bounds : List ℕ) (page : Slots) (slot : ℕ) → IsIndexed bytes bounds page → slot < 64
    → (parts : Around slot (get_or page slot None) bytes page)
    → Beside bytes bounds parts.front parts.back slot
beside bytes bounds page slot h below parts =
    let here = h.places slot (omega (arith, below)) in
    let next = h.places (slot + 1) (omega (arith, below)) in
    let last = h.places 64 (omega arith) in
    let step = below_more slot page (omega (arith, below, h.slots.slots)) in
    let part = slot_bytes VERSION slot (get_or page slot None) in
    let size = record_size slot (get_or page slot None) in
    let all = parts.all_size in
    let front = parts.front_size in
    let from = slice_index bounds slot in
    let at : length parts.front ≡ from = front ∙ sym here in
    let until : slice_index bounds (slot + 1) ≡ from + length part =
    omega (arith, next, step, size, here) in
    let left : slice_index bounds 64 - slice_index bounds (slot + 1) ≡ length parts.back =
    omega (arith, last, all, until, size, here, front) in
    record {
      before = ap (take from) parts.bytes_are ∙ take_at parts.front
          (part ++ (parts.back ++ parts.rest)) from at;
      behind = ap₂ (λ (n i : ℕ). take n (drop i bytes)) left until
          ∙ (ap (take (length parts.back)) (sym (drop-drop (length part) from bytes)
          ∙ ap (drop (length part)) (ap (drop from) parts.bytes_are
          ∙ drop_at parts.front (part ++ (parts.back ++ parts.rest)) from at)
          ∙ drop_at part (parts.back ++ parts.rest) (length part) refl)
          ∙ take_at parts.back parts.rest (length parts.back) refl);
    }

-- a slot's record is taken out: the bytes before it stay, and those behind it begin where it began
pub cleared : (bytes bounds : List ℕ) (page : Slots) (slot : ℕ) (now places : List ℕ)
    → IsIndexed bytes bounds page → slot < 64
    → take (slice_index bounds slot) now ≡ take (slice_index bounds slot) bytes
    → take (slice_index bounds 64 - slice_index bounds (slot + 1))
    (drop (slice_index bounds slot + 0) now)
    ≡ take (slice_index bounds 64 - slice_index bounds (slot + 1))
    (drop (slice_index bounds (slot + 1)) bytes)
    → AreMoved slot (slice_index bounds (slot + 1)) (slice_index bounds slot + 0) bounds places
    → IsIndexed now places (set page slot None)
cleared bytes bounds page slot now places h below kept tail moved =
    let parts = around bytes page slot h.slots below h.text in
    let both = beside bytes bounds page slot h below parts in
    let from = slice_index bounds slot in
    let n = slice_index bounds 64 - slice_index bounds (slot + 1) in
    let same : from + 0 ≡ from = omega arith in
    changed bytes bounds page slot None (drop n (drop (from + 0) now)) now places h below tt
    (none_fits bytes bounds page slot h below) parts
    (sym (take-append-drop from now) ∙ (ap₂ (λ (x y : List ℕ). x ++ y) (kept ∙ both.before)
    (ap (λ (i : ℕ). drop i now) (sym same) ∙ (sym (take-append-drop n (drop (from + 0) now))
    ∙ ap (λ (t : List ℕ). t ++ drop n (drop (from + 0) now)) (tail ∙ both.behind)))))
    moved

-- the record of a slot is put in, in the place of the one that was
pub was_set : (bytes bounds : List ℕ) (page : Slots) (slot : ℕ) (value mid now places : List ℕ)
    → IsIndexed bytes bounds page → slot < 64
    → length value ≤ VALUE_LEN
    → length (page_text VERSION (set page slot (Some value))) ≤ PAGE_LEN
    → take (slice_index bounds slot) mid ≡ take (slice_index bounds slot) bytes
    → take (slice_index bounds 64 - slice_index bounds (slot + 1))
    (drop (slice_index bounds slot + (3 + length value)) mid)
    ≡ take (slice_index bounds 64 - slice_index bounds (slot + 1))
    (drop (slice_index bounds (slot + 1)) bytes)
    → now ≡ take (slice_index bounds slot) mid ++ slot_bytes VERSION slot (Some value) ++ drop
    (slice_index bounds slot + (3 + length value)) mid
    → AreMoved slot (slice_index bounds (slot + 1))
    (slice_index bounds slot + (3 + length value)) bounds places
    → IsIndexed now places (set page slot (Some value))
was_set bytes bounds page slot value mid now places h below short fits kept tail is moved =
    let parts = around bytes page slot h.slots below h.text in
    let both = beside bytes bounds page slot h below parts in
    let from = slice_index bounds slot in
    let n = slice_index bounds 64 - slice_index bounds (slot + 1) in
    changed bytes bounds page slot (Some value) (drop n (drop (from + (3 + length value)) mid)) now
    places h below short fits parts
    (is ∙ written_over from (3 + length value) n parts.front parts.back mid
    (slot_bytes VERSION slot (Some value)) (kept ∙ both.before) (tail ∙ both.behind))
    moved
