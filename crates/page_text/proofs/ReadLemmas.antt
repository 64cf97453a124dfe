-- Reading a page's text, record by record.
use Rattle.std.proofs.Common.{◌≡◌, ◌≤◌, ◌<◌, ◌+◌, ℕ, zero, suc, true, false, eqb, List, [], ◌∷◌, ◌++◌, ◌∙◌, ap, ap₂, sym, refl, subst, arith, length, get_or, set, take, drop, Some, None, append_assoc, length-append, length-drop, inl, inr, ◌==◌}
use Rattle.std.specs.Prelude.{slice_index}
use Rattle.std.proofs.lemmas.Bool.{cases_Bool, leb-true, ltb-true, false≢true}
use Rattle.std.proofs.lemmas.List.{take-append-drop, take_more_set, get_or-set_other, length-take-le, drop-drop, get_or-append-add}
use Rattle.ipl_base.specs.declared.limits.TheConstants.{PAGE_LEN}
use Rattle.ipl_format.specs.Page.{Slots, IsPage, IsPageText, empty_page, page_text, slot_bytes, text_from}
use Rattle.ipl_format.specs.Numbers.{IsBytes, half, half_at}
use Rattle.ipl_format.specs.Version.{most_len, len_bytes, len_size, len_in}
use Rattle.ipl_format.proofs.NumberLemmas.{half_rebuilt}
use Rattle.ipl_format.proofs.PageLemmas.{empty_pages_spell_nothing}
use Rattle.page_text.specs.Reading.{has_slot, size_at}
use Rattle.page_text.proofs.SlotLemmas.{page_set}
use Rattle.page_text.proofs.PushLemmas.{text_push}
use Rattle.page_text.proofs.GapLemmas.{EndsSome, ends_push, gap_text, goes_on}
use Rattle.page_text.proofs.FirstLemmas.{First, first_of, begins_so, short_drop, short_take, none_at, both}

pub record Reading (version : ℕ) (bytes rest : List ℕ) (page : Slots) (next : ℕ) : Type 0 where
  pub slots : IsPage version page
  pub empty : (i : ℕ) → next ≤ i → get_or page i None ≡ None
  pub bound : next ≤ 64
  pub parts : bytes ≡ page_text version page ++ rest
  pub ends : EndsSome (take next page)

pub reading_none : (version : ℕ) (bytes : List ℕ) (page : Slots) → page ≡ empty_page
    → Reading version bytes bytes page 0
unfolding empty_page
reading_none version bytes page e = record {
  slots = subst (IsPage version) (sym e) (empty_pages_spell_nothing version).slots;
  empty = λ i h. ap (λ (xs : Slots). get_or xs i None) e ∙ none_at 64 i;
  bound = omega arith;
  parts =
      ap (λ (t : List ℕ). t ++ bytes)
      (sym (ap (page_text version) e ∙ sym (empty_pages_spell_nothing version).text));
  ends = tt;
}

-- what the test says of a rest
pub record HasSlot (version least : ℕ) (rest : List ℕ) : Type 0 where
  pub long : 1 + len_size version ≤ length rest
  pub from : least ≤ slice_index rest 0
  pub below : slice_index rest 0 < 64
  pub short : size_at version rest ≤ most_len version
  pub whole : 1 + len_size version + size_at version rest ≤ length rest

pub slot_facts : (version least : ℕ) (rest : List ℕ) → has_slot version least rest ≡ true
    → HasSlot version least rest
slot_facts version least rest e =
    let a = both _ _ e in
    let b = both _ _ a.1 in
    let d = both _ _ b.1 in
    let f = both _ _ d.1 in
    record {
      long = leb-true _ _ a.0;
      from = leb-true _ _ b.0;
      below = ltb-true _ _ d.0;
      short = leb-true _ _ f.0;
      whole = leb-true _ _ f.1;
    }

same_half : (x y : ℕ) (xs : List ℕ) → half_at 0 (x ∷ y ∷ []) ≡ half_at 0 (x ∷ y ∷ xs)
unfolding half_at
same_half x y xs = refl

-- a length that is read is written so, where its bytes are bytes
len_rebuilt : (version : ℕ) (xs : List ℕ) → len_size version ≤ length xs
    → IsBytes (take (len_size version) xs)
    → take (len_size version) xs ≡ len_bytes version (len_in version xs)
len_rebuilt version xs long all = elim (cases_Bool (version == 1)) [
  | inl first ↦ rw first (one_at xs (rw first at long))
  | inr later ↦ rw later (two_at xs (rw later at long) (rw later at all))
]
  where
    one_at : (xs : List ℕ) → 1 ≤ length xs → take 1 xs ≡ slice_index xs 0 ∷ []
    one_at [] long = absurd (omega (arith, long))
    one_at (x ∷ xs) long = refl

    two_at : (xs : List ℕ) → 2 ≤ length xs → IsBytes (take 2 xs) → take 2 xs ≡ half (half_at 0 xs)
    two_at [] long all = absurd (omega (arith, long))
    two_at (x ∷ []) long all = absurd (omega (arith, long))
    two_at (x ∷ y ∷ xs) long all =
        half_rebuilt 0 (x ∷ y ∷ []) (omega arith) all ∙ ap half (same_half x y xs)

front_is : (version : ℕ) (rest : List ℕ) → 1 + len_size version ≤ length rest
    → IsBytes (take (len_size version) (drop 1 rest))
    → rest ≡ slice_index rest 0 ∷ (len_bytes version (size_at version rest)
    ++ drop (1 + len_size version) rest)
front_is version [] long all = absurd (omega (arith, long))
front_is version (a ∷ rest) long all =
    ap (λ (t : List ℕ). a ∷ t) (sym (take-append-drop (len_size version) rest)
    ∙ ap₂ (λ (x y : List ℕ). x ++ y)
    (len_rebuilt version rest (omega (arith, long)) all)
    (sym (behind (len_size version))))
  where
    behind : (n : ℕ) → drop (1 + n) (a ∷ rest) ≡ drop n rest
    behind n = ap (λ (k : ℕ). drop k (a ∷ rest)) (next n)
      where
        next : (n : ℕ) → 1 + n ≡ suc n
        next n = omega arith

-- what is read of a rest: its first record, and what is behind it
pub record ReadsFirst (version next : ℕ) (rest : List ℕ) (slot : ℕ) (value after : List ℕ)
    : Type 0 where
  pub small : IsBytes (take (len_size version) (drop 1 rest))
  pub test : has_slot version next rest ≡ true
  pub slot_is : slot ≡ slice_index rest 0
  pub value_is : value ≡ take (size_at version rest) (drop (1 + len_size version) rest)
  pub after_is : after ≡ drop (1 + len_size version + size_at version rest) rest

-- what it makes of the page
record Takes (version : ℕ) (rest : List ℕ) (page : Slots) (slot : ℕ) (value after : List ℕ)
    : Type 0 where
  text : page_text version (set page slot (Some value))
      ≡ page_text version page ++ slot_bytes version slot (Some value)
  rest_is : rest ≡ slot_bytes version slot (Some value) ++ after
  short : length value ≤ most_len version
  below : slot < 64
  nothing : (i : ℕ) → slot + 1 ≤ i → get_or (set page slot (Some value)) i None ≡ None
  front : take (slot + 1) (set page slot (Some value)) ≡ take slot page ++ Some value ∷ []

takes : (version : ℕ) (bytes rest : List ℕ) (page : Slots) (next slot : ℕ) (value after : List ℕ)
    → Reading version bytes rest page next → ReadsFirst version next rest slot value after
    → Takes version rest page slot value after
takes version bytes rest page next slot value after h first =
    let now = set page slot (Some value) in
    let facts = slot_facts version next rest first.test in
    let slot_is = first.slot_is in
    let long = h.slots.slots in
    let len = size_at version rest in
    let head = 1 + len_size version in
    let size : length value ≡ len =
    ap length first.value_is ∙ length-take-le len (drop head rest)
    (omega (arith, length-drop head rest, facts.whole)) in
    let inside : slot < length page = omega (arith, facts.below, slot_is, long) in
    let front : take (slot + 1) now ≡ take slot page ++ Some value ∷ [] =
    take_more_set page slot (Some value) inside in
    let count : length (take slot page) ≡ slot = length-take-le slot page (omega (arith, inside)) in
    let empty : (i : ℕ) → slot ≤ i → get_or page i None ≡ None =
    λ i p. h.empty i (omega (arith, p, facts.from, slot_is)) in
    let nothing : (i : ℕ) → slot + 1 ≤ i → get_or now i None ≡ None =
    λ i p. get_or-set_other page slot i (Some value) None (λ e. omega (arith, e, p))
    ∙ empty i (omega (arith, p)) in
    let gap : page_text version page ≡ page_text version (take slot page) =
    gap_text version 0 page slot empty in
    record {
      text = gap_text version 0 now (slot + 1) nothing ∙ (ap (page_text version) front
          ∙ (text_push version 0 (take slot page) (Some value)
          ∙ ap₂ (λ (t : List ℕ) (n : ℕ). t ++ slot_bytes version n (Some value)) (sym gap)
          (omega (arith, count))));
      rest_is = front_is version rest facts.long first.small
          ∙ ap₂ (λ (a : ℕ) (t : List ℕ). a ∷ (len_bytes version len ++ t)) (sym slot_is)
          (sym (take-append-drop len (drop head rest)) ∙ ap₂ (λ (x y : List ℕ). x ++ y)
          (sym first.value_is) (drop-drop len head rest ∙ sym first.after_is))
          ∙ ap (λ (n : ℕ). slot ∷ (len_bytes version n ++ (value ++ after))) (sym size)
          ∙ ap (λ (t : List ℕ). slot ∷ t)
          (sym (append_assoc (len_bytes version (length value)) value after));
      short = omega (arith, size, facts.short);
      below = omega (arith, facts.below, slot_is);
      nothing = nothing;
      front = front;
    }

-- the page with it has room, since its text stands in the bytes
pub page_read : (version : ℕ) (bytes rest : List ℕ) (page : Slots) (next slot : ℕ)
    (value after : List ℕ) → Reading version bytes rest page next
    → ReadsFirst version next rest slot value after → length bytes ≤ PAGE_LEN
    → IsPage version (set page slot (Some value))
page_read version bytes rest page next slot value after h first few =
    let t = takes version bytes rest page next slot value after h first in
    let part = slot_bytes version slot (Some value) in
    page_set version page slot (Some value) t.short h.slots (omega (
      arith,
      few,
      ap length h.parts,
      ap length t.text,
      ap length t.rest_is,
      length-append (page_text version page) rest,
      length-append (page_text version page) part,
      length-append part after,
    ))

pub reading_more : (version : ℕ) (bytes rest : List ℕ) (page : Slots) (next slot : ℕ)
    (value after : List ℕ) (now : Slots) → Reading version bytes rest page next
    → ReadsFirst version next rest slot value after → length bytes ≤ PAGE_LEN
    → now ≡ set page slot (Some value) → Reading version bytes after now (slot + 1)
reading_more version bytes rest page next slot value after now h first few now_is =
    let t = takes version bytes rest page next slot value after h first in
    let part = slot_bytes version slot (Some value) in
    let more : Reading version bytes after (set page slot (Some value)) (slot + 1) = record {
      slots = page_read version bytes rest page next slot value after h first few;
      empty = t.nothing;
      bound = let low = t.below in omega (arith, low);
      parts = h.parts ∙ (ap (λ (x : List ℕ). page_text version page ++ x) t.rest_is
          ∙ (sym (append_assoc (page_text version page) part after)
          ∙ ap (λ (x : List ℕ). x ++ after) (sym t.text)));
      ends = subst EndsSome (sym t.front) (ends_push (take slot page) value);
    } in
    subst (λ (p : Slots). Reading version bytes after p (slot + 1)) (sym now_is) more

-- where the bytes are a page's text and something is left, a record stands there
pub first_left : (version : ℕ) (bytes rest : List ℕ) (page : Slots) (next : ℕ)
    → Reading version bytes rest page next → 0 < length rest → IsPageText version bytes
    → First version next 64 rest
first_left version bytes rest page next h some (other, spelled) =
    let long = h.slots.slots in
    let size = spelled.slots.slots in
    let count : length (take next page) ≡ next =
    length-take-le next page (omega (arith, h.bound, long)) in
    let joined : text_from version 0 (take next page) ++ rest ≡ text_from version 0 other =
    ap (λ (t : List ℕ). t ++ rest) (sym (gap_text version 0 page next h.empty))
    ∙ (sym h.parts ∙ spelled.text) in
    let is : rest ≡ text_from version next (drop next other) =
    goes_on version 0 (take next page) other rest (short_take version next page h.slots.short)
    spelled.slots.short h.ends (omega (arith, h.bound, size, count)) joined
    ∙ ap₂ (λ (n m : ℕ). text_from version n (drop m other)) (omega (arith, count)) count in
    let f = first_of version next (drop next other)
    (short_drop version next other spelled.slots.short) (omega (arith, ap length is, some)) in
    record {
      slot = f.slot;
      value = f.value;
      after = f.after;
      from = f.from;
      below = omega (arith, f.below, size, h.bound, length-drop next other);
      short = f.short;
      parts = is ∙ f.parts;
    }

pub not_text : (version : ℕ) (bytes rest : List ℕ) (page : Slots) (next : ℕ)
    → Reading version bytes rest page next → has_slot version next rest ≡ false → 0 < length rest
    → IsPageText version bytes → ⊥
not_text version bytes rest page next h test some text =
    let f = first_left version bytes rest page next h some text in
    absurd (false≢true (sym test
    ∙ begins_so version next f.slot rest f.value f.after f.parts f.from f.below f.short))

pub some_left : (n : ℕ) → false ≡ eqb n 0 → 0 < n
some_left zero e = absurd (false≢true e)
some_left (suc n) e = omega arith

-- what is left are bytes
pub rest_bytes : (version : ℕ) (bytes rest : List ℕ) (page : Slots) (next : ℕ)
    → Reading version bytes rest page next → IsBytes bytes → IsBytes rest
rest_bytes version bytes rest page next h all i =
    subst (λ (n : ℕ). n < 256)
    (ap (λ (xs : List ℕ). get_or xs (length (page_text version page) + i) 0) h.parts
    ∙ get_or-append-add (page_text version page) rest i 0)
    (all (length (page_text version page) + i))
