-- The records of a text, found slot by slot.
use Rattle.std.proofs.Common.{◌≡◌, ◌≤◌, ◌<◌, ◌+◌, ℕ, zero, suc, Bool, true, false, List, [], ◌∷◌, ◌++◌, ◌∙◌, ap, ap₂, sym, refl, subst, arith, length, get_or, set, take, drop, All, Option, Some, None, append_assoc, length-append, inl, inr}
use Rattle.std.specs.Prelude.{◌≢◌, ◌↔◌, IsTrue, slice_index}
use Rattle.std.specs.Bool.{OnTrue}
use Rattle.std.proofs.lemmas.Bool.{false≢true, cases_lt}
use Rattle.std.proofs.lemmas.List.Elements.{All-nil}
use Rattle.std.proofs.lemmas.List.{append-nil, length-take-le, get_or-set_other, get_or-set_same, length-set}
use Rattle.ipl_format.proofs.PageLemmas.{later_pages_are_alike}
use Rattle.ipl_format.specs.Page.{Slots, IsShort, SpellsPage, IsPageText, slot_bytes, text_from}
use Rattle.ipl_format.specs.Numbers.{IsBytes, half_at}
use Rattle.page_text.specs.Texts.{size_below, HasPlaces, BeginsWith, RecordEndsAt, has_record}
use Rattle.page_text.proofs.PushLemmas.{text_push, below_push, all_push, short_push}
use Rattle.page_text.proofs.RecordLemmas.{same_rest, behind_record, fits_whole, slot_and_more, first_byte, left_size, has_facts, has_so, value_size, record_there, said_here}
use Rattle.ipl_base.specs.declared.limits.TheConstants.{PAGE_LEN, VALUE_LEN, VERSION}

-- ---- as far as the slots go

-- the slots below one were found, and what is left of the text is that of the others
pub record Indexing (bytes : List ℕ) (until slot : ℕ) (bounds : List ℕ) (at : ℕ) : Type 0 where
  pub small : IsBytes bytes
  pub kept : length bounds ≡ 65
  pub front : Slots
  pub count : length front ≡ slot
  pub short : All (IsShort VERSION) front
  pub size : at ≡ size_below slot front
  pub within : at ≤ until
  pub text : take until bytes ≡ text_from VERSION 0 front ++ drop at (take until bytes)
  pub places : (k : ℕ) → k < slot → slice_index bounds k ≡ size_below k front
  pub only : (page : Slots) → SpellsPage VERSION (take until bytes) page
      → drop at (take until bytes) ≡ text_from VERSION slot (drop slot page)

pub indexing_none : (bytes : List ℕ) (until : ℕ) (bounds : List ℕ) → IsBytes bytes
    → length bounds ≡ 65 → Indexing bytes until 0 bounds 0
unfolding text_from size_below
indexing_none bytes until bounds small kept = record {
  small = small;
  kept = kept;
  front = [];
  count = refl;
  short = All-nil (IsShort VERSION);
  size = refl;
  within = omega arith;
  text = refl;
  places = λ k low. absurd (omega (arith, low));
  only = λ page spelled. spelled.text;
}

-- ---- the others go on

places_more : (slot at : ℕ) (bounds : List ℕ) (front : Slots) (o : Option (List ℕ))
    → slot < length bounds → length front ≡ slot → at ≡ size_below slot front
    → ((k : ℕ) → k < slot → slice_index bounds k ≡ size_below k front)
    → (k : ℕ) → k < slot + 1 → slice_index (set bounds slot at) k ≡ size_below k (front ++ o ∷ [])
places_more slot at bounds front o within count size places k low =
    elim (cases_lt k slot) [
      | inl less ↦ get_or-set_other bounds slot k at 0 (λ e. omega (arith, e, less))
          ∙ (places k less ∙ sym (below_push k front o (omega (arith, less, count))))
      | inr more ↦ let same : k ≡ slot = omega (arith, low, more) in
          ap (λ (i : ℕ). slice_index (set bounds slot at) i) same
          ∙ (get_or-set_same bounds slot at 0 within ∙ (size
          ∙ (ap (λ (i : ℕ). size_below i front) (sym same)
          ∙ sym (below_push k front o (omega (arith, same, count))))))
    ]

pub none_more : (bytes : List ℕ) (until slot : ℕ) (bounds : List ℕ) (at : ℕ)
    → Indexing bytes until slot bounds at → until ≤ length bytes → slot < 64
    → (BeginsWith bytes at until slot → ⊥) → Indexing bytes until (slot + 1) (set bounds slot at) at
none_more bytes until slot bounds at h fits below none =
    let within : slot < length bounds = omega (arith, h.kept, below) in
    let count = h.count in
    let text = take until bytes in
    let size_is = h.size in
    record {
      small = h.small;
      kept = length-set bounds slot at ∙ h.kept;
      front = h.front ++ None ∷ [];
      count = length-append h.front (None ∷ []) ∙ ap (λ (n : ℕ). n + 1) count;
      short = short_push h.front None h.short tt;
      size = let all = all_push h.front None in
          let all' = ap (λ (n : ℕ). size_below (n + 1) (h.front ++ None ∷ [])) count in
          let all'' = ap (λ (n : ℕ). size_below n h.front) count in
          omega (arith, all, all', all'', size_is);
      within = h.within;
      text = h.text ∙ ap (λ (t : List ℕ). t ++ drop at text)
          (sym (text_push VERSION 0 h.front None ∙ append-nil (text_from VERSION 0 h.front)));
      places = places_more slot at bounds h.front None within count size_is h.places;
      only = λ page spelled.
          let inside : slot < length page = omega (arith, below, spelled.slots.slots) in
          let left =
          h.only page spelled ∙ ap (text_from VERSION slot) (slot_and_more slot page inside) in
          same_rest slot (get_or page slot None) (drop (suc slot) page) (drop at text) left
          (λ some first. none (
            let s = left_size bytes until at fits in omega (arith, some, s),
            (ap (λ (i : ℕ). slice_index bytes i) (omega arith)
                ∙ first_byte bytes until at 0 (let s = left_size bytes until at fits in
                omega (arith, some, s))) ∙ first,
          ))
          ∙ ap (λ (i : ℕ). text_from VERSION i (drop i page)) (omega arith);
    }

pub some_more : (bytes : List ℕ) (until slot : ℕ) (bounds : List ℕ) (at next : ℕ)
    → Indexing bytes until slot bounds at → until ≤ length bytes → slot < 64
    → BeginsWith bytes at until slot → has_record bytes at until ≡ true
    → next ≡ at + 3 + half_at (at + 1) bytes
    → Indexing bytes until (slot + 1) (set bounds slot at) next
some_more bytes until slot bounds at next h fits below begins test next_is =
    let within : slot < length bounds = omega (arith, h.kept, below) in
    let count = h.count in
    let size_is = h.size in
    let facts = has_facts bytes at until test in
    let text = take until bytes in
    let value = take (half_at (at + 1) bytes) (drop (at + 3) text) in
    let size : length value ≡ half_at (at + 1) bytes = value_size bytes at until fits facts in
    let short : length value ≤ VALUE_LEN = omega (arith, size, facts.short) in
    let there = record_there bytes until at slot next h.small fits begins facts next_is in
    let pushed : text_from VERSION 0 (h.front ++ Some value ∷ [])
    ≡ text_from VERSION 0 h.front ++ slot_bytes VERSION slot (Some value) =
    text_push VERSION 0 h.front (Some value) ∙ ap (λ (n : ℕ).
    text_from VERSION 0 h.front ++ slot_bytes VERSION n (Some value)) (omega (arith, count)) in
    record {
      small = h.small;
      kept = length-set bounds slot at ∙ h.kept;
      front = h.front ++ Some value ∷ [];
      count = length-append h.front (Some value ∷ []) ∙ ap (λ (n : ℕ). n + 1) count;
      short = short_push h.front (Some value) h.short short;
      size = let all = all_push h.front (Some value) in
          let all' = ap (λ (n : ℕ). size_below (n + 1) (h.front ++ Some value ∷ [])) count in
          let all'' = ap (λ (n : ℕ). size_below n h.front) count in
          omega (arith, all, all', all'', size_is, size, next_is);
      within = omega (arith, facts.whole, next_is);
      text = h.text ∙ (ap (λ (t : List ℕ). text_from VERSION 0 h.front ++ t) there
          ∙ (sym (append_assoc (text_from VERSION 0 h.front)
          (slot_bytes VERSION slot (Some value)) (drop next text))
          ∙ ap (λ (t : List ℕ). t ++ drop next text) (sym pushed)));
      places = places_more slot at bounds h.front (Some value) within count size_is h.places;
      only = λ page spelled.
          let inside : slot < length page = omega (arith, below, spelled.slots.slots) in
          let left = h.only page spelled
          ∙ ap (text_from VERSION slot) (slot_and_more slot page inside) in
          behind_record slot (get_or page slot None) (drop (suc slot) page) value (drop next text)
          short (spelled.slots.short slot None inside) (sym there ∙ left)
          ∙ ap (λ (i : ℕ). text_from VERSION i (drop i page)) (omega arith);
    }

pub slot_more : (bytes : List ℕ) (until slot : ℕ) (bounds : List ℕ) (at next : ℕ)
    → Indexing bytes until slot bounds at → until ≤ length bytes → slot < 64
    → RecordEndsAt bytes at until slot next → Indexing bytes until (slot + 1) (set bounds slot at) next
slot_more bytes until slot bounds at next h fits below (inl none) =
    subst (Indexing bytes until (slot + 1) (set bounds slot at)) (sym none.1)
    (none_more bytes until slot bounds at h fits below none.0)
slot_more bytes until slot bounds at next h fits below (inr some) =
    some_more bytes until slot bounds at next h fits below some.0 some.1 some.2

-- a record that isn't whole: the bytes are no page's text
pub not_text : (bytes : List ℕ) (until slot : ℕ) (bounds : List ℕ) (at : ℕ)
    → Indexing bytes until slot bounds at → until ≤ length bytes → slot < 64
    → BeginsWith bytes at until slot → has_record bytes at until ≡ false
    → IsPageText VERSION (take until bytes) → ⊥
not_text bytes until slot bounds at h fits below begins test (page, spelled) =
    let text = take until bytes in
    let rest = drop at text in
    let some = begins.0 in
    let inside : slot < length page = omega (arith, below, spelled.slots.slots) in
    let left = h.only page spelled ∙ ap (text_from VERSION slot) (slot_and_more slot page inside) in
    let long = left_size bytes until at fits in
    let first : get_or rest 0 0 ≡ slot = sym (ap (λ (i : ℕ). slice_index bytes i) (omega arith)
    ∙ first_byte bytes until at 0 (omega (arith, some))) ∙ begins.1 in
    let whole = fits_whole slot (get_or page slot None) (drop (suc slot) page) rest
    (spelled.slots.short slot None inside) left (omega (arith, long, some)) first in
    let a = whole.0 in
    let b = whole.1 in
    let d = whole.2 in
    false≢true (sym test
    ∙ has_so bytes at until (said_here bytes until at (omega (arith, long, a)) b
    (omega (arith, long, d))))

-- ---- all slots

pub all_found : (bytes : List ℕ) (until slot : ℕ) (bounds : List ℕ) (at : ℕ)
    → Indexing bytes until slot bounds at → until ≤ length bytes → slot ≡ 64
    → until ≤ PAGE_LEN → at ≡ until → HasPlaces bytes (set bounds 64 at) until
all_found bytes until slot bounds at h fits all most ends =
    let within : 64 < length bounds = omega (arith, h.kept) in
    let count = h.count in
    let size_is = h.size in
    let whole : at ≡ size_below 64 h.front = size_is ∙ ap (λ (n : ℕ). size_below n h.front) all in
    let long = left_size bytes until at fits in
    let nothing : drop at (take until bytes) ≡ [] =
    no_bytes (drop at (take until bytes)) (omega (arith, long, ends)) in
    record {
      page = h.front;
      count = length-set bounds 64 at ∙ h.kept;
      size = sym whole ∙ ends;
      indexed = record {
        slots = record {
          slots = omega (arith, count, all);
          short = h.short;
          fits = let shown = ap length h.text in
              let taken = length-take-le until bytes fits in
              let joined =
              length-append (text_from VERSION 0 h.front) (drop at (take until bytes)) in
              omega (arith, shown, taken, joined, most);
        };
        places = λ k low. elim (cases_lt k 64) [
          | inl less ↦ get_or-set_other bounds 64 k at 0 (λ e. omega (arith, e, less))
              ∙ h.places k (omega (arith, less, all))
          | inr more ↦ let same : k ≡ 64 = omega (arith, low, more) in
              ap (λ (i : ℕ). slice_index (set bounds 64 at) i) same
              ∙ (get_or-set_same bounds 64 at 0 within
              ∙ (whole ∙ ap (λ (i : ℕ). size_below i h.front) (sym same)))
        ];
        text = ap (λ (n : ℕ). take n bytes) (sym whole ∙ ends)
            ∙ (h.text ∙ (ap (λ (t : List ℕ). text_from VERSION 0 h.front ++ t) nothing
            ∙ append-nil (text_from VERSION 0 h.front)));
      };
    }
  where
    no_bytes : (l : List ℕ) → length l ≡ 0 → l ≡ []
    no_bytes [] e = refl
    no_bytes (x ∷ xs) e = absurd (omega (arith, e))

-- and where the bytes are a page's text, nothing is left
pub all_there : (bytes : List ℕ) (until slot : ℕ) (bounds : List ℕ) (at : ℕ)
    → Indexing bytes until slot bounds at → until ≤ length bytes → slot ≡ 64
    → IsPageText VERSION (take until bytes) → at ≡ until
unfolding text_from
all_there bytes until slot bounds at h fits all (page, spelled) =
    let left = h.only page spelled in
    let long = left_size bytes until at fits in
    let past = ap length (left ∙ ap₂ (λ (k n : ℕ). text_from VERSION k (drop n page)) all all
    ∙ ap (text_from VERSION 64) (none_left page 64 (omega (arith, spelled.slots.slots)))) in
    omega (arith, long, past, h.within)
  where
    none_left : (l : Slots) (n : ℕ) → length l ≤ n → drop n l ≡ []
    none_left [] zero e = refl
    none_left [] (suc n) e = refl
    none_left (x ∷ xs) zero e = absurd (omega (arith, e))
    none_left (x ∷ xs) (suc n) e = none_left xs n (omega (arith, e))

-- with their places the bytes are a page's text
pub text_found : {bounds : List ℕ} (bytes : List ℕ) (until : ℕ) → (h : HasPlaces bytes bounds until)
    → SpellsPage VERSION (take until bytes) h.page
text_found bytes until h = record {
  slots = h.indexed.slots;
  text =
      ap (λ (n : ℕ). take n bytes) (sym h.size) ∙ h.indexed.text;
}

pub on_true : (b : Bool) (A : Type 0) → (b ≡ true → A) → OnTrue b A
on_true true A f = f refl
on_true false A f = tt

pub map_true : (b : Bool) (A B : Type 0) → (A → B) → OnTrue b A → OnTrue b B
map_true true A B f a = f a
map_true false A B f a = tt

-- what is exact for one later version is so for each
pub text_alike : (version : ℕ) (bytes : List ℕ) (b : Bool) → version ≢ 1
    → IsTrue b ↔ IsPageText VERSION bytes → IsTrue b ↔ IsPageText version bytes
text_alike version bytes b later exact = (
  λ h. let text = exact.0 h in
      (text.0, (later_pages_are_alike version bytes text.0 later).0 text.1),
  λ text. exact.1 (text.0, (later_pages_are_alike version bytes text.0 later).1 text.1),
)
