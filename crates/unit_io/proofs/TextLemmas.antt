-- Bytes are the text of a page exactly where they pass the test, record by record.
use Rattle.std.proofs.Common.{◌≡◌, ◌≢◌, ◌≤◌, ◌+◌, ℕ, zero, suc, Bool, true, List, [], ◌∷◌, ◌++◌, Some, refl, sym, ◌∙◌, ap, ap₂, subst, inl, inr, arith, length, take, drop, set, append_assoc, length-drop}
use Rattle.std.specs.Prelude.{◌&&◌, ◌==◌, nat_lt, ◌↔◌}
use Rattle.std.specs.List.{list_all}
use Rattle.std.proofs.lemmas.Bool.{cases_Bool, false≢true, leb-true, le-leb, ltb-true, lt-ltb}
use Rattle.std.proofs.lemmas.List.{append-nil, take_at}
use Rattle.ipl_base.specs.declared.limits.TheConstants.{PAGE_LEN, VERSION}
use Rattle.ipl_format.specs.Numbers.{IsBytes}
use Rattle.ipl_format.specs.Version.{most_len, len_bytes, len_size}
use Rattle.ipl_format.specs.Page.{Slots, IsPageText, empty_page, page_text}
use Rattle.ipl_format.proofs.ListLemmas.{both_true, bytes-nil, bytes-cons}
use Rattle.ipl_format.proofs.NumberLemmas.{bytes-half}
use Rattle.ipl_format.proofs.PageLemmas.{later_pages_are_alike}
use Rattle.ipl_format.proofs.VersionLemmas.{length-len}
use Rattle.page_text.specs.Reading.{has_slot, size_at}
use Rattle.page_text.proofs.FirstLemmas.{First}
use Rattle.page_text.proofs.ReadLemmas.{Reading, reading_none, reading_more, first_left, not_text}
use Rattle.unit_io.specs.Faults.{has_len, is_text_from, is_page_text}

read_whole : (version : ℕ) (bytes : List ℕ) (page : Slots) (next : ℕ)
    → Reading version bytes [] page next → IsPageText version bytes
read_whole version bytes page next h =
    (page, record { slots = h.slots; text = h.parts ∙ append-nil (page_text version page) })

and_both : (a b : Bool) → a ≡ true → b ≡ true → (a && b) ≡ true
and_both a b p q = ap₂ (λ (x y : Bool). x && y) p q

-- ---- the bytes of a length

are_bytes : (xs : List ℕ) → list_all (λ byte. nat_lt byte 256) xs ≡ true → IsBytes xs
are_bytes [] e = bytes-nil
are_bytes (x ∷ xs) e =
    let both = both_true _ _ e in bytes-cons x xs (ltb-true x 256 both.0) (are_bytes xs both.1)

bytes_are : (xs : List ℕ) → IsBytes xs → list_all (λ byte. nat_lt byte 256) xs ≡ true
bytes_are [] all = refl
bytes_are (x ∷ xs) all =
    and_both _ _ (lt-ltb x 256 (all 0)) (bytes_are xs (λ i. all (suc i)))

len_small : (version len : ℕ) → len ≤ most_len version → IsBytes (len_bytes version len)
len_small version len short = elim (cases_Bool (version == 1)) [
  | inl first ↦ rw first (one_small len (rw first at short))
  | inr later ↦ rw later (bytes-half len)
]
  where
    one_small : (len : ℕ) → len ≤ 108 → IsBytes (len ∷ [])
    one_small len short = bytes-cons len [] (omega (arith, short)) bytes-nil

-- where a record stands, its length is written in bytes
len_first : (version next : ℕ) (rest : List ℕ) → First version next 64 rest
    → has_len version rest ≡ true
len_first version next rest f =
    let len = len_bytes version (length f.value) in
    let behind : drop 1 rest ≡ len ++ (f.value ++ f.after) =
    ap (drop 1) f.parts ∙ append_assoc len f.value f.after in
    let front : take (len_size version) (drop 1 rest) ≡ len =
    ap (take (len_size version)) behind
    ∙ take_at len (f.value ++ f.after) (len_size version) (length-len version (length f.value)) in
    bytes_are (take (len_size version) (drop 1 rest))
    (subst IsBytes (sym front) (len_small version (length f.value) f.short))

-- ---- record by record

-- from one record on
tests_rest : (version : ℕ) (bytes : List ℕ) (n : ℕ) (rest : List ℕ) (page : Slots) (next : ℕ)
    → length bytes ≤ PAGE_LEN → Reading version bytes rest page next → length rest ≤ n
    → (is_text_from version n next rest ≡ true) ↔ IsPageText version bytes
tests_rest version bytes zero [] page next room h few =
    (λ e. read_whole version bytes page next h, λ t. refl)
tests_rest version bytes zero (byte ∷ rest) page next room h few = absurd (omega (arith, few))
tests_rest version bytes (suc n) [] page next room h few =
    (λ e. read_whole version bytes page next h, λ t. refl)
tests_rest version bytes (suc n) (byte ∷ rest) page next room h few =
    let all : List ℕ = byte ∷ rest in
    elim (cases_Bool (has_slot version next (byte ∷ rest))) [
      | inl has ↦
          let value : List ℕ = take (size_at version all) (drop (1 + len_size version) all) in
          let after : List ℕ = drop (1 + len_size version + size_at version all) all in
          let size : length after ≤ n = shorter (len_size version) (size_at version all) n all few in
          let step : has_len version all ≡ true
          → (is_text_from version n (byte + 1) after ≡ true) ↔ IsPageText version bytes =
          λ (small : has_len version all ≡ true).
          tests_rest version bytes n after (set page byte (Some value)) (byte + 1) room
          (reading_more version bytes all page next byte value after (set page byte (Some value)) h
          (record {
            small = are_bytes (take (len_size version) (drop 1 all)) small;
            test = has;
            slot_is = refl;
            value_is = refl;
            after_is = refl;
          }) room refl) size in (
            λ e. let behind = both_true _ _ (both_true _ _ e).1 in (step behind.0).0 behind.1,
            λ t.
                let small = len_first version next all
                (first_left version bytes all page next h (omega arith) t) in
                and_both _ _ has (and_both _ _ small ((step small).1 t)),
          )
      | inr none ↦ (
        λ e. absurd (false≢true (sym none ∙ (both_true _ _ e).0)),
        λ t. absurd (not_text version bytes all page next h none (omega arith) t),
      )
    ]
  where
    shorter : (len size n : ℕ) (all : List ℕ) → length all ≤ suc n
        → length (drop (1 + len + size) all) ≤ n
    shorter len size n all few = omega (arith, length-drop (1 + len + size) all, few)

pub tests_text : (version : ℕ) (bytes : List ℕ)
    → (is_page_text version bytes ≡ true) ↔ IsPageText version bytes
unfolding is_page_text
tests_text version bytes = (
  λ e.
      let both = both_true _ _ e in
      (tests_rest version bytes (length bytes) bytes empty_page 0 (leb-true _ _ both.0)
      (reading_none version bytes empty_page refl) (omega arith)).0 both.1,
  λ (page, spelled).
      let fits = spelled.slots.fits in
      let room : length bytes ≤ PAGE_LEN = omega (arith, fits, ap length spelled.text) in
      and_both _ _ (le-leb _ _ room)
      ((tests_rest version bytes (length bytes) bytes empty_page 0 room
      (reading_none version bytes empty_page refl) (omega arith)).1 (page, spelled)),
)

-- ---- texts of later versions

pub later_text : (version : ℕ) (bytes : List ℕ) → version ≢ 1 → IsPageText version bytes
    → IsPageText VERSION bytes
later_text version bytes later (page, spelled) =
    (page, (later_pages_are_alike version bytes page later).1 spelled)

pub text_of_later : (version : ℕ) (bytes : List ℕ) → version ≢ 1 → IsPageText VERSION bytes
    → IsPageText version bytes
text_of_later version bytes later (page, spelled) =
    (page, (later_pages_are_alike version bytes page later).0 spelled)
