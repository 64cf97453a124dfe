-- The bytes that the values of a page take in its text.
use Rattle.std.proofs.Common.{◌≡◌, ℕ, zero, suc, ◌≤◌, ◌<◌, ◌+◌, ◌*◌, List, [], ◌∷◌, length, refl, ◌∙◌, ap, arith}
use Rattle.std.specs.Prelude.{Option, Some, None}
use Rattle.std.specs.List.{sum_by, range_with_len}
use Rattle.std.proofs.lemmas.List.{length-append}
use Rattle.std.proofs.lemmas.List.Sums.{sum_by-cons}
use Rattle.ipl_base.specs.Sizes.{size_of_values, size_in_page}
use Rattle.ipl_base.specs.declared.limits.TheConstants.{SHORT_LEN, VERSION}
use Rattle.ipl_format.specs.Version.{len_bytes}
use Rattle.ipl_format.specs.Page.{Slots, IsShort, slot_bytes, text_from, value_in}
use Rattle.ipl_format.proofs.VersionLemmas.{length-len}
use Rattle.ipl_meaning.specs.RecordLaws.{TextsHaveSizes, ShortValuesHaveRoom}

-- a page without values takes nothing
pub no_size : (values : ℕ → Option (List ℕ)) → ((slot : ℕ) → values slot ≡ None)
    → size_of_values values ≡ 0
unfolding size_of_values
no_size values none = sum 0 64
  where
    sum : (a k : ℕ) → sum_by (λ (slot : ℕ). size_in_page (values slot)) (range_with_len a k) ≡ 0
    sum a zero = refl
    sum a (suc k) =
        let takes : ℕ → ℕ = λ (slot : ℕ). size_in_page (values slot) in
        let front : sum_by takes (range_with_len a (suc k))
        ≡ takes a + sum_by takes (range_with_len (a + 1) k) =
        sum_by-cons takes a (range_with_len (a + 1) k) in
        omega (arith, front, ap size_in_page (none a), sum (a + 1) k)

-- ---- the text of a page

sums_shifted : (g h : ℕ → ℕ) (a b k : ℕ) → b ≡ a + 1 → ((i : ℕ) → g (suc i) ≡ h i)
    → sum_by g (range_with_len b k) ≡ sum_by h (range_with_len a k)
sums_shifted g h a b zero next same = refl
sums_shifted g h a b (suc k) next same =
    let rest : sum_by g (range_with_len (b + 1) k) ≡ sum_by h (range_with_len (a + 1) k) =
    sums_shifted g h (a + 1) (b + 1) k (omega (arith, next)) same in
    let left : sum_by g (range_with_len b (suc k)) ≡ g b + sum_by g (range_with_len (b + 1) k) =
    sum_by-cons g b (range_with_len (b + 1) k) in
    let right : sum_by h (range_with_len a (suc k)) ≡ h a + sum_by h (range_with_len (a + 1) k) =
    sum_by-cons h a (range_with_len (a + 1) k) in
    let at : b ≡ suc a = omega (arith, next) in
    added _ _ _ _ _ _ left right (ap g at ∙ same a) rest
  where
    added : (x y p q u v : ℕ) → x ≡ p + u → y ≡ q + v → p ≡ q → u ≡ v → x ≡ y
    added x y p q u v left right first rest = omega (arith, left, right, first, rest)

slot_size : (k : ℕ) (o : Option (List ℕ)) → length (slot_bytes VERSION k o) ≡ size_in_page o
slot_size k None = refl
slot_size k (Some v) =
    omega (arith, length-append (len_bytes VERSION (length v)) v, length-len VERSION (length v))

text_size : (k : ℕ) (xs : Slots)
    → length (text_from VERSION k xs) ≡ sum_by (λ i. size_in_page (value_in xs i))
    (range_with_len 0 (length xs))
unfolding text_from
text_size k [] = refl
text_size k (o ∷ xs) =
    let rest = text_size (suc k) xs in
    let joined = length-append (slot_bytes VERSION k o) (text_from VERSION (suc k) xs) in
    let shift : sum_by (λ i. size_in_page (value_in (o ∷ xs) i)) (range_with_len 1 (length xs))
    ≡ sum_by (λ i. size_in_page (value_in xs i)) (range_with_len 0 (length xs)) =
    sums_shifted (λ i. size_in_page (value_in (o ∷ xs) i))
    (λ i. size_in_page (value_in xs i)) 0 1 (length xs) (omega arith) (λ i. refl) in
    let front : sum_by (λ i. size_in_page (value_in (o ∷ xs) i))
    (range_with_len 0 (suc (length xs)))
    ≡ size_in_page o + sum_by (λ i. size_in_page (value_in (o ∷ xs) i))
    (range_with_len 1 (length xs)) =
    sum_by-cons (λ i. size_in_page (value_in (o ∷ xs) i)) 0 (range_with_len 1 (length xs)) in
    omega (arith, joined, slot_size k o, rest, shift, front)

pub texts_have_sizes : TextsHaveSizes
unfolding size_of_values
texts_have_sizes page slots =
    text_size 0 page
    ∙ ap (λ (k : ℕ). sum_by (λ i. size_in_page (value_in page i)) (range_with_len 0 k)) slots

-- ---- short values

short_size : (o : Option (List ℕ)) → IsShort 1 o → size_in_page o ≤ 3 + SHORT_LEN
short_size None short = omega arith
short_size (Some v) short = omega (arith, short)

pub short_values_have_room : ShortValuesHaveRoom
unfolding size_of_values
short_values_have_room values short =
    let most = sum 0 64 (λ i low. short_size (values i) (short i low)) in omega (arith, most)
  where
    sum : (a k : ℕ) → ((i : ℕ) → i < a + k → size_in_page (values i) ≤ 3 + SHORT_LEN)
        → sum_by (λ (slot : ℕ). size_in_page (values slot)) (range_with_len a k)
        ≤ (3 + SHORT_LEN) * k
    sum a zero each = omega arith
    sum a (suc k) each =
        let first = each a (omega arith) in
        let rest = sum (a + 1) k (λ i low. each i (omega (arith, low))) in
        let front : sum_by (λ (slot : ℕ). size_in_page (values slot)) (range_with_len a (suc k))
        ≡ size_in_page (values a)
        + sum_by (λ (slot : ℕ). size_in_page (values slot)) (range_with_len (a + 1) k) =
        sum_by-cons (λ (slot : ℕ). size_in_page (values slot)) a (range_with_len (a + 1) k) in
        omega (arith, first, rest, front)
