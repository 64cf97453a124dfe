-- What the slots of a page may come to take.
use Rattle.std.proofs.Common.{◌≡◌, ◌≤◌, ◌<◌, ◌+◌, ◌-◌, ◌*◌, max, ℕ, zero, suc, Bool, true, false, List, length, refl, sym, ◌∙◌, ap, arith}
use Rattle.std.specs.Prelude.{◌↔◌, ◌==◌, IsTrue, if◌then◌else◌}
use Rattle.std.specs.List.{sum_by, range_with_len}
use Rattle.std.proofs.Math.Nat.{max-le}
use Rattle.std.proofs.lemmas.Bool.{false≢true, eq-eqb, ne_eqb}
use Rattle.std.proofs.lemmas.List.Sums.{sum_by-cons}
use Rattle.ipl_base.specs.declared.limits.TheConstants.{PAGE_LEN, SLOTS, VERSION}
use Rattle.ipl_base.specs.Sizes.{size_in_page, size_of_values}
use Rattle.ipl_model.specs.Peaks.{Peaks, fill_of}
use Rattle.ipl_model.proofs.SumLemmas.{sums_less, sums_same, sums_joined, sums_at}
use Rattle.ipl_format.specs.Page.{Slots, SpellsPage, value_in}
use Rattle.ipl_meaning.specs.Values.{Values}
use Rattle.ipl_meaning.proofs.SizeLemmas.{texts_have_sizes}

-- ---- sums

-- what a slot may come to take
abbrev pub room_of : Values → Peaks → ℕ → ℕ
room_of values peaks slot = max (size_in_page (values slot)) (peaks slot - 1)

-- one slot more
pub one_more : (g : ℕ → ℕ) (k : ℕ)
    → sum_by g (range_with_len 0 (k + 1)) ≡ sum_by g (range_with_len 0 k) + g k
one_more g k =
    ap (λ (n : ℕ). sum_by g (range_with_len 0 n)) next ∙ last 0 k
    ∙ ap (λ (n : ℕ). sum_by g (range_with_len 0 k) + g n) (omega arith)
  where
    next : k + 1 ≡ suc k
    next = omega arith

    last : (a n : ℕ) → sum_by g (range_with_len a (suc n))
        ≡ sum_by g (range_with_len a n) + g (a + n)
    last a zero =
        let one : sum_by g (range_with_len a (suc zero)) ≡ g a + sum_by g (range_with_len (a + 1) zero) =
        sum_by-cons g a (range_with_len (a + 1) zero) in
        let at : a + 0 ≡ a = omega arith in
        let none : sum_by g (range_with_len (a + 1) zero) ≡ 0 = refl in
        omega (arith, one, ap g at, none)
    last a (suc n) =
        let rest = last (a + 1) n in
        let left : sum_by g (range_with_len a (suc (suc n)))
        ≡ g a + sum_by g (range_with_len (a + 1) (suc n)) =
        sum_by-cons g a (range_with_len (a + 1) (suc n)) in
        let right : sum_by g (range_with_len a (suc n)) ≡ g a + sum_by g (range_with_len (a + 1) n) =
        sum_by-cons g a (range_with_len (a + 1) n) in
        let at : a + 1 + n ≡ a + suc n = omega arith in
        added _ _ _ _ _ _ _ left right rest (ap g at)
      where
        added : (x y p u v q r : ℕ) → x ≡ p + u → y ≡ p + v → u ≡ v + q → q ≡ r → x ≡ y + r
        added x y p u v q r left right rest same = omega (arith, left, right, rest, same)

-- so far the sum of the first k slots
pub record IsFillSoFar (values : Values) (peaks : Peaks) (k fill : ℕ) : Type 0 where
  pub sum : fill ≡ sum_by (room_of values peaks) (range_with_len 0 k)
  pub few : fill ≤ 467 * k

pub fill_first : (values : Values) (peaks : Peaks) → IsFillSoFar values peaks 0 0
fill_first values peaks = record { sum = refl; few = omega arith }

pub fill_more : (values : Values) (peaks : Peaks) (k fill size coming greater : ℕ)
    → IsFillSoFar values peaks k fill → size ≡ size_in_page (values k) → size ≤ 467
    → 1 + coming ≡ peaks k → coming ≤ 467 → greater ≡ max size coming
    → IsFillSoFar values peaks (k + 1) (fill + greater)
fill_more values peaks k fill size coming greater so here small peak few is_max = record {
  sum = sums;
  few = let most : max size coming ≤ 467 = max-le small few in omega (arith, so.few, most, is_max);
}
  where
    same : room_of values peaks k ≡ max size coming
    same = let is : peaks k - 1 ≡ coming = omega (arith, peak) in
        ap (λ (n : ℕ). max n (peaks k - 1)) (sym here) ∙ ap (λ (n : ℕ). max size n) is

    sums : fill + greater ≡ sum_by (room_of values peaks) (range_with_len 0 (k + 1))
    sums = omega (arith, so.sum, one_more (room_of values peaks) k, same, is_max)

pub fill_done : (values : Values) (peaks : Peaks) (k fill : ℕ) → k ≡ SLOTS
    → IsFillSoFar values peaks k fill → fill ≡ fill_of values peaks
unfolding fill_of
fill_done values peaks k fill all so =
    so.sum ∙ ap (λ (n : ℕ). sum_by (room_of values peaks) (range_with_len 0 n)) all

-- the sum is small
pub fill_few : (values : Values) (peaks : Peaks) (k fill size coming : ℕ)
    → IsFillSoFar values peaks k fill → k < SLOTS → size ≤ 467 → coming ≤ 467
    → fill + max size coming ≤ 467 * SLOTS
fill_few values peaks k fill size coming so low small few =
    let most : max size coming ≤ 467 = max-le small few in omega (arith, so.few, most, low)

-- where no slot takes more, no page does
pub fills_less : (few more : Peaks) (v w : Values)
    → ((slot : ℕ) → slot < SLOTS → room_of v few slot ≤ room_of w more slot)
    → fill_of v few ≤ fill_of w more
unfolding fill_of
fills_less few more v w less =
    sums_less (room_of v few) (room_of w more) 0 SLOTS (λ slot low. less slot (omega (arith, low)))

pub fills_same : (few more : Peaks) (v w : Values)
    → ((slot : ℕ) → slot < SLOTS → room_of v few slot ≡ room_of w more slot)
    → fill_of v few ≡ fill_of w more
unfolding fill_of
fills_same few more v w same =
    sums_same (room_of v few) (room_of w more) 0 SLOTS (λ slot low. same slot (omega (arith, low)))

-- values that take no more than a page may come to take have room where that has
pub room_in_fill : (ms : Peaks) (v w : Values)
    → ((slot : ℕ) → slot < SLOTS → size_in_page (v slot) ≤ room_of w ms slot)
    → size_of_values v ≤ fill_of w ms
unfolding fill_of size_of_values
room_in_fill ms v w less =
    sums_less (λ slot. size_in_page (v slot)) (room_of w ms) 0 SLOTS
    (λ slot low. less slot (omega (arith, low)))

-- with no peaks a page takes what its values do
pub unpeaked_fill : (ms : Peaks) (v : Values) → ((slot : ℕ) → slot < SLOTS → ms slot ≡ 0)
    → fill_of v ms ≤ size_of_values v
unfolding fill_of size_of_values
unpeaked_fill ms v none =
    sums_less (room_of v ms) (λ slot. size_in_page (v slot)) 0 SLOTS (λ slot low.
    max-le (omega arith) (zero_less (none slot (omega (arith, low)))))
  where
    zero_less : {m size : ℕ} → m ≡ 0 → m - 1 ≤ size
    zero_less is = omega (arith, is)

-- one slot takes so much, and the others what their values do
abbrev pub size_but : Values → ℕ → ℕ → ℕ → ℕ
size_but values slot size k = if k == slot then size else size_in_page (values k)

-- a page takes at most what its values do, what those do that it may come to have, and that slot
pub fill_at_most : (v w : Values) (slot size : ℕ) → slot < SLOTS
    → fill_of v (λ k. 1 + size_but w slot size k) ≤ size_of_values v + size_of_values w + size
unfolding fill_of size_of_values
fill_at_most v w slot size low =
    omega (arith, most, both, changed, here)
  where
    before : ℕ → ℕ
    before k = size_in_page (v k)

    coming : ℕ → ℕ
    coming k = size_in_page (w k)

    most : sum_by (room_of v (λ k. 1 + size_but w slot size k)) (range_with_len 0 SLOTS)
        ≤ sum_by (λ k. before k + size_but w slot size k) (range_with_len 0 SLOTS)
    most = sums_less (room_of v (λ k. 1 + size_but w slot size k))
        (λ k. before k + size_but w slot size k) 0 SLOTS
        (λ k few. max-le (omega arith) (omega arith))

    both : sum_by (λ k. before k + size_but w slot size k) (range_with_len 0 SLOTS)
        ≡ sum_by before (range_with_len 0 SLOTS) + sum_by (size_but w slot size) (range_with_len 0 SLOTS)
    both = sums_joined before (size_but w slot size) (λ k. before k + size_but w slot size k) 0 SLOTS
        (λ k. refl)

    changed : sum_by (size_but w slot size) (range_with_len 0 SLOTS) + coming slot
        ≡ sum_by coming (range_with_len 0 SLOTS) + size_but w slot size slot
    changed = sums_at (size_but w slot size) coming 0 SLOTS slot (omega arith) (omega (arith, low))
        (λ k other. ap (λ (b : Bool). if b then size else coming k) (ne_eqb k slot other))

    here : size_but w slot size slot ≡ size
    here = ap (λ (b : Bool). if b then size else coming slot) (eq-eqb slot slot refl)

-- so it has room where the texts of both are short
pub surely_room : (page values : Slots) (text coming : List ℕ) (size : ℕ)
    → SpellsPage VERSION text page → SpellsPage VERSION coming values
    → length text + length coming + size ≤ PAGE_LEN
    → (slot : ℕ) → slot < SLOTS
    → fill_of (value_in page) (λ k. 1 + size_but (value_in values) slot size k) ≤ PAGE_LEN
surely_room page values text coming size is becomes few slot low =
    omega (
      arith,
      few,
      fill_at_most (value_in page) (value_in values) slot size low,
      ap length is.text ∙ texts_have_sizes page is.slots.slots,
      ap length becomes.text ∙ texts_have_sizes values becomes.slots.slots,
    )

-- the test's answer
pub no_room_answered : {fits : Bool} {told fill : ℕ} → (told ≤ PAGE_LEN → IsTrue fits)
    → fits ≡ false → told ≡ fill → IsTrue false ↔ (fill ≤ PAGE_LEN)
no_room_answered needs without told_is = (
  λ wrong. absurd (false≢true wrong),
  λ most. absurd (false≢true (sym without ∙ needs (omega (arith, told_is, most)))),
)

pub room_answered : {told fill : ℕ} → told ≤ PAGE_LEN → told ≡ fill → IsTrue true ↔ (fill ≤ PAGE_LEN)
room_answered fits told_is = (λ yes. omega (arith, told_is, fits), λ most. refl)
