-- What a page may come to take, from what is kept.
use Rattle.std.proofs.Common.{◌≡◌, ℕ, zero, suc, [], subst, add-one, ◌+◌, ◌-◌, ◌*◌, ◌/◌, ◌<◌, ◌==◌, max, Bool, true, false, cond, List, Some, sym, ◌∙◌, ap, ap₂, arith}
use Rattle.std.specs.Prelude.{nat_lt, slice_index}
use Rattle.std.specs.List.{sum_by, range_with_len}
use Rattle.std.proofs.lemmas.List.Sums.{sum_by-cons}
use Rattle.std.specs.FinMap.{get}
use Rattle.ipl_base.specs.Sizes.{size_in_page}
use Rattle.ipl_base.specs.declared.limits.TheConstants.{PAGE_LEN, SLOTS, UNIT_NAMES}
use Rattle.ipl_model.specs.State.{State}
use Rattle.ipl_model.specs.Peaks.{peaks, with_peak, fill_of, fill_with, overfills}
use Rattle.ipl_model.proofs.SumLemmas.{sums_same}
use Rattle.serial_view.specs.Running.{KeptRun, run_limits, Tracks, room_in, fill_in}
use Rattle.serial_view.proofs.MostLemmas.{less_one}

-- a sum with one term more
sums_more : (f : ℕ → ℕ) (a k : ℕ) → sum_by f (range_with_len a (suc k)) ≡ sum_by f (range_with_len a k) + f (a + k)
sums_more f a zero = let at : f (a + 0) ≡ f a = ap f (omega arith) in omega (arith, at, sum_by-cons f a [])
sums_more f a (suc k) =
    let at : f (a + suc k) ≡ f (a + 1 + k) = ap f (omega arith) in
    let long = sum_by-cons f a (range_with_len (a + 1) (suc k)) in
    let short = sum_by-cons f a (range_with_len (a + 1) k) in
    added _ _ _ _ _ _ _ long short (sums_more f (a + 1) k) at
  where
    added : (x y p q r t u : ℕ) → x ≡ p + q → y ≡ p + r → q ≡ r + t → u ≡ t → x ≡ y + u
    added x y p q r t u long short more at = omega (arith, long, short, more, at)

pub sum_more : (f : ℕ → ℕ) (k total term : ℕ) → total ≡ sum_by f (range_with_len 0 k) → term ≡ f k
    → total + term ≡ sum_by f (range_with_len 0 (k + 1))
sum_more f k total term so_far is =
    subst (λ (j : ℕ). total + term ≡ sum_by f (range_with_len 0 j)) (sym (add-one k))
    (let at : f (0 + k) ≡ f k = ap f (omega arith) in omega (arith, so_far, is, sums_more f 0 k, at))

-- a name of the page of a name
neighbour : (n units slot : ℕ) → n < UNIT_NAMES * units → slot < SLOTS → SLOTS * (n / SLOTS) + slot < UNIT_NAMES * units
neighbour n units slot named low = omega (arith, named, low)

module _ (state : State) (run : KeptRun) (tracks : Tracks state run)
    (n : ℕ) (named : n < (run_limits run).names) (size : ℕ) where
  room_is : (k : ℕ) → k < (run_limits run).names
      → room_in run n size k ≡ max (size_in_page (get state.map k)) (with_peak (peaks state) n (1 + size) k - 1)
  room_is k low = ap₂ max (tracks.records k low) (by_name (n == k) (slice_index run.most k) (tracks.most k low))
    where
      by_name : (b : Bool) (most : ℕ) → most ≡ peaks state k - 1
          → cond b (max size most) most ≡ cond b (max (1 + size) (peaks state k)) (peaks state k) - 1
      by_name true most is = ap (max size) is ∙ sym (less_one size (peaks state k))
      by_name false most is = is

  fill_is : fill_in run n size ≡ fill_with (with_peak (peaks state) n (1 + size)) state.map (n / SLOTS)
  unfolding fill_in fill_of
  fill_is = sums_same
      (λ slot. room_in run n size (n / SLOTS * SLOTS + slot))
      (λ slot. max (size_in_page (get state.map (SLOTS * (n / SLOTS) + slot)))
      (with_peak (peaks state) n (1 + size) (SLOTS * (n / SLOTS) + slot) - 1)) 0 SLOTS
      (λ slot low.
      let at : n / SLOTS * SLOTS + slot ≡ SLOTS * (n / SLOTS) + slot = omega arith in
      ap (room_in run n size) at ∙ room_is (SLOTS * (n / SLOTS) + slot) (neighbour n run.units slot named low))

-- a put overfills its page where that comes to take too much
pub overfills_is : (state : State) (run : KeptRun) → Tracks state run → (n : ℕ) → n < (run_limits run).names
    → (bytes : List ℕ) → overfills state n bytes ≡ nat_lt PAGE_LEN (fill_in run n (size_in_page (Some bytes)))
overfills_is state run tracks n named bytes =
    ap (nat_lt PAGE_LEN) (sym (fill_is state run tracks n named (size_in_page (Some bytes))))
