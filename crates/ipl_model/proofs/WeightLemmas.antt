-- What the names of units weigh, and after each operation.
use Rattle.std.proofs.Common.{◌≡◌, ◌≢◌, ◌⊎◌, zero, inl, inr, ℕ, suc, ◌+◌, ◌*◌, ◌/◌, ◌%◌, ◌<◌, ◌≤◌, ◌==◌, max, Bool, true, false, cond, List, [], ◌∷◌, refl, sym, ◌∙◌, ap, subst, arith}
use Rattle.std.specs.Prelude.{nat_lt}
use Rattle.std.specs.List.{sum_by, range_with_len}
use Rattle.std.proofs.Math.Nat.{zero-max, max-zero}
use Rattle.std.proofs.lemmas.Bool.{cases_Bool, cases_eq, ne_eqb, eq-eqb, lt-ltb, ltb-true}
use Rattle.std.proofs.lemmas.Bool.Decides.{nat_tests}
use Rattle.std.proofs.lemmas.List.Sums.{sum_by-le-sum_by, sum_by-cons}
use Rattle.ipl_base.specs.declared.limits.TheConstants.{SHORT_SIZE, PENDING_WEIGHT, LONG_WEIGHT, UNIT_NAMES}
use Rattle.ipl_base.specs.Sizes.{size_in_page}
use Rattle.ipl_model.specs.State.{Write, State}
use Rattle.ipl_model.specs.Operations.{new_session, after_begin, after_share, after_write, after_commit, after_batch, after_abort, after_restart}
use Rattle.ipl_model.specs.Peaks.{Peaks, with_peak, peaks, weight_of_peak, weights, pending, overloads}
use Rattle.ipl_model.specs.FillLaws.{UnitsFit, OperationsKeepUnitsFit, SmallerPeaksAreLess}
use Rattle.ipl_model.proofs.SumLemmas.{sums_less, sums_same, sums_joined, sums_at}
use Rattle.ipl_model.proofs.FillLemmas.{fill_less}
use Rattle.ipl_model.proofs.RulePeakLemmas.{le_trans, inserted_most, removed_most, with_write, shared_less, none_left}

pub weight_less : (a b : ℕ) → a ≤ b → weight_of_peak a ≤ weight_of_peak b
weight_less zero b low = omega arith
weight_less (suc a) zero low = absurd (omega (arith, low))
weight_less (suc a) (suc b) low = elim (cases_Bool (nat_lt (1 + SHORT_SIZE) (suc a))) [
  | inl long ↦
      let longer : nat_lt (1 + SHORT_SIZE) (suc b) ≡ true = lt-ltb (1 + SHORT_SIZE) (suc b) (omega (arith, low, ltb-true (1 + SHORT_SIZE) (suc a) long)) in
      rw (some a, some b, long, longer) (omega arith)
  | inr short ↦ rw (some a, some b, short) (at_least (nat_lt (1 + SHORT_SIZE) (suc b)))
]
  where
    some : (k : ℕ) → (suc k == 0) ≡ false
    some k = ne_eqb (suc k) 0 (λ is. absurd (omega (arith, is)))

    at_least : (t : Bool) → 1 ≤ cond t LONG_WEIGHT 1
    at_least true = omega arith
    at_least false = omega arith

pub weights_less : (few more : Peaks) (unit : ℕ) → ((n : ℕ) → few n ≤ more n) → weights few unit ≤ weights more unit
unfolding weights
weights_less few more unit less = sum_by-le-sum_by (λ i. weight_of_peak (few (UNIT_NAMES * unit + i))) (λ i. weight_of_peak (more (UNIT_NAMES * unit + i))) (range_with_len 0 UNIT_NAMES)
    (λ i. weight_less (few (UNIT_NAMES * unit + i)) (more (UNIT_NAMES * unit + i)) (less (UNIT_NAMES * unit + i)))

pub smaller_peaks_are_less : SmallerPeaksAreLess
smaller_peaks_are_less few more values before = record { pages = fill_less few more values before; units = λ less unit. weights_less few more unit less }

fewer_fit : (state after : State) → ((n : ℕ) → peaks after n ≤ peaks state n) → UnitsFit state → UnitsFit after
fewer_fit state after less fits unit = le_trans (weights_less (peaks after) (peaks state) unit less) (fits unit)

pub other_unit : (unit n i : ℕ) → i < UNIT_NAMES → unit ≢ n / UNIT_NAMES → n ≢ UNIT_NAMES * unit + i
other_unit unit n i low other is = other (omega (arith, is, low))

pub unpeaked : (ms : Peaks) (n m k : ℕ) → n ≢ k → with_peak ms n m k ≡ ms k
unpeaked ms n m k other = let no : (n == k) ≡ false = ne_eqb n k other in rw no refl

unit_less : (few more : Peaks) (unit : ℕ) → ((i : ℕ) → i < UNIT_NAMES → few (UNIT_NAMES * unit + i) ≤ more (UNIT_NAMES * unit + i)) → weights few unit ≤ weights more unit
unfolding weights
unit_less few more unit less = sums_less (λ i. weight_of_peak (few (UNIT_NAMES * unit + i))) (λ i. weight_of_peak (more (UNIT_NAMES * unit + i))) 0 UNIT_NAMES
    (λ i low. weight_less (few (UNIT_NAMES * unit + i)) (more (UNIT_NAMES * unit + i)) (less i (omega (arith, low))))

write_loads : (state : State) (s : ℕ) (w : Write) → UnitsFit state → overloads (peaks state) w.0 (1 + size_in_page w.1) ≡ false → UnitsFit (after_write state s w)
write_loads state s w fits room unit = elim (cases_eq unit (w.0 / UNIT_NAMES)) [
  | inl same ↦ le_trans (weights_less (peaks (after_write state s w)) with_it unit (with_write state s w))
      (subst (λ (q : ℕ). weights with_it q ≤ PENDING_WEIGHT) (sym same) (not_above _ room))
  | inr other ↦ le_trans (elsewhere other) (fits unit)
]
  where
    with_it : Peaks
    with_it = with_peak (peaks state) w.0 (1 + size_in_page w.1)

    not_above : (size : ℕ) → nat_lt PENDING_WEIGHT size ≡ false → size ≤ PENDING_WEIGHT
    not_above size room = grind (arith, nat_tests)

    elsewhere : unit ≢ w.0 / UNIT_NAMES → pending (after_write state s w) unit ≤ pending state unit
    elsewhere other = unit_less (peaks (after_write state s w)) (peaks state) unit (λ i low.
        subst (λ (k : ℕ). peaks (after_write state s w) (UNIT_NAMES * unit + i) ≤ k)
        (unpeaked (peaks state) w.0 (1 + size_in_page w.1) (UNIT_NAMES * unit + i) (other_unit unit w.0 i low other)) (with_write state s w (UNIT_NAMES * unit + i)))

share_loads : (state : State) (s n : ℕ) → UnitsFit state → UnitsFit (after_share state s n)
share_loads state s n fits = fewer_fit state (after_share state s n) (λ k. shared_less state s n k) fits

batch_loads : (state : State) (ss : List ℕ) → UnitsFit state → UnitsFit (after_batch state ss)
batch_loads state [] fits = fits
batch_loads state (s ∷ ss) fits = batch_loads (after_commit state s) ss (fewer_fit state (after_commit state s) (λ k. removed_most state.sessions s k) fits)

pub units_stay_fit : OperationsKeepUnitsFit
units_stay_fit state s n w fits = record {
  begins = fewer_fit state (after_begin state s) (λ k. inserted_most state s new_session k _ (omega arith) (omega arith)) fits;
  shares = share_loads state s n fits;
  writes = write_loads state s w fits;
  commits = fewer_fit state (after_commit state s) (λ k. removed_most state.sessions s k) fits;
  batches = λ ss. batch_loads state ss fits;
  aborts = fewer_fit state (after_abort state s) (λ k. removed_most state.sessions s k) fits;
  restarts = fewer_fit state (after_restart state) (λ k. none_left state k) fits;
}

-- ---- sums of weights

pub weights_same : (a b : Peaks) (unit : ℕ) → ((i : ℕ) → i < UNIT_NAMES → a (UNIT_NAMES * unit + i) ≡ b (UNIT_NAMES * unit + i)) → weights a unit ≡ weights b unit
unfolding weights
weights_same a b unit same = sums_same (λ i. weight_of_peak (a (UNIT_NAMES * unit + i))) (λ i. weight_of_peak (b (UNIT_NAMES * unit + i))) 0 UNIT_NAMES (λ i low. ap weight_of_peak (same i (omega (arith, low))))

pub weights_none : (unit : ℕ) → weights (λ (n : ℕ). 0) unit ≡ 0
unfolding weights
weights_none unit = none 0 UNIT_NAMES
  where
    none : (a k : ℕ) → sum_by (λ (i : ℕ). weight_of_peak 0) (range_with_len a k) ≡ 0
    none a zero = refl
    none a (suc k) =
        let sum : sum_by (λ (i : ℕ). weight_of_peak 0) (range_with_len a (suc k)) ≡ weight_of_peak 0 + sum_by (λ (i : ℕ). weight_of_peak 0) (range_with_len (a + 1) k) = sum_by-cons (λ (i : ℕ). weight_of_peak 0) a (range_with_len (a + 1) k) in
        omega (arith, sum, none (a + 1) k)

-- peaks of which for each name one is 0
pub weights_joined : (a b : Peaks) (unit : ℕ) → ((n : ℕ) → (a n ≡ 0) ⊎ (b n ≡ 0)) → weights (λ n. max (a n) (b n)) unit ≡ weights a unit + weights b unit
unfolding weights
weights_joined a b unit disjoint = sums_joined (λ i. weight_of_peak (a (UNIT_NAMES * unit + i))) (λ i. weight_of_peak (b (UNIT_NAMES * unit + i))) (λ i. weight_of_peak (max (a (UNIT_NAMES * unit + i)) (b (UNIT_NAMES * unit + i)))) 0 UNIT_NAMES
    (λ i. one_is_none (a (UNIT_NAMES * unit + i)) (b (UNIT_NAMES * unit + i)) (disjoint (UNIT_NAMES * unit + i)))
  where
    one_is_none : (x y : ℕ) → (x ≡ 0) ⊎ (y ≡ 0) → weight_of_peak (max x y) ≡ weight_of_peak x + weight_of_peak y
    one_is_none x y (inl none) =
        let both : weight_of_peak (max x y) ≡ weight_of_peak y = ap (λ (k : ℕ). weight_of_peak (max k y)) none ∙ ap weight_of_peak (zero-max y) in
        omega (arith, both, ap weight_of_peak none)
    one_is_none x y (inr none) =
        let both : weight_of_peak (max x y) ≡ weight_of_peak x = ap (λ (k : ℕ). weight_of_peak (max x k)) none ∙ ap weight_of_peak (max-zero x) in
        omega (arith, both, ap weight_of_peak none)

-- no unit's names weigh more than if all were long
pub weights_most : (a : Peaks) (unit : ℕ) → weights a unit ≤ LONG_WEIGHT * UNIT_NAMES
unfolding weights
weights_most a unit = most 0 UNIT_NAMES
  where
    light : (m : ℕ) → weight_of_peak m ≤ LONG_WEIGHT
    light m = by_tests (m == 0) (nat_lt (1 + SHORT_SIZE) m)
      where
        by_tests : (b c : Bool) → cond b 0 (cond c LONG_WEIGHT 1) ≤ LONG_WEIGHT
        by_tests true c = omega arith
        by_tests false true = omega arith
        by_tests false false = omega arith

    most : (b k : ℕ) → sum_by (λ i. weight_of_peak (a (UNIT_NAMES * unit + i))) (range_with_len b k) ≤ LONG_WEIGHT * k
    most b zero = omega arith
    most b (suc k) = added _ _ _ k (sum_by-cons (λ i. weight_of_peak (a (UNIT_NAMES * unit + i))) b (range_with_len (b + 1) k)) (light (a (UNIT_NAMES * unit + b))) (most (b + 1) k)
      where
        added : (x y z k : ℕ) → x ≡ y + z → y ≤ LONG_WEIGHT → z ≤ LONG_WEIGHT * k → x ≤ LONG_WEIGHT * (suc k)
        added x y z k sum one rest = omega (arith, sum, one, rest)

-- one more peak, in its unit and elsewhere
pub weights_at : (a : Peaks) (n m : ℕ) → weights (with_peak a n m) (n / UNIT_NAMES) + weight_of_peak (a n) ≡ weights a (n / UNIT_NAMES) + weight_of_peak (max m (a n))
unfolding weights
weights_at a n m =
    let at : UNIT_NAMES * (n / UNIT_NAMES) + n % UNIT_NAMES ≡ n = omega arith in
    let sum = sums_at (λ i. weight_of_peak (with_peak a n m (UNIT_NAMES * (n / UNIT_NAMES) + i))) (λ i. weight_of_peak (a (UNIT_NAMES * (n / UNIT_NAMES) + i))) 0 UNIT_NAMES (n % UNIT_NAMES) (omega arith) (omega arith)
    (λ i other. ap weight_of_peak (unpeaked a n m (UNIT_NAMES * (n / UNIT_NAMES) + i) (λ is. other (omega (arith, is, at))))) in
    let old : weight_of_peak (a (UNIT_NAMES * (n / UNIT_NAMES) + n % UNIT_NAMES)) ≡ weight_of_peak (a n) = ap (λ (k : ℕ). weight_of_peak (a k)) at in
    let new : weight_of_peak (with_peak a n m (UNIT_NAMES * (n / UNIT_NAMES) + n % UNIT_NAMES)) ≡ weight_of_peak (max m (a n)) =
    ap (λ (k : ℕ). weight_of_peak (with_peak a n m k)) at ∙ ap weight_of_peak (peaked a n m) in
    sum_is _ _ _ _ _ _ sum old new
  where
    peaked : (a : Peaks) (n m : ℕ) → with_peak a n m n ≡ max m (a n)
    peaked a n m = let is : (n == n) ≡ true = grind (arith, nat_tests) in rw is refl

    sum_is : (x y p q u v : ℕ) → x + p ≡ y + u → p ≡ q → u ≡ v → x + q ≡ y + v
    sum_is x y p q u v sum old new = omega (arith, sum, old, new)

pub weights_elsewhere : (a : Peaks) (n m unit : ℕ) → unit ≢ n / UNIT_NAMES → weights (with_peak a n m) unit ≡ weights a unit
weights_elsewhere a n m unit other = weights_same (with_peak a n m) a unit (λ i low. unpeaked a n m (UNIT_NAMES * unit + i) (other_unit unit n i low other))

-- a name that had no peak adds its weight to those of its unit
pub weights_new : (a : Peaks) (n m unit : ℕ) → a n ≡ 0
    → weights (with_peak a n m) unit ≡ cond (n / UNIT_NAMES == unit) (weight_of_peak m) 0 + weights a unit
weights_new a n m unit none = elim (cases_eq unit (n / UNIT_NAMES)) [
  | inl here ↦
      let yes : (n / UNIT_NAMES == unit) ≡ true = eq-eqb (n / UNIT_NAMES) unit (sym here) in
      let nothing : weight_of_peak (a n) ≡ 0 = ap weight_of_peak none in
      let whole : weight_of_peak (max m (a n)) ≡ weight_of_peak m = ap weight_of_peak (ap (λ (k : ℕ). max m k) none ∙ max-zero m) in
      rw yes (ap (weights (with_peak a n m)) here
      ∙ added _ _ _ _ _ (weights_at a n m) nothing whole (ap (weights a) (sym here)))
  | inr other ↦
      let no : (n / UNIT_NAMES == unit) ≡ false = ne_eqb (n / UNIT_NAMES) unit (λ is. other (sym is)) in
      rw no (none_more (weights_elsewhere a n m unit other))
]
  where
    none_more : {x y : ℕ} → x ≡ y → x ≡ 0 + y
    none_more same = omega (arith, same)

    added : (x y p q w : ℕ) {z : ℕ} → x + p ≡ y + q → p ≡ 0 → q ≡ w → y ≡ z → x ≡ w + z
    added x y p q w sum nothing whole same = omega (arith, sum, nothing, whole, same)
