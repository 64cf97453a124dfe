-- A record of an open session weighs no more than its name.
use Rattle.std.proofs.Common.{◌≡◌, ℕ, ◌+◌, ◌<◌, ◌≤◌, ◌==◌, Bool, true, false, nat_le, nat_lt, List, [], ◌∷◌, length, Some, None, inl, inr, refl, subst, arith, if◌then◌else◌}
use Rattle.std.specs.List.{Contains}
use Rattle.std.proofs.lemmas.Bool.{cases_Bool, ne_eqb}
use Rattle.std.proofs.lemmas.Bool.Decides.{nat_tests}
use Rattle.ipl_base.specs.Sizes.{size_in_page}
use Rattle.ipl_base.specs.declared.limits.TheConstants.{SHORT_LEN, SHORT_SIZE, LONG_WEIGHT}
use Rattle.ipl_model.specs.Peaks.{peaks_of, weight_of_peak}
use Rattle.ipl_model.specs.State.{Write, writes_of}
use Rattle.ipl_model.proofs.RulePeakLemmas.{le_trans, last_most, more_than, own_most}
use Rattle.ipl_model.proofs.WeightLemmas.{weight_less}
use Rattle.ipl_format.specs.Record.{Change, value_of}
use Rattle.store_laws.specs.Pending.{name_at}
use Rattle.store_laws.specs.PendingLaws.{RecordsWeighNoMore}
use Rattle.store_laws.proofs.ElementLemmas.{contains_cons, contains_nil}
use Rattle.store_laws.proofs.StateLemmas.{last_here}

-- a write bounds the peak of its name from below
pub peaked : (ws : List Write) (w : Write) → Contains ws w → 1 + size_in_page w.1 ≤ peaks_of ws w.0
peaked [] w there = absurd (contains_nil w there)
peaked (x ∷ older) w there = elim (contains_cons x older w there) [
  | inl same ↦
      subst (λ (y : Write). 1 + size_in_page y.1 ≤ peaks_of (x ∷ older) y.0) same
      (last_most (x ∷ older) x.0 x.1 (last_here x older x.0 refl))
  | inr later ↦ le_trans (peaked older w later) (more_than x older w.0)
]

-- a peak weighs something, and a long one as much as a long record
light : (m : ℕ) → 0 < m → 1 ≤ weight_of_peak m
light m some =
    let is : (m == 0) ≡ false = ne_eqb m 0 (λ none. omega (arith, none, some)) in
    rw is (by_size (nat_lt (1 + SHORT_SIZE) m))
  where
    by_size : (b : Bool) → 1 ≤ (if b then LONG_WEIGHT else 1)
    by_size true = omega arith
    by_size false = omega arith

heavy : (m : ℕ) → 1 + SHORT_SIZE < m → LONG_WEIGHT ≤ weight_of_peak m
heavy m long =
    let is : (m == 0) ≡ false = ne_eqb m 0 (λ none. omega (arith, none, long)) in
    let above : nat_lt (1 + SHORT_SIZE) m ≡ true = grind (arith, nat_tests, long) in
    rw (is, above) (omega arith)

-- a change weighs what its peak does
change_weighs : (change : Change)
    → (if nat_le (length (value_of change)) SHORT_LEN then 1 else LONG_WEIGHT)
    ≤ weight_of_peak (1 + size_in_page change)
change_weighs None = light 1 (omega arith)
change_weighs (Some value) = elim (cases_Bool (nat_le (length value) SHORT_LEN)) [
  | inl short ↦ rw short (light (1 + (3 + length value)) (omega arith))
  | inr long ↦
      let above : SHORT_LEN < length value = grind (arith, nat_tests, long) in
      rw long (heavy (1 + (3 + length value)) (omega (arith, above)))
]

pub records_weigh_no_more : RecordsWeighNoMore
records_weigh_no_more units it logs numbers state active u page r has tells low there running =
    let (s, mine) = (tells r.tid).0 running in
    let n = name_at u r.page r.slot in
    let by_s = peaked (writes_of state s) (n, r.change) (has.among s u page r mine low there) in
    le_trans (change_weighs r.change) (weight_less _ _ (le_trans by_s (own_most state s n)))
