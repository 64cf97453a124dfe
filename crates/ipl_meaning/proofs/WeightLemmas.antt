-- What records weigh, by the peaks of their names.
use Rattle.std.proofs.Common.{◌≡◌, ℕ, ◌+◌, ◌*◌, ◌≤◌, ◌==◌, nat_le, nat_lt, Bool, true, false, not, cond, List, length, Some, None, IsTrue, refl, sym, subst, arith}
use Rattle.std.specs.List.{All, Contains}
use Rattle.std.proofs.lemmas.Bool.{ne_eqb}
use Rattle.std.proofs.lemmas.Bool.Decides.{nat_tests}
use Rattle.ipl_base.specs.declared.limits.TheConstants.{CARRIED_SECTORS, LONG_WEIGHT, PENDING_WEIGHT, SHORT_LEN, SHORT_SIZE, UNIT_NAMES, VERSION}
use Rattle.ipl_base.specs.Sizes.{size_in_page}
use Rattle.ipl_format.specs.Record.{Record, Change, IsRecord, value_of}
use Rattle.ipl_model.specs.Peaks.{Peaks, weight_of_peak, weights}
use Rattle.ipl_model.proofs.WeightLemmas.{weight_less}
use Rattle.ipl_meaning.specs.Layout.{Entry, records_of}
use Rattle.ipl_meaning.specs.Last.{weight_of, name_in_unit, carried_count}
use Rattle.ipl_meaning.proofs.PackLemmas.{few_are_carried}

-- a record weighs what the peak of its change does
pub record_weighs : (r : Record) → weight_of r ≡ weight_of_peak (1 + size_in_page r.change)
record_weighs r = by_change r.change
  where
    turned : (b : Bool) → cond b 1 LONG_WEIGHT ≡ cond (not b) LONG_WEIGHT 1
    turned true = refl
    turned false = refl

    by_change : (change : Change) → cond (nat_le (length (value_of change)) SHORT_LEN) 1 LONG_WEIGHT ≡ weight_of_peak (1 + size_in_page change)
    by_change None = refl
    by_change (Some v) =
        let long : nat_lt (1 + SHORT_SIZE) (1 + (3 + length v)) ≡ not (nat_le (length v) SHORT_LEN) = grind (arith, nat_tests) in
        let some : ((1 + (3 + length v)) == 0) ≡ false = ne_eqb (1 + (3 + length v)) 0 (λ is. omega (arith, is)) in
        rw (some, long) (turned (nat_le (length v) SHORT_LEN))

-- where no record of an active number takes more than the peak of its name says, and the names of the unit weigh at most
-- 48, a merge of the unit carries at most 12 sectors
pub few_by_peaks : (active : ℕ → Bool) (log : List Entry) (peaks : Peaks) (u : ℕ) → All (IsRecord VERSION) (records_of log)
    → weights peaks u ≤ PENDING_WEIGHT
    → ((r : Record) → Contains (records_of log) r → IsTrue (active r.tid) → 1 + size_in_page r.change ≤ peaks (UNIT_NAMES * u + name_in_unit r))
    → carried_count active log ≤ CARRIED_SECTORS
unfolding weights
few_by_peaks active log peaks u valid few all =
    few_are_carried active log (λ i. weight_of_peak (peaks (UNIT_NAMES * u + i))) valid few (λ r listed counts.
    subst (λ (k : ℕ). k ≤ weight_of_peak (peaks (UNIT_NAMES * u + name_in_unit r))) (sym (record_weighs r))
    (weight_less (1 + size_in_page r.change) (peaks (UNIT_NAMES * u + name_in_unit r)) (all r listed counts)))
