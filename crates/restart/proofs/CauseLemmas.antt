-- Why a pass and a renewal fail.
use Rattle.std.proofs.Common.{◌≡◌, false, ℕ, List, Result, Ok, Err, IfErr, inl, inr, refl, sym, subst, arith}
use Rattle.chip_trait.specs.Told.{Told, Counts}
use Rattle.chip_trait.proofs.CountsLemmas.{counts_then}
use Rattle.ipl_base.specs.declared.fault.ChipFault.{ChipFault}
use Rattle.ipl_base.specs.declared.fault.ChipFault.TheVariants.{ReadFault, Stopped, Damaged, Malformed, WornOut}
use Rattle.ipl_base.specs.Calls.{IsFailedCall}
use Rattle.ipl_meaning.specs.Tables.{Places}
use Rattle.place_taking.specs.Spending.{tells_worn}
use Rattle.place_taking.specs.Takes.{IsNotTaken}
use Rattle.selective_merge.specs.Homes.{MergeCause}
use Rattle.unit_io.specs.Accounts.{Accounts}
use Rattle.unit_io.specs.ReadsAt.{IsCauseAt}
use Rattle.restart.specs.Passes.{RenewCause}
use Rattle.restart.specs.Stuck.{IsHeldFault}

pub read_cause : (At : ℕ → ℕ → Type 0) (after : Places) (fault : ChipFault) (old new : Told)
    → IsCauseAt At fault old new → RenewCause after fault old new
read_cause At after ReadFault old new cause = cause
read_cause At after Stopped old new cause = absurd cause
read_cause At after (Damaged p s stored computed) old new cause = absurd cause
read_cause At after (Malformed p s) old new cause = tt
read_cause At after (WornOut n) old new cause = absurd cause

-- and that is no worn place
pub read_not_worn : (At : ℕ → ℕ → Type 0) (fault : ChipFault) (old new : Told)
    → IsCauseAt At fault old new → tells_worn fault ≡ false
read_not_worn At ReadFault old new cause = refl
read_not_worn At Stopped old new cause = absurd cause
read_not_worn At (Damaged p s stored computed) old new cause = absurd cause
read_not_worn At (Malformed p s) old new cause = refl
read_not_worn At (WornOut n) old new cause = absurd cause

merge_cause : (after : Places) (place : ℕ) (spots : List (ℕ × ℕ)) (fault : ChipFault) (old new : Told)
    → MergeCause after place spots fault old new → RenewCause after fault old new
merge_cause after place spots ReadFault old new cause = cause
merge_cause after place spots Stopped old new cause = cause
merge_cause after place spots (Damaged p s stored computed) old new cause = (cause.1, cause.2)
merge_cause after place spots (Malformed p s) old new cause = tt
merge_cause after place spots (WornOut n) old new cause = cause

-- a merge fails with a fault of what the chip holds, where no call failed
pub merge_held : (after : Places) (place : ℕ) (spots : List (ℕ × ℕ)) (fault : ChipFault) (old new : Told)
    → ¬ IsFailedCall fault → MergeCause after place spots fault old new → IsHeldFault fault
merge_held after place spots ReadFault old new unfailed cause = absurd (unfailed tt)
merge_held after place spots Stopped old new unfailed cause = absurd (unfailed tt)
merge_held after place spots (Damaged p s stored computed) old new unfailed cause = (cause.1, cause.2)
merge_held after place spots (Malformed p s) old new unfailed cause = tt
merge_held after place spots (WornOut n) old new unfailed cause = absurd (unfailed tt)

-- which is why a renewal may fail
pub held_cause : (after : Places) (fault : ChipFault) (old new : Told) → IsHeldFault fault
    → RenewCause after fault old new
held_cause after ReadFault old new is = absurd is
held_cause after Stopped old new is = absurd is
held_cause after (Damaged p s stored computed) old new is = is
held_cause after (Malformed p s) old new is = tt
held_cause after (WornOut n) old new is = absurd is

-- and is no worn place
pub held_not_worn : (fault : ChipFault) → IsHeldFault fault → tells_worn fault ≡ false
held_not_worn ReadFault is = absurd is
held_not_worn Stopped is = absurd is
held_not_worn (Damaged p s stored computed) is = refl
held_not_worn (Malformed p s) is = refl
held_not_worn (WornOut n) is = absurd is

-- a cause in a later part of the time
pub later_cause : (after : Places) (fault : ChipFault) (old mid new : Told) → Counts old mid
    → RenewCause after fault mid new → RenewCause after fault old new
later_cause after ReadFault old mid new counts cause = omega (arith, counts.reads, cause)
later_cause after Stopped old mid new counts cause = omega (arith, counts.writes, cause)
later_cause after (Damaged p s stored computed) old mid new counts cause = cause
later_cause after (Malformed p s) old mid new counts cause = tt
later_cause after (WornOut n) old mid new counts cause =
    (cause.0, cause.1, omega (arith, counts.worn, cause.2))

-- after calls that were done, one that ended so
pub accounts_then : (after : Places) (old mid new : Told) (result : Result (Unit {0}) ChipFault)
    → Counts old mid → Accounts (RenewCause after) result mid new
    → Accounts (RenewCause after) result old new
accounts_then after old mid new result counts second = record {
  counts = counts_then old mid new counts second.counts;
  cause = go result second.cause;
}
  where
    go : (r : Result (Unit {0}) ChipFault) → IfErr r (λ fault. RenewCause after fault mid new)
        → IfErr r (λ fault. RenewCause after fault old new)
    go (Ok v) cause = tt
    go (Err e) cause = later_cause after e old mid new counts cause

-- a place that wasn't taken
not_taken_cause : (after : Places) (fault : ChipFault) (old new : Told)
    → IsNotTaken after fault old new → RenewCause after fault old new
not_taken_cause after fault old new (inl stopped) =
    subst (λ (f : ChipFault). RenewCause after f old new) (sym stopped.0) stopped.1
not_taken_cause after fault old new (inr worn) =
    subst (λ (f : ChipFault). RenewCause after f old new) (sym worn.0) (refl, worn.1, worn.2)

-- a merge, and a new status place
pub merge_accounts : (after : Places) (place : ℕ) (spots : List (ℕ × ℕ)) (old new : Told)
    (result : Result (Unit {0}) ChipFault) → Accounts (MergeCause after place spots) result old new
    → Accounts (RenewCause after) result old new
merge_accounts after place spots old new (Ok v) did = record { counts = did.counts; cause = tt }
merge_accounts after place spots old new (Err e) did =
    record { counts = did.counts; cause = merge_cause after place spots e old new did.cause }

pub write_accounts : (after : Places) (old new : Told) (result : Result (Unit {0}) ChipFault)
    → Accounts (IsNotTaken after) result old new → Accounts (RenewCause after) result old new
write_accounts after old new (Ok v) did = record { counts = did.counts; cause = tt }
write_accounts after old new (Err e) did =
    record { counts = did.counts; cause = not_taken_cause after e old new did.cause }
