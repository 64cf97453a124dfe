-- Why a unit isn't moved to a place that was taken, one call after another.
use Rattle.std.proofs.Common.{◌<◌, ℕ, Result, Ok, Err, inl, arith, sym, subst}
use Rattle.std.specs.Prelude.{IfErr, OnOk}
use Rattle.chip_trait.specs.Told.{Told, Counts}
use Rattle.ipl_base.specs.declared.fault.ChipFault.{ChipFault}
use Rattle.ipl_base.specs.declared.fault.ChipFault.TheVariants.{ReadFault, Stopped, Damaged, Malformed, WornOut}
use Rattle.unit_io.specs.Faults.{IsPageCause}
use Rattle.unit_io.specs.Leads.{IsStopped}
use Rattle.selective_merge.specs.Homes.{MoveCause}

-- a page of it isn't read
pub page_unmoved : (place page : ℕ) (fault : ChipFault) (old new : Told) → page < 15
    → IsPageCause place page fault old new → MoveCause place fault old new
page_unmoved place page ReadFault old new low cause = cause
page_unmoved place page Stopped old new low cause = absurd cause
page_unmoved place page (Damaged p s stored computed) old new low cause =
    (cause.0, (omega (arith, cause.1.0), omega (arith, cause.1.1, low)), cause.2)
page_unmoved place page (Malformed p s) old new low cause =
    (cause.0, inl (omega (arith, cause.1.0), omega (arith, cause.1.1, low)))
page_unmoved place page (WornOut n) old new low cause = absurd cause

-- a write failed behind other calls
pub stopped_unmoved : {T : Type 0} (place : ℕ) (result : Result T ChipFault) (old mid new : Told) → Counts old mid
    → IfErr result (λ fault. IsStopped fault mid new) → IfErr result (λ fault. MoveCause place fault old new)
stopped_unmoved place (Ok v) old mid new counts cause = tt
stopped_unmoved place (Err fault) old mid new counts cause =
    subst (λ (f : ChipFault). MoveCause place f old new) (sym cause.0) (omega (arith, cause.1, counts.writes))

-- it isn't moved behind other calls
pub later_unmoved : {T : Type 0} (place : ℕ) (result : Result T ChipFault) (old mid new : Told) → Counts old mid
    → IfErr result (λ fault. MoveCause place fault mid new) → IfErr result (λ fault. MoveCause place fault old new)
later_unmoved place (Ok v) old mid new counts cause = tt
later_unmoved place (Err ReadFault) old mid new counts cause = omega (arith, cause, counts.reads)
later_unmoved place (Err Stopped) old mid new counts cause = omega (arith, cause, counts.writes)
later_unmoved place (Err (Damaged p s stored computed)) old mid new counts cause = cause
later_unmoved place (Err (Malformed p s)) old mid new counts cause = cause
later_unmoved place (Err (WornOut n)) old mid new counts cause = absurd cause

-- what holds in any case does where it is done
pub where_done : {T : Type 0} (P : Type 0) (result : Result T ChipFault) → P → OnOk result P
where_done P (Ok v) holds = holds
where_done P (Err fault) holds = tt
