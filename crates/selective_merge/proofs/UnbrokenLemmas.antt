-- Calls of which no write failed, and what they leave that is said of calls without a counted write fault.
use Rattle.std.proofs.Common.{◌≡◌, ◌⊎◌, Result, Ok, Err, IfErr, OnOk, inl, inr, sym, subst, arith}
use Rattle.chip_trait.specs.Told.{History, Told, Counts, Unrisen}
use Rattle.ipl_base.specs.Calls.{IsFailedCall}
use Rattle.ipl_base.specs.declared.fault.ChipFault.{ChipFault}
use Rattle.ipl_meaning.specs.Tables.{Places, Tables, IsCountedClean}
use Rattle.place_taking.specs.Takes.{IsNotTaken}
use Rattle.unit_io.specs.Leads.{IsStopped}
use Rattle.unit_io.specs.Steps.{Settled, EndsWith, TidyWork, Steps, Tidies}
use Rattle.unit_io.proofs.CostLemmas.{spends_weaker}
use Rattle.unit_io.proofs.StepLemmas.{outcome_weaker}
use Rattle.unit_io.proofs.StepTidyLemmas.{tidy_weaker}
use Rattle.selective_merge.specs.Throughout.{Unbroken, UnlessCallsFailed, StepsThroughout, TidiesThroughout}

-- ---- ends

-- where no write fault was counted, none failed
pub settled_unbroken : {T : Type 0} (result : Result T ChipFault) (old new : Told)
    → Settled result old new → Unbroken result old new
settled_unbroken (Ok v) old new settled = tt
settled_unbroken (Err e) old new unrisen = inl unrisen

-- where a call failed and no write did, no write fault was counted
pub unbroken_settled : (e : ChipFault) (old new : Told) → IsFailedCall e
    → Unrisen old new ⊎ (¬ IsFailedCall e) → Unrisen old new
unbroken_settled e old new failed (inl unrisen) = unrisen
unbroken_settled e old new failed (inr held) = absurd (held failed)

-- which is never so where a write failed
pub stopped_breaks : (e : ChipFault) (old new : Told) → IsStopped e old new
    → Unrisen old new ⊎ (¬ IsFailedCall e) → ⊥
stopped_breaks e old new stopped unbroken =
    let unrisen = unbroken_settled e old new (subst IsFailedCall (sym stopped.0) tt) unbroken in
    omega (arith, stopped.1, unrisen)

-- where no place was taken, a call failed
pub untaken_failed : (after : Places) (e : ChipFault) (old new : Told) → IsNotTaken after e old new
    → IsFailedCall e
untaken_failed after e old new (inl stopped) = subst IsFailedCall (sym stopped.0) tt
untaken_failed after e old new (inr worn) = subst IsFailedCall (sym worn.0) tt

-- a part of a call's time is unbroken where the call is
pub unbroken_later : {T : Type 0} (result : Result T ChipFault) (old mid new : Told) → Counts old mid
    → Unbroken result old new → Unbroken result mid new
unbroken_later (Ok v) old mid new counts unbroken = tt
unbroken_later (Err e) old mid new counts (inl unrisen) = inl (omega (arith, counts.writes, unrisen))
unbroken_later (Err e) old mid new counts (inr held) = inr held

-- the same fault
pub unbroken_same : (e f : ChipFault) (old new : Told) → f ≡ e → Unrisen old new ⊎ (¬ IsFailedCall f)
    → Unrisen old new ⊎ (¬ IsFailedCall e)
unbroken_same e f old new same = subst (λ (x : ChipFault). Unrisen old new ⊎ (¬ IsFailedCall x)) same

-- ---- what is so unless a call failed

pub where_done : {T : Type 0} (P : Type 0) (result : Result T ChipFault) → UnlessCallsFailed result P
    → OnOk result P
where_done P (Ok v) holds = holds
where_done P (Err e) holds = tt

-- of a call that fails only where a write failed, what is so where it is done
pub unless_stopped : {T : Type 0} (P : Type 0) (result : Result T ChipFault) (old new : Told)
    → IfErr result (λ fault. IsStopped fault old new) → OnOk result P → UnlessCallsFailed result P
unless_stopped P (Ok v) old new stopped holds = holds
unless_stopped P (Err e) old new stopped holds =
    λ held. absurd (held (subst IsFailedCall (sym stopped.0) tt))

-- and what follows
pub unless_then : {T : Type 0} (P Q : Type 0) (result : Result T ChipFault) → (P → Q)
    → UnlessCallsFailed result P → UnlessCallsFailed result Q
unless_then P Q (Ok v) then holds = then holds
unless_then P Q (Err e) then holds = λ held. then (holds held)

-- ---- what is left

-- as it is said of calls without a counted write fault
pub steps_settled : {T : Type 0} (Each : History → Type 0) (t after : Tables) (Then : T → History → Type 0)
    (Else : History → Type 0) (h : History) (result : Result T ChipFault) (old new : Told)
    → StepsThroughout Each t after Then Else h result old new
    → Steps Each t after Then Else h result old new
steps_settled Each t after Then Else h result old new =
    let less = settled_unbroken result old new in
    outcome_weaker Each Each (TidyWork (IsCountedClean t) (IsCountedClean after) (Unbroken result old new))
    (TidyWork (IsCountedClean t) (IsCountedClean after) (Settled result old new))
    (Unbroken result old new) (Settled result old new) (EndsWith result Then Else)
    (EndsWith result Then Else) h old new (λ k is. is)
    (λ a. tidy_weaker (IsCountedClean t) (IsCountedClean after) (Unbroken result old new)
    (Settled result old new) a less) less (λ settled k is. is)

pub tidies_settled : {T E : Type 0} (t after : Tables) (result : Result T E) (old new : Told)
    → TidiesThroughout t after old new → Tidies t result after old new
tidies_settled t after result old new =
    spends_weaker (TidyWork (IsCountedClean t) (IsCountedClean after) (Unit {0}))
    (TidyWork (IsCountedClean t) (IsCountedClean after) (Settled result old new)) old new
    (λ a. tidy_weaker (IsCountedClean t) (IsCountedClean after) (Unit {0})
    (Settled result old new) a (λ settled. tt))
