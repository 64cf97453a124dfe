-- A renewal and an opening of what reads well fail only where a call of the chip failed.
use Rattle.std.proofs.Common.{◌≡◌, ℕ, ◌<◌, ◌≤◌, Bool, true, false, List, [], ◌∷◌, Some, None, Result, Ok, Err, IfErr, inl, inr, refl, sym, ◌∙◌, subst, arith}
use Rattle.std.proofs.lemmas.Bool.{cases_Bool, false≢true}
use Rattle.chip_trait.specs.Told.{Told}
use Rattle.ipl_base.specs.declared.fault.ChipFault.{ChipFault}
use Rattle.ipl_base.specs.declared.fault.ChipFault.TheVariants.{ReadFault, Stopped, Damaged, Malformed, WornOut}
use Rattle.ipl_base.specs.Calls.{IsFailedCall}
use Rattle.ipl_base.specs.declared.fault.ImageFault.{ImageFault}
use Rattle.ipl_base.specs.declared.fault.ImageFault.TheVariants.{Chip}
use Rattle.ipl_format.specs.Record.{Record}
use Rattle.ipl_model.specs.State.{Map}
use Rattle.ipl_meaning.specs.Legible.{Legible, whole}
use Rattle.ipl_meaning.specs.LaidOut.{layout_in}
use Rattle.ipl_meaning.specs.Chart.{Chart, chart_of}
use Rattle.ipl_meaning.specs.Last.{carried, carried_count}
use Rattle.ipl_meaning.specs.Layout.{Layout, records_of}
use Rattle.ipl_meaning.specs.Stands.{Says}
use Rattle.ipl_meaning.specs.Tables.{Places, Tables}
use Rattle.selective_merge.specs.Faults.{FailsByChipAlone}
use Rattle.selective_merge.specs.Packs.{among}
use Rattle.selective_merge.proofs.FaultLemmas.{mergeable_by, mergeable_units_have_no_fault, said_units_are_mergeable}
use Rattle.ipl_meaning.specs.Faults.{first_fault, is_image}
use Rattle.restart.specs.Looks.{HasCause}
use Rattle.place_taking.specs.Takes.{IsNotTaken}
use Rattle.unit_io.specs.Leads.{IsStopped}
use Rattle.restart.specs.Passes.{AreMergeableBut, CompletesRenewal, FailsAsRenewal, FitTogether, IsRenewalFault}
use Rattle.restart.specs.Stuck.{HasFault}
use Rattle.chip_trait.specs.Story.{Contents}
use Rattle.ipl_meaning.specs.Mirrors.{Mirrors}
use Rattle.restart.specs.Recovers.{CompletesOpening, SaysAllBut, FailsApart, FailsByCallAlone, OpeningCause}
use Rattle.ipl_base.specs.declared.limits.TheConstants.{STATUS_NUMBERS}
use Rattle.restart.proofs.LookLemmas.{never_many}

-- ---- units

-- what can't be otherwise is so
failed_so : (e : ChipFault) → ¬ (¬ IsFailedCall e) → IsFailedCall e
failed_so ReadFault is = tt
failed_so Stopped is = tt
failed_so (Damaged p s stored computed) is = absurd (is (λ failed. failed))
failed_so (Malformed p s) is = absurd (is (λ failed. failed))
failed_so (WornOut n) is = tt

module _ (places : ℕ) (x : Contents) (it : Layout) (t : Tables) (mirrors : Mirrors places (chart_of x) it t)
    (some : ℕ → Bool) (all : AreMergeableBut some (chart_of x) it t) (fit : FitTogether t.status.most it some) where
  -- what can't be merged is one of these
  is_some : (u : ℕ) → u < it.count → HasFault x it t u → some u ≡ true
  is_some u low (e, wrong) = elim (cases_Bool (some u)) [
    | inl is ↦ is
    | inr other ↦
        let fine = mergeable_units_have_no_fault x t (it.units u) u
        (mergeable_by (chart_of x) it t u mirrors.status (all u low other)) in
        let no_way : None ≡ Some e = sym fine ∙ wrong in absurd cc
  ]

  never : (e : ChipFault) → IsRenewalFault x it t e → ⊥
  never e is =
      let (numbers, few, has) = fit in
      is.many.many
      (numbers, few, λ u tid low one. has u tid low (is_some u low (is.many.stuck u low one)))

-- what fails so alone is complete
pub fault_completes : (places : ℕ) (t : Tables) (result : Result (Unit {0}) ChipFault) (told : Told)
    → FailsAsRenewal places t result told → CompletesRenewal places t result told
fault_completes places t (Ok v) told fails x is it mirrors some all fit = tt
fault_completes places t (Err e) told fails x is it mirrors some all fit =
    failed_so e (λ unfailed. never places x it t mirrors some all fit e (fails x is it mirrors unfailed))

-- a place that wasn't taken is a call of the chip that failed
pub not_taken_failed : (after : Places) (fault : ChipFault) (old new : Told)
    → IsNotTaken after fault old new → IsFailedCall fault
not_taken_failed after fault old new (inl stopped) = subst IsFailedCall (sym stopped.0) tt
not_taken_failed after fault old new (inr worn) = subst IsFailedCall (sym worn.0) tt

pub written_alone : {T : Type 0} (after : Places) (old new : Told) (result : Result T ChipFault)
    → IfErr result (λ fault. IsNotTaken after fault old new) → FailsByChipAlone result
written_alone after old new (Ok v) cause = tt
written_alone after old new (Err e) cause = not_taken_failed after e old new cause

-- ---- an opening

-- where no session is open nothing is carried
pub carried_none : (records : List Record) → carried (among []) records ≡ []
carried_none [] = refl
carried_none (r ∷ records) = carried_none records

pub mergeable_but : (places : ℕ) (c : Chart) (it : Layout) (m : Legible) (some : ℕ → Bool) (t : Tables)
    → Says places c it m → SaysAllBut some it.count m.pages → t.active ≡ [] → AreMergeableBut some c it t
mergeable_but places c it m some t says all none u low other =
    said_units_are_mergeable places c it m t u says low (λ page few. all u page low few other)
    (subst (λ (a : List ℕ). carried_count (among a) (it.units u).log ≤ 12) (sym none)
    (rw (carried_none (records_of (it.units u).log)) (omega arith)))

-- where all pages say a map
pub completes_whole : (most places : ℕ) (result : Result (Unit {0}) ImageFault) (told : Told)
    → CompletesOpening most places result told → (x : Contents) → told.contents ≡ Some x → (m : Map)
    → first_fault (chart_of x) places ≡ None
    → Says places (chart_of x) (layout_in (chart_of x) places) (whole m) → IfErr result FailsApart
completes_whole most places result told complete x is m none says =
    complete x is (whole m) (λ u. false) none says (λ u page low few other. refl)
    ([], omega arith, λ u tid low one. absurd (false≢true one))

pub call_failed : (fault : ChipFault) → IsFailedCall fault → FailsApart (Chip fault)
call_failed fault failed = inl (fault, refl, failed)

pub stopped_failed : (fault : ChipFault) (old new : Told) → IsStopped fault old new
    → FailsApart (Chip fault)
stopped_failed fault old new stopped =
    call_failed fault (subst IsFailedCall (sym stopped.0) tt)

pub reading_failed : (most places : ℕ) (c : Chart) (e : ImageFault) (old new : Told)
    → (is_image e ≡ true → first_fault c places ≡ Some e) → HasCause most e old new
    → first_fault c places ≡ None → FailsApart e
reading_failed most places c e old new tells cause none = elim (cases_Bool (is_image e)) [
  | inl image ↦ let clash = sym none ∙ tells image in cc clash
  | inr other ↦ elim (cause other) [
    | inl missed ↦ inl (ReadFault, missed.fault, tt)
    | inr many ↦ inr many.0
  ]
]

-- where all numbers of a status place have room, what fails apart from what the chip holds fails by a call alone
pub apart_by_call : {most : ℕ} {after : Places} {e : ImageFault} {old new : Told} → most ≡ STATUS_NUMBERS
    → OpeningCause most after e old new → FailsApart e → FailsByCallAlone e
apart_by_call all cause (inl call) = call
apart_by_call all cause (inr many) = absurd (never_many all (cause.many many))
