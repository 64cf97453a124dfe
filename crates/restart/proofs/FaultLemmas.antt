-- What is wrong with a unit that a pass comes to is what was wrong with it at first.
use Rattle.std.proofs.Common.{◌≡◌, ℕ, ◌≤◌, List, [], None, Result, Ok, Err, IfErr, inr, refl, sym, ◌∙◌, subst, arith}
use Rattle.chip_trait.specs.Story.{Contents}
use Rattle.chip_trait.specs.Told.{Told}
use Rattle.ipl_base.specs.declared.fault.ChipFault.{ChipFault}
use Rattle.ipl_base.specs.declared.fault.ImageFault.TheVariants.{Chip}
use Rattle.ipl_meaning.specs.Chart.{chart_of}
use Rattle.ipl_meaning.specs.Last.{carried_count}
use Rattle.ipl_meaning.specs.Layout.{Layout, records_of}
use Rattle.ipl_meaning.specs.Mirrors.{MirrorsStatus}
use Rattle.ipl_meaning.specs.Tables.{Places, Tables}
use Rattle.selective_merge.specs.Packs.{among}
use Rattle.selective_merge.proofs.FaultLemmas.{merge_faults_are_of_the_unit}
use Rattle.ipl_meaning.specs.Faults.{first_fault}
use Rattle.ipl_meaning.specs.LaidOut.{layout_in}
use Rattle.place_taking.specs.Takes.{IsNotTaken}
use Rattle.restart.specs.InPlace.{FailsInPlace}
use Rattle.restart.specs.Passes.{IsRenewalFault, FailsAsPass}
use Rattle.restart.specs.Recovers.{IsOpeningFault}
use Rattle.restart.proofs.CompleteLemmas.{carried_none, not_taken_failed}

-- a call that only writes
pub pass_written : (x : Contents) (it : Layout) (t : Tables) (directory : Places) (old new : Told)
    (result : Result (Unit {0}) ChipFault) → IfErr result (λ e. IsNotTaken directory e old new)
    → IfErr result (FailsAsPass x it t)
pass_written x it t directory old new (Ok v) is = tt
pass_written x it t directory old new (Err e) is = λ unfailed.
    absurd (unfailed (not_taken_failed directory e old new is))

pub place_written : (x : Contents) (it : Layout) (t after : Tables) (directory : Places)
    (old new : Told) (result : Result (Unit {0}) ChipFault)
    → IfErr result (λ e. IsNotTaken directory e old new)
    → IfErr result (FailsInPlace x it t after)
place_written x it t after directory old new (Ok v) is = tt
place_written x it t after directory old new (Err e) is = λ unfailed.
    absurd (unfailed (not_taken_failed directory e old new is))

-- ---- an opening

-- where no session is open, it is the fault of a page
pub opening_fault : (places : ℕ) (x : Contents) (t : Tables) (fault : ChipFault)
    → t.active ≡ [] → MirrorsStatus (layout_in (chart_of x) places) t
    → first_fault (chart_of x) places ≡ None
    → IsRenewalFault x (layout_in (chart_of x) places) t fault
    → IsOpeningFault places x (Chip fault)
opening_fault places x t fault none status sound is =
    let it = layout_in (chart_of x) places in
    let log = (it.units is.unit).log in
    let few : carried_count (among t.active) log ≤ 12 =
    subst (λ (a : List ℕ). carried_count (among a) log ≤ 12) (sym none)
    (rw (carried_none (records_of log)) (omega arith)) in
    inr (
      sound,
      record {
        fault = fault;
        is = refl;
        unit = is.unit;
        low = is.low;
        page = sym (merge_faults_are_of_the_unit x it t is.unit status few) ∙ is.fault;
      },
    )
