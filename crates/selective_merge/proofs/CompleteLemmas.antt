-- Why a merge fails over what the chip holds, and the calls that make room by one.
use Rattle.std.proofs.Common.{◌≡◌, ℕ, List, length, Result, sym, ◌∙◌, subst}
use Rattle.chip_trait.specs.Story.{Contents}
use Rattle.chip_trait.specs.Told.{Told}
use Rattle.ipl_base.specs.declared.fault.ChipFault.{ChipFault}
use Rattle.ipl_format.specs.Record.{Record}
use Rattle.ipl_meaning.specs.Chart.{chart_of}
use Rattle.ipl_meaning.specs.Layout.{Shape}
use Rattle.ipl_meaning.specs.Tables.{IsFree, Places, Tables}
use Rattle.unit_io.specs.Charts.{Spares}
use Rattle.place_taking.specs.Spending.{SparesUsed}
use Rattle.selective_merge.specs.Faults.{fault_with, merge_fault, TellsTheFault}
use Rattle.selective_merge.specs.Merged.{source_of}
use Rattle.selective_merge.specs.Moved.{Source}
use Rattle.selective_merge.specs.Packs.{packs_of}
use Rattle.selective_merge.proofs.FaultLemmas.{tells_fault, mergeable_units_have_no_fault, mergeable_by, by_chip_alone}
use Rattle.selective_merge.specs.declared.home.HomeHeader.{HomeHeader}
use Rattle.selective_merge.specs.Homes.{from_home, IsHomeOf}
use Rattle.selective_merge.specs.Merging.{TellsMergeFault, FailsAsMerge, CompletesMerge}
use Rattle.selective_merge.specs.Throughout.{UnlessCallsFailed}
use Rattle.selective_merge.proofs.UnbrokenLemmas.{unless_then}
use Rattle.selective_merge.proofs.WholeLemmas.{source_is}

-- what was read of the unit is what it is merged from
pub merge_told : {T : Type 0} (x : Contents) (t : Tables) (it : Shape) (u : ℕ) (home : HomeHeader)
    (log : List Record) (result : Result T ChipFault) → IsHomeOf home it u log
    → TellsTheFault (fault_with x (from_home home t.status.numbers log)
    (length (packs_of t.active log))) result → TellsTheFault (merge_fault x t it u) result
merge_told x t it u home log result is tells =
    subst (λ (l : List Record). TellsTheFault
    (fault_with x (source_of t it u) (length (packs_of t.active l))) result) is.log_is
    (subst (λ (from : Source). TellsTheFault
    (fault_with x from (length (packs_of t.active log))) result)
    (source_is home t it u log is) tells)

-- a call that fails as a merge does is complete
pub fails_complete : {T : Type 0} (places : ℕ) (t : Tables) (u : ℕ) (result : Result T ChipFault)
    (told : Told) → FailsAsMerge places t u result told → CompletesMerge places t u result told
fails_complete places t u result told fails x is it mirrors may =
    by_chip_alone (merge_fault x t (it.units u) u) result
    (mergeable_units_have_no_fault x t (it.units u) u
    (mergeable_by (chart_of x) it t u mirrors.status may)) (fails x is it mirrors)

pub merge_completes : {T : Type 0} (places : ℕ) (t : Tables) (u : ℕ) (result : Result T ChipFault)
    (told : Told) → TellsMergeFault places t u result told → CompletesMerge places t u result told
merge_completes places t u result told tells =
    fails_complete places t u result told
    (λ x is it mirrors. tells_fault (merge_fault x t (it.units u) u) result (tells x is it mirrors))

-- a call behind reads
pub fails_behind : {T : Type 0} (t : Tables) (u : ℕ) (old mid : Told) (result : Result T ChipFault)
    → mid.places ≡ old.places → mid.contents ≡ old.contents
    → FailsAsMerge mid.places t u result mid → FailsAsMerge old.places t u result old
fails_behind t u old mid result sized same fails x told =
    subst (λ (n : ℕ). FailsAsMerge n t u result mid) sized fails x (same ∙ told)

-- ---- the bytes of places in use

-- what is written to a place that was free
pub used_spared : (before : Places) (p : ℕ) (old new : Told) → IsFree before p → Spares p old new
    → SparesUsed before old new
used_spared before p old new free spares x told =
    let (y, told_y, same) = spares x told in
    (y, told_y, λ q s used. same q s (λ at. used (subst (IsFree before) (sym at) free)))

-- and then what is written there
pub used_then : (before : Places) (p : ℕ) (old mid new : Told) → IsFree before p
    → SparesUsed before old mid → Spares p mid new → SparesUsed before old new
used_then before p old mid new free first second x told =
    let (y, told_y, one) = first x told in
    let (z, told_z, two) = used_spared before p mid new free second y told_y in
    (z, told_z, λ q s used. two q s used ∙ one q s used)

-- a call behind reads
pub spared_behind : {T : Type 0} (before : Places) (old mid new : Told)
    (result : Result T ChipFault) → mid.contents ≡ old.contents
    → UnlessCallsFailed result (SparesUsed before mid new) → UnlessCallsFailed result (SparesUsed before old new)
spared_behind before old mid new result same =
    unless_then (SparesUsed before mid new) (SparesUsed before old new) result
    (λ spares x told. spares x (same ∙ told))

-- ---- the fault alone

pub merge_fails_so : {T : Type 0} (places : ℕ) (t : Tables) (u : ℕ) (result : Result T ChipFault)
    (told : Told) → TellsMergeFault places t u result told → FailsAsMerge places t u result told
merge_fails_so places t u result told tells x is it mirrors =
    tells_fault (merge_fault x t (it.units u) u) result (tells x is it mirrors)
