-- Calls over contents that stand for a state tell the fault of a page that didn't read well.
use Rattle.std.proofs.Common.{◌≡◌, ◌≢◌, ◌<◌, ℕ, List, length, Option, Some, None, slice_index, Result, Ok, Err, IfErr, inl, inr, refl, sym, ◌∙◌, ap, subst, arith}
use Rattle.std.specs.Prelude.{is_ok}
use Rattle.chip_trait.specs.Story.{Contents}
use Rattle.chip_trait.specs.Told.{Told, IsConsistent}
use Rattle.ipl_base.specs.declared.fault.ChipFault.{ChipFault}
use Rattle.ipl_base.specs.declared.fault.ChipFault.TheVariants.{ReadFault, Stopped}
use Rattle.ipl_model.specs.State.{State}
use Rattle.record_locks.specs.Held.{SessionSlots}
use Rattle.ipl_meaning.specs.Chart.{chart_of}
use Rattle.ipl_meaning.specs.Layout.{Layout}
use Rattle.ipl_meaning.specs.Tables.{Tables}
use Rattle.unit_io.specs.Faults.{TellsChipFault}
use Rattle.selective_merge.specs.Faults.{page_fault_from, merge_fault, FailsByChipAlone}
use Rattle.selective_merge.specs.Merged.{source_in}
use Rattle.selective_merge.proofs.FaultLemmas.{merge_faults_are_of_the_unit}
use Rattle.selective_merge.specs.Merging.{Merges, StaysMirrored, FailsAsMerge, TellsMergeFault}
use Rattle.selective_merge.specs.Throughout.{ChartsThroughout}
use Rattle.selective_merge.proofs.CompleteLemmas.{merge_fails_so}
use Rattle.restart.specs.InPlace.{RenewalFailsInPlace}
use Rattle.number_set.specs.Numbers.{among}
use Rattle.page_rebuild.specs.Loaded.{OfTables, load_fault}
use Rattle.page_frames.specs.InPlace.{StaysInPlace, StaysUntouched}
use Rattle.unit_io.specs.Charts.{Charts}
use Rattle.unit_io.specs.Costs.{Spends}
use Rattle.unit_io.proofs.CostLemmas.{spends_weaker}
use Rattle.place_taking.specs.Spending.{ErasesFor, ErasesFree, is_worn_out}
use Rattle.selective_merge.specs.Known.{KnowsPlaces}
use Rattle.selective_merge.proofs.HeldLemmas.{homes_used}
use Rattle.store_laws.proofs.FitLemmas.{merges_are_small}
use Rattle.store_laws.specs.Advances.{memory_of, MemoryFits, KeepsState}
use Rattle.buffer_pool.specs.Pools.{PoolView}
use Rattle.store_laws.specs.Frames.{Frames}
use Rattle.page_frames.specs.Views.{frames_of}
use Rattle.page_frames.specs.declared.pages.Pages.{Pages}
use Rattle.page_frames.specs.Pages.{tables_in, frames_in}
use Rattle.page_frames.specs.Faulty.{FailsAsPage, NamesBadPage, FaultStands, StandsEver, StandsSurely, StandsThen, TellsFaults, TellsFaultsBy, TellsFaultsSurely, TellsFaultsThen}
use Rattle.page_frames.proofs.CompleteLemmas.{unread, unstopped}
use Rattle.page_frames.proofs.FaultyLemmas.{first_some, moved_fault, names_page, still_sound}
use Rattle.page_frames.proofs.UntouchedLemmas.{read_stands, unit_untouched, untouched_stands}

-- ---- what is known of the fault

-- less is known of it too
pub tells_as : {T : Type 0} (F G : Contents → Layout → ℕ → ℕ → ChipFault → Type 0) (old new : Pages)
    (result : Result T ChipFault) (told : Told)
    → ((x : Contents) (it : Layout) (u page : ℕ) (e : ChipFault) → F x it u page e → G x it u page e)
    → TellsFaultsBy F old result told new → TellsFaultsBy G old result told new
tells_as F G old new (Ok v) told weaker tells x there slots it state fits = tt
tells_as F G old new (Err e) told weaker tells x there slots it state fits = λ fine.
    let is = tells x there slots it state fits fine in
    record {
      unit = is.unit;
      page = is.page;
      low = is.low;
      few = is.few;
      bad = is.bad;
      names = is.names;
      found = weaker x it is.unit is.page e is.found;
    }

-- what is known over the contents after it
pub tells_ever : {T : Type 0} (old new : Pages) (result : Result T ChipFault) (before after : Told)
    → TellsFaultsThen old result before new after → TellsFaults old result before new after
tells_ever old new result before after tells =
    tells_as (λ x it. StandsThen (tables_in new) after) (λ x it. StandsEver x it (tables_in new) after)
    old new result before (λ x it u page e is. inr is) tells

-- with another pool, whose frames have the same
pub used_tells : {T : Type 0} (F : Contents → Layout → ℕ → ℕ → ChipFault → Type 0) (old new : Pages)
    (pool : PoolView) (result : Result T ChipFault) (told : Told) → frames_of pool ≡ frames_in old
    → TellsFaultsBy F (record old { pool = pool }) result told new → TellsFaultsBy F old result told new
used_tells F old new pool result told same tells x there slots it state fits =
    tells x there slots it state (subst (λ (frames : Frames).
    MemoryFits told.places (chart_of x) it (memory_of (tables_in old) frames slots) state) (sym same) fits)

-- ---- merges

-- what is wrong with a unit that is to be merged is what is wrong with a page of it
unit_names : (Finds : ℕ → ℕ → ChipFault → Type 0) (places : ℕ) (x : Contents) (it : Layout) (old : Pages)
    (after : Tables) (slots : SessionSlots) (state : State) (u : ℕ) (e : ChipFault) → u < it.count
    → MemoryFits places (chart_of x) it (memory_of (tables_in old) (frames_in old) slots) state
    → after.active ≡ (tables_in old).active
    → slice_index after.places.current u ≡ slice_index (tables_in old).places.current u
    → merge_fault x (tables_in old) (it.units u) u ≡ Some e
    → ((page : ℕ) → load_fault x it (among (tables_in old).active) u page ≡ Some e → Finds u page e)
    → NamesBadPage Finds x it after e
unit_names Finds places x it old after slots state u e low fits alike stays is finds =
    let t = tables_in old in
    let few = merges_are_small places (chart_of x) it t (frames_in old) slots state u fits low in
    let (page, below, found) = first_some (page_fault_from x (source_in it u)) 15 e
    (sym (merge_faults_are_of_the_unit x it t u fits.mirrors.status few) ∙ is) in
    let wrong = moved_fault x it (among t.active) u page e found in
    names_page Finds places x it t after u page e fits.mirrors low below alike stays wrong
    (finds page wrong)

-- the unit is untouched, so that it stands then
pub merge_tells : {T : Type 0} (u : ℕ) (old new : Pages) (result : Result T ChipFault)
    (before last : Told) → u < length old.parts.directory.current
    → (tables_in new).active ≡ (tables_in old).active
    → FailsAsMerge before.places (tables_in old) u result before
    → StaysInPlace before.places (tables_in old) u (tables_in new) result before
    → StaysUntouched (tables_in old) u (tables_in new) result before last
    → TellsFaultsThen old result before new last
merge_tells u old new (Ok v) before last low alike fails stays untouched x there slots it state fits = tt
merge_tells u old new (Err e) before last low alike fails stays untouched x there slots it state fits =
    λ fine.
    let unit : u < it.count = omega (arith, low, fits.mirrors.directory.units) in
    unit_names (StandsThen (tables_in new) last) before.places x it old (tables_in new) slots state u e unit
    fits alike (stays x there it fits.mirrors fine) (fails x there it fits.mirrors fine)
    (λ page wrong. untouched_stands x it (tables_in old) (tables_in new) u page e last unit alike wrong
    (untouched x there it fits.mirrors fine))

-- over the contents before
pub merge_tells_surely : {T : Type 0} (u : ℕ) (old new : Pages) (result : Result T ChipFault)
    (before last : Told) → u < length old.parts.directory.current
    → (tables_in new).active ≡ (tables_in old).active
    → FailsAsMerge before.places (tables_in old) u result before
    → StaysInPlace before.places (tables_in old) u (tables_in new) result before
    → TellsFaultsSurely old result before new last
merge_tells_surely u old new (Ok v) before last low alike fails stays x there slots it state fits = tt
merge_tells_surely u old new (Err e) before last low alike fails stays x there slots it state fits =
    λ fine.
    let unit : u < it.count = omega (arith, low, fits.mirrors.directory.units) in
    unit_names (StandsSurely x it (tables_in new) last) before.places x it old (tables_in new) slots state u e
    unit fits alike (stays x there it fits.mirrors fine) (fails x there it fits.mirrors fine)
    (λ page wrong. inl (ap (λ (l : List ℕ). load_fault x it (among l) u page) alike ∙ wrong))

-- where it fails the tables mirror the same layout
pub merge_in_place : (places u : ℕ) (t after : Tables) (result : Result (Unit {0}) ChipFault)
    (old new : Told) → u < length t.places.current
    → ChartsThroughout (λ done. Merges places u t after) (StaysMirrored places t after) result old new
    → StaysInPlace places t u after result old
merge_in_place places u t after (Ok v) old new low tells x told it mirrors = tt
merge_in_place places u t after (Err e) old new low tells x told it mirrors = λ fine.
    let (y, there, still) = tells (unstopped e fine) x told in
    let below : u < it.count = omega (arith, low, mirrors.directory.units) in
    (still it mirrors).0.directory.current u below ∙ sym (mirrors.directory.current u below)

-- what a merge leaves of this
pub record MovesMerged (u place : ℕ) (old new : Pages) (result : Result (Unit {0}) ChipFault)
    (before after : Told) : Type 0 where
  pub active : (tables_in new).active ≡ (tables_in old).active
  pub sized : after.places ≡ before.places
  pub fault : TellsMergeFault before.places (tables_in old) u result before
  pub tells : ChartsThroughout (λ done. Merges before.places u (tables_in old) (tables_in new))
      (StaysMirrored before.places (tables_in old) (tables_in new)) result before after
  pub costs : Spends (ErasesFor (tables_in old).places (tables_in new).places 3 place (is_ok result)
      (is_worn_out result)) before after

pub merged_tells : (u place : ℕ) (old new : Pages) (result : Result (Unit {0}) ChipFault)
    (before after : Told) → IsConsistent before → IsConsistent after
    → KnowsPlaces before.places (tables_in old) → u < length old.parts.directory.current
    → MovesMerged u place old new result before after → TellsFaultsThen old result before new after
merged_tells u place old new result before after was is known low did =
    let t = tables_in old in
    merge_tells u old new result before after low did.active
    (merge_fails_so before.places t u result before did.fault)
    (merge_in_place before.places u t (tables_in new) result before after low did.tells)
    (unit_untouched t (tables_in new) 3 u (is_worn_out result) result before after was is did.sized
    (homes_used before.places t known) low
    (spends_weaker (ErasesFor t.places (tables_in new).places 3 place (is_ok result) (is_worn_out result))
    (ErasesFree t.places (tables_in new).places 3 (is_worn_out result)) before after
    (λ added does. does.erases) did.costs) (failed_stays result did.tells))
  where
    failed_stays : (r : Result (Unit {0}) ChipFault)
        → ChartsThroughout (λ done. Merges before.places u (tables_in old) (tables_in new))
        (StaysMirrored before.places (tables_in old) (tables_in new)) r before after
        → IfErr r (λ e. e ≢ Stopped
        → Charts (StaysMirrored before.places (tables_in old) (tables_in new)) before after)
    failed_stays (Ok v) tells = tt
    failed_stays (Err e) tells = tells

pub merged_tells_surely : (u place : ℕ) (old new : Pages) (result : Result (Unit {0}) ChipFault)
    (before after : Told) → u < length old.parts.directory.current
    → MovesMerged u place old new result before after → TellsFaultsSurely old result before new after
merged_tells_surely u place old new result before after low did =
    merge_tells_surely u old new result before after low did.active
    (merge_fails_so before.places (tables_in old) u result before did.fault)
    (merge_in_place before.places u (tables_in old) (tables_in new) result before after low did.tells)

-- over the contents before a renewal
pub renew_tells : (old new : Pages) (result : Result (Unit {0}) ChipFault) (before after : Told)
    → (tables_in new).active ≡ (tables_in old).active
    → RenewalFailsInPlace before.places (tables_in old) (tables_in new) result before
    → TellsFaults old result before new after
renew_tells old new (Ok v) before after alike fails x there slots it state fits = tt
renew_tells old new (Err e) before after alike fails x there slots it state fits = λ fine.
    let here = fails x there it fits.mirrors fine in
    let u = here.is.unit in
    unit_names (StandsEver x it (tables_in new) after) before.places x it old (tables_in new) slots state u e
    here.is.low fits alike (here.stays ∙ sym (fits.mirrors.directory.current u here.is.low)) here.is.fault
    (λ page wrong. inl (ap (λ (l : List ℕ). load_fault x it (among l) u page) alike ∙ wrong))

-- ---- loads

fault_read : {T : Type 0} (fault : Option ChipFault) (result : Result T ChipFault)
    → TellsChipFault fault result → IfErr result (λ e. e ≢ ReadFault → fault ≡ Some e)
fault_read fault (Ok v) tells = tt
fault_read fault (Err e) tells = tells

pub load_exact : {T : Type 0} (t : Tables) (u page : ℕ) (result : Result T ChipFault) (told : Told)
    → OfTables told t.places t.overflow t.status
    (λ x it. TellsChipFault (load_fault x it (among t.active) u page) result)
    → FailsAsPage t u page result told
load_exact t u page result told tells x there it mirrors =
    fault_read (load_fault x it (among t.active) u page) result (tells x there it t (record {
      mirrored = record { mirrors = mirrors; directory_is = refl; overflow_is = refl };
      status_is = refl;
    }))

pub loaded_stands : {T : Type 0} (u page : ℕ) (old new : Pages) (result : Result T ChipFault)
    (before after : Told) → u < length old.parts.directory.current → page < 15
    → tables_in new ≡ tables_in old → after.places ≡ before.places → after.contents ≡ before.contents
    → FailsAsPage (tables_in old) u page result before
    → TellsFaultsBy (λ x it. FaultStands (tables_in new) after) old result before new
loaded_stands u page old new (Ok v) before after low few same sized kept fails x there slots it state fits =
    tt
loaded_stands u page old new (Err e) before after low few same sized kept fails x there slots it state fits =
    λ fine.
    let t = tables_in old in
    let unit : u < it.count = omega (arith, low, fits.mirrors.directory.units) in
    let wrong = fails x there it fits.mirrors (unread e fine) in
    names_page (FaultStands (tables_in new) after) before.places x it t (tables_in new) u page e fits.mirrors unit
    few (ap (λ (w : Tables). w.active) same) (ap (λ (w : Tables). slice_index w.places.current u) same)
    wrong (read_stands x it t (tables_in new) u page e before after unit same fits.mirrors sized kept there
    wrong)

-- whether the chip tells its story or not
pub stands_then : {T : Type 0} (old new : Pages) (result : Result T ChipFault) (before after : Told)
    → TellsFaultsBy (λ x it. FaultStands (tables_in new) after) old result before new
    → TellsFaultsThen old result before new after
stands_then old new result before after tells =
    tells_as (λ x it. FaultStands (tables_in new) after) (λ x it. StandsThen (tables_in new) after) old new result
    before (λ x it u page e is story. is) tells

pub stands_surely : {T : Type 0} (old new : Pages) (result : Result T ChipFault) (before after : Told)
    → TellsFaultsBy (λ x it. FaultStands (tables_in new) after) old result before new
    → TellsFaultsSurely old result before new after
stands_surely old new result before after tells =
    tells_as (λ x it. FaultStands (tables_in new) after) (λ x it. StandsSurely x it (tables_in new) after) old new
    result before (λ x it u page e is. inr is) tells

-- ---- calls of the chip

pub alone_tells : {T : Type 0} (old new : Pages) (result : Result T ChipFault) (before after : Told)
    → FailsByChipAlone result → TellsFaultsThen old result before new after
alone_tells old new (Ok v) before after alone x there slots it state fits = tt
alone_tells old new (Err e) before after alone x there slots it state fits = λ fine.
    absurd (fine alone)

-- ---- two calls

-- after one that keeps each state and was done: a page without a fault has none still, with the same
-- sessions open
pub tells_then : {T : Type 0} (F : ℕ → ℕ → ChipFault → Type 0) (first between last : Pages)
    (result : Result T ChipFault) (old mid : Told) → mid.places ≡ old.places → (tables_in last).active ≡ (tables_in between).active
    → KeepsState {T = Unit {0}} {E = ChipFault} (tables_in first) (frames_in first) old (Ok tt)
    (tables_in between) (frames_in between) mid
    → TellsFaultsBy (λ x it. F) between result mid last → TellsFaultsBy (λ x it. F) first result old last
tells_then F first between last (Ok v) old mid sized alike keeps tells x there slots it state fits = tt
tells_then F first between last (Err e) old mid sized alike keeps tells x there slots it state fits =
    λ fine.
    let memory = memory_of (tables_in first) (frames_in first) slots in
    let after = memory_of (tables_in between) (frames_in between) slots in
    let (y, now, had) = (keeps slots).fits old.places refl tt x there in
    let on = had it state fits in
    let is = tells y now slots on.layout state
    (subst (λ (n : ℕ). MemoryFits n (chart_of y) on.layout after state) (sym sized) on.fits) fine in
    let low : is.unit < it.count = omega (arith, is.low, on.shows.count) in
    record {
      unit = is.unit;
      page = is.page;
      low = low;
      few = is.few;
      bad = λ none. is.bad (subst (λ (l : List ℕ). load_fault y on.layout (among l) is.unit is.page ≡ None)
          (sym alike) (still_sound old.places x y it on.layout memory after state is.unit is.page
          low is.few (λ s held. had it s held) fits on.fits.mirrors
          (subst (λ (l : List ℕ). load_fault x it (among l) is.unit is.page ≡ None) alike none)));
      names = is.names;
      found = is.found;
    }
