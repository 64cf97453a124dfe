-- Calls over contents that stand for a state fail only where a call of the chip failed.
use Rattle.std.proofs.Common.{◌≡◌, ◌≢◌, ◌≤◌, ◌<◌, ℕ, Bool, false, [], length, Option, None, Result, Ok, Err, IfErr, refl, sym, subst, arith}
use Rattle.std.proofs.lemmas.Bool.{false≢true}
use Rattle.chip_trait.specs.Story.{Contents}
use Rattle.chip_trait.specs.Told.{Told}
use Rattle.ipl_base.specs.Calls.{IsFailedCall}
use Rattle.ipl_base.specs.declared.fault.ChipFault.{ChipFault}
use Rattle.ipl_base.specs.declared.fault.ChipFault.TheVariants.{ReadFault, Stopped}
use Rattle.ipl_base.specs.declared.limits.TheConstants.{PAGE_LEN}
use Rattle.ipl_model.specs.State.{State}
use Rattle.record_locks.specs.Held.{SessionSlots}
use Rattle.ipl_meaning.specs.Legible.{every, whole}
use Rattle.ipl_meaning.specs.Chart.{Chart, chart_of}
use Rattle.ipl_meaning.specs.Layout.{Layout}
use Rattle.ipl_meaning.specs.Stands.{Shows, Says, page_in}
use Rattle.ipl_meaning.specs.Tables.{Tables}
use Rattle.ipl_meaning.specs.Values.{Values}
use Rattle.unit_io.specs.Faults.{TellsChipFault}
use Rattle.selective_merge.specs.Faults.{IsMergeable, IsTheFault}
use Rattle.selective_merge.proofs.FaultLemmas.{said_units_are_mergeable, by_chip_alone}
use Rattle.selective_merge.specs.Merging.{CompletesMerge}
use Rattle.restart.specs.Passes.{CompletesRenewal}
use Rattle.number_set.specs.Numbers.{among}
use Rattle.page_ops.specs.Pending.{fill_by}
use Rattle.page_rebuild.specs.Loaded.{OfTables, loaded_pending, load_fault}
use Rattle.page_rebuild.proofs.LoadedLemmas.{sound_pages_show_values}
use Rattle.store_laws.specs.Frames.{Frames}
use Rattle.store_laws.proofs.FitLemmas.{merges_are_small}
use Rattle.store_laws.proofs.PendingRoomLemmas.{loaded_pages_fit}
use Rattle.store_laws.specs.Advances.{memory_of, MemoryFits, KeepsState}
use Rattle.store_laws.proofs.KeepLemmas.{says_next}
use Rattle.page_frames.specs.declared.pages.Pages.{Pages}
use Rattle.page_frames.specs.Pages.{tables_in, frames_in}
use Rattle.page_frames.specs.Complete.{FailsByChip, CompletesLoad}

-- ---- merges

-- where a state is stood for, each unit may be merged
all_mergeable : (places : ℕ) (c : Chart) (it : Layout) (t : Tables) (frames : Frames)
    (slots : SessionSlots) (state : State) (u : ℕ)
    → MemoryFits places c it (memory_of t frames slots) state → Says places c it (whole state.map)
    → u < it.count → IsMergeable c it.committed t (it.units u) u
all_mergeable places c it t frames slots state u fits says low =
    said_units_are_mergeable places c it (whole state.map) t u says low (λ page few. refl)
    (merges_are_small places c it t frames slots state u fits low)

pub merge_completes : {T : Type 0} (u : ℕ) (pages : Pages) (result : Result T ChipFault)
    (told : Told) → u < length pages.parts.directory.current
    → CompletesMerge told.places (tables_in pages) u result told → FailsByChip pages result told
merge_completes u pages result told low complete x there slots it state fits says =
    complete x there it fits.mirrors
    (all_mergeable told.places (chart_of x) it (tables_in pages) (frames_in pages) slots state u fits
    says (omega (arith, low, fits.mirrors.directory.units)))

pub renew_completes : (pages : Pages) (result : Result (Unit {0}) ChipFault) (told : Told)
    → CompletesRenewal told.places (tables_in pages) result told → FailsByChip pages result told
renew_completes pages result told complete x there slots it state fits says =
    complete x there it fits.mirrors (λ u. false)
    (λ u low other. all_mergeable told.places (chart_of x) it (tables_in pages) (frames_in pages) slots state u fits
    says low)
    ([], omega arith, λ u tid low one. absurd (false≢true one))

-- ---- loads

-- a page that shows something has no fault, where it has room for that with what is pending
pub no_load_fault : (x : Contents) (it : Layout) (active : ℕ → Bool) (u page : ℕ) (now : Values)
    → Shows (chart_of x) it.committed u (it.units u) page now
    → fill_by now (loaded_pending it active u page) ≤ PAGE_LEN → load_fault x it active u page ≡ None
no_load_fault x it active u page now shows room =
    (sound_pages_show_values x it active u page).1 (now, shows, room)

-- a fault that doesn't say that a call failed is none of a read, and none of a write
pub unread : (e : ChipFault) → ¬ IsFailedCall e → e ≢ ReadFault
unread e fine is = fine (subst IsFailedCall (sym is) tt)

pub unstopped : (e : ChipFault) → ¬ IsFailedCall e → e ≢ Stopped
unstopped e fine is = fine (subst IsFailedCall (sym is) tt)

fault_told : {T : Type 0} (fault : Option ChipFault) (result : Result T ChipFault)
    → TellsChipFault fault result → IfErr result (IsTheFault fault)
fault_told fault (Ok v) tells = tt
fault_told fault (Err e) tells = λ fine. tells (unread e fine)

pub load_completes : {T : Type 0} (t : Tables) (u page : ℕ) (result : Result T ChipFault)
    (told : Told)
    → OfTables told t.places t.overflow t.status
    (λ x it. TellsChipFault (load_fault x it (among t.active) u page) result)
    → CompletesLoad t u page result told
load_completes t u page result told tells x there it now mirrors shows room =
    let fault = load_fault x it (among t.active) u page in
    by_chip_alone fault result (no_load_fault x it (among t.active) u page now shows room)
    (fault_told fault result (tells x there it t (record {
      mirrored = record { mirrors = mirrors; directory_is = refl; overflow_is = refl };
      status_is = refl;
    })))

-- where a state is stood for, the page shows its values, and has room for what is pending
pub loaded_completes : {T : Type 0} (u page : ℕ) (pages : Pages) (result : Result T ChipFault)
    (told : Told) → u < length pages.parts.directory.current → page < 15
    → CompletesLoad (tables_in pages) u page result told → FailsByChip pages result told
loaded_completes u page pages result told low few complete x there slots it state fits says =
    let below : u < it.count = omega (arith, low, fits.mirrors.directory.units) in
    let values = page_in state.map u page in
    let shows = says.pages u page below few refl in
    complete x there it values fits.mirrors shows
    (loaded_pages_fit told.places (chart_of x) it (tables_in pages) (frames_in pages) slots state u page
    values fits below few shows)

-- ---- two calls

-- after one that keeps each state and was done, the state is stood for still
pub completes_then : {T : Type 0} (first between : Pages) (result : Result T ChipFault)
    (old mid : Told) → mid.places ≡ old.places
    → KeepsState {T = Unit {0}} {E = ChipFault} (tables_in first) (frames_in first) old (Ok tt)
    (tables_in between) (frames_in between) mid
    → FailsByChip between result mid → FailsByChip first result old
completes_then first between result old mid sized keeps complete x there slots it state fits says =
    let (y, now, had) = (keeps slots).fits old.places refl tt x there in
    let on = had it state fits in
    complete y now slots on.layout state
    (subst (λ (n : ℕ). MemoryFits n (chart_of y) on.layout
    (memory_of (tables_in between) (frames_in between) slots) state) (sym sized) on.fits)
    (subst (λ (n : ℕ). Says n (chart_of y) on.layout (whole state.map)) (sym sized)
    (says_next old.places every (chart_of x) (chart_of y) it on.layout state state on.shows says))
