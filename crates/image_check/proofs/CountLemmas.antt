-- Records are counted page by page, and unit by unit.
use Rattle.std.proofs.Common.{◌≡◌, ◌≢◌, ◌<◌, ◌≤◌, ◌+◌, ℕ, Bool, List, [], Option, Some, None, is_some, slice_index, Result, Ok, Err, inl, inr, refl, sym, ◌∙◌, ap, subst, arith}
use Rattle.std.specs.Prelude.{IfErr, length}
use Rattle.std.specs.Result.{IsErrAnd}
use Rattle.ipl_base.specs.declared.fault.ChipFault.{ChipFault}
use Rattle.ipl_base.specs.declared.fault.ChipFault.TheVariants.{ReadFault, Stopped, Damaged, Malformed, WornOut}
use Rattle.ipl_base.specs.First.{first_below}
use Rattle.ipl_base.proofs.FirstLemmas.{first_step, first_found}
use Rattle.chip_trait.specs.Story.{Contents}
use Rattle.chip_trait.specs.Told.{Told, Counts}
use Rattle.ipl_format.specs.Page.{value_in}
use Rattle.ipl_meaning.specs.Chart.{Chart, chart_of}
use Rattle.ipl_meaning.specs.Layout.{Layout}
use Rattle.ipl_meaning.specs.Tables.{Places, OverflowLists, StatusTable, Tables}
use Rattle.number_set.specs.Numbers.{among}
use Rattle.ipl_meaning.specs.First.{count_below}
use Rattle.unit_io.specs.Faults.{IsPageCause}
use Rattle.unit_io.specs.ReadsAt.{Anywhere, ReadsAt, IsCauseAt}
use Rattle.unit_io.proofs.ReadsAtLemmas.{at_wider}
use Rattle.unit_log.specs.declared.live.UnitHead.{UnitHead}
use Rattle.unit_log.specs.declared.scratch.LogSector.{LogSector}
use Rattle.unit_log.specs.Live.{MatchesLayout}
use Rattle.page_ops.specs.Frames.{FrameView, values_in}
use Rattle.page_rebuild.specs.Loaded.{IsLoaded, AreTables, IsReadWhole, IsRebuildCause}
use Rattle.page_rebuild.proofs.ReadLemmas.{within, home_is}
use Rattle.page_rebuild.proofs.LoadedLemmas.{loaded_slot, numbers_are}
use Rattle.image_check.specs.Checked.{IsReadingCause, TellsRecords, records_on, total_below}
use Rattle.image_check.proofs.SumLemmas.{count_same, total_step}

-- ---- causes

pub reading_then : (old mid new : Told) (e : ChipFault) → Counts old mid → IsReadingCause e mid new
    → IsReadingCause e old new
reading_then old mid new ReadFault counts cause = omega (arith, counts.reads, cause)
reading_then old mid new Stopped counts cause = absurd cause
reading_then old mid new (Damaged p s stored computed) counts cause = cause
reading_then old mid new (Malformed p s) counts cause = tt
reading_then old mid new (WornOut n) counts cause = absurd cause

page_reads_so : (old new : Told) (place page : ℕ) (e : ChipFault) → IsPageCause place page e old new
    → IsReadingCause e old new
page_reads_so old new place page ReadFault cause = cause
page_reads_so old new place page Stopped cause = absurd cause
page_reads_so old new place page (Damaged p s stored computed) cause = cause.2
page_reads_so old new place page (Malformed p s) cause = tt
page_reads_so old new place page (WornOut n) cause = absurd cause

pub rebuild_reads : (old new : Told) (place page : ℕ) (e : ChipFault) → IsRebuildCause place page e old new
    → IsReadingCause e old new
rebuild_reads old new place page e (inl base) = page_reads_so old new place page e base
rebuild_reads old new place page e (inr is) =
    subst (λ (f : ChipFault). IsReadingCause f old new) (sym is) tt

pub log_reads : (At : ℕ → ℕ → Type 0) (old new : Told) (e : ChipFault) → IsCauseAt At e old new
    → IsReadingCause e old new
log_reads At old new ReadFault cause = cause
log_reads At old new Stopped cause = absurd cause
log_reads At old new (Damaged p s stored computed) cause = absurd cause
log_reads At old new (Malformed p s) cause = tt
log_reads At old new (WornOut n) cause = absurd cause

-- a cause is handed on, after other reads
pub cause_exit : {T : Type 0} (old mid new : Told) (e : ChipFault) (r : Result T ChipFault)
    → IsErrAnd r (λ y. y ≡ e) → Counts old mid → IsReadingCause e mid new
    → IfErr r (λ y. IsReadingCause y old new)
cause_exit old mid new e (Ok v) exit counts cause = tt
cause_exit old mid new e (Err y) exit counts cause =
    reading_then old mid new y counts (subst (λ (f : ChipFault). IsReadingCause f mid new) (sym exit) cause)

-- ---- faults

pub tells_exit : (e : ChipFault) (fault : Option ChipFault) (records : ℕ) (r : Result ℕ ChipFault)
    → IsErrAnd r (λ y. y ≡ e) → (e ≢ ReadFault → fault ≡ Some e) → TellsRecords fault records r
tells_exit e fault records (Ok v) exit told = absurd exit
tells_exit e fault records (Err y) exit told = λ other.
    told (λ same. other (exit ∙ same)) ∙ ap (λ (f : ChipFault). Some f) (sym exit)

-- a read that failed tells nothing of what the chip holds
pub read_exit : (e : ChipFault) (fault : Option ChipFault) (records : ℕ) (r : Result ℕ ChipFault)
    → IsErrAnd r (λ y. y ≡ e) → e ≡ ReadFault → TellsRecords fault records r
read_exit e fault records r exit is = tells_exit e fault records r exit (λ other. absurd (other is))

-- none before, and none here
pub none_more : (f : ℕ → Option ChipFault) (k : ℕ) → first_below f k ≡ None → f k ≡ None
    → first_below f (k + 1) ≡ None
none_more f k before here = first_step f k ∙ rw (before, here) refl

-- ---- a page that was loaded

pub loaded_count : (x : Contents) (it : Layout) (u page : ℕ) (f : FrameView)
    → IsLoaded (chart_of x) it (among []) u page f
    → count_below (λ slot. is_some (value_in f.page slot)) 64 ≡ records_on x it u page
loaded_count x it u page f is =
    count_same (λ slot. is_some (value_in f.page slot)) _ 64 (λ slot less.
    ap (λ (o : Option (List ℕ)). is_some o)
    (is.shows.says slot less ∙ sym (loaded_slot x it u page is.shows.base is.shows.reads slot less)))

-- ---- a unit that was read

pub whole_by : {places u : ℕ} {c : Chart} {it : Layout} {t : Tables} {directory : Places}
    {overflow : OverflowLists} {status : StatusTable} {head : UnitHead} {kept : List LogSector}
    → AreTables places c it t directory overflow status → u < length directory.current
    → MatchesLayout it u head kept → IsReadWhole places c it (slice_index directory.current u) u head kept status
whole_by are low live = record {
  laid = are.mirrored.mirrors.laid;
  within = within are low;
  place_is = home_is are low;
  live = live;
  numbers = numbers_are are;
}

pub units_are : {places : ℕ} {c : Chart} {it : Layout} {t : Tables} {directory : Places} {overflow : OverflowLists}
    {status : StatusTable} → AreTables places c it t directory overflow status → length directory.current ≡ it.count
units_are are =
    ap (λ (d : Places). length d.current) (sym are.mirrored.directory_is) ∙ are.mirrored.mirrors.directory.units

-- the chip has as many places after reads
pub tables_then : {old new : Told} {c : Chart} {it : Layout} {t : Tables} {directory : Places} {overflow : OverflowLists}
    {status : StatusTable} → Counts old new → AreTables old.places c it t directory overflow status
    → AreTables new.places c it t directory overflow status
tables_then {c = c} {it = it} {t = t} {directory = directory} {overflow = overflow} {status = status} counts are =
    subst (λ (n : ℕ). AreTables n c it t directory overflow status) (sym counts.places) are

-- what a call tells of its cause, after other reads
pub handed_cause : {T : Type 0} (old mid new : Told) (r : Result T ChipFault) → Counts old mid
    → IfErr r (λ y. IsReadingCause y mid new) → IfErr r (λ y. IsReadingCause y old new)
handed_cause old mid new (Ok v) counts cause = tt
handed_cause old mid new (Err e) counts cause = reading_then old mid new e counts cause

-- and the unit stands at this place
pub whole_then : {old new : Told} {c : Chart} {it : Layout} {place here u : ℕ} {head : UnitHead} {kept : List LogSector}
    {status : StatusTable} → Counts old new → here ≡ place → IsReadWhole old.places c it place u head kept status
    → IsReadWhole new.places c it here u head kept status
whole_then {new = new} {c = c} {it = it} {place = place} {u = u} {head = head} {kept = kept} {status = status} counts same whole =
    subst (λ (p : ℕ). IsReadWhole new.places c it p u head kept status) (sym same)
    (subst (λ (n : ℕ). IsReadWhole n c it place u head kept status) (sym counts.places) whole)
