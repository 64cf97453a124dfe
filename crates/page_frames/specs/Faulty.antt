-- Which fault calls on pages tell, where a page doesn't read well.
use Rattle.std.specs.Prelude.{ℕ, ◌≡◌, ◌≢◌, ◌⊎◌, ◌<◌, slice_index, Some, None, Result, IfErr}
use Rattle.ipl_base.specs.declared.limits.TheConstants.{PAGES, PAGE_SECTORS}
use Rattle.chip_trait.specs.Story.{Contents}
use Rattle.chip_trait.specs.Told.{History, Told}
use Rattle.ipl_base.specs.Calls.{IsFailedCall}
use Rattle.ipl_base.specs.declared.fault.ChipFault.{ChipFault}
use Rattle.ipl_base.specs.declared.fault.ChipFault.TheVariants.{ReadFault, Stopped, Damaged, Malformed, WornOut}
use Rattle.ipl_model.specs.State.{State}
use Rattle.record_locks.specs.Held.{SessionSlots}
use Rattle.ipl_meaning.specs.Chart.{chart_of}
use Rattle.ipl_meaning.specs.Layout.{Layout}
use Rattle.ipl_meaning.specs.Mirrors.{Mirrors}
use Rattle.ipl_meaning.specs.Tables.{Tables}
use Rattle.number_set.specs.Numbers.{among}
use Rattle.unit_io.specs.Reads.{OfContents}
use Rattle.unit_io.specs.Spots.{IsPieceSpot}
use Rattle.page_rebuild.specs.Loaded.{load_fault}
use Rattle.store_laws.specs.Advances.{memory_of, MemoryFits}
use Rattle.page_frames.specs.declared.pages.Pages.{Pages}
use Rattle.page_frames.specs.Pages.{tables_in, frames_in}

-- ---- one page

-- The fault names a base sector of the page at this place, and where that is damaged its sums differ;
-- or it says that the place's header, sector 0, is malformed, where a page has no room for the values,
-- whichever pending changes become values.
abbrev pub IsOfPage : ℕ → ℕ → ChipFault → Type 0
IsOfPage place page ReadFault = ⊥
IsOfPage place page Stopped = ⊥
IsOfPage place page (Damaged p s stored computed) =
    (p ≡ place) × IsPieceSpot page PAGE_SECTORS s × (stored ≢ computed)
IsOfPage place page (Malformed p s) =
    (p ≡ place) × ((s ≡ 0) ⊎ IsPieceSpot page PAGE_SECTORS s)
IsOfPage place page (WornOut n) = ⊥

-- over contents that the tables mirror it fails exactly with what is wrong with the page, unless a
-- read failed
abbrev pub FailsAsPage : {T : Type 0} → Tables → ℕ → ℕ → Result T ChipFault → Told → Type 0
FailsAsPage t u page result told = OfContents told (λ x. (it : Layout)
    → Mirrors told.places (chart_of x) it t
    → IfErr result (λ e. e ≢ ReadFault → load_fault x it (among t.active) u page ≡ Some e))

-- ---- what stands on the chip

-- the chip tells its story
abbrev pub TellsStory : Told → Type 0
TellsStory told = (h : History) × (told.history ≡ Some h)

-- over what the chip holds, in whatever layout the tables mirror it, this is what is wrong with the
-- page
abbrev pub FaultStands : Tables → Told → ℕ → ℕ → ChipFault → Type 0
FaultStands t told u page e = OfContents told (λ y. (it : Layout)
    → Mirrors told.places (chart_of y) it t → load_fault y it (among t.active) u page ≡ Some e)

-- so it is over what the chip holds after the call, where that tells its story
abbrev pub StandsThen : Tables → Told → ℕ → ℕ → ChipFault → Type 0
StandsThen after told u page e = TellsStory told → FaultStands after told u page e

-- over the contents before, with the sessions that are open then, or over those after the call
abbrev pub StandsEver : Contents → Layout → Tables → Told → ℕ → ℕ → ChipFault → Type 0
StandsEver x it after told u page e =
    (load_fault x it (among after.active) u page ≡ Some e) ⊎ StandsThen after told u page e

-- the same, whether the chip tells its story or not
abbrev pub StandsSurely : Contents → Layout → Tables → Told → ℕ → ℕ → ChipFault → Type 0
StandsSurely x it after told u page e =
    (load_fault x it (among after.active) u page ≡ Some e) ⊎ FaultStands after told u page e

-- ---- any page

-- A page that didn't read well or had no room for its values, with what is pending of the sessions
-- that are open then. The fault is of it, at the place where the tables then have its unit, and this
-- is so of the page and of the fault.
pub record NamesBadPage (Finds : ℕ → ℕ → ChipFault → Type 0) (x : Contents) (it : Layout)
    (after : Tables) (e : ChipFault) : Type 0 where
  pub unit : ℕ
  pub page : ℕ
  pub low : unit < it.count
  pub few : page < PAGES
  pub bad : load_fault x it (among after.active) unit page ≢ None
  pub names : IsOfPage (slice_index after.places.current unit) page e
  pub found : Finds unit page e

-- the fault is of such a page, unless a call of the chip failed
abbrev pub FailsByPage : (ℕ → ℕ → ChipFault → Type 0) → Contents → Layout → Tables → ChipFault → Type 0
FailsByPage Finds x it after e = ¬ IsFailedCall e → NamesBadPage Finds x it after e

-- Where the chip tells what it holds, and that with the tables, the frames and whatever sessions
-- stands for a state, the call fails by a page that didn't read well or had no room for its values with
-- what is pending, or where a call of the chip failed. Nothing is asked of what the pages say.
abbrev pub TellsFaultsBy : {T : Type 0} → (Contents → Layout → ℕ → ℕ → ChipFault → Type 0)
    → Pages → Result T ChipFault → Told → Pages → Type 0
TellsFaultsBy Finds old result told new = OfContents told (λ x. (slots : SessionSlots) (it : Layout)
    (state : State) → MemoryFits told.places (chart_of x) it
    (memory_of (tables_in old) (frames_in old) slots) state
    → IfErr result (FailsByPage (Finds x it) x it (tables_in new)))

-- the fault is exactly what is wrong with that page over what the chip holds before the call or after
-- it
abbrev pub TellsFaults : {T : Type 0} → Pages → Result T ChipFault → Told → Pages → Told → Type 0
TellsFaults old result before new after = TellsFaultsBy (λ x it. StandsEver x it (tables_in new) after)
    old result before new

-- the same, whether the chip tells its story or not
abbrev pub TellsFaultsSurely : {T : Type 0} → Pages → Result T ChipFault → Told → Pages → Told → Type 0
TellsFaultsSurely old result before new after =
    TellsFaultsBy (λ x it. StandsSurely x it (tables_in new) after) old result before new

-- and so over what it holds after it, where nothing was written behind what failed
abbrev pub TellsFaultsThen : {T : Type 0} → Pages → Result T ChipFault → Told → Pages → Told → Type 0
TellsFaultsThen old result before new after =
    TellsFaultsBy (λ x it. StandsThen (tables_in new) after) old result before new
