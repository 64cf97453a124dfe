-- What is wrong with a unit that is to be merged, and why a merge fails.
use Rattle.std.specs.Prelude.{ℕ, ◌≡◌, ◌<◌, ◌≤◌, nat_le, Bool, slice_index, Option, Some, None, Result, MatchResult, IfErr, if◌then◌else◌}
use Rattle.std.specs.Option.{option_or}
use Rattle.ipl_base.specs.declared.limits.TheConstants.{PAGES, CARRIED_SECTORS}
use Rattle.chip_trait.specs.Story.{Contents}
use Rattle.ipl_base.specs.First.{first_below}
use Rattle.ipl_base.specs.declared.fault.ChipFault.{ChipFault}
use Rattle.ipl_base.specs.declared.fault.ChipFault.TheVariants.{Malformed}
use Rattle.ipl_base.specs.Calls.{IsFailedCall}
use Rattle.ipl_meaning.specs.Chart.{Chart, chart_of}
use Rattle.ipl_meaning.specs.Last.{carried_count}
use Rattle.ipl_meaning.specs.Layout.{Shape, Layout}
use Rattle.ipl_meaning.specs.Stands.{Shows}
use Rattle.ipl_meaning.specs.Tables.{Tables}
use Rattle.ipl_meaning.specs.Values.{Values}
use Rattle.unit_io.specs.Faults.{page_fault, text_below}
use Rattle.page_ops.specs.Rebuilt.{values_of, with_records, full_fault}
use Rattle.selective_merge.specs.Merged.{source_of, source_in}
use Rattle.selective_merge.specs.Moved.{Source}
use Rattle.selective_merge.specs.Packs.{among}

-- ---- a unit

-- the values that a page has once it is moved: what its text says, with the records of committed
-- numbers done to it
abbrev pub moved_values : Contents → Source → ℕ → Values
moved_values x from page = with_records from.committed page from.records
    (values_of from.version (text_below (chart_of x) from.place page (slice_index from.pieces page)))

-- what is wrong with a page where it is moved from: one of its base sectors; or where none is, that
-- these values are more than a page holds
abbrev pub page_fault_from : Contents → Source → ℕ → Option ChipFault
page_fault_from x from page = option_or
    (page_fault x from.place from.version from.unit from.generation page
    (slice_index from.pieces page))
    (full_fault from.place (moved_values x from page))

-- what is wrong with the first such page
abbrev pub pages_fault : Contents → Source → Option ChipFault
pages_fault x from = first_below (page_fault_from x from) PAGES

-- the same of a unit as it is laid out, whatever tables there are
abbrev pub unit_fault : Contents → Layout → ℕ → Option ChipFault
unit_fault x it u = pages_fault x (source_in it u)

-- what is wrong where so many log sectors would be carried: more than 12, or a page
abbrev pub fault_with : Contents → Source → ℕ → Option ChipFault
fault_with x from carried =
    if nat_le carried CARRIED_SECTORS then pages_fault x from else Some (Malformed from.place 0)

-- what is wrong with a unit that is laid out so, where these tables are
abbrev pub merge_fault : Contents → Tables → Shape → ℕ → Option ChipFault
merge_fault x t it u = fault_with x (source_of t it u) (carried_count (among t.active) it.log)

-- its pages show values for which a page has room, where these numbers are committed; and at most 12
-- log sectors would be carried
pub record IsMergeable (c : Chart) (committed : ℕ → Bool) (t : Tables) (it : Shape) (u : ℕ)
    : Type 0 where
  pub pages : (page : ℕ) → page < PAGES → (now : Values) × Shows c committed u it page now
  pub few : carried_count (among t.active) it.log ≤ CARRIED_SECTORS

-- ---- an answer

-- the one fault is the other, unless a call of the chip failed
abbrev pub IsTheFault : Option ChipFault → ChipFault → Type 0
IsTheFault fault e = ¬ IsFailedCall e → fault ≡ Some e

-- it tells this fault, or that there is none; unless a call of the chip failed
abbrev pub TellsTheFault : {T : Type 0} → Option ChipFault → Result T ChipFault → Type 0
TellsTheFault fault result = MatchResult result (λ _. fault ≡ None) (IsTheFault fault)

-- it fails only where a call of the chip failed
abbrev pub FailsByChipAlone : {T : Type 0} → Result T ChipFault → Type 0
FailsByChipAlone result = IfErr result IsFailedCall
