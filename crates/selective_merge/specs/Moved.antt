-- Pages moved to another place, with the committed records applied.
use Rattle.std.specs.Prelude.{ℕ, ◌≡◌, ◌<◌, Bool, List, slice_index, None}
use Rattle.ipl_base.specs.declared.limits.TheConstants.{SLOTS, VERSION}
use Rattle.ipl_format.specs.Page.{Slots, IsPage, value_in}
use Rattle.ipl_format.specs.Record.{Record}
use Rattle.ipl_meaning.specs.Chart.{Chart}
use Rattle.ipl_meaning.specs.Steps.{SameBut}
use Rattle.ipl_meaning.specs.Values.{after_records}
use Rattle.unit_io.specs.Charts.{HasPageSectors}
use Rattle.unit_io.specs.Faults.{HoldsPage}
use Rattle.selective_merge.specs.Pages.{HasPages}

-- the slots have the values that the records of these numbers make of the base
abbrev pub IsRebased : (ℕ → Bool) → List Record → ℕ → Slots → Slots → Type 0
IsRebased committed records page base new = (slot : ℕ) → slot < SLOTS
    → value_in new slot ≡ after_records committed page slot records (value_in base slot)

-- where a unit is moved from: its place, its version and generation, and how many base sectors each
-- page has there; and the log records and committed numbers that are applied
pub record Source : Type 0 where
  pub place : ℕ
  pub version : ℕ
  pub unit : ℕ
  pub generation : ℕ
  pub pieces : List ℕ
  pub committed : ℕ → Bool
  pub records : List Record

-- the page read well there, and the slots have its values with the records applied
pub record IsMadeFrom (from : Source) (page : ℕ) (c : Chart) (new : Slots) : Type 0 where
  pub base : Slots
  pub held : HoldsPage c from.place from.version from.unit from.generation page
      (slice_index from.pieces page) base
  pub applied : IsRebased from.committed from.records page base new

-- the page stands at the new place under this generation, in so many base sectors
pub record MovesPage (from : Source) (p generation page n : ℕ) (c y : Chart) : Type 0 where
  pub new : Slots
  pub fits : IsPage VERSION new
  pub of : IsMadeFrom from page c new
  pub has : HasPageSectors p from.unit generation page new n c y

-- the first n pages stand there
pub record HasMoved (from : Source) (p generation : ℕ) (pieces : List ℕ) (n : ℕ)
    (c y : Chart) : Type 0 where
  pub slots : ℕ → Slots
  pub of : (page : ℕ) → page < n → IsMadeFrom from page c (slots page)
  pub has : HasPages p from.unit generation slots pieces n c y

-- the header of the place is as it was, and elsewhere the chart is
pub record IsAside (p : ℕ) (c y : Chart) : Type 0 where
  pub header : y p 0 ≡ c p 0
  pub others : SameBut p c y

-- the place has no header, and elsewhere the chart is as it was
pub record IsUnsealed (p : ℕ) (c y : Chart) : Type 0 where
  pub bare : y p 0 ≡ None
  pub others : SameBut p c y
