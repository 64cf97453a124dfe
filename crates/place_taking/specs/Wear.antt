-- What calls leave of worn places, which are retired and which the status header lists, and of units that were erased.
use Rattle.std.specs.Prelude.{ℕ, ◌≡◌, ◌⊎◌, Bool, true, Some, Contains}
use Rattle.chip_trait.specs.Told.{Told}
use Rattle.ipl_format.specs.Sector.{Sector}
use Rattle.ipl_meaning.specs.Chart.{Chart}
use Rattle.ipl_meaning.specs.Tables.{Tables}
use Rattle.unit_io.specs.Charts.{Charts}
use Rattle.unit_io.specs.Costs.{Spends}
use Rattle.unit_layout.specs.Retired.{retired_in}
use Rattle.place_taking.specs.Homes.{LeavesPlaces}

-- the header of the status place lists this place as retired
abbrev pub IsListedRetired : Tables → Chart → ℕ → Type 0
IsListedRetired t c p = (head : Sector) × (c t.status.place 0 ≡ Some head)
    × Contains (retired_in head.version head.payload) p

-- the header of the status place then lists no others than that before did, and what is retired then
abbrev pub ListsNoOther : Tables → Tables → Chart → Chart → Type 0
ListsNoOther t after c y = (p : ℕ) → IsListedRetired after y p
    → IsListedRetired t c p ⊎ Contains after.places.retired p

-- What a call leaves of worn places, whatever the chip tells. What was retired is so still, and what is
-- retired besides was found worn in it. A unit of which nothing is known then has the place that it had,
-- nothing was known of it, and no erase of that was tried. Each erase is of the next free place then, the least worn
-- one, and counted, and no count changes else. Done, over a chip that tells what it holds the
-- header of the status place lists what it listed, or places that are retired.
pub record TellsOfWear (t after : Tables) (done worn_out : Bool) (old new : Told) : Type 0 where
  pub places : Spends (LeavesPlaces t.places after.places worn_out) old new
  pub lists : done ≡ true → Charts (ListsNoOther t after) old new
