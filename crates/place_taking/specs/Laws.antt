-- How what calls leave of worn places is told and joined.
use Rattle.std.specs.Prelude.{◌≡◌, Bool, true, false}
use Rattle.chip_trait.specs.Told.{Told}
use Rattle.ipl_meaning.specs.Chart.{Chart}
use Rattle.ipl_meaning.specs.Tables.{Tables, IsFree}
use Rattle.unit_io.specs.Charts.{Charts}
use Rattle.unit_io.specs.Costs.{Spends}
use Rattle.unit_io.specs.ReadsAt.{Anywhere, ReadsAt}
use Rattle.place_taking.specs.Counts.{KeepsCounts}
use Rattle.place_taking.specs.Homes.{KeepsHomes, LeavesPlaces}
use Rattle.place_taking.specs.Spending.{SparesUsed}
use Rattle.place_taking.specs.Wear.{TellsOfWear}

-- the same places are retired, each unit of which nothing is known stayed so, no count changed, what was free is so
-- still, and the status has the same place
pub record IsAlikeInWear (t after : Tables) : Type 0 where
  pub retired : after.places.retired ≡ t.places.retired
  pub homes : KeepsHomes t.places after.places
  pub counts : KeepsCounts t.places after.places
  pub status : after.status.place ≡ t.status.place

-- nothing was done
abbrev pub NothingWears : Type 0
NothingWears = (t after : Tables) (done : Bool) (old : Told)
    → IsAlikeInWear t after → TellsOfWear t after done false old old

-- or sectors were read
abbrev pub ReadsWearNothing : Type 0
ReadsWearNothing = (t after : Tables) (done : Bool) (old new : Told)
    → IsAlikeInWear t after → ReadsAt Anywhere old new → TellsOfWear t after done false old new

-- the first sector of the status place is as it was
abbrev pub KeepsFirst : Tables → Chart → Chart → Type 0
KeepsFirst t c y = y t.status.place 0 ≡ c t.status.place 0

-- what keeps the first sector of the status place, and finds nothing worn
abbrev pub ProgramsWearNothing : Type 0
ProgramsWearNothing = (t after : Tables) (done worn_out : Bool) (old new : Told)
    → IsAlikeInWear t after → Spends (LeavesPlaces t.places after.places worn_out) old new
    → (done ≡ true → Charts (KeepsFirst t) old new) → TellsOfWear t after done worn_out old new

-- what writes free places alone leaves the status place as it was
abbrev pub SparedPlacesWear : Type 0
SparedPlacesWear = (t after : Tables) (done worn_out : Bool) (old new : Told)
    → ¬ IsFree t.places t.status.place → after.status.place ≡ t.status.place
    → Spends (LeavesPlaces t.places after.places worn_out) old new
    → (done ≡ true → SparesUsed t.places old new) → TellsOfWear t after done worn_out old new

-- one call that was done, and then another
abbrev pub WearsAreJoined : Type 0
WearsAreJoined = (t between after : Tables) (done worn_out : Bool) (old mid new : Told)
    → TellsOfWear t between true false old mid → TellsOfWear between after done worn_out mid new
    → TellsOfWear t after done worn_out old new

-- a call that failed, and nothing else then
abbrev pub FailuresWear : Type 0
FailuresWear = (t after : Tables) (worn_out : Bool) (old new : Told)
    → Spends (LeavesPlaces t.places after.places worn_out) old new
    → TellsOfWear t after false worn_out old new
