-- Laws of the places that the tables know.
use Rattle.std.specs.Prelude.{ℕ, ◌<◌, List, length}
use Rattle.ipl_base.specs.declared.limits.TheConstants.{OVERFLOW_PLACES}
use Rattle.ipl_meaning.specs.Mirrors.{NoneIsLost}
use Rattle.ipl_meaning.specs.Tables.{IsFree, Tables}
use Rattle.ipl_meaning.specs.TableSteps.{IsMoved, taken, with_next, with_overflow}
use Rattle.unit_directory.specs.Free.{AreNext, IsReadyToTake, aside}
use Rattle.place_taking.specs.Takes.{with_places}
use Rattle.selective_merge.specs.Known.{KnowsPlaces}

-- a place may be taken, however many are worn
abbrev pub KnownPlacesAreReady : Type 0
KnownPlacesAreReady = (places : ℕ) (t : Tables) → KnowsPlaces places t → IsReadyToTake t.places

-- places that are found worn, each the next free one in its turn, may be set aside
abbrev pub KnownPlacesMayBeAside : Type 0
KnownPlacesMayBeAside = (places : ℕ) (t : Tables) (worn : List ℕ) → KnowsPlaces places t
    → AreNext t.places worn → KnowsPlaces places (with_places t (aside t.places worn))

-- a unit may move to a place that was free, where no place is lost by it
abbrev pub KnownPlacesMove : Type 0
KnownPlacesMove =
    (places : ℕ) (t after : Tables) (u p used next : ℕ) → KnowsPlaces places t
    → u < length t.places.current → p < places → IsFree t.places p
    → IsMoved (with_next (taken t p) next) after u p used → NoneIsLost places after
    → KnowsPlaces places after

-- and such a place may become an overflow place
abbrev pub KnownPlacesTakeOverflows : Type 0
KnownPlacesTakeOverflows =
    (places : ℕ) (t : Tables) (p next : ℕ) → KnowsPlaces places t
    → p < places → IsFree t.places p → length t.overflow.in_use < OVERFLOW_PLACES
    → KnowsPlaces places (with_overflow (taken t p) p next)
