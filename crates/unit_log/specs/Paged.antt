-- Which log sectors of a unit name a page, by the tables, and what is read of them.
use Rattle.std.specs.Prelude.{ℕ, ◌≡◌, ◌⊎◌, ◌≤◌, ◌-◌, List, [], ◌∷◌, ◌++◌, map, length, slice_index, Bool, if◌then◌else◌}
use Rattle.std.specs.List.{filter}
use Rattle.std.specs.Option.{option_map}
use Rattle.ipl_base.specs.declared.limits.TheConstants.{FIRST_LOG_SECTOR, LOG_SECTORS}
use Rattle.chip_trait.specs.Story.{Story}
use Rattle.chip_trait.specs.Told.{Told, adds_all}
use Rattle.ipl_meaning.specs.Layout.{Layout}
use Rattle.ipl_meaning.specs.Masks.{has_page, of_page}
use Rattle.ipl_meaning.specs.Tables.{Places, OverflowLists, masks_in}
use Rattle.overflow.specs.Lists.{spots_in, masks_at}
use Rattle.unit_log.specs.declared.live.UnitHead.{UnitHead}
use Rattle.unit_log.specs.Kept.{kept_of}
use Rattle.unit_log.specs.declared.scratch.LogSector.{LogSector}
use Rattle.unit_log.specs.Live.{spots_from}
use Rattle.unit_io.specs.ReadsAt.{IsAt}
use Rattle.unit_log.specs.Looks.{IsListed}

-- by these masks the log sector at the place names the page
abbrev pub names_at_home : ℕ → List ℕ → ℕ × ℕ → Bool
names_at_home page masks spot = has_page (slice_index masks (spot.1 - FIRST_LOG_SECTOR)) page

-- the log sectors of a place that do
abbrev pub home_with : ℕ → ℕ → List ℕ → List (ℕ × ℕ)
home_with page p masks = filter (names_at_home page masks) (spots_from p FIRST_LOG_SECTOR LOG_SECTORS)

-- of these spots those whose masks have the page
abbrev pub listed_with : ℕ → List (ℕ × ℕ) → List ℕ → List (ℕ × ℕ)
listed_with page [] masks = []
listed_with page (spot ∷ spots) [] = []
listed_with page (spot ∷ spots) (mask ∷ masks) =
    if has_page mask page then spot ∷ listed_with page spots masks else listed_with page spots masks

-- where the log sectors of the unit stand that name the page, by the tables
abbrev pub page_spots : Places → OverflowLists → ℕ → ℕ → List (ℕ × ℕ)
page_spots directory overflow u page =
    home_with page (slice_index directory.current u) (masks_in directory u)
    ++ listed_with page (spots_in overflow u) (masks_at overflow u)

-- the unit's header, and the log sectors that have a record of the page: what the layout says
pub record IsLiveOf (it : Layout) (u page : ℕ) (head : UnitHead) (kept : List LogSector) : Type 0 where
  pub version : head.version ≡ (it.units u).head.version
  pub generation : head.generation ≡ (it.units u).head.generation
  pub pieces : head.pieces ≡ (it.units u).pieces
  pub log : kept ≡ map kept_of (of_page page (it.units u).log)

-- where a page's log is read: the header of its unit, and these spots
abbrev pub IsPageLogRead : ℕ → List (ℕ × ℕ) → ℕ → ℕ → Type 0
IsPageLogRead home spots p s = IsAt home 0 p s ⊎ IsListed spots p s

-- at most so many events were added
abbrev pub AddsAtMost : ℕ → Told → Told → Type 0
AddsAtMost n old new = (added : Story) × (length added ≤ n) × (new.history ≡ option_map (adds_all added) old.history)
