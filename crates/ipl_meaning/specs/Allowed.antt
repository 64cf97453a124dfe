-- Which sectors a page may be rebuilt from.
use Rattle.std.specs.Prelude.{ℕ, ◌≡◌, ◌⊎◌, ◌<◌, true, slice_index, Contains}
use Rattle.ipl_format.specs.Place.{base_sector_of}
use Rattle.ipl_meaning.specs.Layout.{Entry, Shape, Layout}
use Rattle.ipl_meaning.specs.Masks.{is_of_page}

-- one of the page's base sectors
abbrev pub IsBaseSpot : Shape → ℕ → ℕ → Type 0
IsBaseSpot it page s = (i : ℕ) × (i < slice_index it.pieces page) × (s ≡ base_sector_of page i)

-- a live log sector of the unit that has a record of the page
pub record HasRecordOf (it : Shape) (page p s : ℕ) : Type 0 where
  pub entry : Entry
  pub has : Contains it.log entry
  pub place : entry.place ≡ p
  pub number : entry.number ≡ s
  pub of_page : is_of_page page entry ≡ true

-- at the unit's home the header and the base sectors of the page; there or elsewhere the live log sectors that have a record
-- of it
abbrev pub IsAllowed : Layout → ℕ → ℕ → ℕ → ℕ → Type 0
IsAllowed it u page p s =
    ((p ≡ (it.units u).home) × ((s ≡ 0) ⊎ IsBaseSpot (it.units u) page s))
    ⊎ HasRecordOf (it.units u) page p s
