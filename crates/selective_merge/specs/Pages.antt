-- The pages of a unit at a place, one after another.
use Rattle.std.specs.Prelude.{ℕ, ◌≡◌, ◌<◌, ◌≤◌, ◌+◌, ◌*◌, List, slice_index, Some}
use Rattle.ipl_base.specs.declared.limits.TheConstants.{PAGE_SECTORS, VERSION}
use Rattle.ipl_format.specs.Page.{Slots, IsPage, IsCutInto, page_text}
use Rattle.ipl_format.specs.Place.{base_sector_of}
use Rattle.ipl_meaning.specs.Chart.{Chart}
use Rattle.ipl_meaning.specs.Layout.{base_sector}
use Rattle.unit_io.specs.Spots.{IsPieceSpot}

-- the spots of the base sectors of the first n pages
abbrev pub IsBaseSpotBelow : ℕ → ℕ → Type 0
IsBaseSpotBelow n s = (1 ≤ s) × (s < 1 + n * PAGE_SECTORS)

-- the spot of a piece of one of the first n pages, of which each has so many
pub record IsPieceBelow (pieces : List ℕ) (n s : ℕ) : Type 0 where
  pub page : ℕ
  pub low : page < n
  pub spot : IsPieceSpot page (slice_index pieces page) s

-- the first n pages stand there, in the version that is written and each in as many base sectors as
-- is said, and elsewhere the chart is as it was
pub record HasPages (p u generation : ℕ) (slots : ℕ → Slots) (pieces : List ℕ) (n : ℕ)
    (c y : Chart) : Type 0 where
  pub fits : (page : ℕ) → page < n → IsPage VERSION (slots page)
  pub cut : (page : ℕ) → page < n
      → IsCutInto (page_text VERSION (slots page)) (slice_index pieces page)
  pub here : (page i : ℕ) → page < n → i < slice_index pieces page
      → y p (base_sector_of page i)
      ≡ Some (base_sector VERSION u generation page i (page_text VERSION (slots page)))
  pub others : (q s : ℕ) → (q ≡ p → ¬ IsPieceBelow pieces n s) → y q s ≡ c q s

-- each page has at most 16 base sectors
abbrev pub IsFew : List ℕ → Type 0
IsFew pieces = (page : ℕ) → slice_index pieces page ≤ PAGE_SECTORS
