-- What a call makes of the chart of a chip.
use Rattle.std.specs.Prelude.{ℕ, ◌≡◌, ◌≢◌, ◌<◌, List, Some, None}
use Rattle.chip_trait.specs.Story.{Contents}
use Rattle.chip_trait.specs.declared.wear.Wear.{Wear}
use Rattle.chip_trait.specs.declared.wear.Wear.TheVariants.{Done, Worn}
use Rattle.chip_trait.specs.Told.{Told}
use Rattle.ipl_base.specs.declared.limits.TheConstants.{VERSION}
use Rattle.chip_trait.specs.Chart.{with_sector}
use Rattle.ipl_format.specs.Sector.{Sector}
use Rattle.ipl_format.specs.Page.{Slots, IsCutInto, page_text}
use Rattle.ipl_format.specs.Place.{base_sector_of}
use Rattle.ipl_meaning.specs.Chart.{Chart, chart_of}
use Rattle.ipl_meaning.specs.Layout.{base_sector}
use Rattle.ipl_meaning.specs.Steps.{SameBut}
use Rattle.unit_io.specs.Spots.{IsPieceSpot}

-- a chip that tells its contents goes on telling them, and their chart is related so to the one before
abbrev pub Charts : (Chart → Chart → Type 0) → Told → Told → Type 0
Charts F old new = (x : Contents) → old.contents ≡ Some x → (y : Contents) × (new.contents ≡ Some y) × F (chart_of x) (chart_of y)

-- a chip that tells its contents goes on telling them, and all other places have the bytes they had
abbrev pub Spares : ℕ → Told → Told → Type 0
Spares p old new = (x : Contents) → old.contents ≡ Some x
    → (y : Contents) × (new.contents ≡ Some y) × ((q s : ℕ) → q ≢ p → y q s ≡ x q s)

-- nothing checks at the place, and elsewhere the chart is as it was
pub record IsCleared (p : ℕ) (c y : Chart) : Type 0 where
  pub bare : (s : ℕ) → y p s ≡ None
  pub others : SameBut p c y

-- an erased place is cleared, and a worn one is as it was
abbrev pub Begun : ℕ → Wear → Chart → Chart → Type 0
Begun p Done c y = IsCleared p c y
Begun p Worn c y = y ≡ c

-- the first n pieces of a page's text stand in the base sectors of the page, in the version that is
-- written, and elsewhere the chart is as it was
pub record HasPieces (p u generation page : ℕ) (text : List ℕ) (n : ℕ) (c y : Chart) : Type 0 where
  pub here : (i : ℕ) → i < n → y p (base_sector_of page i) ≡ Some (base_sector VERSION u generation page i text)
  pub others : (q s : ℕ) → (q ≡ p → IsPieceSpot page n s → ⊥) → y q s ≡ c q s

-- the page stands there, in so many base sectors
pub record HasPageSectors (p u generation page : ℕ) (slots : Slots) (n : ℕ) (c y : Chart) : Type 0 where
  pub cut : IsCutInto (page_text VERSION slots) n
  pub pieces : HasPieces p u generation page (page_text VERSION slots) n c y

-- the chart has this sector too
abbrev pub Gains : ℕ → ℕ → Sector → Chart → Chart → Type 0
Gains p s sector c y = y ≡ with_sector c p s sector
