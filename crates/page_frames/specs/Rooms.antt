-- What a call leaves that finds room for a log sector of a unit.
use Rattle.std.specs.Prelude.{ℕ, ◌≡◌, ◌⊎◌, Result}
use Rattle.chip_trait.specs.Told.{History, Told}
use Rattle.ipl_base.specs.declared.fault.ChipFault.{ChipFault}
use Rattle.ipl_base.specs.declared.spot.Spot.{Spot}
use Rattle.ipl_meaning.specs.Legible.{Legible}
use Rattle.ipl_meaning.specs.Agrees.{IsTidy, Agrees}
use Rattle.ipl_meaning.specs.Chart.{Chart}
use Rattle.ipl_meaning.specs.Layout.{Layout}
use Rattle.ipl_meaning.specs.Mirrors.{Mirrors}
use Rattle.ipl_meaning.specs.Rests.{now, EachStands, StoryRests}
use Rattle.ipl_meaning.specs.Tables.{Tables}
use Rattle.unit_io.specs.Leads.{IsSteady}
use Rattle.unit_io.specs.Steps.{Steps}
use Rattle.selective_merge.specs.Merged.{IsMergedUnit, merged_layout}
use Rattle.selective_merge.specs.Placing.{IsPlaced}
use Rattle.selective_merge.specs.Throughout.{ChartsThroughout}
use Rattle.store_laws.specs.Advances.{KeepsTablesOn, TurnsTables}

-- the layout is as it was, or it has the unit merged
abbrev pub IsMergedOrSame : ℕ → Chart → Chart → Layout → Tables → ℕ → Tables → Layout → Type 0
IsMergedOrSame places c y it t u after new =
    (new ≡ it) ⊎ ((is : IsMergedUnit places c y it t u after)
    × (new ≡ merged_layout t it u is.place is.head is.pieces is.serial))

-- There is room for a log sector of the unit at the spot, by the rules. The tables turned so that all
-- is as before, but that the unit may have been merged.
pub record HasLogRoom (places : ℕ) (c y : Chart) (it : Layout) (t : Tables) (u : ℕ)
    (after : Tables) (at : Spot) : Type 0 where
  pub placed : IsPlaced places c y it t u after at.place at.sector
  pub turned : KeepsTablesOn places c it t y after
  pub unit : IsMergedOrSame places c y it t u after turned.layout

-- whatever layout the tables mirrored
abbrev pub MakesLogRoom : ℕ → ℕ → Tables → Tables → Spot → Chart → Chart → Type 0
MakesLogRoom places u t after at c y = (it : Layout) → Mirrors places c it t
    → HasLogRoom places c y it t u after at

-- Over what the chip holds: done, there is room; and where no write failed, the tables turned so that
-- all is as before, but that a unit may have been merged.
abbrev pub FindsRoom : ℕ → ℕ → Tables → Tables → Told → Result Spot ChipFault → Told → Type 0
FindsRoom places u t after old result new =
    ChartsThroughout (MakesLogRoom places u t after) (TurnsTables places t after) result old new

-- the story rests on the map, there is room, and what is counted as clean is
pub record RestsWithLogRoom (places : ℕ) (m : Legible) (c : Chart) (it : Layout) (t : Tables) (u : ℕ)
    (after : Tables) (at : Spot) (k : History) : Type 0 where
  pub rests : StoryRests places m k
  pub room : HasLogRoom places c (now k) it t u after at
  pub tidy : IsTidy k after

-- At each moment a power cut leaves the map. Where no write failed the story rests on it; and done,
-- there is room.
abbrev pub FindsRoomInSteps : ℕ → ℕ → Tables → Tables → Told → Result Spot ChipFault → Told
    → Type 0
FindsRoomInSteps places u t after old result new = (m : Legible) (it : Layout) (h : History)
    → IsSteady h old → StoryRests places m h → Agrees places h it t
    → Steps (EachStands places m) t after
    (λ at k. RestsWithLogRoom places m (now h) it t u after at k) (λ k. StoryRests places m k)
    h result old new
