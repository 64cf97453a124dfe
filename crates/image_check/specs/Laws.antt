-- The laws of a checker: it finds no fault exactly where a chip stands for records, and counts these.
use Rattle.std.specs.Prelude.{ℕ, ◌≡◌, None}
use Rattle.chip_trait.specs.Story.{Contents}
use Rattle.ipl_model.specs.State.{Map}
use Rattle.ipl_meaning.specs.Legible.{whole}
use Rattle.ipl_meaning.specs.Chart.{chart_of}
use Rattle.ipl_meaning.specs.Stands.{Stands}
use Rattle.ipl_meaning.specs.Chosen.{units_at}
use Rattle.ipl_meaning.specs.OpeningLaws.{IsByteChart}
use Rattle.ipl_meaning.specs.LaidOut.{layout_in}
use Rattle.image_check.specs.Checked.{check_fault, records_below, records_in}

-- a chip without a fault stands for records
abbrev pub CheckedChipsStand : Type 0
CheckedChipsStand = (x : Contents) (places : ℕ) → IsByteChart places (chart_of x)
    → check_fault x places ≡ None → (m : Map) × Stands places (chart_of x) (whole m)

-- and one that stands for records has none
abbrev pub StandingChipsHaveNoFault : Type 0
StandingChipsHaveNoFault = (x : Contents) (places : ℕ) (m : Map) → IsByteChart places (chart_of x)
    → Stands places (chart_of x) (whole m) → check_fault x places ≡ None

-- the records of its pages are then as many as those that it stands for
abbrev pub RecordsAreCounted : Type 0
RecordsAreCounted = (x : Contents) (places : ℕ) (m : Map) → IsByteChart places (chart_of x)
    → Stands places (chart_of x) (whole m)
    → records_below x (layout_in (chart_of x) places) (units_at (chart_of x) places)
    ≡ records_in (units_at (chart_of x) places) m
