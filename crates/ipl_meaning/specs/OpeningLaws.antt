-- The laws of an opening: no fault is a chart that is laid out rightly, with numbers that are not used up.
use Rattle.std.specs.Prelude.{ℕ, ◌≡◌, ◌<◌, ◌≤◌, ◌⊎◌, ◌+◌, ◌^◌, true, Some, None}
use Rattle.ipl_base.specs.declared.limits.TheConstants.{SECTORS, LEAST_PLACES, MOST_PLACES}
use Rattle.chip_trait.specs.Story.{Contents}
use Rattle.ipl_base.specs.declared.fault.ImageFault.TheVariants.{Spent}
use Rattle.ipl_base.specs.Places.{KeepsUnits}
use Rattle.ipl_format.specs.Numbers.{IsBytes}
use Rattle.ipl_format.specs.Sector.{Sector}
use Rattle.ipl_format.specs.Whole.{IsWhole}
use Rattle.ipl_meaning.specs.Chart.{Chart, chart_of}
use Rattle.ipl_meaning.specs.Formatted.{formatted}
use Rattle.ipl_meaning.specs.Layout.{Layout, Laid}
use Rattle.ipl_meaning.specs.Found.{IsFoundNumber, IsAbove}
use Rattle.ipl_meaning.specs.Chosen.{header_at, current_at, status_at, units_at}
use Rattle.ipl_meaning.specs.Live.{is_at, is_log_spot}
use Rattle.ipl_meaning.specs.Faults.{first_fault, shape_fault, greatest_found}
use Rattle.ipl_meaning.specs.LaidOut.{layout_in}

-- an opening reads this sector: a header, one of the status place, or one where log sectors may stand
abbrev pub MayBeRead : ℕ → Chart → ℕ → ℕ → Type 0
MayBeRead places c p s =
    (s ≡ 0) ⊎ (is_at (status_at c places) p ≡ true) ⊎ (is_log_spot (header_at c places) (current_at c places) p s ≡ true)

-- the payloads that an opening reads are bytes
abbrev pub IsByteChart : ℕ → Chart → Type 0
IsByteChart places c =
    (p s : ℕ) (sector : Sector) → p < places → s < SECTORS → MayBeRead places c p s → c p s ≡ Some sector
    → IsBytes sector.payload

-- where the sectors that it reads are so, they are
abbrev pub WholeSectorsMakeByteCharts : Type 0
WholeSectorsMakeByteCharts =
    (x : Contents) (places : ℕ)
    → ((p s : ℕ) → p < places → s < SECTORS → MayBeRead places (chart_of x) p s → IsWhole (x p s))
    → IsByteChart places (chart_of x)

-- a chart without a fault is laid out
abbrev pub NoFaultIsLaid : Type 0
NoFaultIsLaid =
    (c : Chart) (places : ℕ) → IsByteChart places c → first_fault c places ≡ None → Laid places c (layout_in c places)

-- and its numbers are not used up
abbrev pub NoFaultIsFresh : Type 0
NoFaultIsFresh =
    (c : Chart) (places : ℕ) (it : Layout) → Laid places c it → first_fault c places ≡ None
    → IsAbove places c it (2 ^ 63)

-- a chart that is laid out, with numbers that are not used up, has no fault
abbrev pub LaidHasNoFault : Type 0
LaidHasNoFault =
    (c : Chart) (places : ℕ) (it : Layout) → IsByteChart places c → Laid places c it → IsAbove places c it (2 ^ 63)
    → first_fault c places ≡ None

-- a chart is laid out exactly where all is well but its numbers
abbrev pub NoShapeFaultIsLaid : Type 0
NoShapeFaultIsLaid =
    (c : Chart) (places : ℕ) → IsByteChart places c → shape_fault c places ≡ None → Laid places c (layout_in c places)

abbrev pub LaidHasNoShapeFault : Type 0
LaidHasNoShapeFault = (c : Chart) (places : ℕ) (it : Layout) → Laid places c it → shape_fault c places ≡ None

-- whatever its sectors are, it has no fault, or its numbers are used up
abbrev pub LaidIsFineOrSpent : Type 0
LaidIsFineOrSpent =
    (c : Chart) (places : ℕ) (it : Layout) → Laid places c it
    → (first_fault c places ≡ None) ⊎ (first_fault c places ≡ Some Spent)

-- it keeps as many units as its status header says
abbrev pub LaidSaysItsUnits : Type 0
LaidSaysItsUnits = (c : Chart) (places : ℕ) (it : Layout) → Laid places c it → units_at c places ≡ it.count

-- a chip that was just formatted has no fault
abbrev pub FormattedChipsHaveNoFault : Type 0
FormattedChipsHaveNoFault =
    (places units : ℕ) → LEAST_PLACES ≤ places → places ≤ MOST_PLACES → KeepsUnits places units
    → first_fault (formatted units) places ≡ None

-- no number found is above the greatest
abbrev pub GreatestIsAbove : Type 0
GreatestIsAbove =
    (c : Chart) (places : ℕ) (it : Layout) → Laid places c it → IsAbove places c it (greatest_found c places + 1)

-- and the greatest is found, if it isn't 0
abbrev pub GreatestIsFound : Type 0
GreatestIsFound =
    (c : Chart) (places : ℕ) (it : Layout) → IsByteChart places c → Laid places c it
    → (greatest_found c places ≡ 0) ⊎ IsFoundNumber places c it (greatest_found c places)
