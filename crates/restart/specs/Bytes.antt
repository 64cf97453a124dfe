-- What an opening read is whole, and so it is bytes.
use Rattle.std.specs.Prelude.{ℕ, ◌≡◌, ◌≢◌, ◌⊎◌, ◌<◌, ◌≤◌, Bool, true, List, Option, None, Result, MatchResult}
use Rattle.ipl_base.specs.declared.limits.TheConstants.{SECTORS}
use Rattle.ipl_base.specs.declared.fault.ChipFault.TheVariants.{ReadFault, Stopped}
use Rattle.ipl_base.specs.declared.fault.ImageFault.{ImageFault}
use Rattle.ipl_base.specs.declared.fault.ImageFault.TheVariants.{Chip, Spent, TooManyNumbers}
use Rattle.chip_trait.specs.Story.{Contents}
use Rattle.chip_trait.specs.Told.{Told}
use Rattle.ipl_format.specs.Whole.{IsWhole}
use Rattle.ipl_meaning.specs.Chart.{chart_of}
use Rattle.unit_io.specs.Reads.{OfContents}
use Rattle.ipl_meaning.specs.First.{at}
use Rattle.ipl_meaning.specs.Chosen.{KeptHeader, Winner}
use Rattle.ipl_meaning.specs.Live.{is_log_spot}
use Rattle.ipl_meaning.specs.Faults.{fault_for}
use Rattle.ipl_meaning.specs.OpeningLaws.{IsByteChart}

-- by these headers, the other sectors of the status place and those where log sectors may stand are whole
abbrev pub IsRestWhole : Contents → ℕ → List (Option KeptHeader) → List (Option Winner) → Winner → Type 0
IsRestWhole x places heads current status =
    (p s : ℕ) → p < places → 1 ≤ s → s < SECTORS
    → (p ≡ status.place) ⊎ (is_log_spot (at heads) (at current) p s ≡ true)
    → IsWhole (x p s)

-- what it read is bytes: where it was done, or failed though every call of the chip was done, the committed
-- numbers had room, and what it read had no fault but that the numbers are used up
abbrev pub ReadsBytesFor : {T : Type 0} → Bool → ℕ → Told → Result T ImageFault → Type 0
ReadsBytesFor draws places told result = OfContents told (λ x. MatchResult result
    (λ done. IsByteChart places (chart_of x))
    (λ e. e ≢ Chip ReadFault → e ≢ Chip Stopped → e ≢ TooManyNumbers
    → (e ≡ Spent) ⊎ (fault_for draws (chart_of x) places ≡ None)
    → IsByteChart places (chart_of x)))

-- the same of an opening
abbrev pub ReadsBytes : {T : Type 0} → ℕ → Told → Result T ImageFault → Type 0
ReadsBytes places told result = ReadsBytesFor true places told result
