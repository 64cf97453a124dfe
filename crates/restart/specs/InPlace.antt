-- Where a unit is whose fault ended a renewal.
use Rattle.std.specs.Prelude.{ℕ, ◌≡◌, slice_index, Result, IfErr}
use Rattle.chip_trait.specs.Story.{Contents}
use Rattle.chip_trait.specs.Told.{Told}
use Rattle.ipl_base.specs.declared.fault.ChipFault.{ChipFault}
use Rattle.ipl_base.specs.Calls.{IsFailedCall}
use Rattle.ipl_meaning.specs.Chart.{chart_of}
use Rattle.ipl_meaning.specs.Layout.{Layout}
use Rattle.ipl_meaning.specs.Mirrors.{Mirrors}
use Rattle.ipl_meaning.specs.Tables.{Tables}
use Rattle.unit_io.specs.Reads.{OfContents}
use Rattle.restart.specs.Passes.{IsRenewalFault}

-- this is wrong with a unit that has to be merged, and the tables then have it where it was
pub record IsFaultInPlace (x : Contents) (it : Layout) (t after : Tables)
    (e : ChipFault) : Type 0 where
  pub is : IsRenewalFault x it t e
  pub stays : slice_index after.places.current is.unit ≡ (it.units is.unit).home

-- it is such a fault, unless a call of the chip failed
abbrev pub FailsInPlace : Contents → Layout → Tables → Tables → ChipFault → Type 0
FailsInPlace x it t after e = ¬ IsFailedCall e → IsFaultInPlace x it t after e

-- over contents that the tables mirror it fails so alone
abbrev pub RenewalFailsInPlace : {T : Type 0} → ℕ → Tables → Tables → Result T ChipFault → Told
    → Type 0
RenewalFailsInPlace places t after result told = OfContents told (λ x. (it : Layout)
    → Mirrors places (chart_of x) it t → IfErr result (FailsInPlace x it t after))
