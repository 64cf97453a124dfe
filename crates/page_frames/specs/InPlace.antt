-- Where a unit is whose records weren't written out, and what it has there.
use Rattle.std.specs.Prelude.{ℕ, ◌≡◌, slice_index, Some, Result, IfErr}
use Rattle.chip_trait.specs.Story.{Contents}
use Rattle.chip_trait.specs.Told.{Told}
use Rattle.ipl_base.specs.declared.fault.ChipFault.{ChipFault}
use Rattle.ipl_base.specs.Calls.{IsFailedCall}
use Rattle.ipl_meaning.specs.Chart.{chart_of}
use Rattle.ipl_meaning.specs.Layout.{Layout}
use Rattle.ipl_meaning.specs.Mirrors.{Mirrors}
use Rattle.ipl_meaning.specs.Tables.{Tables}
use Rattle.unit_io.specs.Reads.{OfContents}
use Rattle.page_frames.specs.Faulty.{TellsStory}

-- the one tables have the unit where the others have it, unless a call of the chip failed
abbrev pub IsInPlace : Tables → ℕ → Tables → ChipFault → Type 0
IsInPlace t u after e = ¬ IsFailedCall e
    → slice_index after.places.current u ≡ slice_index t.places.current u

-- over contents that the tables mirror, where it fails, the unit is where it was, unless a call of the
-- chip failed
abbrev pub StaysInPlace : {T : Type 0} → ℕ → Tables → ℕ → Tables → Result T ChipFault → Told → Type 0
StaysInPlace places t u after result told = OfContents told (λ x. (it : Layout)
    → Mirrors places (chart_of x) it t → IfErr result (IsInPlace t u after))

-- The tables mirror what the chip holds then by the layout that it had. Where it tells its story too,
-- the unit's place has the bytes that it had.
pub record IsUnitUntouched (x : Contents) (it : Layout) (u : ℕ) (after : Tables) (new : Told) : Type 0 where
  pub contents : Contents
  pub told : new.contents ≡ Some contents
  pub mirrors : Mirrors new.places (chart_of contents) it after
  pub bytes : TellsStory new → (s : ℕ) → contents (it.units u).home s ≡ x (it.units u).home s

-- over contents that the tables mirror, where it fails, the unit is untouched, unless a call of the
-- chip failed
abbrev pub StaysUntouched : {T : Type 0} → Tables → ℕ → Tables → Result T ChipFault → Told → Told → Type 0
StaysUntouched t u after result old new = OfContents old (λ x. (it : Layout)
    → Mirrors old.places (chart_of x) it t
    → IfErr result (λ e. ¬ IsFailedCall e → IsUnitUntouched x it u after new))
