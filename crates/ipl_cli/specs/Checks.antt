-- A check of a chip: what it says, and what is left.
use Rattle.std.specs.Prelude.{◌≡◌, ◌≢◌, ℕ, List, [], ◌∷◌, ◌++◌, codes, Ok, Err}
use Rattle.std.specs.Fmt.{decimal}
use Rattle.chip_trait.specs.declared.event.Event.TheVariants.{Said}
use Rattle.chip_trait.specs.Told.{Told, Appends, FailsToSay}
use Rattle.ipl_base.specs.Places.{IsGeometry}
use Rattle.ipl_base.specs.declared.fault.ChipFault.TheVariants.{ReadFault}
use Rattle.ipl_base.specs.declared.fault.ImageFault.{ImageFault}
use Rattle.ipl_base.specs.declared.fault.ImageFault.TheVariants as image
use Rattle.ipl_model.specs.State.{Map}
use Rattle.ipl_meaning.specs.Legible.{whole}
use Rattle.ipl_meaning.specs.Chart.{chart_of}
use Rattle.ipl_meaning.specs.Stands.{Stands}
use Rattle.unit_io.specs.Reads.{OfContents}
use Rattle.ipl_meaning.specs.Chosen.{units_at}
use Rattle.restart.specs.Looks.{OnlyReads}
use Rattle.image_check.specs.Checked.{IsCheckCause, IsUnwell, records_in}
use Rattle.command_line.specs.declared.end.End.TheVariants.{Words, Chip, OutOfMemory, Script, Output, TooLong}
use Rattle.ipl_cli.specs.Ending.{Ending, IsLeftAlone, but_noted}

-- the line that says how many records there are
abbrev pub records_line : ℕ → List ℕ
records_line records = codes "records " ++ decimal records ++ 10 ∷ []

-- where the chip tells what it holds, that stands for so many records
abbrev pub HoldsAsMany : ℕ → Told → Type 0
HoldsAsMany records old = OfContents old (λ x. (m : Map) × Stands old.places (chart_of x) (whole m)
    × (records ≡ records_in (units_at (chart_of x) old.places) m))

-- The chip was read, and so many records were counted; and then this came of saying so.
pub record CountsRecords (Says : List ℕ → Told → Told → Type 0) (old new : Told) : Type 0 where
  pub records : ℕ
  pub holds : HoldsAsMany records old
  pub read : Told
  pub reads : OnlyReads old read
  pub said : Told
  pub says : Says (records_line records) read said
  pub noted : new ≡ but_noted said new.beside.noted

-- the piece was said
abbrev pub IsSaid : List ℕ → Told → Told → Type 0
IsSaid piece old new = Appends (Said piece) old new

-- The chip was only read. Where it tells what it holds, it stands for no records, and the fault is its
-- first one, unless a read failed.
pub record Unwell (fault : ImageFault) (old new : Told) : Type 0 where
  pub read : Told
  pub reads : OnlyReads old read
  pub noted : new ≡ but_noted read new.beside.noted
  pub unwell : fault ≢ image.Chip ReadFault → OfContents old (λ x. IsUnwell x old.places fault)
  pub other : ¬ IsGeometry old.places → IsLeftAlone old new

-- When a fault of the chip ends a check: never since a write failed, a place is worn or numbers are used
-- up. Where the chip tells what it holds, that stands for no records and the fault is its first one,
-- unless a read failed.
pub record CheckedCause (fault : ImageFault) (old new : Told) : Type 0 where
  pub cause : IsCheckCause fault old new
  pub unwell : fault ≢ image.Chip ReadFault → OfContents old (λ x. IsUnwell x old.places fault)

-- what a check leaves
abbrev pub CheckLeaves : Ending → Told → Told → Type 0
CheckLeaves (Ok u) old new = CountsRecords IsSaid old new
CheckLeaves (Err Words) old new = ⊥
CheckLeaves (Err (Chip fault)) old new = Unwell fault old new
CheckLeaves (Err OutOfMemory) old new = IsLeftAlone old new
CheckLeaves (Err Script) old new = ⊥
CheckLeaves (Err Output) old new = CountsRecords FailsToSay old new
CheckLeaves (Err TooLong) old new = ⊥
