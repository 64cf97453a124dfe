-- Why a page's records aren't written out.
use Rattle.std.specs.Prelude.{ℕ, slice_index}
use Rattle.chip_trait.specs.Told.{Told}
use Rattle.ipl_base.specs.declared.fault.ChipFault.{ChipFault}
use Rattle.ipl_meaning.specs.Tables.{Places, Tables, spots_of}
use Rattle.selective_merge.specs.Homes.{MergeCause}

-- as for a merge of the unit, with this directory then
abbrev pub WritingCause : Places → Tables → ℕ → ChipFault → Told → Told → Type 0
WritingCause after t u fault old new =
    MergeCause after (slice_index t.places.current u) (spots_of t u) fault old new
