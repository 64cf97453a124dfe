-- What a chip over a part tells, and what a part in memory does.
use Rattle.std.specs.Prelude.{◌≡◌, ℕ, Bool, true, false, None, Some, Option, if◌then◌else◌, refl}
use Rattle.chip_trait.specs.Story.{Contents}
use Rattle.chip_trait.specs.Told.{Told, IsConsistent}
use Rattle.chip_mem.specs.declared.faults.Faults.{Faults}
use Rattle.chip_mem.specs.Tells.{apart}
use Rattle.nand_2k.specs.declared.part.Status.TheVariants.{Passed}
use Rattle.nand_2k.specs.Part.{PartTold}

-- The blocks of the part are the places. What the part tells of its contents is told until a write fails.
abbrev pub telling_part : PartTold → Faults → ℕ → Told
telling_part part faults worn = record {
  places = part.blocks;
  settled = faults.settled;
  history = None;
  contents = if faults.settled then part.contents else None;
  read_faults = faults.reads;
  write_faults = faults.writes;
  worn_erases = worn;
  beside = apart;
}

settled_only : (settled : Bool) (contents : Option Contents) (x : Contents) → (if settled then contents else None) ≡ Some x → settled ≡ true
settled_only true contents x e = refl
settled_only false contents x e = cc

-- which is consistent
pub part_consistently : (part : PartTold) (faults : Faults) (worn : ℕ) → IsConsistent (telling_part part faults worn)
part_consistently part faults worn = record { settled = λ x e. settled_only faults.settled part.contents x e; replayed = λ h e settled. cc }

-- what a part in memory tells that holds this, and of which each call passes
abbrev pub holding : ℕ → Option Contents → PartTold
holding blocks contents = record { blocks = blocks; status = Passed; asked = None; contents = contents }
