-- What chips tell that tell nothing of what they hold.
use Rattle.std.specs.Prelude.{◌≡◌, ◌≤◌, ℕ, false, None, Result, MatchResult}
use Rattle.chip_trait.specs.Told.{Told, IsConsistent}
use Rattle.chip_mem.specs.declared.faults.Faults.{Faults}
use Rattle.chip_mem.specs.Plan.{counted}
use Rattle.chip_mem.specs.Tells.{apart}
use Rattle.chip_image.specs.declared.file_chip.FileChip.{FileChip}
use Rattle.chip_image.specs.declared.no_chip.NoChip.{NoChip}

-- the number of places, and what has failed
abbrev pub telling_faults : ℕ → Faults → Told
telling_faults places faults = record {
  places = places;
  settled = faults.settled;
  history = None;
  contents = None;
  read_faults = faults.reads;
  write_faults = faults.writes;
  worn_erases = 0;
  beside = apart;
}

-- which is consistent
pub faults_consistently : (places : ℕ) (faults : Faults) → IsConsistent (telling_faults places faults)
faults_consistently places faults = record { settled = λ x e. cc; replayed = λ h e settled. cc }

-- what a chip in a file tells
abbrev pub file_told_of : FileChip → Told
file_told_of chip = telling_faults chip.places chip.faults

-- what a chip tells that isn't there
abbrev pub absent_told_of : NoChip → Told
absent_told_of chip = telling_faults chip.places chip.faults

-- a failed read is counted, and nothing else has changed
pub record CountsRead (old new : Told) : Type 0 where
  pub only : new ≡ record old { read_faults = counted old.read_faults }
  pub later : old.read_faults ≤ new.read_faults

-- a failed program, erase or barrier is counted, the chip isn't settled, and nothing else has changed
pub record CountsWrite (old new : Told) : Type 0 where
  pub only : new ≡ record old { settled = false; write_faults = counted old.write_faults }
  pub later : old.write_faults ≤ new.write_faults

-- what a read changes: nothing, unless it fails
abbrev pub AfterRead : {X E : Type 0} → Result X E → Told → Told → Type 0
AfterRead result old new = MatchResult result (λ _. new ≡ old) (λ _. CountsRead old new)

-- what a program, an erase or a barrier changes: nothing, unless it fails
abbrev pub AfterWrite : {X E : Type 0} → Result X E → Told → Told → Type 0
AfterWrite result old new = MatchResult result (λ _. new ≡ old) (λ _. CountsWrite old new)
