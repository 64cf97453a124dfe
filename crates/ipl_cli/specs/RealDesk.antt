-- What the real streams of a process tell.
use Rattle.std.specs.Prelude.{ℕ, None}
use Rattle.chip_trait.specs.Told.{Told, IsConsistent}
use Rattle.ipl_cli.specs.declared.real_desk.RealDesk.{RealDesk}

-- The counts of the chip and of the streams; of what is held, asked, read and said it tells
-- nothing.
abbrev pub real_told : Told → ℕ → ℕ → ℕ → Told
real_told chip script_bytes script_faults say_faults = record {
  places = chip.places;
  settled = chip.settled;
  history = None;
  contents = None;
  read_faults = chip.read_faults;
  write_faults = chip.write_faults;
  worn_erases = chip.worn_erases;
  beside = record {
    left = None;
    script_bytes = script_bytes;
    script_faults = script_faults;
    say_faults = say_faults;
    noted = None;
  };
}

-- which is consistent
pub real_consistently : (chip : Told) (script_bytes script_faults say_faults : ℕ)
    → IsConsistent (real_told chip script_bytes script_faults say_faults)
real_consistently chip script_bytes script_faults say_faults = record {
  settled = λ x e. cc;
  replayed = λ h e settled. cc;
}

-- those of a desk over a chip that tells so
abbrev pub real_told_of : {C : Type 0} → (C → Told) → RealDesk C → Told
real_told_of told d = real_told (told d.chip) d.script_bytes d.script_faults d.say_faults
