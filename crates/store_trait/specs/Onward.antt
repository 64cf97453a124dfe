-- What goes on beside the chip: counts that never fall, and causes.
use Rattle.std.specs.Prelude.{ℕ, ◌≡◌, ◌≤◌, List, map}
use Rattle.std.specs.Option.{option_map}
use Rattle.chip_trait.specs.declared.event.Event.TheVariants.{Said}
use Rattle.chip_trait.specs.Story.{Story}
use Rattle.chip_trait.specs.Told.{Told, adds_all}

-- What chip calls and replies leave as it was: the script and what was noted. No count falls.
pub record Onward (old new : Told) : Type 0 where
  pub places : new.places ≡ old.places
  pub reads : old.read_faults ≤ new.read_faults
  pub writes : old.write_faults ≤ new.write_faults
  pub worn : old.worn_erases ≤ new.worn_erases
  pub says : old.beside.say_faults ≤ new.beside.say_faults
  pub keeps : new.beside ≡ record old.beside { say_faults = new.beside.say_faults }

-- What reads of the script leave as it was besides: what was noted. No count falls.
pub record Further (old new : Told) : Type 0 where
  pub places : new.places ≡ old.places
  pub reads : old.read_faults ≤ new.read_faults
  pub writes : old.write_faults ≤ new.write_faults
  pub worn : old.worn_erases ≤ new.worn_erases
  pub says : old.beside.say_faults ≤ new.beside.say_faults
  pub script : old.beside.script_faults ≤ new.beside.script_faults
  pub bytes : old.beside.script_bytes ≤ new.beside.script_bytes
  pub noted : new.beside.noted ≡ old.beside.noted

-- pieces as events
abbrev pub sayings : List (List ℕ) → Story
sayings pieces = map Said pieces

-- nothing happened to the chip: these pieces were said, the newest first, or the script was read
pub record Still (old new : Told) : Type 0 where
  pub places : new.places ≡ old.places
  pub settled : new.settled ≡ old.settled
  pub contents : new.contents ≡ old.contents
  pub pieces : List (List ℕ)
  pub history : new.history ≡ option_map (adds_all (sayings pieces)) old.history
