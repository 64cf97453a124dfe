-- The memory in which an opening works: of how many places it is before, and after, however the opening ends.
use Rattle.std.specs.Prelude.{ℕ, ◌≡◌, List, length, Option}
use Rattle.chip_trait.specs.Told.{Told}
use Rattle.ipl_base.specs.Places.{units_on}
use Rattle.ipl_meaning.specs.Chosen.{KeptHeader, Winner}
use Rattle.restart.specs.declared.findings.Findings.{Findings}
use Rattle.restart.specs.LogSpots.{SameReferences}
use Rattle.restart.specs.Notes.{NotesHaveRoom}
use Rattle.restart.specs.Counted.{SameHomes}

-- of a chip of so many places the header of each place is kept, and that of each unit that counts
pub record HasScratch (places : ℕ) (told : Told) (headers : List (Option KeptHeader)) (winners : List (Option Winner))
    : Type 0 where
  pub size : places ≡ told.places
  pub heads : length headers ≡ places
  pub table : length winners ≡ units_on places

-- what is noted, and the tables, are made for so many places, and the flags of numbers for the status
pub record AreMadeFor (places : ℕ) (it : Findings) : Type 0 where
  pub noted : NotesHaveRoom places it.noted.now
  pub overflow : it.overflow.now.places ≡ places
  pub directory : length it.directory.now.in_use ≡ places
  pub flags : it.numbers.now.room ≡ it.status.now.most

-- as many numbers have room, and may have flags
pub record KeepsRoom (old new : Findings) : Type 0 where
  pub most : new.status.now.most ≡ old.status.now.most
  pub flags : new.numbers.now.room ≡ old.numbers.now.room

-- the memory is as large as it was, and of so many places
pub record KeepsMemory (places : ℕ) (table_old table_new : List (Option Winner)) (old new : Findings)
    : Type 0 where
  pub size : length new.directory.now.in_use ≡ places
  pub table : length table_new ≡ length table_old
  pub room : NotesHaveRoom places new.noted.now × (new.overflow.now.places ≡ places)
  pub numbers : KeepsRoom old new
  pub references : SameReferences old new

-- each unit has the place that it had, and what is noted and listed is of so many places still
pub record KeepsPlaces (places : ℕ) (old new : Findings) : Type 0 where
  pub homes : SameHomes old.directory.now new.directory.now
  pub room : NotesHaveRoom places new.noted.now × (new.overflow.now.places ≡ places)
  pub numbers : KeepsRoom old new
  pub references : SameReferences old new
