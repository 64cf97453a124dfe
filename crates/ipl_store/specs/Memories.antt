-- Memory that a store is lent.
use Rattle.std.specs.Prelude.{ℕ, ◌≡◌, true, length, Result, Ok, Err}
use Rattle.ipl_base.specs.declared.fault.ImageFault.{ImageFault}
use Rattle.ipl_store.specs.declared.memory.Memory.{Memory}
use Rattle.ipl_store.specs.declared.memory.Unopened.{Unopened}
use Rattle.ipl_store.specs.declared.store.Store.{Store}
use Rattle.ipl_store.specs.Calls.{numbers_of, IsSound}

-- it is that of a store that is down, made for chips of so many places
abbrev pub IsMemoryFor : ℕ → Memory → Type 0
IsMemoryFor places memory = IsSound places memory.store × (memory.store.down ≡ true)

-- which are so many
abbrev pub places_of : Memory → ℕ
places_of memory = length memory.store.transactions.pages.parts.directory.in_use

abbrev pub IsMemory : Memory → Type 0
IsMemory memory = IsMemoryFor (places_of memory) memory

-- the memory has as many frames and sessions, and room for as many committed numbers
pub record SameRoom (old new : Store) : Type 0 where
  pub frames : new.frames ≡ old.frames
  pub sessions : length new.transactions.sessions ≡ length old.transactions.sessions
  pub numbers : numbers_of new ≡ numbers_of old

-- what was lent is in the store that was opened, or was given back
abbrev pub KeepsLent : Memory → Result Store Unopened → Type 0
KeepsLent memory (Ok store) = SameRoom memory.store store
KeepsLent memory (Err unopened) =
    IsMemoryFor (places_of memory) unopened.memory × SameRoom memory.store unopened.memory.store

-- what came of an opening, without the memory
abbrev pub answer_of_opening : Result Store Unopened → Result Store ImageFault
answer_of_opening (Ok store) = Ok store
answer_of_opening (Err unopened) = Err unopened.fault
