-- What a chip and its desk tell, and what their calls do to that.
use Rattle.std.specs.Prelude.{◌≡◌, ◌⊎◌, ◌≤◌, ◌<◌, ◌+◌, ◌-◌, ◌^◌, min, ℕ, Bool, true, false, List, [], ◌∷◌, ◌++◌, length, take, drop, Option, Some, None, Result, MatchResult}
use Rattle.std.specs.Option.{option_map}
use Rattle.chip_trait.specs.declared.event.Event.{Event}
use Rattle.chip_trait.specs.declared.event.Event.TheVariants.{Said}
use Rattle.chip_trait.specs.Story.{Story, Contents, after, held}

-- the contents at the start, and the events since, the newest first
pub record History : Type 0 where
  pub start : Contents
  pub story : Story

-- what stands beside a chip, and no chip call changes
pub record Beside : Type 0 where
  -- what is left of the script, where that is told
  pub left : Option (List ℕ)
  -- how many bytes of the script were read
  pub script_bytes : ℕ
  pub script_faults : ℕ
  pub say_faults : ℕ
  -- the texts of faults that were noted, where they are told
  pub noted : Option (List ℕ)

-- all that is told
pub record Told : Type 0 where
  -- the number of places, erase units of 256 sectors
  pub places : ℕ
  -- no write has failed
  pub settled : Bool
  -- where it is told; a chip that tells it tells it always
  pub history : Option History
  -- what the chip holds now, where that is told
  pub contents : Option Contents
  pub read_faults : ℕ
  -- of programs, erases and barriers
  pub write_faults : ℕ
  -- of erases that found their place worn
  pub worn_erases : ℕ
  pub beside : Beside

-- The held contents are told only while the chip is settled. Where the history is told too, they are what it leaves.
pub record IsConsistent (t : Told) : Type 0 where
  pub settled : (x : Contents) → t.contents ≡ Some x → t.settled ≡ true
  pub replayed : (h : History) → t.history ≡ Some h → t.settled ≡ true → t.contents ≡ Some (held h.start h.story)

-- a history with one event more
abbrev pub adds : Event → History → History
adds e h = record { start = h.start; story = e ∷ h.story }

-- a history with these events more
abbrev pub adds_all : Story → History → History
adds_all events h = record { start = h.start; story = events ++ h.story }

-- the event is appended, and done
pub record Appends (e : Event) (old new : Told) : Type 0 where
  pub places : new.places ≡ old.places
  pub settled : new.settled ≡ old.settled
  pub history : new.history ≡ option_map (adds e) old.history
  pub contents : new.contents ≡ option_map (after e) old.contents

-- a failed read: the event is appended or it isn't
pub record Misses (e : Event) (old new : Told) : Type 0 where
  pub places : new.places ≡ old.places
  pub settled : new.settled ≡ old.settled
  pub history : (new.history ≡ option_map (adds e) old.history) ⊎ (new.history ≡ old.history)
  pub contents : new.contents ≡ old.contents

-- a failed program or erase: the event is appended or it isn't, and the chip isn't settled any more
pub record Breaks (e : Event) (old new : Told) : Type 0 where
  pub places : new.places ≡ old.places
  pub settled : new.settled ≡ false
  pub history : (new.history ≡ option_map (adds e) old.history) ⊎ (new.history ≡ old.history)
  pub contents : new.contents ≡ None

-- a failed barrier: no event, and the chip isn't settled any more
pub record Halts (old new : Told) : Type 0 where
  pub places : new.places ≡ old.places
  pub settled : new.settled ≡ false
  pub history : new.history ≡ old.history
  pub contents : new.contents ≡ None

-- the count has risen, or it stands at its last value
abbrev pub Rose : ℕ → ℕ → Type 0
Rose before now = min (before + 1) (2 ^ 64 - 1) ≤ now

-- no write fault was counted
abbrev pub Unrisen : Told → Told → Type 0
Unrisen old new = new.write_faults < min (old.write_faults + 1) (2 ^ 64 - 1)

-- after a chip call: the places are as many, no count falls, and what stands beside the chip is as it was
pub record Counts (old new : Told) : Type 0 where
  pub places : new.places ≡ old.places
  pub reads : old.read_faults ≤ new.read_faults
  pub writes : old.write_faults ≤ new.write_faults
  pub worn : old.worn_erases ≤ new.worn_erases
  pub beside : new.beside ≡ old.beside

-- the first is a beginning of the second
abbrev pub IsPrefix : {X : Type 0} → List X → List X → Type 0
IsPrefix {X} xs ys = (rest : List X) × (xs ++ rest ≡ ys)

-- a piece couldn't be said: a beginning of it was, or nothing
pub record FailsToSay (piece : List ℕ) (old new : Told) : Type 0 where
  pub places : new.places ≡ old.places
  pub settled : new.settled ≡ old.settled
  pub history : ((part : List ℕ) × IsPrefix part piece × (new.history ≡ option_map (adds (Said part)) old.history)) ⊎ (new.history ≡ old.history)
  pub contents : new.contents ≡ old.contents

-- after a piece was said, or couldn't be: no count falls, and of what stands beside the chip only the count of such faults
-- may have changed
pub record SayCounts (old new : Told) : Type 0 where
  pub reads : old.read_faults ≤ new.read_faults
  pub writes : old.write_faults ≤ new.write_faults
  pub worn : old.worn_erases ≤ new.worn_erases
  pub says : old.beside.say_faults ≤ new.beside.say_faults
  pub beside : new.beside ≡ record old.beside { say_faults = new.beside.say_faults }

-- after a read of the script: the chip is as it was, and no count falls
pub record IsBeside (old new : Told) : Type 0 where
  pub places : new.places ≡ old.places
  pub settled : new.settled ≡ old.settled
  pub history : new.history ≡ old.history
  pub contents : new.contents ≡ old.contents
  pub reads : old.read_faults ≤ new.read_faults
  pub writes : old.write_faults ≤ new.write_faults
  pub worn : old.worn_erases ≤ new.worn_erases
  pub script : old.beside.script_faults ≤ new.beside.script_faults

-- a count went up by n, or it stands at its last value
pub record Grew (before n now : ℕ) : Type 0 where
  pub later : before ≤ now
  pub at_least : min (before + n) (2 ^ 64 - 1) ≤ now
  pub at_most : now ≤ before + n

-- the bytes that a read of n put at the front of the buffer are the next of the source, and there are none exactly at its end
pub record IsNext (source buffer : List ℕ) (n : ℕ) : Type 0 where
  pub bytes : take n buffer ≡ take n source
  pub within : n ≤ length source
  pub ends : n ≡ 0 → source ≡ []

-- what a read of the script does to what stands beside the chip
abbrev pub Takes : {E : Type 0} → Beside → Beside → Result ℕ E → List ℕ → Type 0
Takes old new result buffer = MatchResult result
    (λ n. (new ≡ record old { left = option_map (λ l. drop n l) old.left; script_bytes = new.script_bytes; script_faults = new.script_faults })
    × Grew old.script_bytes n new.script_bytes × ((source : List ℕ) → old.left ≡ Some source → IsNext source buffer n))
    (λ _. new ≡ record old { script_faults = new.script_faults })

-- a note changes nothing but the noted bytes, which grow by it where they are told
pub record TakesNote (piece : List ℕ) (old new : Told) : Type 0 where
  pub only : new ≡ record old { beside = record old.beside { noted = new.beside.noted } }
  pub grows : (bytes : List ℕ) → new.beside.noted ≡ Some bytes → (before : List ℕ) × (old.beside.noted ≡ Some before) × (bytes ≡ before ++ piece)
