-- A directory as an opening fills it, by the headers that count and the places that hold live log sectors.
use Rattle.std.specs.Prelude.{ℕ, zero, suc, ◌≡◌, ◌<◌, ◌≤◌, ◌+◌, ◌==◌, ◌||◌, Bool, true, false, if◌then◌else◌, List, [], ◌∷◌, length, slice_index, slice_index_or, Option, Some, None}
use Rattle.ipl_meaning.specs.Tables.{Places}
use Rattle.ipl_meaning.specs.Chosen.{KeptHeader, Winner}
use Rattle.ipl_meaning.specs.Live.{is_at}
use Rattle.ipl_meaning.specs.LaidOut.{place_of}
use Rattle.ipl_meaning.specs.FoundLogs.{generation_of}
use Rattle.unit_directory.specs.Free.{free_count, put_aside}

-- one of the first n units has its header at the place
abbrev pub is_home : (ℕ → Option Winner) → ℕ → ℕ → Bool
is_home current zero p = false
is_home current (suc u) p = is_home current u p || is_at (current u) p

-- the place is that of a unit, the status place, or one that holds live log sectors
abbrev pub is_used : (ℕ → Option Winner) → ℕ → ℕ → (ℕ → Bool) → ℕ → Bool
is_used current units status holds p = (is_home current units p || (status == p)) || holds p

-- exactly these places are in use, and no more than `most` of them
pub record AreUsed (used : ℕ → Bool) (places most : ℕ) (in_use : List Bool) : Type 0 where
  pub all : length in_use ≡ places
  pub used_are : (p : ℕ) → p < places → slice_index_or in_use p true ≡ used p
  pub most_are : places ≤ free_count in_use + most

-- how often a place with this header was erased: once, where it has none
abbrev pub erases_by : Option KeptHeader → ℕ
erases_by None = 1
erases_by (Some head) = head.erases

-- each of these places was erased as often as its header says
pub record AreErasedAsTold (heads : ℕ → Option KeptHeader) (places : ℕ) (it : Places) : Type 0 where
  pub counts : length it.erases ≡ places
  pub erases_are : (p : ℕ) → p < places → slice_index it.erases p ≡ erases_by (heads p)

-- the directory with these counts
abbrev pub with_counts : Places → List ℕ → Places
with_counts it erases = record it { erases = erases }

-- the place is retired, where it is free
abbrev pub with_aside : Places → ℕ → Places
with_aside it p = if slice_index_or it.in_use p true then it else put_aside it p

-- each of these places is
abbrev pub with_all_aside : Places → List ℕ → Places
with_all_aside it [] = it
with_all_aside it (p ∷ places) = with_all_aside (with_aside it p) places

-- what the directory has of the units is as it was, and the same places are retired
pub record SameUnits (old new : Places) : Type 0 where
  pub retired : new.retired ≡ old.retired
  pub current : new.current ≡ old.current
  pub written : new.written ≡ old.written
  pub generations : new.generations ≡ old.generations
  pub masks : new.masks ≡ old.masks

-- the first n units have the places and the generations of their headers
pub record AreAdopted (current : ℕ → Option Winner) (n units : ℕ) (it : Places) : Type 0 where
  pub units_are : length it.current ≡ units
  pub logs_are : length it.written ≡ units
  pub current_is : (u : ℕ) → u < n → slice_index it.current u ≡ place_of (current u)
  pub later_are : (u : ℕ) → n ≤ u → slice_index it.current u ≡ 0
  pub heads_are : length it.generations ≡ units
  pub generation_is : (u : ℕ) → u < n → slice_index it.generations u ≡ generation_of (current u)
  pub unheaded_are : (u : ℕ) → n ≤ u → slice_index it.generations u ≡ 0
