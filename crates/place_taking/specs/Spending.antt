-- What calls spend that take free places.
use Rattle.std.specs.Prelude.{ℕ, ◌≡◌, ◌⊎◌, ◌≤◌, ◌+◌, ◌==◌, ◌||◌, Bool, true, false, List, [], ◌∷◌, ◌++◌, length, Some, AllPairs, Contains, Result, Ok, Err}
use Rattle.chip_trait.specs.declared.event.Event.TheVariants.{Read, Program, Erase, Worn, Barrier, Said}
use Rattle.chip_trait.specs.Lawful.{Clean, age, IsLawful}
use Rattle.chip_trait.specs.Story.{Story, Contents, pieces}
use Rattle.chip_trait.specs.Told.{Told}
use Rattle.ipl_base.specs.declared.fault.ChipFault.{ChipFault}
use Rattle.ipl_base.specs.declared.fault.ChipFault.TheVariants.{ReadFault, Stopped, Damaged, Malformed, WornOut}
use Rattle.ipl_meaning.specs.Mirrors.{AreApart}
use Rattle.ipl_meaning.specs.Tables.{Places, IsFree}
use Rattle.unit_directory.specs.Free.{IsNextFree, spares_of, aside, AreNext}
use Rattle.place_taking.specs.Counts.{Counted}
use Rattle.unit_io.specs.Costs.{OutsideAre, barriers, erases, is_erased, is_tried, programs_outside}

-- ---- how much

-- At most so many erases are tried, and one more for each place that was retired; so many programs of
-- places that weren't erased before, all of sectors of these kinds; and so many barriers.
pub record RetiringCosts (before after : Places) (most_erases most_programs most_barriers : ℕ)
    (kinds : List ℕ) (added : Story) : Type 0 where
  pub erased : erases added + length before.retired ≤ most_erases + length after.retired
  pub programmed : programs_outside added ≤ most_programs
  pub barred : barriers added ≤ most_barriers
  pub only : OutsideAre kinds added

-- Erases are tried of the next free place in its turn: of these, which are retired then, and of the
-- next one once they are set aside.
pub record TriesInTurn (before after : Places) (added : Story) : Type 0 where
  pub worn : List ℕ
  pub in_turn : AreNext before worn
  pub retired : after.retired ≡ (aside before worn).retired
  pub tried : (p : ℕ) → is_tried added p ≡ true
      → Contains worn p ⊎ IsNextFree (aside before worn) p

-- ---- what is retired

-- the place was found worn among these events
abbrev pub is_found_worn : Story → ℕ → Bool
is_found_worn [] p = false
is_found_worn (Read q s ∷ older) p = is_found_worn older p
is_found_worn (Program q s bytes ∷ older) p = is_found_worn older p
is_found_worn (Erase q ∷ older) p = is_found_worn older p
is_found_worn (Barrier ∷ older) p = is_found_worn older p
is_found_worn (Worn q ∷ older) p = (q == p) || is_found_worn older p
is_found_worn (Said piece ∷ older) p = is_found_worn older p

-- the fault tells that too many places are worn
abbrev pub tells_worn : ChipFault → Bool
tells_worn ReadFault = false
tells_worn Stopped = false
tells_worn (Damaged p s stored computed) = false
tells_worn (Malformed p s) = false
tells_worn (WornOut n) = true

abbrev pub is_worn_out : {T : Type 0} → Result T ChipFault → Bool
is_worn_out (Ok v) = false
is_worn_out (Err fault) = tells_worn fault

-- as many places are retired as are spare, and one more was found worn; each is another one
pub record FindsOneMore (after : Places) (added : Story) : Type 0 where
  pub last : ℕ
  pub found : is_found_worn added last ≡ true
  pub apart : AllPairs AreApart (last ∷ after.retired)
  pub full : length after.retired ≡ spares_of after

-- What was retired is so still, and what is retired besides was found worn. What was found worn is
-- retired; but where too many places are worn, all spare ones are and one more was found so.
pub record RetiresWorn (before after : Places) (worn_out : Bool) (added : Story) : Type 0 where
  pub keeps : (p : ℕ) → Contains before.retired p → Contains after.retired p
  pub each : (p : ℕ) → Contains after.retired p
      → Contains before.retired p ⊎ (is_found_worn added p ≡ true)
  pub found : worn_out ≡ false → (p : ℕ) → is_found_worn added p ≡ true → Contains after.retired p
  pub one_more : worn_out ≡ true → FindsOneMore after added

-- ---- all of it

-- At most one erase is tried, and one more for each place that was retired, of the next free place in
-- its turn, where it is counted; what is found worn is retired; only what was erased before is programmed;
-- and there are at most so many barriers.
pub record ErasesFree (before after : Places) (most_barriers : ℕ) (worn_out : Bool)
    (added : Story) : Type 0 where
  pub costs : RetiringCosts before after 1 0 most_barriers [] added
  pub tries : TriesInTurn before after added
  pub retires : RetiresWorn before after worn_out added
  pub counted : Counted added before after

-- Done, this place was erased for what is written there.
pub record ErasesFor (before after : Places) (most_barriers place : ℕ) (done worn_out : Bool)
    (added : Story) : Type 0 where
  pub erases : ErasesFree before after most_barriers worn_out added
  pub erased : done ≡ true → is_erased added place ≡ true

-- ---- what is clean

-- The events erase and program free places alone, and say nothing: they are lawful after any lawful
-- events, and what was clean at a place in use is so after them.
pub record SparesClean (before : Places) (added : Story) : Type 0 where
  pub silent : pieces added ≡ []
  pub lawful : (base : Story) → IsLawful base → IsLawful (added ++ base)
  pub others : (base : Story) (q s : ℕ) → ¬ IsFree before q → age base q s ≡ Clean
      → age (added ++ base) q s ≡ Clean

-- after them the sectors of the place from this one on are clean
abbrev pub IsFreshFrom : ℕ → ℕ → Story → Type 0
IsFreshFrom p from added = (base : Story) (s : ℕ) → from ≤ s → age (added ++ base) p s ≡ Clean

-- such events, and where all is done, the sectors of this place from this one on are clean
pub record WritesFree (before : Places) (p from : ℕ) (done : Bool) (added : Story) : Type 0 where
  pub spares : SparesClean before added
  pub fresh : done ≡ true → IsFreshFrom p from added

-- ---- what is held

-- a chip that tells its contents goes on telling them, and each place that was in use has the
-- bytes that it had
abbrev pub SparesUsed : Places → Told → Told → Type 0
SparesUsed before old new = (x : Contents) → old.contents ≡ Some x
    → (y : Contents) × (new.contents ≡ Some y)
    × ((q s : ℕ) → ¬ IsFree before q → y q s ≡ x q s)
