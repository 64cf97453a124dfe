-- What events cost: erases, barriers, and programs of places that weren't erased before.
use Rattle.std.specs.Prelude.{ℕ, suc, ◌≡◌, ◌≤◌, ◌==◌, ◌||◌, Bool, true, false, List, [], ◌∷◌, Some, Contains, if◌then◌else◌}
use Rattle.std.specs.Option.{option_map}
use Rattle.chip_trait.specs.declared.event.Event.TheVariants.{Read, Program, Erase, Worn, Barrier, Said}
use Rattle.chip_trait.specs.Story.{Story}
use Rattle.chip_trait.specs.Told.{Told, adds_all}
use Rattle.ipl_format.specs.Sector.{Sector, sector_in}

-- ---- counts of events

-- how many erases there are, also those that found their place worn
abbrev pub erases : Story → ℕ
erases [] = 0
erases (Read p s ∷ older) = erases older
erases (Program p s bytes ∷ older) = erases older
erases (Erase p ∷ older) = suc (erases older)
erases (Barrier ∷ older) = erases older
erases (Worn q ∷ older) = suc (erases older)
erases (Said piece ∷ older) = erases older

-- how many barriers
abbrev pub barriers : Story → ℕ
barriers [] = 0
barriers (Read p s ∷ older) = barriers older
barriers (Program p s bytes ∷ older) = barriers older
barriers (Erase p ∷ older) = barriers older
barriers (Barrier ∷ older) = suc (barriers older)
barriers (Worn q ∷ older) = barriers older
barriers (Said piece ∷ older) = barriers older

-- how many programs
abbrev pub programs : Story → ℕ
programs [] = 0
programs (Read p s ∷ older) = programs older
programs (Program p s bytes ∷ older) = suc (programs older)
programs (Erase p ∷ older) = programs older
programs (Barrier ∷ older) = programs older
programs (Worn q ∷ older) = programs older
programs (Said piece ∷ older) = programs older

-- the place was erased among these events
abbrev pub is_erased : Story → ℕ → Bool
is_erased [] p = false
is_erased (Read q s ∷ older) p = is_erased older p
is_erased (Program q s bytes ∷ older) p = is_erased older p
is_erased (Erase q ∷ older) p = (q == p) || is_erased older p
is_erased (Barrier ∷ older) p = is_erased older p
is_erased (Worn q ∷ older) p = is_erased older p
is_erased (Said piece ∷ older) p = is_erased older p

-- the place was erased among these events, or found worn
abbrev pub is_tried : Story → ℕ → Bool
is_tried [] p = false
is_tried (Read q s ∷ older) p = is_tried older p
is_tried (Program q s bytes ∷ older) p = is_tried older p
is_tried (Erase q ∷ older) p = (q == p) || is_tried older p
is_tried (Worn q ∷ older) p = (q == p) || is_tried older p
is_tried (Barrier ∷ older) p = is_tried older p
is_tried (Said piece ∷ older) p = is_tried older p

-- how many programs are of places that weren't erased before them among these events
abbrev pub programs_outside : Story → ℕ
programs_outside [] = 0
programs_outside (Read p s ∷ older) = programs_outside older
programs_outside (Program p s bytes ∷ older) =
    if is_erased older p then programs_outside older else suc (programs_outside older)
programs_outside (Erase p ∷ older) = programs_outside older
programs_outside (Barrier ∷ older) = programs_outside older
programs_outside (Worn q ∷ older) = programs_outside older
programs_outside (Said piece ∷ older) = programs_outside older

-- ---- what is programmed

-- the bytes say a sector of one of these kinds
abbrev pub IsOfKinds : List ℕ → List ℕ → Type 0
IsOfKinds kinds bytes = (sector : Sector) × (sector_in bytes ≡ Some sector) × Contains kinds sector.kind

-- each of these programs says a sector of one of these kinds
abbrev pub OutsideAre : List ℕ → Story → Type 0
OutsideAre kinds [] = Unit {0}
OutsideAre kinds (Read p s ∷ older) = OutsideAre kinds older
OutsideAre kinds (Program p s bytes ∷ older) =
    (is_erased older p ≡ false → IsOfKinds kinds bytes) × OutsideAre kinds older
OutsideAre kinds (Erase p ∷ older) = OutsideAre kinds older
OutsideAre kinds (Barrier ∷ older) = OutsideAre kinds older
OutsideAre kinds (Worn q ∷ older) = OutsideAre kinds older
OutsideAre kinds (Said piece ∷ older) = OutsideAre kinds older

-- each program is of this place and says a sector of this kind, and no erase is tried
abbrev pub AreAt : ℕ → ℕ → Story → Type 0
AreAt place kind [] = Unit {0}
AreAt place kind (Read p s ∷ older) = AreAt place kind older
AreAt place kind (Program p s bytes ∷ older) = (p ≡ place) × IsOfKinds (kind ∷ []) bytes × AreAt place kind older
AreAt place kind (Erase p ∷ older) = ⊥
AreAt place kind (Barrier ∷ older) = AreAt place kind older
AreAt place kind (Worn q ∷ older) = ⊥
AreAt place kind (Said piece ∷ older) = AreAt place kind older

-- ---- what a call costs

-- At most so many erases, so many programs of places that weren't erased before, all of sectors of these kinds, and so
-- many barriers.
pub record Costs (most_erases most_programs most_barriers : ℕ) (kinds : List ℕ) (added : Story) : Type 0 where
  pub erased : erases added ≤ most_erases
  pub programmed : programs_outside added ≤ most_programs
  pub barred : barriers added ≤ most_barriers
  pub only : OutsideAre kinds added

-- At most so many programs, of this place and of sectors of this kind alone, and so many barriers; nothing is erased.
pub record ProgramsAt (place most_programs most_barriers kind : ℕ) (added : Story) : Type 0 where
  pub only : AreAt place kind added
  pub programmed : programs added ≤ most_programs
  pub barred : barriers added ≤ most_barriers

-- The place is erased or found worn, at most once, and no other one; what is programmed is programmed there, after that; and there are at
-- most so many barriers. Done, the place was erased.
pub record ErasesOnce (place most_barriers : ℕ) (done : Bool) (added : Story) : Type 0 where
  pub costs : Costs 1 0 most_barriers [] added
  pub alone : (p : ℕ) → is_tried added p ≡ true → p ≡ place
  pub erased : done ≡ true → is_erased added place ≡ true

-- the events that were added have P
pub record Spends (P : Story → Type 0) (old new : Told) : Type 0 where
  pub added : Story
  pub does : P added
  pub history : new.history ≡ option_map (adds_all added) old.history
