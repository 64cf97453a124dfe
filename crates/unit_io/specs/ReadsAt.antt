-- Calls that only read, and which sectors.
use Rattle.std.specs.Prelude.{ℕ, suc, ◌≡◌, ◌≤◌, ◌==◌, ◌&&◌, All, [], ◌∷◌, if◌then◌else◌}
use Rattle.std.specs.Option.{option_map}
use Rattle.chip_trait.specs.declared.event.Event.{Event}
use Rattle.chip_trait.specs.declared.event.Event.TheVariants.{Read, Program, Erase, Worn, Barrier, Said}
use Rattle.chip_trait.specs.Story.{Story}
use Rattle.chip_trait.specs.Told.{Told, Counts, Rose, adds_all}
use Rattle.ipl_base.specs.declared.fault.ChipFault.{ChipFault}
use Rattle.ipl_base.specs.declared.fault.ChipFault.TheVariants.{ReadFault, Stopped, Damaged, Malformed, WornOut}

-- any sector
abbrev pub Anywhere : ℕ → ℕ → Type 0
Anywhere p s = Unit {0}

-- this sector
abbrev pub IsAt : ℕ → ℕ → ℕ → ℕ → Type 0
IsAt place sector p s = (p ≡ place) × (s ≡ sector)

-- one of these sectors was read
abbrev pub IsReadAt : (ℕ → ℕ → Type 0) → Event → Type 0
IsReadAt At (Read p s) = At p s
IsReadAt At (Program p s bytes) = ⊥
IsReadAt At (Erase p) = ⊥
IsReadAt At Barrier = ⊥
IsReadAt At (Worn q) = ⊥
IsReadAt At (Said piece) = ⊥

-- nothing but reads of these sectors was added, and no count fell
pub record ReadsAt (At : ℕ → ℕ → Type 0) (old new : Told) : Type 0 where
  pub settled : new.settled ≡ old.settled
  pub contents : new.contents ≡ old.contents
  pub added : Story
  pub each : All (IsReadAt At) added
  pub history : new.history ≡ option_map (adds_all added) old.history
  pub counts : Counts old new

-- how often a sector is read among these events
abbrev pub reads_of : Story → ℕ → ℕ → ℕ
reads_of [] p s = 0
reads_of (Read q t ∷ older) p s = if q == p && t == s then suc (reads_of older p s) else reads_of older p s
reads_of (Program q t bytes ∷ older) p s = reads_of older p s
reads_of (Erase q ∷ older) p s = reads_of older p s
reads_of (Barrier ∷ older) p s = reads_of older p s
reads_of (Worn q ∷ older) p s = reads_of older p s
reads_of (Said piece ∷ older) p s = reads_of older p s

-- nothing but reads of these sectors was added, and of each at most one
pub record ReadsOnce (At : ℕ → ℕ → Type 0) (old new : Told) : Type 0 where
  pub added : Story
  pub each : All (IsReadAt At) added
  pub once : (p s : ℕ) → reads_of added p s ≤ 1
  pub history : new.history ≡ option_map (adds_all added) old.history

-- why sectors of these aren't read, whatever the chip tells: a read failed and its count rose; or one of these sectors isn't
-- what it must be
abbrev pub IsCauseAt : (ℕ → ℕ → Type 0) → ChipFault → Told → Told → Type 0
IsCauseAt At ReadFault old new = Rose old.read_faults new.read_faults
IsCauseAt At Stopped old new = ⊥
IsCauseAt At (Damaged p s stored computed) old new = ⊥
IsCauseAt At (Malformed p s) old new = At p s
IsCauseAt At (WornOut n) old new = ⊥
