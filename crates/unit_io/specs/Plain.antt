-- Events that program no log sector and no commit sector.
use Rattle.std.specs.Prelude.{ℕ, ◌≡◌, ◌≢◌, List, [], ◌∷◌, Some}
use Rattle.chip_trait.specs.declared.event.Event.{Event}
use Rattle.chip_trait.specs.declared.event.Event.TheVariants.{Read, Program, Erase, Worn, Barrier, Said}
use Rattle.chip_trait.specs.Story.{Story}
use Rattle.chip_trait.specs.Told.{History, Told, adds_all}
use Rattle.ipl_format.specs.Sector.{Sector, sector_in}

-- the sector is neither a log sector nor a commit sector
pub record IsPlainSector (sector : Sector) : Type 0 where
  pub no_log : sector.kind ≢ 5
  pub no_commit : sector.kind ≢ 6

-- the bytes say no log sector and no commit sector
abbrev pub IsPlain : List ℕ → Type 0
IsPlain bytes = (sector : Sector) → sector_in bytes ≡ Some sector → IsPlainSector sector

-- the event programs no such bytes
abbrev pub IsPlainEvent : Event → Type 0
IsPlainEvent (Read p s) = Unit {0}
IsPlainEvent (Program p s bytes) = IsPlain bytes
IsPlainEvent (Erase p) = Unit {0}
IsPlainEvent Barrier = Unit {0}
IsPlainEvent (Worn q) = Unit {0}
IsPlainEvent (Said piece) = Unit {0}

-- none of these events does
abbrev pub ArePlain : Story → Type 0
ArePlain [] = Unit {0}
ArePlain (e ∷ older) = IsPlainEvent e × ArePlain older

-- where the history is told, such events alone were added
abbrev pub AddsPlain : Told → Told → Type 0
AddsPlain old new = (h : History) → old.history ≡ Some h → (added : Story) × ArePlain added × (new.history ≡ Some (adds_all added h))
