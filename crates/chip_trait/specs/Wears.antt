-- What an erase that was answered leaves.
use Rattle.std.specs.Prelude.{ℕ, ◌≡◌}
use Rattle.chip_trait.specs.declared.event.Event.{Event}
use Rattle.chip_trait.specs.declared.event.Event.TheVariants.{Erase, Worn}
use Rattle.chip_trait.specs.declared.wear.Wear.{Wear}
use Rattle.chip_trait.specs.declared.wear.Wear.TheVariants.{Done, Worn as IsWorn}
use Rattle.chip_trait.specs.Told.{Told, Appends, Rose}

-- the event of an erase
abbrev pub erase_event : Wear → ℕ → Event
erase_event Done p = Erase p
erase_event IsWorn p = Worn p

-- its event is appended; and where the place is worn, the count of such erases rose
pub record Wears (wear : Wear) (p : ℕ) (old new : Told) : Type 0 where
  pub appends : Appends (erase_event wear p) old new
  pub rose : wear ≡ IsWorn → Rose old.worn_erases new.worn_erases
