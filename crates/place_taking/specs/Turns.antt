-- One place after the other is tried.
use Rattle.std.specs.Prelude.{ℕ, ◌≡◌, true, Result, Ok, Err}
use Rattle.chip_trait.specs.declared.event.Event.TheVariants.{Worn}
use Rattle.chip_trait.specs.Told.{Told, Appends, Counts, Rose}
use Rattle.ipl_base.specs.declared.fault.ChipFault.{ChipFault}
use Rattle.ipl_meaning.specs.Tables.{Places, with_use}
use Rattle.unit_directory.specs.Free.{IsNextFree}
use Rattle.place_taking.specs.declared.taking.Tried.{Tried}
use Rattle.place_taking.specs.declared.taking.Tried.TheVariants.{Erased, Worn as FoundWorn}
use Rattle.place_taking.specs.Takes.{TakesFree}

-- the next free place was found worn, and is in use
pub record FindsNextWorn (before : Places) (old : Told) (p : ℕ) (after : Places) (new : Told) : Type 0 where
  pub next : IsNextFree before p
  pub places_is : after ≡ with_use before p true
  pub worn : Appends (Worn p) old new
  pub counts : Counts old new
  pub rose : Rose old.worn_erases new.worn_erases

-- the next free place was erased, or found worn
abbrev pub TriesNext : Places → Told → Result Tried ChipFault → Places → Told → Type 0
TriesNext before old (Ok (Erased p)) after new = TakesFree before old (Ok p) after new
TriesNext before old (Ok (FoundWorn p)) after new = FindsNextWorn before old p after new
TriesNext before old (Err fault) after new = TakesFree before old (Err fault) after new
