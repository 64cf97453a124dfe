-- How the program ends, and what is noted of it.
use Rattle.std.specs.Prelude.{◌≡◌, ◌⊎◌, ◌-◌, ℕ, Bool, true, false, List, [], Option, Some, Result, Ok, Err}
use Rattle.chip_trait.specs.Told.{History, Told, Counts, Rose}
use Rattle.ipl_base.specs.Places.{units_on}
use Rattle.ipl_base.specs.declared.fault.ChipFault.TheVariants.{Stopped, WornOut}
use Rattle.ipl_base.specs.declared.fault.FormatFault.{FormatFault}
use Rattle.ipl_base.specs.declared.fault.FormatFault.TheVariants as format
use Rattle.ipl_base.specs.declared.fault.ImageFault.TheVariants as image
use Rattle.restart.specs.Fresh.{Formats}
use Rattle.command_line.specs.declared.asked.Request.{Request}
use Rattle.command_line.specs.declared.asked.Request.TheVariants.{Run, Check, Trial, Records}
use Rattle.command_line.specs.Ends.{status_of, note_of}
use Rattle.command_line.specs.declared.end.End.{End}
use Rattle.command_line.specs.declared.end.End.TheVariants.{Chip}

-- what the words ask, where they are valid
abbrev pub AskedFor : Type 0
AskedFor = Option Request

-- they ask for a run with so many sessions over a chip that is opened
abbrev pub AsksOpenedBy : ℕ → AskedFor → Type 0
AsksOpenedBy sessions asked = (frames : ℕ) × (numbers : ℕ) × (closes : Bool)
    × (asked ≡ Some (Run frames sessions numbers false closes))

-- with however many
abbrev pub AsksOpened : AskedFor → Type 0
AsksOpened asked = (sessions : ℕ) × AsksOpenedBy sessions asked

-- they ask for one with room for so many committed numbers
abbrev pub AsksOpenedWith : ℕ → AskedFor → Type 0
AsksOpenedWith numbers asked = (frames : ℕ) × (sessions : ℕ) × (closes : Bool)
    × (asked ≡ Some (Run frames sessions numbers false closes))

-- they ask for a run with so many sessions over a chip that is formatted first
abbrev pub AsksFormattedBy : ℕ → AskedFor → Type 0
AsksFormattedBy sessions asked = (frames : ℕ) × (numbers : ℕ) × (closes : Bool)
    × (asked ≡ Some (Run frames sessions numbers true closes))

-- with however many
abbrev pub AsksFormatted : AskedFor → Type 0
AsksFormatted asked = (sessions : ℕ) × AsksFormattedBy sessions asked

-- or for a trial, which formats it first too
abbrev pub AsksAnew : AskedFor → Type 0
AsksAnew asked = AsksFormatted asked
    ⊎ ((seed : ℕ) × (count : ℕ) × (frames : ℕ) × (sessions : ℕ) × (numbers : ℕ)
    × (asked ≡ Some (Trial seed count frames sessions numbers)))

-- they ask for a check of the chip, or for a listing
abbrev pub AsksToLook : AskedFor → Type 0
AsksToLook asked = (asked ≡ Some Check) ⊎ (asked ≡ Some Records)

-- how the program ends: what was asked was done to its end, or it ends before
abbrev pub Ending : Type 0
Ending = Result (Unit {0}) End

-- the status
abbrev pub status_at : Ending → ℕ
status_at (Ok u) = 0
status_at (Err end) = status_of end

-- the line that is noted, none at 0
abbrev pub note_at : Ending → List ℕ
note_at (Ok u) = []
note_at (Err end) = note_of end

-- nothing but the noted bytes, which are these
abbrev pub but_noted : Told → Option (List ℕ) → Told
but_noted t noted = record t { beside = record t.beside { noted = noted } }

-- nothing was done but noted
abbrev pub IsLeftAlone : Told → Told → Type 0
IsLeftAlone old new = new ≡ but_noted old new.beside.noted

-- this is so of an ending with that status
abbrev pub AtStatus : (Ending → Type 0) → ℕ → Type 0
AtStatus P status = (ending : Ending) × (status ≡ status_at ending) × P ending

-- ---- a format

-- for how many units a format lays so many places out, with so many of them to spare
abbrev pub units_beside : ℕ → ℕ → ℕ
units_beside places spares = units_on places - spares

-- ---- a format that was stopped

-- the end that a failed format is
abbrev pub format_end : FormatFault → End
format_end format.Geometry = Chip image.Geometry
format_end format.Stopped = Chip (image.Chip Stopped)
format_end (format.Worn p) = Chip (image.Chip (WornOut 1))

-- why a format was stopped: a write failed, or an erase found its place worn
abbrev pub StopRose : FormatFault → Told → Told → Type 0
StopRose format.Geometry old new = ⊥
StopRose format.Stopped old new = Rose old.write_faults new.write_faults
StopRose (format.Worn p) old new = Rose old.worn_erases new.worn_erases

-- What a format for so many units leaves that was stopped, and the program ends so. Since a write
-- failed: an earlier part of its events, or all; or at a worn place: exactly the erases of those below
-- it, and that it was found worn. Nothing was said, and nothing read of the script.
pub record StopsEarly (places units : ℕ) (h : History) (old new : Told) (ending : Ending)
    : Type 0 where
  pub stopped : Told
  pub fault : FormatFault
  pub ending_is : ending ≡ Err (format_end fault)
  pub formats : Formats {A = Unit {0}} places units h old (Err fault) stopped
  pub counts : Counts old stopped
  pub rose : StopRose fault old stopped
  pub noted : new ≡ but_noted stopped new.beside.noted

-- a format was stopped, whatever history is looked at
abbrev pub IsFormatStopped : ℕ → Told → Told → Ending → Type 0
IsFormatStopped units old new ending = (h : History) → StopsEarly old.places units h old new ending
