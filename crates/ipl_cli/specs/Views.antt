-- The view of a script: what is said, what is left, and how it ends.
use Rattle.std.specs.Prelude.{◌≡◌, ℕ, Bool, true, false, List, [], reverse, Some, Ok, Err}
use Rattle.std.specs.Option.{option_map}
use Rattle.chip_trait.specs.Story.{joined_pieces}
use Rattle.chip_trait.specs.Told.{Told, IsPrefix, adds_all}
use Rattle.ipl_base.specs.Places.{IsGeometry, units_on}
use Rattle.ipl_base.specs.declared.fault.ImageFault.{ImageFault}
use Rattle.ipl_base.specs.declared.fault.ImageFault.TheVariants as image
use Rattle.serial_view.specs.Running.{limits_with}
use Rattle.store_trait.specs.Onward.{sayings}
use Rattle.script_run.specs.Run.{SaysLines}
use Rattle.script_run.specs.View.{ReadsScript, OnlySays, view_lines}
use Rattle.script_run.specs.declared.view_stop.ViewStop.{ViewStop}
use Rattle.script_run.specs.declared.view_stop.ViewStop.TheVariants as stop
use Rattle.command_line.specs.declared.end.End.{End}
use Rattle.command_line.specs.declared.end.End.TheVariants.{Words, Chip, OutOfMemory, Script, Output, TooLong}
use Rattle.ipl_cli.specs.Ending.{Ending, IsLeftAlone, but_noted}

-- the end that a view is which isn't said to its end
abbrev pub view_end : ViewStop → End
view_end stop.OutOfMemory = OutOfMemory
view_end stop.Script = Script
view_end stop.TooLong = TooLong
view_end stop.Output = Output

-- a fault of the chip ends a view only where the places aren't 5 to 1,028
abbrev pub ViewedCause : ImageFault → Told → Told → Type 0
ViewedCause e old new = (e ≡ image.Geometry) × ¬ IsGeometry old.places

-- the lines of the serial view of a script, run by so many sessions from no records, on so many places
abbrev pub view_on : ℕ → ℕ → List ℕ → List (List ℕ)
view_on sessions places script = view_lines (limits_with sessions (units_on places)) script

-- What the view of a script leaves. What is said is a beginning of its lines, one by one, and
-- nothing else happened to the
-- chip. Where all is done, all lines are said, and of the script nothing is left.
pub record Views (sessions places : ℕ) (script : List ℕ) (old new : Told) (done : Bool) : Type 0 where
  pub said : List (List ℕ)
  pub part : SaysLines (view_on sessions places script) said
  pub is_prefix : IsPrefix (joined_pieces said) (joined_pieces (view_on sessions places script))
  pub history : new.history ≡ option_map (adds_all (reverse (sayings said))) old.history
  pub settled : new.settled ≡ old.settled
  pub contents : new.contents ≡ old.contents
  pub all : done ≡ true → (said ≡ view_on sessions places script) × (new.beside.left ≡ Some [])

-- over a script that is told
abbrev pub ViewsTold : ℕ → Told → Told → Bool → Type 0
ViewsTold sessions old new done = (script : List ℕ) → old.beside.left ≡ Some script
    → Views sessions old.places script old new done

-- no sector was touched: pieces were said, the script was read, and the end was noted
pub record OnlyViews (old new : Told) : Type 0 where
  pub viewed : Told
  pub says : OnlySays old viewed
  pub noted : new ≡ but_noted viewed new.beside.noted

-- nothing was done but reads of the script, and a note
pub record OnlyHears (old new : Told) : Type 0 where
  pub heard : Told
  pub reads : ReadsScript old heard
  pub noted : new ≡ but_noted heard new.beside.noted

-- what a view leaves
abbrev pub SerialLeaves : ℕ → Ending → Told → Told → Type 0
SerialLeaves sessions (Ok u) old new = ViewsTold sessions old new true × OnlyViews old new
SerialLeaves sessions (Err Words) old new = ⊥
SerialLeaves sessions (Err (Chip e)) old new = IsLeftAlone old new
SerialLeaves sessions (Err OutOfMemory) old new = OnlyHears old new
SerialLeaves sessions (Err Script) old new = ViewsTold sessions old new false × OnlyViews old new
SerialLeaves sessions (Err Output) old new = ViewsTold sessions old new false × OnlyViews old new
SerialLeaves sessions (Err TooLong) old new = ViewsTold sessions old new false × OnlyViews old new
