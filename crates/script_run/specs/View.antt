-- The serial view of a script, as the script is read and the view is said.
use Rattle.std.specs.Prelude.{◌≡◌, ℕ, Bool, true, List, [], ◌++◌, map, reverse, codes, Some, Result, is_ok}
use Rattle.std.specs.Option.{option_map}
use Rattle.std.specs.Fmt.{decimal}
use Rattle.std.specs.FinMap.{empty}
use Rattle.ipl_model.specs.State.{Limits}
use Rattle.ipl_model.specs.declared.command.Command.{Command}
use Rattle.ipl_model.specs.Grammar.{commands_of}
use Rattle.chip_trait.specs.Told.{Told, Rose, adds_all}
use Rattle.store_trait.specs.Onward.{Further, Still, sayings}
use Rattle.script_run.specs.Lines.{commands_from}
use Rattle.script_run.specs.Goes.{ReadsTooMany}
use Rattle.script_run.specs.Run.{SaysLines}
use Rattle.serial_view.specs.Serial.{serial}
use Rattle.script_run.specs.declared.view_stop.ViewStop.{ViewStop}
use Rattle.script_run.specs.declared.view_stop.ViewStop.TheVariants as stop

-- the line of a position
abbrev pub position_line : ℕ → List ℕ
position_line k = decimal k ++ codes "\n"

-- the lines of the serial view of a script, run from the empty map
abbrev pub view_lines : Limits → List ℕ → List (List ℕ)
view_lines limits script = map position_line (serial limits empty (commands_of script))

-- when each end comes that isn't the end of the view; want of memory has no cause
abbrev pub ViewCause : Told → Told → ViewStop → Type 0
ViewCause old new stop.OutOfMemory = Unit {0}
ViewCause old new stop.Script = Rose old.beside.script_faults new.beside.script_faults
ViewCause old new stop.TooLong = ReadsTooMany old new
ViewCause old new stop.Output = Rose old.beside.say_faults new.beside.say_faults

-- ---- the script is read

-- nothing was done but reads of the script: the chip is as it was, and no count fell
pub record ReadsScript (old new : Told) : Type 0 where
  pub settled : new.settled ≡ old.settled
  pub history : new.history ≡ old.history
  pub contents : new.contents ≡ old.contents
  pub further : Further old new

-- bytes of the script became commands, or were kept of a line: whatever bytes follow, the commands are the same
abbrev pub GathersCommands : List ℕ → List Command → List ℕ → List Command → List ℕ → Type 0
GathersCommands bytes before line then later = (tail : List ℕ)
    → before ++ commands_from line (bytes ++ tail) ≡ then ++ commands_from later tail

-- of the script a rest is left, and its commands are those that were read, and those still to come
pub record IsReading (script : List ℕ) (commands : List Command) (line : List ℕ) (t : Told) : Type 0 where
  pub rest : List ℕ
  pub left_is : t.beside.left ≡ Some rest
  pub to_come : commands_of script ≡ commands ++ commands_from line rest

-- the script was read to its end, and these are its commands
pub record HasReadAll (script : List ℕ) (commands : List Command) (t : Told) : Type 0 where
  pub left_is : t.beside.left ≡ Some []
  pub all : commands_of script ≡ commands

-- ---- the view is said

-- no sector was touched: pieces were said, or the script was read, nothing was noted, and no count fell
pub record OnlySays (old new : Told) : Type 0 where
  pub still : Still old new
  pub further : Further old new

-- These lines were said, or a part of them, and nothing else happened to the chip. Where all is done they were said
-- whole.
pub record SaysOnly (lines : List (List ℕ)) (old new : Told) (done : Bool) : Type 0 where
  pub said : List (List ℕ)
  pub part : SaysLines lines said
  pub all : done ≡ true → said ≡ lines
  pub history : new.history ≡ option_map (adds_all (reverse (sayings said))) old.history
  pub settled : new.settled ≡ old.settled
  pub contents : new.contents ≡ old.contents
  pub further : Further old new

-- The script was read to its end and the lines of its serial view were said; or it stopped before, and a part of them
-- was.
pub record SaysView (limits : Limits) (script : List ℕ) (old : Told) (result : Result (Unit {0}) ViewStop)
    (new : Told) : Type 0 where
  pub says : SaysOnly (view_lines limits script) old new (is_ok result)
  pub read : is_ok result ≡ true → new.beside.left ≡ Some []
