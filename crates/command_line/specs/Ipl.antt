-- The command that the words are read by, in clap's own definitions.
use Rattle.std.specs.Prelude.{ℕ, true, [], ◌∷◌, codes, Some}
use Rattle.clap.specs.Words.{App, Rule, Text, new_app, new_rule, with_rule, with_subcommand}
use Rattle.clap.specs.Simple.{Shape, on_top}
use Rattle.clap.specs.declared.builder.action.ArgAction.TheVariants.{SetTrue}
use Rattle.clap.specs.declared.builder.value_parser.ValueParser.TheVariants.{Unsigned}

-- CHIP, one word that has to be there
abbrev pub chip_rule : Rule
chip_rule = record (new_rule (codes "chip")) { required = true }

-- a flag, --format or --close
abbrev pub flag_rule : Text → Rule
flag_rule id = record (new_rule id) { long = Some id; action = Some SetTrue }

-- an option with one value, a number within the bounds
abbrev pub number_rule : Text → ℕ → ℕ → Rule
number_rule id low high =
    record (new_rule id) { long = Some id; parser = Some (Unsigned low high) }

-- --frames N, which is 16 where it isn't given
abbrev pub frames_rule : Rule
frames_rule = record (number_rule (codes "frames") 2 64) { defaults = codes "16" ∷ [] }

-- --sessions S, which is 32 where it isn't given
abbrev pub sessions_rule : Rule
sessions_rule = record (number_rule (codes "sessions") 1 32) { defaults = codes "32" ∷ [] }

-- --numbers N, which is 15,300 where it isn't given
abbrev pub numbers_rule : Rule
numbers_rule = record (number_rule (codes "numbers") 120 15300) { defaults = codes "15300" ∷ [] }

-- an option that has to be there, with a number within the bounds
abbrev pub wanted_rule : Text → ℕ → ℕ → Rule
wanted_rule id low high = record (number_rule id low high) { required = true }

-- --spares K, which is 0 where it isn't given
abbrev pub spares_rule : Rule
spares_rule = record (number_rule (codes "spares") 0 64) { defaults = codes "0" ∷ [] }

-- format CHIP [--spares K]
abbrev pub format_command : App
format_command = with_rule (with_rule (new_app (codes "format")) chip_rule) spares_rule

-- run CHIP [--frames N] [--sessions S] [--numbers N] [--format] [--close]
abbrev pub run_command : App
run_command = with_rule (with_rule (with_rule (with_rule (with_rule (with_rule (new_app (codes "run")) chip_rule)
    frames_rule) sessions_rule) numbers_rule) (flag_rule (codes "format"))) (flag_rule (codes "close"))

-- serial CHIP [--sessions S]
abbrev pub serial_command : App
serial_command = with_rule (with_rule (new_app (codes "serial")) chip_rule) sessions_rule

-- trial CHIP --seed N --count N [--frames N] [--sessions S] [--numbers N]
abbrev pub trial_command : App
trial_command = with_rule (with_rule (with_rule (with_rule (with_rule (with_rule (new_app (codes "trial")) chip_rule)
    (wanted_rule (codes "seed") 0 4294967295)) (wanted_rule (codes "count") 0 1000000)) frames_rule)
    sessions_rule) numbers_rule

-- check CHIP
abbrev pub check_command : App
check_command = with_rule (new_app (codes "check")) chip_rule

-- list CHIP
abbrev pub list_command : App
list_command = with_rule (new_app (codes "list")) chip_rule

-- the words come without the program's name, and none of them asks for help or a version
abbrev pub bare : Shape → Shape
bare s = record s {
  no_binary_name = true;
  disable_help_flag = true;
  disable_help_subcommand = true;
  disable_version_flag = true;
}

-- ipl
unfoldable pub ipl_command : App
ipl_command =
    with_subcommand (with_subcommand (with_subcommand (with_subcommand (with_subcommand (with_subcommand
    (on_top bare (new_app (codes "ipl"))) format_command.top) run_command.top) serial_command.top)
    trial_command.top) check_command.top) list_command.top
