-- What the calls answer for the words of the command line.
use Rattle.std.specs.Prelude.{List, Option}
use Rattle.std.specs.Option.{option_map, option_map_or}
use Rattle.clap.specs.Words.{Text}
use Rattle.command_line.specs.Chip.{Chip, ram, file}
use Rattle.command_line.specs.Asked.{asked_of}
use Rattle.command_line.specs.declared.asked.Request.{Request}
use Rattle.command_line.specs.declared.choice.Choice.{Choice}
use Rattle.command_line.specs.declared.choice.Choice.TheVariants.{Ram, File, Nothing}

-- a chip as a choice
abbrev pub choice_of : Chip → Choice
choice_of (ram units) = Ram units
choice_of (file units path) = File units path

-- the chip that the words choose: nothing where they aren't valid
abbrev pub chosen : List Text → Choice
chosen words = option_map_or (λ asks. choice_of asks.chip) (asked_of words) Nothing

-- what the words ask to be done, where they are valid
abbrev pub requested : List Text → Option Request
requested words = option_map (λ asks. asks.request) (asked_of words)
