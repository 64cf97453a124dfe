-- What the words of the command line ask.
use Rattle.std.specs.Prelude.{ℕ, ◌≤◌, Bool, false, ⊤, List, Option, None, codes}
use Rattle.std.specs.Prelude.{if◌then◌else◌}
use Rattle.std.specs.Option.{option_map, option_map_or, option_and_then, unwrap_or}
use Rattle.std.specs.Str.{bytes_eq}
use Rattle.std.specs.Str.Parse.{digits_value, without_leading_plus}
use Rattle.clap.specs.Words.{Row, Text, first_of, fault_of, subcommand_of}
use Rattle.clap.specs.ValueTests.{is_unsigned_in}
use Rattle.clap.specs.Walk.{is_empty}
use Rattle.command_line.specs.Ipl.{ipl_command}
use Rattle.command_line.specs.Chip.{Chip, chip_of, word_view}
use Rattle.command_line.specs.declared.asked.Asked.{Asked}
use Rattle.command_line.specs.declared.asked.Request.{Request}
use Rattle.command_line.specs.declared.asked.Request.TheVariants.{Format, Run, Serial, Check, Trial, Records}

-- what is to be done, with which chip
pub record Asks : Type 0 where
  pub request : Request
  pub chip : Chip

-- without where its texts lie in memory
abbrev pub view : Asked → Asks
view asked = record { request = asked.request; chip = word_view asked.chip }

-- a flag is among the rows that clap finds
abbrev pub is_set : Text → List Row → Bool
is_set id rows = unwrap_or (option_map (λ text. bytes_eq text (codes "true")) (first_of id rows)) false

-- The number that a text writes, where clap's own test finds it within the bounds; any other text
-- counts as the least of them. So clap alone says which numbers are valid, and what is read is
-- always within the bounds. Clap lets no other text through: examples show it, and no law says so.
abbrev pub number_in : ℕ → ℕ → Text → ℕ
number_in low high text = if is_unsigned_in low high text
    then digits_value 10 (without_leading_plus text) else low

-- the number at an option, and the least where no text is found
abbrev pub number_at : ℕ → ℕ → Text → List Row → ℕ
number_at low high id rows = option_map_or (number_in low high) (first_of id rows) low

-- the number of page frames
abbrev pub frames_at : List Row → ℕ
frames_at = number_at 2 64 (codes "frames")

-- the number of sessions
abbrev pub sessions_at : List Row → ℕ
sessions_at = number_at 1 32 (codes "sessions")

-- how many committed numbers have room
abbrev pub numbers_at : List Row → ℕ
numbers_at = number_at 120 15300 (codes "numbers")

-- the number of places that are kept for those that wear out
abbrev pub spares_at : List Row → ℕ
spares_at = number_at 0 64 (codes "spares")

-- what `run` asks to be done
abbrev pub run_at : List Row → Request
run_at rows = Run (frames_at rows) (sessions_at rows) (numbers_at rows)
    (is_set (codes "format") rows) (is_set (codes "close") rows)

-- what `trial` asks to be done
abbrev pub trial_at : List Row → Request
trial_at rows = Trial (number_at 0 4294967295 (codes "seed") rows)
    (number_at 0 1000000 (codes "count") rows) (frames_at rows) (sessions_at rows) (numbers_at rows)

-- what a subcommand asks to be done
abbrev pub request_at : Text → List Row → Request
request_at name rows = if bytes_eq name (codes "format") then Format (spares_at rows)
    else if bytes_eq name (codes "serial") then Serial (sessions_at rows)
    else if bytes_eq name (codes "trial") then trial_at rows
    else if bytes_eq name (codes "check") then Check
    else if bytes_eq name (codes "list") then Records
    else run_at rows

-- the chip that CHIP names
abbrev pub chip_at : List Row → Option Chip
chip_at rows = option_and_then chip_of (first_of (codes "chip") rows)

-- what a subcommand asks of which chip
abbrev pub asked_at : Text → List Row → Option Asks
asked_at name rows =
    option_map (λ chip. record { request = request_at name rows; chip = chip }) (chip_at rows)

-- Words are valid exactly where clap has no fault for them under the command, a subcommand is named
-- and CHIP is in the grammar. This is what they ask then.
unfoldable pub asked_of : List Text → Option Asks
asked_of words = if is_empty (fault_of ipl_command words)
    then option_and_then (λ p. asked_at p.0 p.1) (subcommand_of ipl_command words) else None

-- the numbers of a request are within their bounds
abbrev pub IsInBounds : Request → Type 0
IsInBounds (Format spares) = spares ≤ 64
IsInBounds (Run frames sessions numbers format close) = (2 ≤ frames) × (frames ≤ 64)
    × (1 ≤ sessions) × (sessions ≤ 32) × (120 ≤ numbers) × (numbers ≤ 15300)
IsInBounds (Serial sessions) = (1 ≤ sessions) × (sessions ≤ 32)
IsInBounds Check = ⊤
IsInBounds Records = ⊤
IsInBounds (Trial seed count frames sessions numbers) = (seed ≤ 4294967295) × (count ≤ 1000000)
    × (2 ≤ frames) × (frames ≤ 64) × (1 ≤ sessions) × (sessions ≤ 32) × (120 ≤ numbers) × (numbers ≤ 15300)
