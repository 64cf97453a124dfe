-- What the words of the command line are, by laws and by examples.
use Rattle.std.specs.Prelude.{◌≡◌, ◌<◌, ◌^◌, ℕ, List, [], ◌∷◌, ◌++◌, length, codes}
use Rattle.std.specs.Prelude.{Option, Some, None, true, false}
use Rattle.std.specs.Fmt.{decimal}
use Rattle.clap.specs.Words.{Text}
use Rattle.command_line.specs.Chip.{Chip, chip_of, ram, file}
use Rattle.command_line.specs.Choice.{chosen, requested}
use Rattle.command_line.specs.declared.asked.Request.{Request}
use Rattle.command_line.specs.declared.asked.Request.TheVariants.{Format, Run, Serial, Check, Trial, Records}
use Rattle.command_line.specs.declared.choice.Choice.TheVariants as choice

-- the word that spells a chip
abbrev pub word_of : Chip → List ℕ
word_of (ram units) = codes "ram:" ++ decimal units
word_of (file units path) = codes "file:" ++ (decimal units ++ 58 ∷ path)

-- it has one
abbrev pub IsNameable : Chip → Type 0
IsNameable (ram units) = units < 2 ^ 32
IsNameable (file units path) = (units < 2 ^ 32) × (0 < length path)

-- what is spelled is read
abbrev pub SpelledIsRead : Type 0
SpelledIsRead = (chip : Chip) → IsNameable chip → chip_of (word_of chip) ≡ Some chip

-- nothing else is
abbrev pub ReadIsSpelled : Type 0
ReadIsSpelled = (word : List ℕ) (chip : Chip) → chip_of word ≡ Some chip
    → (word ≡ word_of chip) × IsNameable chip

-- no chip is chosen exactly where nothing is asked
abbrev pub NothingTogether : Type 0
NothingTogether = (words : List Text) → (chosen words ≡ choice.Nothing → requested words ≡ None)
    × (requested words ≡ None → chosen words ≡ choice.Nothing)

-- words that name a chip
pub record ChipExamples : Type 0 where
  pub memory : chip_of (codes "ram:5") ≡ Some (ram 5)
  pub none_there : chip_of (codes "ram:0") ≡ Some (ram 0)
  pub most : chip_of (codes "ram:4294967295") ≡ Some (ram 4294967295)
  pub in_file : chip_of (codes "file:5:a:b") ≡ Some (file 5 (codes "a:b"))

-- and words that name none
pub record NoChipExamples : Type 0 where
  pub no_number : chip_of (codes "ram:") ≡ None
  pub leading_zero : chip_of (codes "ram:05") ≡ None
  pub plus : chip_of (codes "ram:+5") ≡ None
  pub too_many : chip_of (codes "ram:4294967296") ≡ None
  pub no_path : chip_of (codes "file:5") ≡ None
  pub empty_path : chip_of (codes "file:5:") ≡ None
  pub other_kind : chip_of (codes "disk:5") ≡ None

-- valid words, and what they ask
pub record WordExamples : Type 0 where
  pub formats : requested (codes "format" ∷ codes "ram:5" ∷ []) ≡ Some (Format 0)
  pub runs : requested (codes "run" ∷ codes "ram:5" ∷ []) ≡ Some (Run 16 32 15300 false false)
  pub formats_first : requested (codes "run" ∷ codes "ram:5" ∷ codes "--format" ∷ [])
      ≡ Some (Run 16 32 15300 true false)
  pub flag_before : requested (codes "run" ∷ codes "--format" ∷ codes "ram:5" ∷ [])
      ≡ Some (Run 16 32 15300 true false)
  pub chip_behind_dashes : requested (codes "run" ∷ codes "--" ∷ codes "ram:5" ∷ [])
      ≡ Some (Run 16 32 15300 false false)
  pub closes : requested (codes "run" ∷ codes "ram:5" ∷ codes "--close" ∷ [])
      ≡ Some (Run 16 32 15300 false true)
  pub formats_and_closes : requested (codes "run" ∷ codes "--close" ∷ codes "ram:5" ∷ codes "--format" ∷ [])
      ≡ Some (Run 16 32 15300 true true)
  pub says_its_view : requested (codes "serial" ∷ codes "ram:5" ∷ []) ≡ Some (Serial 32)
  pub checks : requested (codes "check" ∷ codes "ram:5" ∷ []) ≡ Some Check
  pub lists : requested (codes "list" ∷ codes "ram:5" ∷ []) ≡ Some Records
  pub memory : chosen (codes "run" ∷ codes "ram:5" ∷ []) ≡ choice.Ram 5
  pub in_file : chosen (codes "run" ∷ codes "file:5:a:b" ∷ []) ≡ choice.File 5 (codes "a:b")

-- what `format` asks of a chip with these words behind it
abbrev pub format_with : List Text → Option Request
format_with words = requested (codes "format" ∷ codes "ram:5" ∷ words)

-- valid words with a number of spare places
pub record SpareExamples : Type 0 where
  pub least : format_with (codes "--spares" ∷ codes "0" ∷ []) ≡ Some (Format 0)
  pub most : format_with (codes "--spares" ∷ codes "64" ∷ []) ≡ Some (Format 64)
  pub attached : format_with (codes "--spares=1" ∷ []) ≡ Some (Format 1)
  pub before_chip : requested (codes "format" ∷ codes "--spares=4" ∷ codes "ram:5" ∷ [])
      ≡ Some (Format 4)

-- what `run` asks of a chip with these words behind it
abbrev pub run_with : List Text → Option Request
run_with words = requested (codes "run" ∷ codes "ram:5" ∷ words)

-- valid words with a number of frames
pub record FrameExamples : Type 0 where
  pub least : run_with (codes "--frames" ∷ codes "2" ∷ []) ≡ Some (Run 2 32 15300 false false)
  pub most : run_with (codes "--frames" ∷ codes "64" ∷ []) ≡ Some (Run 64 32 15300 false false)
  pub attached : run_with (codes "--frames=16" ∷ []) ≡ Some (Run 16 32 15300 false false)
  pub plus : run_with (codes "--frames" ∷ codes "+16" ∷ []) ≡ Some (Run 16 32 15300 false false)
  pub leading_zero : run_with (codes "--frames" ∷ codes "016" ∷ []) ≡ Some (Run 16 32 15300 false false)
  pub with_format : run_with (codes "--frames=4" ∷ codes "--format" ∷ []) ≡ Some (Run 4 32 15300 true false)
  pub before_chip : requested (codes "run" ∷ codes "--frames=4" ∷ codes "ram:5" ∷ [])
      ≡ Some (Run 4 32 15300 false false)

-- what `serial` asks of a chip with these words behind it
abbrev pub serial_with : List Text → Option Request
serial_with words = requested (codes "serial" ∷ codes "ram:5" ∷ words)

-- what `trial` asks of a chip with these words behind it
abbrev pub trial_with : List Text → Option Request
trial_with words = requested (codes "trial" ∷ codes "ram:5" ∷ words)

-- valid words of trials
pub record TrialExamples : Type 0 where
  pub least : trial_with (codes "--seed=0" ∷ codes "--count=0" ∷ []) ≡ Some (Trial 0 0 16 32 15300)
  pub most : trial_with (codes "--seed=4294967295" ∷ codes "--count=1000000" ∷ [])
      ≡ Some (Trial 4294967295 1000000 16 32 15300)
  pub in_any_order : trial_with (codes "--count" ∷ codes "7" ∷ codes "--seed" ∷ codes "+08" ∷ [])
      ≡ Some (Trial 8 7 16 32 15300)
  pub with_frames : trial_with (codes "--seed=1" ∷ codes "--count=3" ∷ codes "--frames=2" ∷ [])
      ≡ Some (Trial 1 3 2 32 15300)

-- valid words with a number of sessions
pub record SessionExamples : Type 0 where
  pub least : run_with (codes "--sessions" ∷ codes "1" ∷ []) ≡ Some (Run 16 1 15300 false false)
  pub most : run_with (codes "--sessions" ∷ codes "32" ∷ []) ≡ Some (Run 16 32 15300 false false)
  pub with_others : run_with (codes "--frames=2" ∷ codes "--sessions=2" ∷ codes "--format" ∷ [])
      ≡ Some (Run 2 2 15300 true false)
  pub before_frames : run_with (codes "--sessions=3" ∷ codes "--frames" ∷ codes "4" ∷ [])
      ≡ Some (Run 4 3 15300 false false)
  pub of_a_view : serial_with (codes "--sessions=4" ∷ []) ≡ Some (Serial 4)
  pub of_a_trial : trial_with (codes "--seed=1" ∷ codes "--count=3" ∷ codes "--sessions=5" ∷ [])
      ≡ Some (Trial 1 3 16 5 15300)

-- valid words with how many committed numbers have room
pub record NumberExamples : Type 0 where
  pub least : run_with (codes "--numbers" ∷ codes "120" ∷ []) ≡ Some (Run 16 32 120 false false)
  pub most : run_with (codes "--numbers" ∷ codes "15300" ∷ []) ≡ Some (Run 16 32 15300 false false)
  pub with_others : run_with (codes "--frames=2" ∷ codes "--sessions=4" ∷ codes "--numbers=1500" ∷ codes "--close" ∷ [])
      ≡ Some (Run 2 4 1500 false true)
  pub of_a_trial : trial_with (codes "--seed=1" ∷ codes "--count=3" ∷ codes "--numbers=600" ∷ [])
      ≡ Some (Trial 1 3 16 32 600)

-- words that aren't valid
pub record NoWordExamples : Type 0 where
  pub nothing : requested [] ≡ None
  pub unknown : requested (codes "walk" ∷ []) ≡ None
  pub no_command : requested (codes "ram:5" ∷ []) ≡ None
  pub no_chip : requested (codes "run" ∷ []) ≡ None
  pub two_chips : requested (codes "run" ∷ codes "ram:5" ∷ codes "ram:6" ∷ []) ≡ None
  pub other_chip : requested (codes "run" ∷ codes "ram:05" ∷ []) ≡ None
  pub format_flag : requested (codes "format" ∷ codes "ram:5" ∷ codes "--format" ∷ []) ≡ None
  pub close_flag : requested (codes "format" ∷ codes "ram:5" ∷ codes "--close" ∷ []) ≡ None
  pub closes_twice : requested (codes "run" ∷ codes "ram:5" ∷ codes "--close" ∷ codes "--close" ∷ [])
      ≡ None
  pub check_flag : requested (codes "check" ∷ codes "ram:5" ∷ codes "--format" ∷ []) ≡ None
  pub list_flag : requested (codes "list" ∷ codes "ram:5" ∷ codes "--close" ∷ []) ≡ None
  pub view_flag : requested (codes "serial" ∷ codes "ram:5" ∷ codes "--format" ∷ []) ≡ None
  pub twice : requested (codes "run" ∷ codes "ram:5" ∷ codes "--format" ∷ codes "--format" ∷ [])
      ≡ None
  pub valued : requested (codes "run" ∷ codes "ram:5" ∷ codes "--format=true" ∷ []) ≡ None
  pub short : requested (codes "run" ∷ codes "ram:5" ∷ codes "-f" ∷ []) ≡ None
  pub help : requested (codes "--help" ∷ []) ≡ None
  pub help_of : requested (codes "run" ∷ codes "--help" ∷ []) ≡ None
  pub help_word : requested (codes "help" ∷ []) ≡ None
  pub version : requested (codes "--version" ∷ []) ≡ None
  pub version_of : requested (codes "run" ∷ codes "ram:5" ∷ codes "--version" ∷ []) ≡ None

-- and such with a number of spare places
pub record NoSpareExamples : Type 0 where
  pub too_many : format_with (codes "--spares" ∷ codes "65" ∷ []) ≡ None
  pub none : format_with (codes "--spares" ∷ []) ≡ None
  pub minus : format_with (codes "--spares=-1" ∷ []) ≡ None
  pub twice : format_with (codes "--spares=1" ∷ codes "--spares=1" ∷ []) ≡ None
  pub at_run : requested (codes "run" ∷ codes "ram:5" ∷ codes "--format" ∷ codes "--spares=1" ∷ [])
      ≡ None
  pub at_serial : requested (codes "serial" ∷ codes "ram:5" ∷ codes "--spares=1" ∷ []) ≡ None

-- and such with a number of frames
pub record NoFrameExamples : Type 0 where
  pub too_few : run_with (codes "--frames" ∷ codes "1" ∷ []) ≡ None
  pub too_many : run_with (codes "--frames" ∷ codes "65" ∷ []) ≡ None
  pub none : run_with (codes "--frames" ∷ []) ≡ None
  pub empty : run_with (codes "--frames=" ∷ []) ≡ None
  pub minus : run_with (codes "--frames=-4" ∷ []) ≡ None
  pub word : run_with (codes "--frames=four" ∷ []) ≡ None
  pub twice : run_with (codes "--frames=4" ∷ codes "--frames=4" ∷ []) ≡ None
  pub short : run_with (codes "-f" ∷ codes "4" ∷ []) ≡ None
  pub at_format : requested (codes "format" ∷ codes "ram:5" ∷ codes "--frames=4" ∷ []) ≡ None
  pub at_serial : requested (codes "serial" ∷ codes "ram:5" ∷ codes "--frames=4" ∷ []) ≡ None

-- and such with a number of sessions
pub record NoSessionExamples : Type 0 where
  pub too_few : run_with (codes "--sessions" ∷ codes "0" ∷ []) ≡ None
  pub too_many : run_with (codes "--sessions" ∷ codes "33" ∷ []) ≡ None
  pub none : run_with (codes "--sessions" ∷ []) ≡ None
  pub minus : run_with (codes "--sessions=-2" ∷ []) ≡ None
  pub twice : run_with (codes "--sessions=2" ∷ codes "--sessions=2" ∷ []) ≡ None
  pub too_few_for_a_view : serial_with (codes "--sessions=0" ∷ []) ≡ None
  pub too_many_for_a_trial : trial_with (codes "--seed=1" ∷ codes "--count=3" ∷ codes "--sessions=33" ∷ [])
      ≡ None
  pub at_format : format_with (codes "--sessions=2" ∷ []) ≡ None
  pub at_check : requested (codes "check" ∷ codes "ram:5" ∷ codes "--sessions=2" ∷ []) ≡ None

-- and such with how many committed numbers have room
pub record NoNumberExamples : Type 0 where
  pub too_few : run_with (codes "--numbers" ∷ codes "119" ∷ []) ≡ None
  pub too_many : run_with (codes "--numbers" ∷ codes "15301" ∷ []) ≡ None
  pub none : run_with (codes "--numbers" ∷ []) ≡ None
  pub twice : run_with (codes "--numbers=600" ∷ codes "--numbers=600" ∷ []) ≡ None
  pub too_few_for_a_trial : trial_with (codes "--seed=1" ∷ codes "--count=3" ∷ codes "--numbers=0" ∷ [])
      ≡ None
  pub of_a_view : serial_with (codes "--numbers=600" ∷ []) ≡ None
  pub at_format : format_with (codes "--numbers=600" ∷ []) ≡ None
  pub at_check : requested (codes "check" ∷ codes "ram:5" ∷ codes "--numbers=600" ∷ []) ≡ None

-- and such of trials
pub record NoTrialExamples : Type 0 where
  pub no_seed : trial_with (codes "--count=3" ∷ []) ≡ None
  pub no_count : trial_with (codes "--seed=1" ∷ []) ≡ None
  pub no_chip : requested (codes "trial" ∷ codes "--seed=1" ∷ codes "--count=3" ∷ []) ≡ None
  pub seed_too_large : trial_with (codes "--seed=4294967296" ∷ codes "--count=3" ∷ []) ≡ None
  pub count_too_large : trial_with (codes "--seed=1" ∷ codes "--count=1000001" ∷ []) ≡ None
  pub minus : trial_with (codes "--seed=-1" ∷ codes "--count=3" ∷ []) ≡ None
  pub too_many_frames : trial_with (codes "--seed=1" ∷ codes "--count=3" ∷ codes "--frames=65" ∷ [])
      ≡ None
  pub format_flag : trial_with (codes "--seed=1" ∷ codes "--count=3" ∷ codes "--format" ∷ [])
      ≡ None
  pub close_flag : trial_with (codes "--seed=1" ∷ codes "--count=3" ∷ codes "--close" ∷ [])
      ≡ None
  pub seed_at_run : run_with (codes "--seed=1" ∷ []) ≡ None
