-- The word that names a chip: ram:N, or file:N:PATH.
use Rattle.std.specs.Prelude.{ℕ, ◌==◌, Bool, List, length, codes, Option, None, if◌then◌else◌}
use Rattle.std.specs.List.{before_first, after_first}
use Rattle.std.specs.Option.{option_map}
use Rattle.std.specs.Str.{bytes_eq}
use Rattle.ipl_model.specs.Grammar.{number_of}
use Rattle.command_line.specs.declared.chip_word.ChipWord.{ChipWord}
use Rattle.command_line.specs.declared.chip_word.ChipWord.TheVariants.{Ram, File}

-- a chip of so many places, in memory or in the file at a path
pub data Chip : Type 0 where
  ram : ℕ → Chip
  file : ℕ → List ℕ → Chip

-- what a word is read as, without where its text lies in memory
abbrev pub word_view : ChipWord → Chip
word_view (Ram units) = ram units
word_view (File units path) = file units path.now

abbrev pub is_colon : ℕ → Bool
is_colon b = b == 58

-- N:PATH, where N is a decimal without leading zeros below 2^32, and PATH all the rest, not empty
abbrev pub file_of : List ℕ → Option Chip
file_of text =
    if length (after_first is_colon text) == 0 then None
    else option_map (λ units. file units (after_first is_colon text))
    (number_of (before_first is_colon text))

-- the chip that a word names; where there is no colon, nothing stands after it, which is no number
abbrev pub chip_of : List ℕ → Option Chip
chip_of word =
    if bytes_eq (before_first is_colon word) (codes "ram")
    then option_map ram (number_of (after_first is_colon word))
    else if bytes_eq (before_first is_colon word) (codes "file")
    then file_of (after_first is_colon word)
    else None
