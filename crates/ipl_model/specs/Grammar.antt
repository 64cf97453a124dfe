-- The line grammar of scripts: lines, words, numbers and values.
use Rattle.std.specs.Prelude.{ℕ, ◌+◌, ◌-◌, ◌*◌, ◌^◌, ◌==◌, ◌&&◌, nat_le, nat_lt, Bool, true, if◌then◌else◌, List, [], ◌∷◌, length, codes, Option, Some, None}
use Rattle.std.specs.List.{slice_split, flat_map}
use Rattle.std.specs.Option.{option_and_then, option_map, option_map_or}
use Rattle.std.specs.Result.{result_ok}
use Rattle.std.specs.Str.{bytes_eq}
use Rattle.ipl_base.specs.declared.limits.TheConstants.{SESSIONS}
use Rattle.hex.specs.Hex.{decode_of}
use Rattle.ipl_model.specs.declared.command.Command.{Command}
use Rattle.ipl_model.specs.declared.command.Command.TheVariants.{Begin, Get, Share, Put, Del, Commit, Batch, Abort, List as ListRecords, Merge, Restart, Syntax}
use Rattle.ipl_model.specs.declared.line.Line.{Line}
use Rattle.ipl_model.specs.declared.line.Line.TheVariants.{Skip, Do}

abbrev pub is_space : ℕ → Bool
is_space b = b == 32

abbrev pub is_line_feed : ℕ → Bool
is_line_feed b = b == 10

abbrev pub is_digit : ℕ → Bool
is_digit b = nat_le 48 b && nat_le b 57

-- the number that the digits spell behind the number n, below 2^32
abbrev pub number_behind : ℕ → List ℕ → Option ℕ
number_behind n [] = Some n
number_behind n (d ∷ ds) = if is_digit d && nat_lt (n * 10 + (d - 48)) (2 ^ 32) then number_behind (n * 10 + (d - 48)) ds else None

-- the number that a word is: decimal digits with no leading zero, below 2^32
abbrev pub number_of : List ℕ → Option ℕ
number_of [] = None
number_of (d ∷ ds) = if d == 48 && nat_lt 0 (length ds) then None else number_behind 0 (d ∷ ds)

-- the bytes that a word spells: a dash for none, or pairs of hex digits
abbrev pub value_spelt : List ℕ → Option (List ℕ)
value_spelt word = if bytes_eq word (codes "-") then Some [] else if length word == 0 then None else result_ok (decode_of word)

-- the words behind a verb: none, or those of the rest of the line behind the space
abbrev pub words_behind : Option (List ℕ) → List (List ℕ)
words_behind None = []
words_behind (Some rest) = slice_split is_space rest

abbrev pub one_number : List (List ℕ) → Option ℕ
one_number (s ∷ []) = number_of s
one_number words = None

abbrev pub two_numbers : List (List ℕ) → Option (ℕ × ℕ)
two_numbers (s ∷ n ∷ []) = option_and_then (λ session. option_map (λ name. (session, name)) (number_of n)) (number_of s)
two_numbers words = None

abbrev pub numbers_and_value : List (List ℕ) → Option (ℕ × ℕ × List ℕ)
numbers_and_value (s ∷ n ∷ v ∷ []) = option_and_then (λ session. option_and_then (λ name. option_map (λ bytes. (session, name, bytes)) (value_spelt v)) (number_of n)) (number_of s)
numbers_and_value words = None

-- the numbers that words are, where each is one
abbrev pub all_numbers : List (List ℕ) → Option (List ℕ)
all_numbers [] = Some []
all_numbers (s ∷ words) = option_and_then (λ session. option_map (λ more. session ∷ more) (all_numbers words)) (number_of s)

-- the sessions that the words of a commit name: numbers, at most 32
abbrev pub sessions_of : List (List ℕ) → Option (List ℕ)
sessions_of words = if nat_le (length words) SESSIONS then all_numbers words else None

-- a commit of one session, or of several together
abbrev pub commit_of : List ℕ → Command
commit_of [] = Syntax
commit_of (s ∷ []) = Commit s
commit_of (s ∷ t ∷ more) = Batch (s ∷ t ∷ more)

-- the command, where no words stand behind its verb
abbrev pub alone : Command → List (List ℕ) → Command
alone command [] = command
alone command (word ∷ words) = Syntax

-- the command that words are
abbrev pub command_of : List (List ℕ) → Command
command_of [] = Syntax
command_of (verb ∷ words) =
    if bytes_eq verb (codes "begin") then option_map_or Begin (one_number words) Syntax
    else if bytes_eq verb (codes "get") then option_map_or (λ a. Get a.0 a.1) (two_numbers words) Syntax
    else if bytes_eq verb (codes "share") then option_map_or (λ a. Share a.0 a.1) (two_numbers words) Syntax
    else if bytes_eq verb (codes "put") then option_map_or (λ a. Put a.0 a.1 a.2) (numbers_and_value words) Syntax
    else if bytes_eq verb (codes "del") then option_map_or (λ a. Del a.0 a.1) (two_numbers words) Syntax
    else if bytes_eq verb (codes "commit") then option_map_or commit_of (sessions_of words) Syntax
    else if bytes_eq verb (codes "abort") then option_map_or Abort (one_number words) Syntax
    else if bytes_eq verb (codes "list") then option_map_or (λ a. ListRecords a.0 a.1) (two_numbers words) Syntax
    else if bytes_eq verb (codes "merge") then option_map_or Merge (one_number words) Syntax
    else if bytes_eq verb (codes "restart") then alone Restart words
    else Syntax

-- a line that is empty or begins with a `#` is skipped
abbrev pub is_skipped : List ℕ → Bool
is_skipped [] = true
is_skipped (b ∷ bs) = b == 35

-- what a line says
abbrev pub line_of : List ℕ → Line
line_of line =
    if is_skipped line then Skip
    else if nat_lt 1024 (length line) then Do Syntax
    else Do (command_of (slice_split is_space line))

-- the command of a line, if it isn't skipped
abbrev pub commands_in : Line → List Command
commands_in Skip = []
commands_in (Do command) = command ∷ []

-- the commands of the lines of a script, which end with line feeds. A rest behind the last of these that is empty
-- would be skipped, so it needs no rule of its own.
abbrev pub commands_of : List ℕ → List Command
commands_of script = flat_map (λ line. commands_in (line_of line)) (slice_split is_line_feed script)

-- a first word and the words behind it
abbrev pub words_with : List ℕ → Option (List ℕ) → List (List ℕ)
words_with word rest = word ∷ words_behind rest
