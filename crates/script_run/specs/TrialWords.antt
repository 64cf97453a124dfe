-- The commands of a trial: SplitMix64 gives a word for each, and the word says it. Divisions are of
-- whole numbers, rounded down.
use Rattle.std.specs.Prelude.{ℕ, ◌+◌, ◌*◌, ◌/◌, ◌%◌, nat_lt, if◌then◌else◌, List, map}
use Rattle.std.specs.List.{range_with_len}
use Rattle.rand_core.specs.Steps.{first_words}
use Rattle.rand_xoshiro.specs.SplitMix64.{mix_u64}
use Rattle.ipl_model.specs.declared.command.Command.{Command}
use Rattle.ipl_model.specs.declared.command.Command.TheVariants as command
use Rattle.script_run.specs.TrialSource.{WordSource}

-- the session of a word, its operation, and its name in a store of so many units
abbrev pub session_of : ℕ → ℕ
session_of word = word % 8

abbrev pub operation_of : ℕ → ℕ
operation_of word = word / 8 % 16

abbrev pub name_of : ℕ → ℕ → ℕ
name_of units word = word / 128 % 512 * units

-- how many bytes a put has, and byte i of them
abbrev pub put_len : ℕ → ℕ
put_len word = word / 65536 % 109

abbrev pub put_byte : ℕ → ℕ → ℕ
put_byte word i = (word / 4294967296 + i) % 256

abbrev pub put_bytes : ℕ → List ℕ
put_bytes word = map (λ i. put_byte word i) (range_with_len 0 (put_len word))

-- of 16 operations three begin a session, six put, one deletes, two get, one shares, two commit and
-- one aborts
unfoldable pub command_of_word : ℕ → ℕ → Command
command_of_word units word =
    if nat_lt (operation_of word) 3 then command.Begin (session_of word)
    else if nat_lt (operation_of word) 9
    then command.Put (session_of word) (name_of units word) (put_bytes word)
    else if nat_lt (operation_of word) 10 then command.Del (session_of word) (name_of units word)
    else if nat_lt (operation_of word) 12 then command.Get (session_of word) (name_of units word)
    else if nat_lt (operation_of word) 13 then command.Share (session_of word) (name_of units word)
    else if nat_lt (operation_of word) 15 then command.Commit (session_of word)
    else command.Abort (session_of word)

-- the next commands, so many: each takes one word of 64 bits
abbrev pub commands_from : WordSource → ℕ → List Command
commands_from source count =
    map (command_of_word source.units) (first_words mix_u64 count source.state)

-- the commands of a trial: the seed is the state that SplitMix64 starts from
abbrev pub trial_commands : ℕ → ℕ → ℕ → List Command
trial_commands units seed count = commands_from (record { units = units; state = seed }) count

-- what a command of a trial can be: no batch, no list, no merge, no restart
abbrev pub IsOfTrial : Command → Type 0
IsOfTrial (command.Begin s) = Unit {0}
IsOfTrial (command.Get s n) = Unit {0}
IsOfTrial (command.Share s n) = Unit {0}
IsOfTrial (command.Put s n bytes) = Unit {0}
IsOfTrial (command.Del s n) = Unit {0}
IsOfTrial (command.Commit s) = Unit {0}
IsOfTrial (command.Batch ss) = ⊥
IsOfTrial (command.Abort s) = Unit {0}
IsOfTrial (command.List a b) = ⊥
IsOfTrial (command.Merge u) = ⊥
IsOfTrial command.Restart = ⊥
IsOfTrial command.Syntax = ⊥
