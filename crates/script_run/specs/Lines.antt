-- The commands of a script as its bytes come.
use Rattle.std.specs.Prelude.{ℕ, nat_lt, ◌==◌, if◌then◌else◌, List, [], ◌∷◌, ◌++◌, length}
use Rattle.ipl_model.specs.declared.command.Command.{Command}
use Rattle.ipl_model.specs.Grammar.{line_of, commands_in}

-- a line with one byte more, as far as it is kept: past 1,024 bytes a line says the same however it goes on
abbrev pub kept : List ℕ → ℕ → List ℕ
kept line b = if nat_lt (length line) 1025 then line ++ b ∷ [] else line

-- the commands of what is kept of a line and of the bytes that follow
abbrev pub commands_from : List ℕ → List ℕ → List Command
commands_from line [] = commands_in (line_of line)
commands_from line (b ∷ bytes) =
    if b == 10 then commands_in (line_of line) ++ commands_from [] bytes
    else commands_from (line ++ b ∷ []) bytes
