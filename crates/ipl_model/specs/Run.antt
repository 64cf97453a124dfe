-- A run of commands: the lines that it says, and what it leaves.
use Rattle.std.specs.Prelude.{◌⊎◌, ℕ, suc, nat_eq, Bool, true, false, ◌&&◌, if◌then◌else◌, List, [], ◌∷◌, ◌++◌, map, take, drop, length}
use Rattle.std.specs.List.{flat_map}
use Rattle.ipl_model.specs.State.{Map, State, Limits, at_rest}
use Rattle.ipl_model.specs.declared.command.Command.{Command}
use Rattle.ipl_model.specs.Step.{step}
use Rattle.ipl_model.specs.Text.{reply_text}
use Rattle.ipl_model.specs.Grammar.{commands_of}

-- lines, joined
abbrev pub joined_lines : List (List ℕ) → List ℕ
joined_lines all = flat_map (λ line. line) all

-- the lines of the reply to a command
abbrev pub reply_lines : Limits → State → Command → List (List ℕ)
reply_lines limits state c = map reply_text (step limits state c).1

-- the lines of the replies to commands, in order
abbrev pub lines : Limits → State → List Command → List (List ℕ)
lines limits state [] = []
lines limits state (c ∷ commands) = reply_lines limits state c ++ lines limits (step limits state c).0 commands

-- the replies to commands, joined
abbrev pub text : Limits → State → List Command → List ℕ
text limits state commands = joined_lines (lines limits state commands)

-- the state after commands
abbrev pub after_all : Limits → State → List Command → State
after_all limits state [] = state
after_all limits state (c ∷ commands) = after_all limits (step limits state c).0 commands

-- the state after the first r commands, or after all where there are fewer
abbrev pub after_first : Limits → State → List Command → ℕ → State
after_first limits state commands r = after_all limits state (take r commands)

-- ---- over a script

-- the replies to a script, from these records and no open session
abbrev pub script_text : Limits → Map → List ℕ → List ℕ
script_text limits m script = text limits (at_rest m) (commands_of script)

-- the records after the first r commands of a script, or after all where there are fewer
abbrev pub map_after : Limits → Map → List ℕ → ℕ → Map
map_after limits m script r = (after_first limits (at_rest m) (commands_of script) r).map

-- ---- how many commands were answered

-- the bytes begin with the text
abbrev pub begins_with : List ℕ → List ℕ → Bool
begins_with bytes [] = true
begins_with [] (n ∷ ns) = false
begins_with (b ∷ bytes) (n ∷ ns) = nat_eq b n && begins_with bytes ns

-- the reply to a command, its lines joined
abbrev pub reply : Limits → State → Command → List ℕ
reply limits state c = joined_lines (reply_lines limits state c)

-- of how many commands the bytes have the whole replies, one behind the other
abbrev pub answered : Limits → State → List Command → List ℕ → ℕ
answered limits state [] bytes = 0
answered limits state (c ∷ commands) bytes = if begins_with bytes (reply limits state c)
    then suc (answered limits (step limits state c).0 commands (drop (length (reply limits state c)) bytes))
    else 0

-- Q holds of the state after the commands that were answered, or after one more
abbrev pub IsNear : (State → Type 0) → Limits → State → List Command → List ℕ → Type 0
IsNear Q limits state commands bytes = Q (after_first limits state commands (answered limits state commands bytes)) ⊎ Q (after_first limits state commands (suc (answered limits state commands bytes)))
