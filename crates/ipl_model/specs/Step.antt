-- One command: the first refusal that applies, or what the command does.
use Rattle.std.specs.Prelude.{ℕ, List, [], ◌∷◌, ◌++◌, map, Option, Some, None}
use Rattle.std.specs.Option.{option_map_or}
use Rattle.ipl_base.specs.declared.fault.Refusal.{Refusal}
use Rattle.ipl_model.specs.State.{State, Limits, see}
use Rattle.ipl_model.specs.Refusals.{refuses_begin, refuses_get, refuses_share, refuses_put, refuses_del, refuses_end, refuses_batch, refuses_list, refuses_merge}
use Rattle.ipl_model.specs.Operations.{after_begin, after_share, after_write, after_commit, after_batch, after_abort, after_restart, rows}
use Rattle.ipl_model.specs.declared.command.Command.{Command}
use Rattle.ipl_model.specs.declared.command.Command.TheVariants as command
use Rattle.ipl_model.specs.declared.reply.Reply.{Reply}
use Rattle.ipl_model.specs.declared.reply.Reply.TheVariants as reply

-- a state, and the lines of a reply
abbrev pub Stepped : Type 0
Stepped = State × List Reply

-- why a command is refused, if it is
abbrev pub refusal_of : Limits → State → Command → Option Refusal
refusal_of limits state (command.Begin s) = refuses_begin limits state s
refusal_of limits state (command.Get s n) = refuses_get limits state s n
refusal_of limits state (command.Share s n) = refuses_share limits state s n
refusal_of limits state (command.Put s n bytes) = refuses_put limits state s n bytes
refusal_of limits state (command.Del s n) = refuses_del limits state s n
refusal_of limits state (command.Commit s) = refuses_end limits state s
refusal_of limits state (command.Batch ss) = refuses_batch limits state ss
refusal_of limits state (command.Abort s) = refuses_end limits state s
refusal_of limits state (command.List a b) = refuses_list limits a b
refusal_of limits state (command.Merge u) = refuses_merge limits u
refusal_of limits state command.Restart = None
refusal_of limits state command.Syntax = None

-- a value or none, as a reply
abbrev pub found_reply : Option (List ℕ) → Reply
found_reply None = reply.Nothing
found_reply (Some value) = reply.Value value

-- a record, as a line of a list
abbrev pub row_reply : ℕ × List ℕ → Reply
row_reply row = reply.Row row.0 row.1

-- what a command does that isn't refused
abbrev pub accepted : State → Command → Stepped
accepted state (command.Begin s) = (after_begin state s, reply.Ok ∷ [])
accepted state (command.Get s n) = (state, found_reply (see state s n) ∷ [])
accepted state (command.Share s n) = (after_share state s n, found_reply (see state s n) ∷ [])
accepted state (command.Put s n bytes) = (after_write state s (n, Some bytes), reply.Ok ∷ [])
accepted state (command.Del s n) = (after_write state s (n, None), reply.Ok ∷ [])
accepted state (command.Commit s) = (after_commit state s, reply.Ok ∷ [])
accepted state (command.Batch ss) = (after_batch state ss, reply.Ok ∷ [])
accepted state (command.Abort s) = (after_abort state s, reply.Ok ∷ [])
accepted state (command.List a b) = (state, map row_reply (rows state.map a b) ++ reply.End ∷ [])
accepted state (command.Merge u) = (state, reply.Ok ∷ [])
accepted state command.Restart = (after_restart state, reply.Ok ∷ [])
accepted state command.Syntax = (state, reply.Syntax ∷ [])

-- one step: a refusal changes nothing
abbrev pub step : Limits → State → Command → Stepped
step limits state c = option_map_or (λ refusal. (state, reply.Refused refusal ∷ [])) (refusal_of limits state c) (accepted state c)
