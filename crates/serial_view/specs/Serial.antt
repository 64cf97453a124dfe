-- The serial view of a run: the transactions that were committed, each whole, in the order of their commits.
use Rattle.std.specs.Prelude.{ℕ, ◌+◌, ◌==◌, nat_lt, Bool, false, not, ◌&&◌, List, [], ◌∷◌, ◌++◌, length, filter, slice_index_or, Option, Some, None, is_some, if◌then◌else◌}
use Rattle.std.specs.List.{range_with_len, flat_map, list_any}
use Rattle.std.specs.Option.{option_map_or}
use Rattle.ipl_model.specs.State.{Map, State, Limits, at_rest}
use Rattle.ipl_model.specs.declared.command.Command.{Command}
use Rattle.ipl_model.specs.declared.command.Command.TheVariants as command
use Rattle.ipl_model.specs.Step.{refusal_of}
use Rattle.ipl_model.specs.Run.{after_first}

-- the command at a position
abbrev pub command_at : List Command → ℕ → Command
command_at commands k = slice_index_or commands k command.Syntax

-- the state that the command at a position meets, in a run from these records and no open session
abbrev pub met_at : Limits → Map → List Command → ℕ → State
met_at limits m commands k = after_first limits (at_rest m) commands k

-- a command isn't refused in a state
abbrev pub accepts : Limits → State → Command → Bool
accepts limits state c = not (is_some (refusal_of limits state c))

-- the command at a position isn't refused, in the run from these records
abbrev pub is_accepted : Limits → Map → List Command → ℕ → Bool
is_accepted limits m commands k = accepts limits (met_at limits m commands k) (command_at commands k)

-- ---- transactions

-- the session to whose transaction a command belongs
abbrev pub session_of : Command → Option ℕ
session_of (command.Begin s) = Some s
session_of (command.Get s n) = Some s
session_of (command.Share s n) = Some s
session_of (command.Put s n bytes) = Some s
session_of (command.Del s n) = Some s
session_of (command.Commit s) = Some s
session_of other = None

abbrev pub is_begin : Command → Bool
is_begin (command.Begin s) = Bool.true
is_begin other = false

-- an accepted command of session s stands at a position
abbrev pub is_turn : Limits → Map → List Command → ℕ → ℕ → Bool
is_turn limits m commands s k =
    is_accepted limits m commands k && option_map_or (λ t. t == s) (session_of (command_at commands k)) false

-- session s begins a transaction at a position
abbrev pub begins : Limits → Map → List Command → ℕ → ℕ → Bool
begins limits m commands s k = is_turn limits m commands s k && is_begin (command_at commands k)

-- session s begins a transaction after position j and before position k
abbrev pub begins_between : Limits → Map → List Command → ℕ → ℕ → ℕ → Bool
begins_between limits m commands s j k = list_any (λ i. nat_lt j i && begins limits m commands s i) (range_with_len 0 k)

-- the positions of the accepted commands of session s since it last began, up to before position k, rising
abbrev pub turns : Limits → Map → List Command → ℕ → ℕ → List ℕ
turns limits m commands s k =
    filter (λ j. is_turn limits m commands s j && not (begins_between limits m commands s j k)) (range_with_len 0 k)

-- the positions of the transactions that this command commits at position k: of a commit its session's, and of a batch
-- those of its sessions, in the order named, and then its own
abbrev pub commits_at : Limits → Map → List Command → ℕ → Command → List ℕ
commits_at limits m commands k (command.Commit s) = turns limits m commands s (k + 1)
commits_at limits m commands k (command.Batch ss) = flat_map (λ s. turns limits m commands s k) ss ++ k ∷ []
commits_at limits m commands k other = []

-- the positions of the transactions that the command at position k commits; none where it commits none
abbrev pub committed_at : Limits → Map → List Command → ℕ → List ℕ
committed_at limits m commands k =
    if is_accepted limits m commands k then commits_at limits m commands k (command_at commands k) else []

-- the positions of the commands of committed transactions, in the order of the commits, of the run from these records
abbrev pub serial : Limits → Map → List Command → List ℕ
serial limits m commands = flat_map (committed_at limits m commands) (range_with_len 0 (length commands))
