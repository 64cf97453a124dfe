-- Laws of runs.
use Rattle.std.specs.Prelude.{◌≡◌, ◌⊎◌, ℕ, suc, ◌≤◌, Bool, true, false, List, [], ◌∷◌, ◌++◌, take, drop, length, Some, None}
use Rattle.ipl_base.specs.declared.fault.Refusal.{Refusal}
use Rattle.ipl_model.specs.State.{State, Limits}
use Rattle.ipl_model.specs.declared.command.Command.{Command}
use Rattle.ipl_model.specs.declared.command.Command.TheVariants as command
use Rattle.ipl_model.specs.declared.reply.Reply.TheVariants as reply
use Rattle.ipl_model.specs.Step.{step, refusal_of}
use Rattle.ipl_model.specs.Run.{text, after_first, answered}

-- the first is a beginning of the second
abbrev pub Begins : List ℕ → List ℕ → Type 0
Begins part bytes = (rest : List ℕ) × (part ++ rest ≡ bytes)

-- r is the greatest number for which the replies to the first r commands, joined, are a beginning of the bytes
pub record IsGreatest (limits : Limits) (state : State) (commands : List Command) (bytes : List ℕ) (r : ℕ) : Type 0 where
  pub within : r ≤ length commands
  pub begins : Begins (text limits state (take r commands)) bytes
  pub greatest : (q : ℕ) → q ≤ length commands → Begins (text limits state (take q commands)) bytes → q ≤ r

-- `answered` is that number
abbrev pub AnsweredIsGreatest : Type 0
AnsweredIsGreatest = (limits : Limits) (state : State) (commands : List Command) (bytes : List ℕ) → IsGreatest limits state commands bytes (answered limits state commands bytes)

-- a refused command changes nothing, and answers its refusal alone
abbrev pub RefusalsChangeNothing : Type 0
RefusalsChangeNothing = (limits : Limits) (state : State) (c : Command) (refusal : Refusal) → refusal_of limits state c ≡ Some refusal
    → step limits state c ≡ (state, reply.Refused refusal ∷ [])

-- a command commits sessions
abbrev pub is_commit : Command → Bool
is_commit (command.Commit s) = true
is_commit (command.Batch ss) = true
is_commit other = false

-- a step changes the records only where it is a commit, of one session or of several, that isn't refused
abbrev pub OnlyCommitsChangeRecords : Type 0
OnlyCommitsChangeRecords = (limits : Limits) (state : State) (c : Command) → ((step limits state c).0.map ≡ state.map)
    ⊎ ((is_commit c ≡ true) × (refusal_of limits state c ≡ None))

-- so the records after r + 1 commands are those after r, but where the next command is such a commit
abbrev pub RecordsChangeByCommits : Type 0
RecordsChangeByCommits = (limits : Limits) (state : State) (commands : List Command) (r : ℕ)
    → ((after_first limits state commands (suc r)).map ≡ (after_first limits state commands r).map)
    ⊎ ((c : Command) × (later : List Command) × (drop r commands ≡ c ∷ later) × (is_commit c ≡ true)
    × (refusal_of limits (after_first limits state commands r) c ≡ None))
