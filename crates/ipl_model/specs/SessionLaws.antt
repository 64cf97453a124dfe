-- Laws of sessions: what a restart and a commit leave.
use Rattle.std.specs.Prelude.{◌≡◌, ℕ, false, None}
use Rattle.std.specs.FinMap.{get}
use Rattle.ipl_model.specs.State.{State, Limits, is_open_session, see}
use Rattle.ipl_model.specs.declared.command.Command.TheVariants as command
use Rattle.ipl_model.specs.Step.{step, refusal_of}

-- after a restart no session is open
abbrev pub RestartClosesAll : Type 0
RestartClosesAll = (limits : Limits) (state : State) (s : ℕ) → is_open_session (step limits state command.Restart).0 s ≡ false

-- a restart leaves the records as they were
abbrev pub RestartKeepsRecords : Type 0
RestartKeepsRecords = (limits : Limits) (state : State) → (step limits state command.Restart).0.map ≡ state.map

-- after a commit the records are what its session saw
abbrev pub CommitShowsWhatWasSeen : Type 0
CommitShowsWhatWasSeen = (limits : Limits) (state : State) (s n : ℕ) → refusal_of limits state (command.Commit s) ≡ None
    → get (step limits state (command.Commit s)).0.map n ≡ see state s n
