-- One command on, what is kept is the state that the next command meets, and the table holds the commands so far.
use Rattle.std.proofs.Common.{◌≡◌, ℕ, ◌+◌, List, ◌∙◌, subst, ◌≤◌}
use Rattle.ipl_model.specs.State.{Map, State, Limits}
use Rattle.ipl_model.specs.declared.command.Command.{Command}
use Rattle.ipl_model.specs.Step.{step}
use Rattle.serial_view.specs.Serial.{command_at, met_at}
use Rattle.serial_view.specs.Turns.{KeptTurns, RunsCommand}
use Rattle.serial_view.specs.Running.{KeptRun, run_limits, Tracks, RunsTracked}
use Rattle.serial_view.proofs.OrderLemmas.{Holds, one_on}

-- so far
pub record SoFar (limits : Limits) (m : Map) (commands : List Command) (k : ℕ) (run : KeptRun) (table : KeptTurns)
    : Type 0 where
  pub limits_are : run_limits run ≡ limits
  pub tracks : Tracks (met_at limits m commands k) run
  pub holds : Holds limits m commands k (met_at limits m commands k) table

pub goes_on : (limits : Limits) (m : Map) (commands : List Command) (k : ℕ) (c : Command)
    (run next : KeptRun) (table new : KeptTurns) → limits.sessions ≤ 32 → c ≡ command_at commands k
    → SoFar limits m commands k run table → RunsTracked run table c next new
    → SoFar limits m commands (k + 1) next new
goes_on limits m commands k c run next table new whole is so_far runs =
    let now : State = met_at limits m commands k in
    let at = so_far.limits_are in
    let tracked : Tracks (step limits now c).0 next =
    subst (λ (l : Limits). Tracks (step l now c).0 next) at (runs.follows.tracks now so_far.tracks) in
    let ran = subst (λ (l : Limits). RunsCommand l now table c (step l now c).0 new) at (runs.runs now so_far.tracks) in
    let holds = one_on limits m commands k c now (step limits now c).0 table new whole is so_far.holds ran in
    record {
      limits_are = runs.follows.limits ∙ at;
      tracks = subst (λ (st : State). Tracks st next) holds.met tracked;
      holds = subst (λ (st : State). Holds limits m commands (k + 1) st new) holds.met holds;
    }
