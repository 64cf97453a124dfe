-- What is known of the commands of a trial.
use Rattle.std.specs.Prelude.{◌≡◌, ◌<◌, ℕ, ◌-◌, [], ◌∷◌, ◌++◌}
use Rattle.ipl_model.specs.State.{State, Limits}
use Rattle.ipl_model.specs.declared.command.Command.TheVariants as command
use Rattle.ipl_model.specs.declared.reply.Reply.TheVariants as reply
use Rattle.ipl_model.specs.Text.{reply_text}
use Rattle.ipl_model.specs.Run.{reply_lines}
use Rattle.script_run.specs.TrialWords.{trial_commands}
use Rattle.script_run.specs.TrialSummary.{counts_of, exchanges, record_lines}

-- the first line of a summary says the count that the trial was given
abbrev pub CountsAreSaid : Type 0
CountsAreSaid = (limits : Limits) (state : State) (units seed count : ℕ)
    → (counts_of (exchanges limits state (trial_commands units seed count))).commands ≡ count

-- the records of which a summary speaks are those that a list of all names says before its end
abbrev pub RecordsAreListed : Type 0
RecordsAreListed = (limits : Limits) (state : State) → 0 < limits.names
    → reply_lines limits state (command.List 0 (limits.names - 1))
    ≡ record_lines state.map limits.names ++ reply_text reply.End ∷ []
