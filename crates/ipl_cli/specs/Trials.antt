-- What a trial leaves, wherever it ends.
use Rattle.std.specs.Option.{option_map}
use Rattle.std.specs.Prelude.{◌≡◌, ◌⊎◌, ℕ, List, [], ◌∷◌, ◌++◌, Ok, Err}
use Rattle.std.specs.FinMap.{empty}
use Rattle.chip_trait.specs.Chart.{says}
use Rattle.chip_trait.specs.Lawful.{IsLawful}
use Rattle.chip_trait.specs.Moment.{AtEachMoment, Leaves}
use Rattle.chip_trait.specs.Story.{Story, Contents, pieces, said}
use Rattle.chip_trait.specs.Told.{History, Told, IsPrefix, adds_all, Unrisen}
use Rattle.ipl_base.specs.Places.{IsGeometry, units_on}
use Rattle.ipl_base.specs.declared.fault.ImageFault.TheVariants as image
use Rattle.ipl_model.specs.State.{State, at_rest}
use Rattle.ipl_model.specs.declared.command.Command.{Command}
use Rattle.ipl_model.specs.Run.{joined_lines, after_all}
use Rattle.ipl_format.specs.Sector.{sector_in}
use Rattle.ipl_meaning.specs.Legible.{whole}
use Rattle.ipl_meaning.specs.Chart.{chart_of}
use Rattle.ipl_meaning.specs.Marks.{MarksAreUnused}
use Rattle.ipl_meaning.specs.Rests.{StoryRests}
use Rattle.ipl_meaning.specs.Stands.{StandsIn}
use Rattle.unit_io.specs.Leads.{IsSteady}
use Rattle.restart.specs.Events.{format_events}
use Rattle.store_laws.specs.Keeps.{limits_of}
use Rattle.script_run.specs.Run.{SaysLines, IsUnsaid}
use Rattle.script_run.specs.TrialWords.{trial_commands}
use Rattle.script_run.specs.TrialSummary.{trial_lines}
use Rattle.command_line.specs.declared.end.End.TheVariants.{Words, Chip, OutOfMemory, Script, Output, TooLong}
use Rattle.ipl_cli.specs.Ending.{Ending, StopsEarly, IsLeftAlone}

-- the commands of a seed, so many, on so many places, none of which is spare
abbrev pub commands_on : ℕ → ℕ → ℕ → List Command
commands_on places seed count = trial_commands (units_on places) seed count

-- the model's state after commands of so many sessions, from no record and no open session on
abbrev pub state_after : ℕ → ℕ → List Command → State
state_after sessions places commands =
    after_all (limits_of sessions (units_on places)) (at_rest empty) commands

-- the lines of the summary of these commands, from no record and no session on
abbrev pub summary : ℕ → ℕ → List Command → List (List ℕ)
summary sessions places commands =
    trial_lines (limits_of sessions (units_on places)) (at_rest empty) commands

-- the contents stand, in all units, for the records after the first of these commands
abbrev pub ChipStandsAlong : ℕ → ℕ → List Command → Contents → Type 0
ChipStandsAlong sessions places commands x = (done : List Command) × (later : List Command)
    × (commands ≡ done ++ later)
    × StandsIn places (units_on places) (chart_of x) (whole (state_after sessions places done).map)

-- and where a line was said, after all of them
abbrev pub ChipStandsBehind : ℕ → ℕ → List Command → List (List ℕ) → Contents → Type 0
ChipStandsBehind sessions places commands [] x = ChipStandsAlong sessions places commands x
ChipStandsBehind sessions places commands (piece ∷ said) x =
    StandsIn places (units_on places) (chart_of x) (whole (state_after sessions places commands).map)

-- the first of the commands are done, and nothing was said; Q is so of the state after them
pub record EndsAlong (Q : State → Type 0) (sessions places : ℕ) (commands : List Command)
    (said : List (List ℕ)) : Type 0 where
  pub done : List Command
  pub later : List Command
  pub commands_are : commands ≡ done ++ later
  pub silent : said ≡ []
  pub rests : Q (state_after sessions places done)

-- How far a trial came, by the end: to its end; to a line of the summary that couldn't be said; or
-- to
-- a command that isn't done, or the look-ups after them. Q is so of the state then.
abbrev pub EndsTrial : Ending → (State → Type 0) → ℕ → ℕ → List Command → List (List ℕ) → Type 0
EndsTrial (Ok u) Q sessions places commands said = Q (state_after sessions places commands)
EndsTrial (Err Words) Q sessions places commands said = ⊥
EndsTrial (Err (Chip e)) Q sessions places commands said = EndsAlong Q sessions places commands said
EndsTrial (Err OutOfMemory) Q sessions places commands said = ⊥
EndsTrial (Err Script) Q sessions places commands said = ⊥
EndsTrial (Err Output) Q sessions places commands said =
    IsUnsaid (summary sessions places commands) said × Q (state_after sessions places commands)
EndsTrial (Err TooLong) Q sessions places commands said = ⊥

-- What a trial of so many sessions leaves, from no records on, after these first events on a chip that holds what this
-- history leaves. What the chip tells grew by these events. Whatever moment the power is cut at, the
-- chip stands for the records after the first of the commands, and after all of them from the first
-- line on. What is said is a beginning of the summary, line by line. No sector is programmed twice
-- between erases of its place, and nothing that is marked is used at any of these moments. Where no
-- write failed, the chip holds at the end what the history then leaves, and by how the trial ended
-- that rests on the records of the commands that are done. Of the script nothing is read. Where all is
-- done, the whole summary is said.
pub record Trials (sessions places : ℕ) (commands : List Command) (h : History) (first : Story)
    (old new : Told) (ending : Ending) : Type 0 where
  pub added : Story
  pub history : new.history
      ≡ option_map (adds_all added) (option_map (adds_all first) old.history)
  pub each_moment : AtEachMoment
      (λ e. Leaves (says sector_in) (ChipStandsBehind sessions places commands (pieces e)) (adds_all first h) e)
      added
  pub lines : SaysLines (summary sessions places commands) (pieces added)
  pub is_prefix : IsPrefix (said added) (joined_lines (summary sessions places commands))
  pub lawful : (base : Story) → IsLawful base → IsLawful (added ++ (first ++ base))
  pub unused : AtEachMoment (λ e. MarksAreUnused places (adds_all e (adds_all first h))) added
  pub steady : Unrisen old new → IsSteady (adds_all added (adds_all first h)) new
  pub ends : EndsTrial ending
      (λ s. Unrisen old new → StoryRests places (whole s.map) (adds_all added (adds_all first h)))
      sessions places commands (pieces added)
  pub left_is : new.beside.left ≡ old.beside.left
  pub all : ending ≡ Ok tt → (pieces added ≡ summary sessions places commands)
      × (said added ≡ joined_lines (summary sessions places commands))

-- over each history that leaves what the chip holds, where no write has failed, after a format
abbrev pub TrialsFormatted : ℕ → ℕ → ℕ → Told → Told → Ending → Type 0
TrialsFormatted sessions seed count old new ending = (h : History) → IsSteady h old
    → Trials sessions old.places (commands_on old.places seed count) h
    (format_events old.places (units_on old.places)) old new ending

-- the trial was done, or a part of it, or the format before it was stopped
abbrev pub TrialsOrStops : ℕ → ℕ → ℕ → Told → Told → Ending → Type 0
TrialsOrStops sessions seed count old new ending = (h : History) → IsSteady h old
    → Trials sessions old.places (commands_on old.places seed count) h
    (format_events old.places (units_on old.places)) old new ending
    ⊎ StopsEarly old.places (units_on old.places) h old new ending

-- what a trial leaves; another number of places was left alone
abbrev pub TrialLeaves : ℕ → ℕ → ℕ → Ending → Told → Told → Type 0
TrialLeaves sessions seed count (Ok u) old new = TrialsFormatted sessions seed count old new (Ok u)
TrialLeaves sessions seed count (Err Words) old new = ⊥
TrialLeaves sessions seed count (Err (Chip e)) old new =
    ((¬ IsGeometry old.places) × (e ≡ image.Geometry) × IsLeftAlone old new)
    ⊎ (IsGeometry old.places × TrialsOrStops sessions seed count old new (Err (Chip e)))
TrialLeaves sessions seed count (Err OutOfMemory) old new = IsLeftAlone old new
TrialLeaves sessions seed count (Err Script) old new = ⊥
TrialLeaves sessions seed count (Err Output) old new = TrialsFormatted sessions seed count old new (Err Output)
TrialLeaves sessions seed count (Err TooLong) old new = ⊥
