-- What a trial does with a store, and what it leaves, wherever it stops.
use Rattle.std.specs.Prelude.{◌≡◌, ◌⊎◌, ℕ, true, false, List, [], ◌∷◌, ◌++◌, reverse, Result, Ok, Err, MatchResult, is_ok}
use Rattle.std.specs.Option.{option_map}
use Rattle.ipl_model.specs.State.{State, Limits}
use Rattle.ipl_model.specs.declared.command.Command.{Command}
use Rattle.ipl_model.specs.Step.{step}
use Rattle.ipl_model.specs.Run.{after_all}
use Rattle.chip_trait.specs.Story.{Story, Contents, pieces}
use Rattle.chip_trait.specs.Moment.{AtEachMoment, Leaves}
use Rattle.chip_trait.specs.Lawful.{IsLawfulAfter, LeavesClean}
use Rattle.chip_trait.specs.Told.{History, Told, adds_all}
use Rattle.store_trait.specs.Onward.{sayings}
use Rattle.store_trait.specs.Keeping.{Keeping, AllOf, Stays, WorkLeaves, UsesNothingMarked}
use Rattle.script_run.specs.declared.fault.Stop.{Stop}
use Rattle.script_run.specs.declared.fault.Stop.TheVariants as stop
use Rattle.script_run.specs.Run.{SaysLines, IsUnsaid, IsSaidOr}
use Rattle.script_run.specs.TrialSummary.{Exchange, TrialCounts, RecordSum, HasTaken, counts_of, exchanges, trial_lines}

-- the store's work failed
abbrev pub IsStoreStop : Stop → Type 0
IsStoreStop (stop.Store fault) = Unit {0}
IsStoreStop stop.Script = ⊥
IsStoreStop stop.Output = ⊥
IsStoreStop stop.TooLong = ⊥

-- why a trial can stop: the store's work failed, or a line couldn't be said. No script is read.
abbrev pub IsTrialStop : Stop → Type 0
IsTrialStop (stop.Store fault) = Unit {0}
IsTrialStop stop.Script = ⊥
IsTrialStop stop.Output = Unit {0}
IsTrialStop stop.TooLong = ⊥

-- these pieces were said, one after another, and nothing else happened to the chip
pub record HasSaid (said : List (List ℕ)) (old new : Told) : Type 0 where
  pub places : new.places ≡ old.places
  pub settled : new.settled ≡ old.settled
  pub contents : new.contents ≡ old.contents
  pub history : new.history ≡ option_map (adds_all (sayings (reverse said))) old.history

-- these lines were said, and nothing else; or the first of them, and the next one couldn't be
abbrev pub SaysAll : List (List ℕ) → Told → Result (Unit {0}) Stop → Told → Type 0
SaysAll lines old result new = MatchResult result
    (λ _. HasSaid lines old new)
    (λ _. (said : List (List ℕ)) × IsUnsaid lines said × HasSaid said old new)

-- over stores of one kind
module _ {S : Type 0} (k : Keeping S) where
  -- the contents stand for the records after the first of the commands, none of them to all
  abbrev pub StandsAlong : Limits → State → List Command → Contents → Type 0
  StandsAlong limits state commands x = (done : List Command) × (later : List Command) × (commands ≡ done ++ later)
      × k.stands limits x (after_all limits state done).map

  -- and where something was said, after all of them
  abbrev pub StandsBehind : Limits → State → List Command → List (List ℕ) → Contents → Type 0
  StandsBehind limits state commands [] x = StandsAlong limits state commands x
  StandsBehind limits state commands (piece ∷ said) x = k.stands limits x (after_all limits state commands).map

  -- ---- the order of the events

  -- the contents stand for the records before the next command, or after it
  abbrev pub StandsNext : Limits → State → List Command → Contents → Type 0
  StandsNext limits state [] x = k.stands limits x state.map
  StandsNext limits state (c ∷ later) x = k.stands limits x state.map ⊎ k.stands limits x (step limits state c).0.map

  -- The events have a part for each command that is done, in order. It says nothing, and at each moment
  -- of it a power cut leaves the records before the command or after it. Of the events behind the last
  -- part the same is so of the first of the later commands; where there is none, they leave the records
  -- as they are. So no record is lost that was there when a command was done.
  abbrev pub CommandByCommand : Limits → State → List Command → List Command → History → Story → Type 0
  CommandByCommand limits state [] later h added = AtEachMoment (Leaves k.checks (StandsNext limits state later) h) added
  CommandByCommand limits state (c ∷ done) later h added = (part : Story) × (rest : Story) × (added ≡ rest ++ part)
      × (pieces part ≡ [])
      × AtEachMoment (Leaves k.checks (StandsNext limits state (c ∷ [])) h) part
      × CommandByCommand limits (step limits state c).0 done later (adds_all part h) rest

  -- ---- the work of commands

  -- The work of these commands is done, and each is counted with its reply. At each moment of it the
  -- chip stands for the records after the first of them.
  pub record IsDone (limits : Limits) (state : State) (commands : List Command) (counts : TrialCounts) (before : S)
      (h : History) (counted : TrialCounts) (then : S) (old new : Told) : Type 0 where
    pub leaves : WorkLeaves k (StandsAlong limits state commands) before h then old new true
    pub each_command : CommandByCommand limits state commands [] h leaves.added
    pub holds : k.holds limits then new (adds_all leaves.added h) (after_all limits state commands)
    pub counting : (seen : List Exchange) → counts ≡ counts_of seen
        → counted ≡ counts_of (seen ++ exchanges limits state commands)

  -- The work stopped in one of the commands. The store keeps the state after those before it, unless
  -- a write failed.
  pub record IsCutShort (limits : Limits) (state : State) (commands : List Command) (before : S) (h : History)
      (then : S) (old new : Told) : Type 0 where
    pub done : List Command
    pub later : List Command
    pub commands_are : commands ≡ done ++ later
    pub leaves : WorkLeaves k (StandsAlong limits state commands) before h then old new false
    pub each_command : CommandByCommand limits state done later h leaves.added
    pub stays : Stays k limits then old new (adds_all leaves.added h) (after_all limits state done)

  abbrev pub DoesAll : List Command → TrialCounts → S → Told → Result (Unit {0}) Stop → TrialCounts → S → Told → Type 0
  DoesAll commands counts before old result counted then new = (limits : Limits) (state : State) (h : History)
      → k.holds limits before old h state →
      MatchResult result
      (λ _. IsDone limits state commands counts before h counted then old new)
      (λ _. IsCutShort limits state commands before h then old new)

  -- ---- the records are looked up

  -- records were looked up, and these lines of theirs were taken
  pub record AreLinesTaken (limits : Limits) (state : State) (lines : List (List ℕ)) (sum : RecordSum) (before : S)
      (h : History) (later : RecordSum) (then : S) (old new : Told) : Type 0 where
    pub leaves : WorkLeaves k (λ x. k.stands limits x state.map) before h then old new true
    pub holds : k.holds limits then new (adds_all leaves.added h) state
    pub taking : (seen : List (List ℕ)) → HasTaken sum seen → HasTaken later (seen ++ lines)

  -- the look-ups stopped in one of them
  pub record IsLost (limits : Limits) (state : State) (before : S) (h : History) (then : S) (old new : Told)
      : Type 0 where
    pub leaves : WorkLeaves k (λ x. k.stands limits x state.map) before h then old new false
    pub stays : Stays k limits then old new (adds_all leaves.added h) state

  abbrev pub TakesAll : Limits → (State → List (List ℕ)) → RecordSum → S → Told → Result (Unit {0}) Stop → RecordSum
      → S → Told → Type 0
  TakesAll limits lines sum before old result later then new = (state : State) (h : History)
      → k.holds limits before old h state →
      MatchResult result
      (λ _. AreLinesTaken limits state (lines state) sum before h later then old new)
      (λ _. IsLost limits state before h then old new)

  -- ---- the whole trial

  -- All commands are done. R is so of the state after them.
  pub record EndsWhole (limits : Limits) (state : State) (commands : List Command) (h : History) (added : Story)
      (R : State → Type 0) : Type 0 where
    pub each_command : CommandByCommand limits state commands [] h added
    pub rests : R (after_all limits state commands)

  -- It stopped in the work or in the look-ups, and nothing was said: the first of the commands are done.
  -- R is so of the state after these.
  pub record EndsInWork (limits : Limits) (state : State) (commands : List Command) (h : History) (added : Story)
      (R : State → Type 0) : Type 0 where
    pub done : List Command
    pub later : List Command
    pub commands_are : commands ≡ done ++ later
    pub silent : pieces added ≡ []
    pub each_command : CommandByCommand limits state done later h added
    pub rests : R (after_all limits state done)

  -- It stopped in the lines: all commands are done, and one of the lines couldn't be said.
  pub record EndsInLines (limits : Limits) (state : State) (commands : List Command) (h : History) (added : Story)
      (R : State → Type 0) : Type 0 where
    pub part : IsUnsaid (trial_lines limits state commands) (pieces added)
    pub whole : EndsWhole limits state commands h added R

  -- how a trial ends
  abbrev pub TrialEnds : Result (Unit {0}) Stop → Limits → State → List Command → History → Story
      → (State → Type 0) → Type 0
  TrialEnds (Ok u) limits state commands h added R = EndsWhole limits state commands h added R
  TrialEnds (Err (stop.Store fault)) limits state commands h added R = EndsInWork limits state commands h added R
  TrialEnds (Err stop.Script) limits state commands h added R = ⊥
  TrialEnds (Err stop.Output) limits state commands h added R = EndsInLines limits state commands h added R
  TrialEnds (Err stop.TooLong) limits state commands h added R = ⊥

  -- What the chip tells grew by the added events. Whatever moment of them the power is cut at, the
  -- chip stands for the records after the first of the commands, and after all of them from the first
  -- line on. What was said is a beginning of the summary, line by line, and all of it where the trial
  -- is done. No sector is programmed twice, and nothing that is marked is used. R says of the history at the end, and of a state, how the
  -- store keeps it then.
  pub record TrialRuns (limits : Limits) (state : State) (commands : List Command) (before : S) (h : History)
      (R : History → State → Type 0) (then : S) (old new : Told) (result : Result (Unit {0}) Stop) : Type 0 where
    pub added : Story
    pub history : new.history ≡ option_map (adds_all added) old.history
    pub each_moment : AtEachMoment (λ e. Leaves k.checks (StandsBehind limits state commands (pieces e)) h e) added
    pub lines : SaysLines (trial_lines limits state commands) (pieces added)
    pub all : is_ok result ≡ true → pieces added ≡ trial_lines limits state commands
    pub only : AllOf (IsSaidOr k.does) added
    pub lawful : IsLawfulAfter (k.clean before) added
    pub clean : is_ok result ≡ true → LeavesClean (k.clean before) (k.clean then) added
    pub unused : UsesNothingMarked k before h then (is_ok result) added
    pub ends : TrialEnds result limits state commands h added (R (adds_all added h))

  -- a trial of these commands, to its end or to where it stopped
  abbrev pub RunsTrial : List Command → S → Told → Result (Unit {0}) Stop → S → Told → Type 0
  RunsTrial commands before old result then new = (limits : Limits) (state : State) (h : History)
      → k.holds limits before old h state →
      MatchResult result
      (λ _. TrialRuns limits state commands before h (k.holds limits then new) then old new (Ok tt))
      (λ s. TrialRuns limits state commands before h (Stays k limits then old new) then old new (Err s))
