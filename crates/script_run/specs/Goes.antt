-- How a run goes on as the bytes of its script come.
use Rattle.std.specs.Option.{option_map}
use Rattle.chip_trait.specs.declared.event.Event.TheVariants.{Said}
use Rattle.chip_trait.specs.Story.{Story}
use Rattle.std.specs.Prelude.{◌≡◌, ◌⊎◌, ◌∷◌, ℕ, ◌≤◌, ◌+◌, ◌-◌, ◌*◌, ◌^◌, min, max, true, false, take, drop, length, List, [], ◌++◌, Option, Some, Result, Ok, Err, MatchResult, IfErr, OnOk, IsErrOf, is_ok, map}
use Rattle.ipl_model.specs.State.{Map, State, Limits}
use Rattle.ipl_model.specs.Operations.{row_of, rows_from}
use Rattle.ipl_model.specs.declared.command.Command.{Command}
use Rattle.ipl_model.specs.Step.{row_reply}
use Rattle.ipl_model.specs.Text.{reply_text}
use Rattle.ipl_model.specs.Run.{after_all}
use Rattle.ipl_model.specs.Grammar.{commands_of}
use Rattle.chip_trait.specs.Told.{History, Told, Unrisen, adds_all, Grew, Rose, IsPrefix}
use Rattle.script_run.specs.declared.fault.Stop.{Stop}
use Rattle.script_run.specs.declared.fault.Stop.TheVariants as stop
use Rattle.script_run.specs.Lines.{commands_from}
use Rattle.store_trait.specs.Keeping.{Keeping, FOUND_NUMBER, COMMAND_DRAWS, LeavesTidy, Draws, Excuses}
use Rattle.store_trait.specs.Onward.{Onward}
use Rattle.store_trait.specs.declared.fault.Fault.{Fault}
use Rattle.store_trait.specs.declared.fault.Fault.TheVariants.{Spent}
use Rattle.script_run.specs.Run.{IsUnsaid, RunLeaves, SayingLeaves, SaysLines}

-- the line of a record, where there is one
abbrev pub row_lines : ℕ → Option (List ℕ) → List (List ℕ)
row_lines n found = map reply_text (map row_reply (row_of n found))

-- the lines of the records of k names from one on
abbrev pub rows_lines : Map → ℕ → ℕ → List (List ℕ)
rows_lines m first k = map reply_text (map row_reply (rows_from m first k))

-- n bytes of the source were read, where it is told
abbrev pub HasRead : ℕ → Told → Told → Type 0
HasRead n old new = (source : List ℕ) → old.beside.left ≡ Some source
    → (new.beside.left ≡ Some (drop n source)) × (n ≤ length source)

-- all of the source was read, where it is told
abbrev pub ReadsAll : Told → Told → Type 0
ReadsAll old new = (source : List ℕ) → old.beside.left ≡ Some source → new.beside.left ≡ Some []

-- what was added since: nothing, or a piece of a reply last of all
pub record EndsReplied (old new : Told) : Type 0 where
  pub added : Story
  pub history : new.history ≡ option_map (adds_all added) old.history
  pub last : (added ≡ []) ⊎ ((piece : List ℕ) × (earlier : Story) × (added ≡ Said piece ∷ earlier))

-- n bytes of the script were read, no more than there was room for; none only where all of it was read
pub record ReadsPiece (room n : ℕ) (old new : Told) : Type 0 where
  pub bytes : Grew old.beside.script_bytes n new.beside.script_bytes
  pub read : HasRead n old new
  pub ended : n ≡ 0 → ReadsAll old new
  pub few : n ≤ room

-- as many bytes of the script were read as make it too long; where it is told it has as many
pub record ReadsTooMany (old new : Told) : Type 0 where
  pub grew : Grew old.beside.script_bytes 4294967295 new.beside.script_bytes
  pub read : HasRead 4294967295 old new

-- how far lines were said where a run stopped in them: a line couldn't be said, or all that was
-- said are whole lines
abbrev pub SaysPart : Stop → List (List ℕ) → List (List ℕ) → Type 0
SaysPart (stop.Store fault) lines said = IsPrefix said lines
SaysPart stop.Script lines said = IsPrefix said lines
SaysPart stop.Output lines said = IsUnsaid lines said
SaysPart stop.TooLong lines said = IsPrefix said lines

-- over stores of one kind
module _ {S : Type 0} (k : Keeping S) where
  -- the desk has so many places, and the store suits it
  pub record FitsDesk (n : ℕ) (store : S) (t : Told) : Type 0 where
    pub places : t.places ≡ n
    pub suits : k.suits store

  -- when each end comes that isn't the end of the script
  abbrev pub StopCause : Told → Told → Stop → Type 0
  StopCause old new (stop.Store fault) = k.cause fault old new
  StopCause old new stop.Script = Rose old.beside.script_faults new.beside.script_faults
  StopCause old new stop.Output = Rose old.beside.say_faults new.beside.say_faults
  StopCause old new stop.TooLong = min (old.beside.script_bytes + 4294967295) (2 ^ 64 - 1) ≤ new.beside.script_bytes

  -- where a run stops so, too much is known to be worn since that entry, if the fault of the store tells of wear
  abbrev pub StopWears : Told → Stop → Told → Type 0
  StopWears entry (stop.Store fault) new = k.wears entry fault new
  StopWears entry stop.Script new = Unit {0}
  StopWears entry stop.Output new = Unit {0}
  StopWears entry stop.TooLong new = Unit {0}

  -- what the fault of the store says was so at some moment of this history, where a run stops by one
  abbrev pub StopMet : Stop → Told → History → Type 0
  StopMet (stop.Store fault) t h = k.met t h fault
  StopMet stop.Script t h = Unit {0}
  StopMet stop.Output t h = Unit {0}
  StopMet stop.TooLong t h = Unit {0}

  -- where a run stops so, the store still keeps the state, and what stopped it was met, unless a write failed
  abbrev pub StaysAt : Limits → S → Told → Told → Stop → History → State → Type 0
  StaysAt limits store old new s h state = Unrisen old new → k.holds limits store new h state × StopMet s new h

  -- what is worn since an entry is known still behind a part of a run, or it stopped so
  abbrev pub LearnsAlong : {T : Type 0} → S → Told → Result T Stop → S → Told → Type 0
  LearnsAlong before old result then new = (entry : Told) → k.knows entry before old →
      MatchResult result (λ _. k.knows entry then new) (λ s. StopWears entry s new)

  -- What goes along with each part of a run, whatever it does and whatever the chip tells: what is added is lawful by the
  -- sectors that the store counts as clean, at most n numbers were drawn, where the part was done the store suits its chip
  -- still, what is worn is known still, beside the chip no more happened than R tells, and a stop has its cause. A part
  -- never finds the script too long.
  pub record Along {T : Type 0} (R : Told → Told → Type 0) (n : ℕ) (before : S) (old : Told)
      (result : Result T Stop) (then : S) (new : Told) : Type 0 where
    pub tidy : LeavesTidy k before then old new (is_ok result)
    pub draws : Draws k n before (IsErrOf result (stop.Store Spent)) then
    pub suited : OnOk result (k.suits before → k.suits then)
    pub learns : LearnsAlong before old result then new
    pub beside : R old new
    pub cause : IfErr result (λ s. StopCause old new s)
    pub never : IsErrOf result stop.TooLong → ⊥

  -- the store keeps a state under these limits, over some history that leaves what the chip holds
  pub record KeepsSome (limits : Limits) (store : S) (t : Told) : Type 0 where
    pub state : State
    pub history : History
    pub holds : k.holds limits store t history state

  -- What a part of a run does with a store that keeps a state: it draws at most n numbers; it stops
  -- with a fault of the store only where a call of the chip failed, which it says, as long as numbers are left, and only as a
  -- store may fail under these limits; and where it is done, the store keeps a state again.
  pub record Completes {T : Type 0} (limits : Limits) (n : ℕ) (before : S) (old : Told) (result : Result T Stop)
      (then : S) (new : Told) : Type 0 where
    pub drawn : k.counter then ≤ k.counter before + n
    pub excuse : (fault : Fault) → IsErrOf result (stop.Store fault) → Excuses k n before old new fault
    pub tells : (fault : Fault) → IsErrOf result (stop.Store fault) → k.tells limits fault
    pub again : OnOk result (KeepsSome limits then new)

  -- wherever it keeps a state
  abbrev pub CompletesOver : {T : Type 0} → ℕ → S → Told → Result T Stop → S → Told → Type 0
  CompletesOver n before old result then new =
      (limits : Limits) → KeepsSome limits before old → Completes limits n before old result then new

  -- for a piece of n bytes no more numbers were drawn than n commands may draw
  pub record DrawsPiece (n : ℕ) (before : S) (old : Told) (result : Result ℕ Stop) (then : S) (new : Told) : Type 0 where
    pub drew : k.counter then ≤ max (k.counter before) FOUND_NUMBER + COMMAND_DRAWS * n
    pub completed : CompletesOver (COMMAND_DRAWS * n) before old result then new

  -- How a run of a script ends: all of it was read, and nothing was done behind the last reply; or the stop has its cause.
  -- It is too long only where so many bytes were read.
  pub record EndsScript (old : Told) (result : Result (Unit {0}) Stop) (new : Told) : Type 0 where
    pub cause : IfErr result (λ s. StopCause old new s)
    pub long : IsErrOf result stop.TooLong → ReadsTooMany old new
    pub all : OnOk result (ReadsAll old new)
    pub last : OnOk result (EndsReplied old new)

  -- these lines were said, chip calls between them, and the store keeps the same state; or a part of them was
  pub record SaysSome (limits : Limits) (state : State) (lines : List (List ℕ)) (before : S) (h : History)
      (then : S) (old new : Told) (s : Stop) : Type 0 where
    pub said : List (List ℕ)
    pub part : SaysLines lines said
    pub ends : SaysPart s lines said
    pub leaves : SayingLeaves k limits state.map said before h then old new false
    pub stays : StaysAt limits then old new s (adds_all leaves.added h) state

  abbrev pub SaysUnder : Limits → (State → List (List ℕ)) → S → Told → Result (Unit {0}) Stop → S → Told → Type 0
  SaysUnder limits lines before old result then new = (state : State) (h : History)
      → k.holds limits before old h state →
      MatchResult result
      (λ _. (leaves : SayingLeaves k limits state.map (lines state) before h then old new true)
      × k.holds limits then new (adds_all leaves.added h) state)
      (λ s. SaysSome limits state (lines state) before h then old new s)

  -- under such limits these lines were said, or a part of them, with what goes along and what is done with a store that
  -- keeps a state
  pub record SaysAlong (Such : Limits → Type 0) (lines : State → List (List ℕ)) (n : ℕ) (before : S) (old : Told)
      (result : Result (Unit {0}) Stop) (then : S) (new : Told) : Type 0 where
    pub says : (limits : Limits) → Such limits → SaysUnder limits lines before old result then new
    pub along : Along Onward n before old result then new
    pub completes : (limits : Limits) → Such limits → KeepsSome limits before old
        → Completes limits n before old result then new

  -- commands were answered, or it stopped in them
  abbrev pub Answers : List Command → S → Told → Result (Unit {0}) Stop → S → Told → Type 0
  Answers commands before old result then new = (limits : Limits) (state : State) (h : History)
      → k.holds limits before old h state →
      MatchResult result
      (λ _. (leaves : RunLeaves k limits state commands before h (k.holds limits then new) then old new (Ok tt))
      × k.holds limits then new (adds_all leaves.added h) (after_all limits state commands))
      (λ s. RunLeaves k limits state commands before h (StaysAt limits then old new s) then old new (Err s))

  -- Commands were answered, or it stopped in them, with what goes along and what is done with a store that keeps a state.
  -- Nothing is done behind the last reply.
  pub record AnswersAlong (commands : List Command) (n : ℕ) (before : S) (old : Told)
      (result : Result (Unit {0}) Stop) (then : S) (new : Told) : Type 0 where
    pub answers : Answers commands before old result then new
    pub along : Along Onward n before old result then new
    pub completes : CompletesOver n before old result then new
    pub last : OnOk result (EndsReplied old new)

  -- From one moment of a run to a later one, while some bytes were taken: commands were answered, and with those still to come
  -- they are those that were to come before.
  pub record Goes (limits : Limits) (state : State) (line bytes : List ℕ) (before : S) (h : History) (then : S)
      (later : List ℕ) (old new : Told) : Type 0 where
    pub done : List Command
    pub goes_on : (tail : List ℕ) → commands_from line (bytes ++ tail) ≡ done ++ commands_from later tail
    pub leaves : RunLeaves k limits state done before h (k.holds limits then new) then old new (Ok tt)
    pub holds : k.holds limits then new (adds_all leaves.added h) (after_all limits state done)

  -- bytes of the script were taken, or it stopped in them, whatever bytes would have come
  abbrev pub TakesBytes : List ℕ → S → List ℕ → Told → Result (Unit {0}) Stop → S → List ℕ → Told → Type 0
  TakesBytes bytes before line old result then later new = (limits : Limits) (state : State) (h : History)
      → k.holds limits before old h state →
      MatchResult result
      (λ _. Goes limits state line bytes before h then later old new)
      (λ s. (tail : List ℕ) → RunLeaves k limits state (commands_from line (bytes ++ tail)) before h
      (StaysAt limits then old new s) then old new (Err s))

  -- bytes of the script were taken, or it stopped in them, with what goes along and what is done with a store that keeps
  -- a state
  pub record TakesAlong (bytes : List ℕ) (n : ℕ) (before : S) (line : List ℕ) (old : Told)
      (result : Result (Unit {0}) Stop) (then : S) (later : List ℕ) (new : Told) : Type 0 where
    pub takes : TakesBytes bytes before line old result then later new
    pub along : Along Onward n before old result then new
    pub completes : CompletesOver n before old result then new
    pub last : OnOk result (EndsReplied old new)

  -- the next n bytes of the source
  pub record Took (limits : Limits) (state : State) (line source : List ℕ) (before : S) (h : History) (n : ℕ)
      (then : S) (later : List ℕ) (old new : Told) : Type 0 where
    pub left_is : new.beside.left ≡ Some (drop n source)
    pub within : n ≤ length source
    pub ends : n ≡ 0 → source ≡ []
    pub goes : Goes limits state line (take n source) before h then later old new

  -- The run stopped so: a rest of the script is left, and the commands leave what they leave where they stop anywhere.
  pub record Stopped (limits : Limits) (state : State) (commands : List Command) (source : List ℕ) (before : S)
      (h : History) (R : History → State → Type 0) (then : S) (old new : Told) (s : Stop) : Type 0 where
    pub read : List ℕ
    pub rest : List ℕ
    pub left_is : new.beside.left ≡ Some rest
    pub source_is : source ≡ read ++ rest
    pub leaves : RunLeaves k limits state commands before h R then old new (Err s)

  -- the next bytes of the source were taken, or it stopped in them
  abbrev pub TakesPiece : S → List ℕ → Told → Result ℕ Stop → S → List ℕ → Told → Type 0
  TakesPiece before line old result then later new = (limits : Limits) (state : State) (h : History)
      → k.holds limits before old h state → (source : List ℕ) → old.beside.left ≡ Some source →
      MatchResult result
      (λ n. Took limits state line source before h n then later old new)
      (λ s. Stopped limits state (commands_from line source) source before h (StaysAt limits then old new s) then old new s)

  -- At the end of the script all of it was read, and all its commands are answered.
  pub record Ended (limits : Limits) (state : State) (source : List ℕ) (before : S) (h : History) (then : S)
      (old new : Told) : Type 0 where
    pub left_is : new.beside.left ≡ Some []
    pub leaves : RunLeaves k limits state (commands_of source) before h (k.holds limits then new) then old new (Ok tt)
    pub holds : k.holds limits then new (adds_all leaves.added h) (after_all limits state (commands_of source))

  -- a run of the rest of the script, to its end or to where it stopped
  abbrev pub RunsScript : S → Told → Result (Unit {0}) Stop → S → Told → Type 0
  RunsScript before old result then new = (limits : Limits) (state : State) (h : History)
      → k.holds limits before old h state → (source : List ℕ) → old.beside.left ≡ Some source →
      MatchResult result
      (λ _. Ended limits state source before h then old new)
      (λ s. Stopped limits state (commands_of source) source before h (StaysAt limits then old new s) then old new s)
