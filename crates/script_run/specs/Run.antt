-- What a run of commands leaves, wherever it stops.
use Rattle.std.specs.Prelude.{◌≡◌, ℕ, Bool, true, List, [], ◌∷◌, ◌++◌, Result, Ok, Err, is_ok, false}
use Rattle.std.specs.Option.{option_map}
use Rattle.ipl_model.specs.State.{Map, State, Limits}
use Rattle.ipl_model.specs.declared.command.Command.{Command}
use Rattle.ipl_model.specs.Step.{step}
use Rattle.ipl_model.specs.Run.{reply_lines, lines, after_all, IsNear}
use Rattle.chip_trait.specs.declared.event.Event.{Event}
use Rattle.chip_trait.specs.declared.event.Event.TheVariants.{Read, Program, Erase, Worn, Barrier, Said}
use Rattle.chip_trait.specs.Story.{Story, Contents, pieces, said}
use Rattle.chip_trait.specs.Moment.{AtEachMoment, Leaves}
use Rattle.chip_trait.specs.Lawful.{IsLawfulAfter, LeavesClean}
use Rattle.chip_trait.specs.Told.{History, Told, adds_all, IsPrefix}
use Rattle.store_trait.specs.Keeping.{Keeping, AllOf, UsesNothingMarked, StillRecalls, restarts}
use Rattle.script_run.specs.declared.fault.Stop.{Stop}
use Rattle.script_run.specs.declared.fault.Stop.TheVariants as stop

-- what was said of a line that was cut short: nothing, or a beginning of the line that comes next
abbrev pub IsCut : List (List ℕ) → List (List ℕ) → Type 0
IsCut [] lines = Unit {0}
IsCut (piece ∷ []) [] = ⊥
IsCut (piece ∷ []) (line ∷ lines) = IsPrefix piece line
IsCut (piece ∷ more ∷ cut) lines = ⊥

-- The pieces are a beginning of the lines, each a whole line but perhaps the last, which is a beginning of the next line.
pub record SaysLines (lines : List (List ℕ)) (said : List (List ℕ)) : Type 0 where
  pub whole : List (List ℕ)
  pub rest : List (List ℕ)
  pub cut : List (List ℕ)
  pub lines_are : lines ≡ whole ++ rest
  pub said_is : said ≡ whole ++ cut
  pub is_cut : IsCut cut rest

-- The first of the lines were said whole. The next one couldn't be said: a beginning of it was, or
-- nothing.
pub record IsUnsaid (lines : List (List ℕ)) (said : List (List ℕ)) : Type 0 where
  pub whole : List (List ℕ)
  pub line : List ℕ
  pub rest : List (List ℕ)
  pub cut : List (List ℕ)
  pub lines_are : lines ≡ whole ++ line ∷ rest
  pub said_is : said ≡ whole ++ cut
  pub is_cut : IsCut cut (line ∷ rest)

-- the first of the lines were said whole, and not all of them
pub record IsUnended (lines : List (List ℕ)) (said : List (List ℕ)) : Type 0 where
  pub line : List ℕ
  pub rest : List (List ℕ)
  pub lines_are : lines ≡ said ++ line ∷ rest

-- of the reply that comes next
abbrev pub IsNextUnended : Limits → State → List Command → List (List ℕ) → Type 0
IsNextUnended limits state [] said = said ≡ []
IsNextUnended limits state (c ∷ commands) said = IsUnended (reply_lines limits state c) said

-- The first of the commands are answered, all their lines said whole; of the next reply a list's
-- first rows may be said, each whole. R is so of the state after the commands that are answered.
pub record EndsBetween (limits : Limits) (state : State) (commands : List Command) (said : List (List ℕ))
    (R : State → Type 0) : Type 0 where
  pub answered : List Command
  pub later : List Command
  pub commands_are : commands ≡ answered ++ later
  pub part : List (List ℕ)
  pub said_is : said ≡ lines limits state answered ++ part
  pub next : IsNextUnended limits (after_all limits state answered) later part
  pub rests : R (after_all limits state answered)

-- The first of the commands are answered, all their lines said whole; the next is done, and a line
-- of its reply couldn't be said. R is so of the state after it.
pub record EndsUnsaid (limits : Limits) (state : State) (commands : List Command) (said : List (List ℕ))
    (R : State → Type 0) : Type 0 where
  pub answered : List Command
  pub command : Command
  pub later : List Command
  pub commands_are : commands ≡ answered ++ command ∷ later
  pub part : List (List ℕ)
  pub said_is : said ≡ lines limits state answered ++ part
  pub next : IsUnsaid (reply_lines limits (after_all limits state answered) command) part
  pub rests : R (step limits (after_all limits state answered) command).0

-- How a run ends: with all commands answered, or where it stops. R is so of the state then.
abbrev pub EndsAt : Result (Unit {0}) Stop → Limits → State → List Command → List (List ℕ)
    → (State → Type 0) → Type 0
EndsAt (Ok u) limits state commands said R = R (after_all limits state commands)
EndsAt (Err (stop.Store fault)) limits state commands said R = EndsBetween limits state commands said R
EndsAt (Err stop.Script) limits state commands said R = EndsBetween limits state commands said R
EndsAt (Err stop.Output) limits state commands said R = EndsUnsaid limits state commands said R
EndsAt (Err stop.TooLong) limits state commands said R = EndsBetween limits state commands said R

-- a piece was said, or the event passes the test
abbrev pub IsSaidOr : (Event → Type 0) → Event → Type 0
IsSaidOr P (Read p s) = P (Read p s)
IsSaidOr P (Program p s bytes) = P (Program p s bytes)
IsSaidOr P (Erase p) = P (Erase p)
IsSaidOr P (Worn p) = P (Worn p)
IsSaidOr P Barrier = P Barrier
IsSaidOr P (Said piece) = Unit {0}

module _ {S : Type 0} (k : Keeping S) where
  -- the contents stand for the records after the commands that were answered, or after one more
  abbrev pub StandsNear : Limits → State → List Command → List ℕ → Contents → Type 0
  StandsNear limits state commands bytes x = IsNear (λ s. k.stands limits x s.map) limits state commands bytes

  -- What the chip tells grew by the added events. Whatever moment of them the power is cut at, the chip stands for the records
  -- after the commands that were answered, or after one more. What was said is a beginning of the replies, line by line, and
  -- all of them where the commands are done. No sector is programmed twice. Where the commands are done and none is a restart,
  -- the store still knows of all that was erased since an entry. R says of the history at the end, and of a state, how the
  -- store keeps it then: by what was said, for the commands that were answered or one more; and by the stop, exactly.
  pub record RunLeaves (limits : Limits) (state : State) (commands : List Command) (before : S) (h : History)
      (R : History → State → Type 0) (then : S) (old new : Told) (result : Result (Unit {0}) Stop) : Type 0 where
    pub added : Story
    pub history : new.history ≡ option_map (adds_all added) old.history
    pub each_moment : AtEachMoment (λ e. Leaves k.checks (StandsNear limits state commands (said e)) h e) added
    pub replies : SaysLines (lines limits state commands) (pieces added)
    pub all : is_ok result ≡ true → pieces added ≡ lines limits state commands
    pub only : AllOf (IsSaidOr k.does) added
    pub lawful : IsLawfulAfter (k.clean before) added
    pub clean : is_ok result ≡ true → LeavesClean (k.clean before) (k.clean then) added
    pub unused : UsesNothingMarked k before h then (is_ok result) added
    pub recalls : is_ok result ≡ true → restarts commands ≡ false → StillRecalls k before old then new
    pub rests : IsNear (R (adds_all added h)) limits state commands (said added)
    pub ends : EndsAt result limits state commands (pieces added) (R (adds_all added h))

  -- what is left while these pieces are said, chip calls between them, of a chip that stands for the same records throughout
  pub record SayingLeaves (limits : Limits) (m : Map) (said : List (List ℕ)) (before : S) (h : History) (then : S)
      (old new : Told) (done : Bool) : Type 0 where
    pub added : Story
    pub history : new.history ≡ option_map (adds_all added) old.history
    pub each_moment : AtEachMoment (Leaves k.checks (λ x. k.stands limits x m) h) added
    pub says : pieces added ≡ said
    pub only : AllOf (IsSaidOr k.does) added
    pub lawful : IsLawfulAfter (k.clean before) added
    pub clean : done ≡ true → LeavesClean (k.clean before) (k.clean then) added
    pub unused : UsesNothingMarked k before h then done added
    pub recalls : done ≡ true → StillRecalls k before old then new
