-- How a store keeps a state on a chip, and what one command's work leaves.
use Rattle.std.specs.Prelude.{IfErr, IsErrOf, OnOk, ◌≡◌, ◌⊎◌, ◌<◌, ◌≤◌, ◌+◌, ◌-◌, ◌^◌, ◌||◌, max, ℕ, Bool, true, false, List, [], ◌∷◌, Option, Result, MatchResult, is_ok}
use Rattle.std.specs.Option.{option_map}
use Rattle.std.specs.FinMap.{get}
use Rattle.ipl_base.specs.Calls.{IsFailedCall}
use Rattle.ipl_base.specs.declared.fault.ImageFault.TheVariants as image
use Rattle.ipl_model.specs.State.{Map, State, Limits}
use Rattle.ipl_model.specs.declared.command.Command.{Command}
use Rattle.ipl_model.specs.declared.command.Command.TheVariants as command
use Rattle.ipl_model.specs.declared.reply.Reply.{Reply}
use Rattle.ipl_model.specs.Step.{step}
use Rattle.chip_trait.specs.declared.event.Event.{Event}
use Rattle.chip_trait.specs.declared.event.Event.TheVariants.{Said}
use Rattle.chip_trait.specs.Story.{Story, Contents, pieces}
use Rattle.chip_trait.specs.Moment.{AtEachMoment, Leaves}
use Rattle.chip_trait.specs.Lawful.{IsLawfulAfter, LeavesClean}
use Rattle.chip_trait.specs.Told.{History, Told, Counts, adds_all, Rose, Unrisen}
use Rattle.store_trait.specs.declared.fault.Fault.{Fault}
use Rattle.store_trait.specs.declared.fault.Fault.TheVariants.{Chip, Image, Spent}
use Rattle.store_trait.specs.Onward.{Further, Still, sayings}

-- each of these events is so
abbrev pub AllOf : (Event → Type 0) → Story → Type 0
AllOf P [] = Unit {0}
AllOf P (e ∷ story) = P e × AllOf P story

-- What is to be known of stores of one kind, over chips of one size.
pub record Keeping (S : Type 0) : Type 1 where
  -- the bytes of a sector check, so that a power cut leaves them only where they were written
  pub checks : List ℕ → Bool
  -- it is known of every record of the chip, so that nothing but a call can fail
  pub whole : Type 0
  -- under these limits the contents of a chip stand for these records
  pub stands : Limits → Contents → Map → Type 0
  -- under these limits the store, over a chip that tells this and holds what this history leaves, keeps the state
  pub holds : Limits → S → Told → History → State → Type 0
  -- the store is made for such a chip, and may go on
  pub suits : S → Type 0
  -- the store counts this sector of this place as clean
  pub clean : S → ℕ → ℕ → Type 0
  -- in whatever a power cut leaves of this history, but by chance, nothing that a mark says to be clean was used
  pub marked : History → Type 0
  -- nor was what the store counts as clean
  pub unused : S → History → Type 0
  -- the next number that the store draws
  pub counter : S → ℕ
  -- the store's work may add such an event
  pub does : Event → Type 0
  -- a fault comes only where this was so of what was told before it and after it
  pub cause : Fault → Told → Told → Type 0
  -- a store that keeps a state under these limits may fail so
  pub tells : Limits → Fault → Type 0
  -- over a chip that tells this and holds what this history leaves, what the fault says was so at some moment of the history
  pub met : Told → History → Fault → Type 0
  -- Over a chip that told this at an entry and tells that now, each place that the store takes no more,
  -- or that its chip lists so, is known to be worn.
  pub knows : Told → S → Told → Type 0
  -- such a fault comes only where more places are known to be worn since that entry than are spare
  pub wears : Told → Fault → Told → Type 0
  -- Over a chip that told this at an entry and tells that now, and wasn't opened since, the store knows of all that was
  -- erased since.
  pub recalls : Told → S → Told → Type 0
  -- whatever a power cut leaves of such a chip stands for the records
  pub each : (limits : Limits) (store : S) (t : Told) (h : History) (state : State) → holds limits store t h state
      → Leaves checks (λ x. stands limits x state.map) h []
  -- what is said and what is read of a script changes nothing
  pub still : (limits : Limits) (store : S) (old new : Told) (h : History) (state : State) → (still : Still old new)
      → holds limits store old h state → holds limits store new (adds_all (sayings still.pieces) h) state
  -- nor does it change what is known
  pub known_still : (entry : Told) (store : S) (old new : Told) → Still old new → knows entry store old
      → knows entry store new
  pub recalled_still : (entry : Told) (store : S) (old new : Told) → Still old new → recalls entry store old
      → recalls entry store new
  -- what is said uses nothing
  pub unused_marked : (store : S) (h : History) → unused store h → marked h
  pub unused_said : (store : S) (h : History) (piece : List ℕ) → unused store h
      → unused store (adds_all (Said piece ∷ []) h)
  -- a cause is one for a longer time too
  pub caused : (fault : Fault) (first old new last : Told) → Further first old → cause fault old new
      → Further new last → cause fault first last

-- a store answers that its numbers are used up only above this
abbrev pub LAST_NUMBER : ℕ
LAST_NUMBER = 2 ^ 64 - 2 ^ 20

-- what an opening of a chip sets the counter to at most
abbrev pub FOUND_NUMBER : ℕ
FOUND_NUMBER = 2 ^ 63 + 2 ^ 14

-- the most numbers that the work of one command draws, that looking one record up draws, and that answering one command does
abbrev pub WORK_DRAWS : ℕ
WORK_DRAWS = 2 ^ 20

abbrev pub LOOK_UP_DRAWS : ℕ
LOOK_UP_DRAWS = 16

abbrev pub COMMAND_DRAWS : ℕ
COMMAND_DRAWS = 2 ^ 24

-- the most that the commands of a script draw
abbrev pub SCRIPT_DRAWS : ℕ
SCRIPT_DRAWS = 2 ^ 56

-- a read or a write of the chip failed, or an erase found its place worn
abbrev pub ChipRose : Told → Told → Type 0
ChipRose old new = Rose old.read_faults new.read_faults ⊎ Rose old.write_faults new.write_faults
    ⊎ Rose old.worn_erases new.worn_erases

-- the fault of a store says that a call of the chip failed, whether its chip was open or was to be opened again
abbrev pub SaysFailedCall : Fault → Type 0
SaysFailedCall (Chip e) = IsFailedCall e
SaysFailedCall (Image image.Geometry) = ⊥
SaysFailedCall (Image image.NotFormatted) = ⊥
SaysFailedCall (Image (image.Missing u)) = ⊥
SaysFailedCall (Image (image.Chip e)) = IsFailedCall e
SaysFailedCall (Image image.Spent) = ⊥
SaysFailedCall (Image (image.NoSpare n)) = ⊥
SaysFailedCall (Image image.TooManyNumbers) = ⊥
SaysFailedCall Spent = ⊥

-- every command but a list has one line as its reply
abbrev pub IsSingle : Command → Type 0
IsSingle (command.Begin s) = Unit {0}
IsSingle (command.Get s n) = Unit {0}
IsSingle (command.Share s n) = Unit {0}
IsSingle (command.Put s n bytes) = Unit {0}
IsSingle (command.Del s n) = Unit {0}
IsSingle (command.Commit s) = Unit {0}
IsSingle (command.Batch ss) = Unit {0}
IsSingle (command.Abort s) = Unit {0}
IsSingle (command.List a b) = ⊥
IsSingle (command.Merge u) = Unit {0}
IsSingle command.Restart = Unit {0}
IsSingle command.Syntax = Unit {0}

-- the command opens the chip again
abbrev pub is_restart : Command → Bool
is_restart (command.Begin s) = false
is_restart (command.Get s n) = false
is_restart (command.Share s n) = false
is_restart (command.Put s n bytes) = false
is_restart (command.Del s n) = false
is_restart (command.Commit s) = false
is_restart (command.Batch ss) = false
is_restart (command.Abort s) = false
is_restart (command.List a b) = false
is_restart (command.Merge u) = false
is_restart command.Restart = true
is_restart command.Syntax = false

-- one of the commands does
abbrev pub restarts : List Command → Bool
restarts [] = false
restarts (c ∷ commands) = is_restart c || restarts commands

-- over stores of one kind
module _ {S : Type 0} (k : Keeping S) where
  -- Where nothing was used that a mark says to be clean or that the first store counts so, nothing that a mark says is used
  -- at any moment; and done, nor is what the store counts so then.
  pub record UsesNothingMarked (before : S) (h : History) (then : S) (done : Bool) (added : Story) : Type 0 where
    pub marks : k.unused before h → AtEachMoment (λ e. k.marked (adds_all e h)) added
    pub counts : done ≡ true → k.unused before h → k.unused then (adds_all added h)

  -- What work leaves that says nothing. What the chip tells grew by the added events. At each moment of them a power cut
  -- leaves contents with P; they are lawful, after any lawful events that leave the sectors clean which the store counts so;
  -- and done, they leave those clean that the store counts so then.
  pub record WorkLeaves (P : Contents → Type 0) (before : S) (h : History) (then : S) (old new : Told)
      (done : Bool) : Type 0 where
    pub added : Story
    pub history : new.history ≡ option_map (adds_all added) old.history
    pub each_moment : AtEachMoment (Leaves k.checks P h) added
    pub silent : pieces added ≡ []
    pub only : AllOf k.does added
    pub lawful : IsLawfulAfter (k.clean before) added
    pub clean : done ≡ true → LeavesClean (k.clean before) (k.clean then) added
    pub unused : UsesNothingMarked before h then done added

  -- What is added between one store and another, whatever the chip tells and whether a state is kept: it is lawful, after any
  -- lawful events that leave the sectors clean which the first counts so; and done, all leave those clean that the other does.
  pub record LeavesTidy (before then : S) (old new : Told) (done : Bool) : Type 0 where
    pub added : Story
    pub history : new.history ≡ option_map (adds_all added) old.history
    pub lawful : IsLawfulAfter (k.clean before) added
    pub clean : done ≡ true → LeavesClean (k.clean before) (k.clean then) added

  -- What is worn since an entry is known still when the work is done. Where it fails with a fault that
  -- tells of wear, too much is known to be worn.
  abbrev pub Learns : {T : Type 0} → S → Told → Result T Fault → S → Told → Type 0
  Learns before old result then new = (entry : Told) → k.knows entry before old →
      MatchResult result (λ _. k.knows entry then new) (λ fault. k.wears entry fault new)

  -- the store still knows of all that was erased since an entry
  abbrev pub StillRecalls : S → Told → S → Told → Type 0
  StillRecalls before old then new = (entry : Told) → k.recalls entry before old → k.recalls entry then new

  -- so it does when the work is done
  abbrev pub DoneRecalls : {T : Type 0} → S → Told → Result T Fault → S → Told → Type 0
  DoneRecalls before old result then new = OnOk result (StillRecalls before old then new)

  -- At most n numbers were drawn, from the counter before on or from what an opening found; and where this says that the
  -- numbers are used up, the counter would have come near its end.
  pub record Draws (n : ℕ) (before : S) (IsSpent : Type 0) (then : S) : Type 0 where
    pub most : k.counter then ≤ max (k.counter before) FOUND_NUMBER + n
    pub spent : IsSpent → LAST_NUMBER < max (k.counter before) FOUND_NUMBER + n

  -- What goes along with any work, whatever the chip tells: at most n numbers were drawn, what is added is lawful
  -- by the sectors that the store counts as clean, done, the store suits its chip still, what is worn is known
  -- still, no count of the chip fell, and a fault has its cause.
  pub record WorksAlong {T : Type 0} (n : ℕ) (before : S) (old : Told) (result : Result T Fault) (then : S)
      (new : Told) : Type 0 where
    pub draws : Draws n before (IsErrOf result Spent) then
    pub tidy : LeavesTidy before then old new (is_ok result)
    pub suited : OnOk result (k.suits then)
    pub learns : Learns before old result then new
    pub counts : Counts old new
    pub cause : IfErr result (λ fault. k.cause fault old new)

  -- the store still keeps the state, unless a write failed
  abbrev pub Stays : Limits → S → Told → Told → History → State → Type 0
  Stays limits store old new h state = Unrisen old new → k.holds limits store new h state

  -- and the fault was met
  abbrev pub StaysMet : Limits → S → Told → Told → Fault → History → State → Type 0
  StaysMet limits store old new fault h state =
      Unrisen old new → k.holds limits store new h state × k.met new h fault

  -- as long as n numbers are left below 2^63, and all records are known, a call of the chip failed, and the fault says so
  abbrev pub Excuses : ℕ → S → Told → Told → Fault → Type 0
  Excuses n before old new fault =
      k.counter before + n < 2 ^ 63 → k.whole → ChipRose old new × SaysFailedCall fault

  -- The work for one command: wherever the power is cut, the chip stands for the records before the command or after it.
  -- Done, the store keeps the model's next state, and the reply is the model's. After a fault it keeps the state, and the
  -- fault was met, unless a write failed. Few numbers are drawn, and a fault has its excuse.
  pub record WorksFor (limits : Limits) (state : State) (c : Command) (before : S) (h : History)
      (result : Result Reply Fault) (then : S) (old new : Told) : Type 0 where
    pub leaves : WorkLeaves
        (λ x. k.stands limits x state.map ⊎ k.stands limits x (step limits state c).0.map) before h then old new
        (is_ok result)
    pub ends : MatchResult result
        (λ reply. k.holds limits then new (adds_all leaves.added h) (step limits state c).0
        × ((step limits state c).1 ≡ reply ∷ []))
        (λ fault. StaysMet limits then old new fault (adds_all leaves.added h) state)
    pub drawn : k.counter then ≤ k.counter before + WORK_DRAWS
    pub excuse : IfErr result (Excuses WORK_DRAWS before old new)
    pub tells : IfErr result (k.tells limits)

  abbrev pub Works : Command → S → Told → Result Reply Fault → S → Told → Type 0
  Works c before old result then new = (limits : Limits) (state : State) (h : History)
      → k.holds limits before old h state → WorksFor limits state c before h result then old new

  -- Looking a record up: wherever the power is cut, the chip stands for the same records.
  pub record LooksUpFor (limits : Limits) (state : State) (n : ℕ) (before : S) (h : History)
      (result : Result (Option (List ℕ)) Fault) (then : S) (old new : Told) : Type 0 where
    pub leaves : WorkLeaves (λ x. k.stands limits x state.map) before h then old new (is_ok result)
    pub ends : MatchResult result
        (λ found. k.holds limits then new (adds_all leaves.added h) state × (found ≡ get state.map n))
        (λ fault. StaysMet limits then old new fault (adds_all leaves.added h) state)
    pub drawn : k.counter then ≤ k.counter before + LOOK_UP_DRAWS
    pub excuse : IfErr result (Excuses LOOK_UP_DRAWS before old new)
    pub tells : IfErr result (k.tells limits)

  abbrev pub LooksUp : ℕ → S → Told → Result (Option (List ℕ)) Fault → S → Told → Type 0
  LooksUp n before old result then new = (limits : Limits) (state : State) (h : History)
      → k.holds limits before old h state → n < limits.names → LooksUpFor limits state n before h result then old new
