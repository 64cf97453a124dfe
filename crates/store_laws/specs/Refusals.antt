-- What a store refuses: its sessions tell it, as the model's state does.
use Rattle.std.specs.Prelude.{ℕ, ◌≡◌, ◌<◌, ◌≤◌, ◌*◌, [], ◌∷◌, List, Contains, Bool, true, false, length, Option, Some, None, Ok, Err, if◌then◌else◌}
use Rattle.std.specs.Option.{option_or}
use Rattle.ipl_base.specs.declared.limits.TheConstants.{UNIT_NAMES, VALUE_LEN}
use Rattle.chip_trait.specs.Told.{Told, Counts}
use Rattle.ipl_base.specs.Places.{home_of}
use Rattle.ipl_base.specs.Sizes.{size_in_page}
use Rattle.ipl_base.specs.declared.fault.ChipFault.{ChipFault}
use Rattle.ipl_base.specs.declared.fault.Refusal.{Refusal}
use Rattle.ipl_base.specs.declared.fault.Refusal.TheVariants.{PageFull}
use Rattle.ipl_model.specs.Peaks.{overfills}
use Rattle.ipl_model.specs.Operations.{after_write}
use Rattle.ipl_model.specs.Refusals.{first_of, bad_session, bad_name, too_long, not_open, conflict, writes_full, refuses_begin, refuses_get, refuses_share, refuses_put_early, refuses_del, refuses_end, refuses_batch, is_twice, refuses_list, refuses_merge}
use Rattle.ipl_model.specs.State.{State, Limits, holder_for_write}
use Rattle.ipl_model.specs.declared.command.Command.{Command}
use Rattle.ipl_model.specs.declared.command.Command.TheVariants as command
use Rattle.ipl_model.specs.declared.reply.Reply.TheVariants as reply
use Rattle.ipl_model.specs.Step.{Stepped, refusal_of, accepted, step}
use Rattle.record_locks.specs.Held.{SessionSlots, peaks_in, number_of}
use Rattle.record_locks.specs.Locks as locks
use Rattle.record_locks.specs.Standing.{state_of}
use Rattle.ipl_meaning.specs.Legible.{Legibility, IsToldApart}
use Rattle.ipl_meaning.specs.Tables.{Tables}
use Rattle.unit_io.specs.Reads.{OfContents}
use Rattle.store_laws.specs.Frames.{PageFrame, Frames}
use Rattle.store_laws.specs.Room.{overfills_at}
use Rattle.store_laws.specs.Fits.{AreSessionsOf}
use Rattle.store_trait.specs.declared.fault.Fault.{Fault}
use Rattle.store_trait.specs.Keeping.{WORK_DRAWS, Works}
use Rattle.store_laws.specs.Advances.{Memory, memory_of, KeepsState, LeadsTo}
use Rattle.store_laws.specs.Keeps.{View, DrawsFew, ShowsState, StepsAs, limits_of, limits_in, store_keeping}

-- ---- the sessions refuse as the state does, but for a put whose page is full

-- why a command is refused before its page is looked at, if it is
abbrev pub early_refusal : Limits → State → Command → Option Refusal
early_refusal limits state (command.Begin s) = refuses_begin limits state s
early_refusal limits state (command.Get s n) = refuses_get limits state s n
early_refusal limits state (command.Share s n) = refuses_share limits state s n
early_refusal limits state (command.Put s n bytes) = refuses_put_early limits state s n bytes
early_refusal limits state (command.Del s n) = refuses_del limits state s n
early_refusal limits state (command.Commit s) = refuses_end limits state s
early_refusal limits state (command.Batch ss) = refuses_batch limits state ss
early_refusal limits state (command.Abort s) = refuses_end limits state s
early_refusal limits state (command.List a b) = refuses_list limits a b
early_refusal limits state (command.Merge u) = refuses_merge limits u
early_refusal limits state command.Restart = None
early_refusal limits state command.Syntax = None

-- the page of a put has no room for it; no other command asks for room
abbrev pub finds_full : State → Command → Bool
finds_full state (command.Begin s) = false
finds_full state (command.Get s n) = false
finds_full state (command.Share s n) = false
finds_full state (command.Put s n bytes) = overfills state n bytes
finds_full state (command.Del s n) = false
finds_full state (command.Commit s) = false
finds_full state (command.Batch ss) = false
finds_full state (command.Abort s) = false
finds_full state (command.List a b) = false
finds_full state (command.Merge u) = false
finds_full state command.Restart = false
finds_full state command.Syntax = false

-- a command is refused early, or else since its page is full
abbrev pub RefusedInTwoParts : Type 0
RefusedInTwoParts = (limits : Limits) (state : State) (c : Command)
    → refusal_of limits state c
    ≡ option_or (early_refusal limits state c) (if finds_full state c then Some PageFull else None)

-- why a put is refused early, by the sessions
abbrev pub sessions_refuse_put : Limits → SessionSlots → ℕ → ℕ → List ℕ → Option Refusal
sessions_refuse_put limits slots s n bytes = first_of (bad_session limits s ∷ bad_name limits n ∷ too_long bytes
    ∷ not_open (state_of slots) s ∷ conflict (holder_for_write (state_of slots) s n)
    ∷ writes_full (state_of slots) s n ∷ locks.pending_full slots n (size_in_page (Some bytes)) ∷ [])

-- and a delete
abbrev pub sessions_refuse_del : Limits → SessionSlots → ℕ → ℕ → Option Refusal
sessions_refuse_del limits slots s n = first_of (bad_session limits s ∷ bad_name limits n
    ∷ not_open (state_of slots) s ∷ conflict (holder_for_write (state_of slots) s n)
    ∷ writes_full (state_of slots) s n ∷ locks.pending_full slots n (size_in_page None) ∷ [])

-- and each command
abbrev pub sessions_refuse : Limits → SessionSlots → Command → Option Refusal
sessions_refuse limits slots (command.Begin s) = refuses_begin limits (state_of slots) s
sessions_refuse limits slots (command.Get s n) = refuses_get limits (state_of slots) s n
sessions_refuse limits slots (command.Share s n) = refuses_share limits (state_of slots) s n
sessions_refuse limits slots (command.Put s n bytes) = sessions_refuse_put limits slots s n bytes
sessions_refuse limits slots (command.Del s n) = sessions_refuse_del limits slots s n
sessions_refuse limits slots (command.Commit s) = refuses_end limits (state_of slots) s
sessions_refuse limits slots (command.Batch ss) = refuses_batch limits (state_of slots) ss
sessions_refuse limits slots (command.Abort s) = refuses_end limits (state_of slots) s
sessions_refuse limits slots (command.List a b) = refuses_list limits a b
sessions_refuse limits slots (command.Merge u) = refuses_merge limits u
sessions_refuse limits slots command.Restart = None
sessions_refuse limits slots command.Syntax = None

-- they refuse what the state refuses early, whatever was put
abbrev pub SessionsRefuse : Type 0
SessionsRefuse = (limits : Limits) (slots : SessionSlots) (state : State) (c : Command)
    → AreSessionsOf slots state → sessions_refuse limits slots c ≡ early_refusal limits state c

-- what they refuse changes nothing, and is answered so
abbrev pub RefusalsAnswer : Type 0
RefusalsAnswer = (limits : Limits) (slots : SessionSlots) (state : State) (c : Command) (r : Refusal)
    → AreSessionsOf slots state → sessions_refuse limits slots c ≡ Some r
    → step limits state c ≡ (state, reply.Refused r ∷ [])

-- what they don't refuse is done, but where its page is full
abbrev pub unrefused : State → Command → Stepped
unrefused state c = if finds_full state c then (state, reply.Refused PageFull ∷ []) else accepted state c

abbrev pub AcceptedAreDone : Type 0
AcceptedAreDone = (limits : Limits) (slots : SessionSlots) (state : State) (c : Command)
    → AreSessionsOf slots state → sessions_refuse limits slots c ≡ None
    → step limits state c ≡ unrefused state c

-- A put that they don't refuse, where a call that keeps each state brought its page into a frame: what
-- the frame has tells whether it is refused, wherever the contents that are told show the state.
abbrev pub PutsAnswer : Type 0
PutsAnswer = (pages : Legibility) (s n : ℕ) (bytes : List ℕ) (store : View) (t : Tables) (later : Frames) (f : PageFrame)
    (old new : Told)
    → KeepsState {T = Unit {0}} {E = ChipFault} store.memory.tables store.memory.frames old (Ok tt)
    t later new
    → later (home_of n).unit (home_of n).page ≡ Some f
    → sessions_refuse_put (limits_in store) store.memory.slots s n bytes ≡ None
    → IsToldApart pages → OfContents old (λ x. (state : State) → ShowsState old.places pages store state x
    → step (limits_in store) state (command.Put s n bytes)
    ≡ (if overfills_at (peaks_in store.memory.slots) n bytes f.values
    then (state, reply.Refused PageFull ∷ [])
    else (after_write state s (n, Some bytes), reply.Ok ∷ [])))

-- So a call that brought the page and found it full is the work of the put.
abbrev pub FullPutsAreWork : Type 0
FullPutsAreWork = (pages : Legibility) (s n : ℕ) (bytes : List ℕ) (before after : View) (f : PageFrame) (old new : Told)
    → IsToldApart pages → after.units ≡ before.units
    → before.down ≡ false → after.memory.slots ≡ before.memory.slots
    → KeepsState {T = Unit {0}} {E = ChipFault} before.memory.tables before.memory.frames old (Ok tt)
    after.memory.tables after.memory.frames new
    → after.memory.frames (home_of n).unit (home_of n).page ≡ Some f
    → sessions_refuse_put (limits_in before) before.memory.slots s n bytes ≡ None
    → overfills_at (peaks_in before.memory.slots) n bytes f.values ≡ true
    → DrawsFew WORK_DRAWS before old after
    → Works (store_keeping old.places pages) (command.Put s n bytes) before old (Ok (reply.Refused PageFull)) after new

-- And so is one that brought it, found room, and then wrote.
abbrev pub WrittenPutsAreWork : Type 0
WrittenPutsAreWork = (pages : Legibility) (s n : ℕ) (bytes : List ℕ) (before after : View) (t : Tables) (later : Frames)
    (f : PageFrame) (old mid new : Told)
    → IsToldApart pages → limits_in after ≡ limits_in before
    → before.down ≡ false → Counts old mid
    → KeepsState {T = Unit {0}} {E = ChipFault} before.memory.tables before.memory.frames old (Ok tt)
    t later mid
    → later (home_of n).unit (home_of n).page ≡ Some f
    → sessions_refuse_put (limits_in before) before.memory.slots s n bytes ≡ None
    → overfills_at (peaks_in before.memory.slots) n bytes f.values ≡ false
    → LeadsTo {T = Unit {0}} {E = ChipFault} (λ state. after_write state s (n, Some bytes))
    (memory_of t later before.memory.slots) mid (Ok tt) after.memory new
    → DrawsFew WORK_DRAWS before old after
    → Works (store_keeping old.places pages) (command.Put s n bytes) before old (Ok reply.Ok) after new

-- One that failed left the map, whatever it would have been answered.
abbrev pub FailedPutsLeaveTheMap : Type 0
FailedPutsLeaveTheMap = (limits : Limits) (state : State) (s n : ℕ) (bytes : List ℕ) (fault : Fault)
    → StepsAs limits state (command.Put s n bytes) (after_write state s (n, Some bytes)) (Err fault)

-- A call that does nothing is the work of a command that is refused early.
abbrev pub RefusalsLead : Type 0
RefusalsLead = (limits : Limits) (c : Command) (r : Refusal) (before : Memory) (old : Told)
    → sessions_refuse limits before.slots c ≡ Some r
    → LeadsTo {E = Fault} (λ state. (step limits state c).0) before old
    (Ok (reply.Refused r)) before old

-- ---- what isn't refused

-- there is such a session, open under a number, and it may be ended
pub record IsOpenSession (slots : SessionSlots) (s : ℕ) : Type 0 where
  pub low : s < length slots
  pub number : ℕ
  pub number_is : number_of slots s ≡ Some number
  pub may_end : locks.refuses_end slots s ≡ None

-- and the name is one of the units'
pub record ReachesName (units : ℕ) (slots : SessionSlots) (s n : ℕ) : Type 0 where
  pub session : IsOpenSession slots s
  pub name : n < UNIT_NAMES * units

-- and the locks let it be written, by a write of this size
pub record MayWriteName (units : ℕ) (slots : SessionSlots) (s n size : ℕ) : Type 0 where
  pub reaches : ReachesName units slots s n
  pub may : locks.refuses_write slots s n size ≡ None

-- these sessions are such, and none is named twice
pub record AreOpenSessions (slots : SessionSlots) (ss : List ℕ) : Type 0 where
  pub opens : (s : ℕ) → Contains ss s → IsOpenSession slots s
  pub once : (s : ℕ) → Contains ss s → is_twice ss s ≡ false

-- a begin: there is such a session, and it is closed
abbrev pub PassedBegins : Type 0
PassedBegins = (units : ℕ) (slots : SessionSlots) (s : ℕ)
    → refuses_begin (limits_of (length slots) units) (state_of slots) s ≡ None
    → (s < length slots) × (number_of slots s ≡ None) × (locks.refuses_begin slots s ≡ None)

-- a get
abbrev pub PassedGets : Type 0
PassedGets = (units : ℕ) (slots : SessionSlots) (s n : ℕ)
    → refuses_get (limits_of (length slots) units) (state_of slots) s n ≡ None → ReachesName units slots s n

-- a share: the locks let the name be shared
abbrev pub PassedShares : Type 0
PassedShares = (units : ℕ) (slots : SessionSlots) (s n : ℕ)
    → refuses_share (limits_of (length slots) units) (state_of slots) s n ≡ None
    → ReachesName units slots s n × (locks.refuses_share slots s n ≡ None)

-- a put that isn't refused early: the value has at most 464 bytes
abbrev pub PassedPuts : Type 0
PassedPuts = (units : ℕ) (slots : SessionSlots) (s n : ℕ) (bytes : List ℕ)
    → sessions_refuse_put (limits_of (length slots) units) slots s n bytes ≡ None
    → MayWriteName units slots s n (size_in_page (Some bytes)) × (length bytes ≤ VALUE_LEN)

-- a delete
abbrev pub PassedDels : Type 0
PassedDels = (units : ℕ) (slots : SessionSlots) (s n : ℕ)
    → sessions_refuse_del (limits_of (length slots) units) slots s n ≡ None
    → MayWriteName units slots s n (size_in_page None)

-- a commit, or an abort
abbrev pub PassedEnds : Type 0
PassedEnds = (units : ℕ) (slots : SessionSlots) (s : ℕ)
    → refuses_end (limits_of (length slots) units) (state_of slots) s ≡ None → IsOpenSession slots s

-- a commit of several sessions
abbrev pub PassedBatches : Type 0
PassedBatches = (units : ℕ) (slots : SessionSlots) (ss : List ℕ)
    → refuses_batch (limits_of (length slots) units) (state_of slots) ss ≡ None → AreOpenSessions slots ss

-- a list: both names are the units'
abbrev pub PassedLists : Type 0
PassedLists = (sessions units a b : ℕ) → refuses_list (limits_of sessions units) a b ≡ None
    → (a < UNIT_NAMES * units) × (b < UNIT_NAMES * units)

-- a merge: the unit is one of the chip's
abbrev pub PassedMerges : Type 0
PassedMerges = (sessions units u : ℕ) → refuses_merge (limits_of sessions units) u ≡ None → u < units
