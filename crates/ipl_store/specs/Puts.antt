-- What a put of a store does that isn't refused early: it brings its page into a frame, and then finds
-- it full or writes there.
use Rattle.std.specs.Prelude.{ℕ, ◌≡◌, Bool, not, true, false, List, Option, Some, None, [], Result, Ok, Err, IfOk, if◌then◌else◌}
use Rattle.chip_trait.specs.Told.{Told, Counts}
use Rattle.ipl_base.specs.declared.fault.ChipFault.{ChipFault}
use Rattle.ipl_base.specs.declared.fault.Refusal.{Refusal}
use Rattle.ipl_base.specs.declared.fault.Refusal.TheVariants.{BadSession, BadName, TooLong, AlreadyOpen, NotOpen, Conflict, WritesFull, SharesFull, PendingFull, BadUnit, HoldsFull, NotHeld, PageFull, Twice, SessionsOpen}
use Rattle.ipl_base.specs.declared.fault.StoreFault.{StoreFault}
use Rattle.ipl_base.specs.declared.fault.StoreFault.TheVariants.{Down, Spent, Refused, Chip}
use Rattle.ipl_base.specs.Places.{home_of}
use Rattle.ipl_model.specs.Peaks.{overfills}
use Rattle.ipl_model.specs.Operations.{after_write}
use Rattle.ipl_model.specs.State.{State}
use Rattle.record_locks.specs.Held.{peaks_in}
use Rattle.ipl_meaning.specs.Legible.{Legibility, IsToldApart}
use Rattle.ipl_meaning.specs.Tables.{Tables}
use Rattle.unit_io.specs.Reads.{OfContents}
use Rattle.store_laws.specs.Frames.{PageFrame, Frames}
use Rattle.store_laws.specs.Room.{overfills_at}
use Rattle.store_laws.specs.Advances.{memory_of, KeepsState, LeadsTo}
use Rattle.store_laws.specs.Keeps.{ShowsState}
use Rattle.store_laws.specs.Refusals.{sessions_refuse_put}
use Rattle.page_frames.specs.Asks.{AsksToBring}
use Rattle.page_frames.specs.Pages.{tables_in, frames_in, IsFramed, Upholds}
use Rattle.ipl_store.specs.declared.store.Store.{Store}
use Rattle.ipl_store.specs.Calls.{memory_of_store, view_of, early_fault, entry_fault, limits_of_store}

-- why a put ends before its page is looked at, if it does
abbrev pub put_fault : Store → ℕ → ℕ → List ℕ → Option StoreFault
put_fault store s n bytes = early_fault (entry_fault store)
    (sessions_refuse_put (limits_of_store store) store.transactions.sessions s n bytes)

-- ---- the answer

-- it is refused since its page is full
abbrev pub is_page_full : Refusal → Bool
is_page_full BadSession = false
is_page_full BadName = false
is_page_full TooLong = false
is_page_full AlreadyOpen = false
is_page_full NotOpen = false
is_page_full (Conflict s) = false
is_page_full WritesFull = false
is_page_full SharesFull = false
is_page_full (PendingFull u) = false
is_page_full BadUnit = false
is_page_full HoldsFull = false
is_page_full NotHeld = false
is_page_full PageFull = true
is_page_full (Twice s) = false
is_page_full (SessionsOpen s) = false

-- Whether the page of a put had room. Where it hadn't, the put is refused, and that is an answer here;
-- any other error stays one.
abbrev pub found_room : Result (Unit {0}) StoreFault → Result Bool StoreFault
found_room (Ok v) = Ok true
found_room (Err Down) = Err Down
found_room (Err Spent) = Err Spent
found_room (Err (Refused r)) = if is_page_full r then Ok false else Err (Refused r)
found_room (Err (Chip e)) = Err (Chip e)

-- the state after it
abbrev pub put_next : ℕ → ℕ → List ℕ → Result Bool StoreFault → State → State
put_next s n bytes (Ok true) state = after_write state s (n, Some bytes)
put_next s n bytes (Ok false) state = state
put_next s n bytes (Err fault) state = after_write state s (n, Some bytes)

-- The page had room exactly where it has in each state that memory and contents show: by what is
-- committed there, and by what all open sessions wrote.
abbrev pub TellsRoom : ℕ → List ℕ → Store → Told → Result Bool StoreFault → Type 0
TellsRoom n bytes old before found = IfOk found (λ room. OfContents before (λ x. (pages : Legibility) (state : State)
    → IsToldApart pages → ShowsState before.places pages (view_of old) state x → overfills state n bytes ≡ not room))

-- ---- what was done

-- A page was brought into this frame. It has no records in memory where the page was in no frame
-- before; and where it was in one, all frames are as they were.
pub record HasBrought (u page : ℕ) (old : Store) (before : Told) (new : Store) (after : Told)
    : Type 0 where
  pub frame : PageFrame
  pub there : frames_in new.transactions.pages u page ≡ Some frame
  pub upholds : Upholds {T = Unit {0}} 14 old.transactions.pages before (Ok tt)
      new.transactions.pages after
  pub rest : new
      ≡ record old { transactions = record old.transactions { pages = new.transactions.pages } }
  pub asks : AsksToBring u page false old.transactions.pages new.transactions.pages before after
  pub fresh : frames_in old.transactions.pages u page ≡ None → frame.log ≡ []
  pub same : IsFramed old.transactions.pages u page
      → frames_in new.transactions.pages ≡ frames_in old.transactions.pages

-- a call that keeps each state, and was done, brought the page of the name into this frame
pub record BringsPageOf (n : ℕ) (old : Store) (before : Told) (t : Tables) (frames : Frames)
    (f : PageFrame) (after : Told) : Type 0 where
  pub keeps : KeepsState {T = Unit {0}} {E = ChipFault} (tables_in old.transactions.pages)
      (frames_in old.transactions.pages) before (Ok tt) t frames after
  pub there : frames (home_of n).unit (home_of n).page ≡ Some f
  pub counts : Counts before after

-- the page was full, and nothing was written
pub record FindsFull (n : ℕ) (bytes : List ℕ) (old : Store) (before : Told) (new : Store)
    (after : Told) : Type 0 where
  pub frame : PageFrame
  pub brings : BringsPageOf n old before (tables_in new.transactions.pages)
      (frames_in new.transactions.pages) frame after
  pub full : overfills_at (peaks_in old.transactions.sessions) n bytes frame.values ≡ true
  pub sessions : new.transactions.sessions ≡ old.transactions.sessions

-- it had room, and the write was done
pub record WritesInRoom (s n : ℕ) (bytes : List ℕ) (old : Store) (before : Told) (new : Store)
    (after : Told) : Type 0 where
  pub tables : Tables
  pub frames : Frames
  pub frame : PageFrame
  pub mid : Told
  pub brings : BringsPageOf n old before tables frames frame mid
  pub room : overfills_at (peaks_in old.transactions.sessions) n bytes frame.values ≡ false
  pub leads : LeadsTo {T = Unit {0}} {E = ChipFault} (λ state. after_write state s (n, Some bytes))
      (memory_of tables frames old.transactions.sessions) mid (Ok tt) (memory_of_store new) after

-- what a put did that wasn't refused early; of one that failed its calls say all
abbrev pub PutsBy : ℕ → ℕ → List ℕ → Store → Told → Result Bool StoreFault → Store → Told → Type 0
PutsBy s n bytes old before (Ok true) new after = WritesInRoom s n bytes old before new after
PutsBy s n bytes old before (Ok false) new after = FindsFull n bytes old before new after
PutsBy s n bytes old before (Err fault) new after = Unit {0}
