-- What commands leave that a store does in memory alone.
use Rattle.std.specs.Prelude.{ℕ, ◌≡◌, ◌<◌, ◌≤◌, ◌+◌, List, [], length, Some, None, Ok}
use Rattle.ipl_base.specs.declared.limits.TheConstants.{VERSION}
use Rattle.chip_trait.specs.Told.{Told}
use Rattle.ipl_base.specs.declared.fault.ChipFault.{ChipFault}
use Rattle.ipl_model.specs.Operations as rules
use Rattle.ipl_format.specs.Record.{Record, IsRecord}
use Rattle.record_locks.specs.Held.{SessionSlots, peaks_in, number_of, numbers_in, written_of, written_by, after_begin, after_share, after_end}
use Rattle.record_locks.specs.Held.{after_batch as slots_after}
use Rattle.ipl_meaning.specs.Tables.{Tables}
use Rattle.record_locks.specs.Locks.{refuses_end}
use Rattle.store_laws.specs.Pending.{name_at}
use Rattle.store_laws.specs.Frames.{PageFrame, Frames, with_frame_at, IsWrittenFrame, IsAbortedFrame}
use Rattle.store_laws.specs.Fits.{LocksHold}
use Rattle.store_laws.specs.Room.{PageHasRoomFor}
use Rattle.store_laws.specs.StepLaws.{after_record}
use Rattle.store_laws.specs.Advances.{Memory, memory_of, LeadsTo}
use Rattle.store_laws.specs.NamedFrames.{NamedFramesChange}
use Rattle.store_laws.specs.Refusals.{AreOpenSessions}

-- the tables have the numbers of these sessions
abbrev pub with_numbers_of : Tables → SessionSlots → Tables
with_numbers_of t slots = record t { active = numbers_in slots }

-- a session is opened, under a number that the counter gave
abbrev pub BeginsLead : Type 0
BeginsLead = (s tid : ℕ) (before : Memory) (old : Told) → s < length before.slots
    → number_of before.slots s ≡ None → before.tables.next ≤ tid
    → LocksHold (after_begin before.slots s tid)
    → LeadsTo {T = Unit {0}} {E = ChipFault} (λ state. rules.after_begin state s) before old (Ok tt)
    (memory_of (with_numbers_of (record before.tables { next = tid + 1 })
    (after_begin before.slots s tid)) before.frames (after_begin before.slots s tid)) old

-- a session shares a name
abbrev pub SharesLead : Type 0
SharesLead = (s n : ℕ) (before : Memory) (old : Told) → s < length before.slots
    → LocksHold (after_share before.slots s n)
    → LeadsTo {T = Unit {0}} {E = ChipFault} (λ state. rules.after_share state s n) before old
    (Ok tt) (memory_of before.tables before.frames (after_share before.slots s n)) old

-- a session puts or deletes a name: the record stands behind those of its page, which has room for it
abbrev pub WritesLead : Type 0
WritesLead = (s u : ℕ) (r : Record) (f g : PageFrame) (before : Memory) (old : Told)
    → s < length before.slots → number_of before.slots s ≡ Some r.tid
    → u < length before.tables.places.current
    → IsRecord VERSION r → before.frames u r.page ≡ Some f → IsWrittenFrame r f g
    → PageHasRoomFor (peaks_in before.slots) u r f.values
    → LocksHold (after_record before.slots s u r)
    → LeadsTo {T = Unit {0}} {E = ChipFault}
    (λ state. rules.after_write state s (name_at u r.page r.slot, r.change)) before old (Ok tt)
    (memory_of before.tables (with_frame_at before.frames u r.page (Some g))
    (after_record before.slots s u r)) old

-- a session is aborted: its changes are dropped from the frames of its names
abbrev pub AbortsLead : Type 0
AbortsLead = (s tid : ℕ) (before : Memory) (later : Frames) (old : Told) → s < length before.slots
    → number_of before.slots s ≡ Some tid
    → NamedFramesChange (IsAbortedFrame tid) (written_of before.slots s) before.frames later
    → LocksHold (after_end before.slots s)
    → LeadsTo {T = Unit {0}} {E = ChipFault} (λ state. rules.after_abort state s) before old (Ok tt)
    (memory_of (with_numbers_of before.tables (after_end before.slots s)) later
    (after_end before.slots s)) old

-- sessions that wrote nothing are committed without the chip
abbrev pub EmptyCommitsLead : Type 0
EmptyCommitsLead = (ss : List ℕ) (before : Memory) (old : Told) → AreOpenSessions before.slots ss
    → written_by before.slots ss ≡ [] → LocksHold (slots_after before.slots ss)
    → LeadsTo {T = Unit {0}} {E = ChipFault} (λ state. rules.after_batch state ss) before old
    (Ok tt) (memory_of (with_numbers_of before.tables (slots_after before.slots ss)) before.frames
    (slots_after before.slots ss)) old

-- a session that has a number is open, and may be closed
abbrev pub OpenSessionsMayEnd : Type 0
OpenSessionsMayEnd = (slots : SessionSlots) (s tid : ℕ) → number_of slots s ≡ Some tid
    → refuses_end slots s ≡ None
