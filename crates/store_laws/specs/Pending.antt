-- What open sessions wrote and haven't committed: log records on the chip, and behind them those in memory.
use Rattle.std.specs.Prelude.{ℕ, ◌≡◌, ◌≢◌, ◌<◌, ◌≤◌, ◌+◌, ◌*◌, ◌==◌, ◌&&◌, not, Bool, false, List, ◌++◌, filter, Option, Some, None, is_some, All, Contains, if◌then◌else◌}
use Rattle.std.specs.Option.{option_map}
use Rattle.ipl_base.specs.declared.limits.TheConstants.{PAGES, SLOTS, UNIT_NAMES, VERSION}
use Rattle.ipl_model.specs.State.{State, is_open_session, writes_of, last_write}
use Rattle.ipl_format.specs.Record.{Record, Change, IsRecord}
use Rattle.ipl_meaning.specs.Values.{counts_for}
use Rattle.ipl_meaning.specs.Layout.{Layout, records_of}
use Rattle.ipl_meaning.specs.Last.{last_that, is_number, NoneIsBehind}

-- ---- what is in memory

-- the records of each page that aren't on the chip yet, by unit and page
abbrev pub Logs : Type 0
Logs = ℕ → ℕ → List Record

-- the transaction number of each session that is open
abbrev pub SessionNumbers : Type 0
SessionNumbers = ℕ → Option ℕ

-- the page has these records in memory now
abbrev pub with_records : Logs → ℕ → ℕ → List Record → Logs
with_records logs u page records v q = if (v == u) && (q == page) then records else logs v q

-- the record isn't of this number
abbrev pub is_other : ℕ → Record → Bool
is_other tid r = not (r.tid == tid)

-- the records of this number are dropped
abbrev pub without_number : Logs → ℕ → Logs
without_number logs tid u page = filter (is_other tid) (logs u page)

-- the session has this number now, or none
abbrev pub with_number : SessionNumbers → ℕ → Option ℕ → SessionNumbers
with_number numbers s o t = if t == s then o else numbers t

-- ---- what a session wrote

-- the name of a slot
abbrev pub name_at : ℕ → ℕ → ℕ → ℕ
name_at u page slot = UNIT_NAMES * u + SLOTS * page + slot

-- the session wrote the name
abbrev pub wrote : State → ℕ → ℕ → Bool
wrote state s n = is_some (last_write (writes_of state s) n)

-- the records that a page is read through: those of the unit's live sectors, and then those in memory
abbrev pub records_at : Layout → Logs → ℕ → ℕ → List Record
records_at it logs u page = records_of (it.units u).log ++ logs u page

-- the change of a record
abbrev pub change_in : Option Record → Option Change
change_in o = option_map (λ r. r.change) o

-- the last change of a slot by a transaction
abbrev pub last_change : ℕ → List Record → ℕ → ℕ → Option Change
last_change tid records page slot =
    change_in (last_that (counts_for (is_number tid) page slot) records None)

-- a record in memory is in form, of its own page, and of a session that is open
pub record IsPending (numbers : SessionNumbers) (page : ℕ) (r : Record) : Type 0 where
  pub page_is : r.page ≡ page
  pub valid : IsRecord VERSION r
  pub session : ℕ
  pub open_as : numbers session ≡ Some r.tid

-- so is each
abbrev pub ArePending : SessionNumbers → Logs → Type 0
ArePending numbers logs = (u page : ℕ) → All (IsPending numbers page) (logs u page)

-- The records say what the open sessions of the state wrote. Each of these has a number of its own, which is not
-- committed; each of its records, on the chip and in memory, is one of its writes; of those on a name the last one is
-- its last write there, and it has none where it wrote nothing. Behind none of them stands a committed record on the
-- same name. What is in memory is of open sessions and of its own page.
pub record HasPending (units : ℕ) (it : Layout) (logs : Logs) (numbers : SessionNumbers) (state : State) : Type 0 where
  pub opens : (s : ℕ) → is_some (numbers s) ≡ is_open_session state s
  pub apart : (s t tid : ℕ) → numbers s ≡ Some tid → numbers t ≡ Some tid → s ≡ t
  pub waits : (s tid : ℕ) → numbers s ≡ Some tid → it.committed tid ≡ false
  pub among : (s u page : ℕ) (r : Record) → numbers s ≡ Some r.tid → u < units → Contains (records_at it logs u page) r
      → Contains (writes_of state s) (name_at u r.page r.slot, r.change)
  pub last : (s tid u page slot : ℕ) → numbers s ≡ Some tid → u < units → page < PAGES
      → slot < SLOTS
      → last_change tid (records_at it logs u page) page slot ≡ last_write (writes_of state s) (name_at u page slot)
  pub nowhere_else : (s n : ℕ) → UNIT_NAMES * units ≤ n → last_write (writes_of state s) n ≡ None
  pub none_behind : (s tid u : ℕ) → numbers s ≡ Some tid → u < units
      → NoneIsBehind it.committed tid (records_of (it.units u).log)
  pub valid : (u : ℕ) → u < units → All (IsRecord VERSION) (records_of (it.units u).log)
  pub in_memory : ArePending numbers logs

-- the record has another number
abbrev pub HasOtherNumber : ℕ → Record → Type 0
HasOtherNumber tid r = r.tid ≢ tid

-- no record has this number
abbrev pub HasNoRecords : ℕ → Layout → Logs → ℕ → Type 0
HasNoRecords units it logs tid = (u page : ℕ) → u < units → All (HasOtherNumber tid) (records_at it logs u page)

-- no record in memory has this number
abbrev pub IsWrittenOut : Logs → ℕ → Type 0
IsWrittenOut logs tid = (u page : ℕ) → All (HasOtherNumber tid) (logs u page)
