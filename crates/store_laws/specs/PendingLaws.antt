-- What each step makes of the records of open sessions.
use Rattle.std.specs.Prelude.{ℕ, ◌≡◌, ◌≢◌, ◌↔◌, ◌⊎◌, ◌<◌, ◌≤◌, ◌∷◌, ◌++◌, Bool, true, false, IsTrue, List, [], Some, None, All, Contains, if◌then◌else◌}
use Rattle.std.specs.List.{list_any}
use Rattle.ipl_base.specs.declared.limits.TheConstants.{PAGES, SLOTS, VERSION}
use Rattle.ipl_model.specs.Peaks.{weight_of_peak, peaks}
use Rattle.ipl_model.specs.State.{State}
use Rattle.ipl_model.specs.Operations.{after_begin, after_share, after_write, after_commit, after_batch, after_abort, after_restart}
use Rattle.ipl_format.specs.Record.{Record, IsRecord}
use Rattle.ipl_meaning.specs.Chart.{Chart}
use Rattle.ipl_meaning.specs.Legible.{Legibility, of}
use Rattle.ipl_meaning.specs.Layout.{Entry, Shape, Layout, records_of}
use Rattle.ipl_meaning.specs.Last.{carried, weight_of, is_number}
use Rattle.ipl_meaning.specs.Stands.{Says}
use Rattle.ipl_meaning.specs.Steps.{with_unit, with_log, with_committed}
use Rattle.store_laws.specs.Pending.{Logs, SessionNumbers, with_records, without_number, with_number, name_at, wrote, records_at, ArePending, HasPending, HasNoRecords, IsWrittenOut}
use Rattle.store_laws.specs.Room.{PagesHaveRoom}

-- ---- sessions of a state

-- no name is written by two sessions
abbrev pub StateHasOneWriter : State → Type 0
StateHasOneWriter state = (s t n : ℕ) → wrote state s n ≡ true → wrote state t n ≡ true → s ≡ t

-- the test passes exactly the numbers of open sessions
abbrev pub AreActive : SessionNumbers → (ℕ → Bool) → Type 0
AreActive numbers active = (tid : ℕ) → IsTrue (active tid) ↔ ((s : ℕ) × (numbers s ≡ Some tid))

-- the number joins the committed ones
abbrev pub NumberJoins : (ℕ → Bool) → ℕ → (ℕ → Bool) → Type 0
NumberJoins committed tid after = (n : ℕ) → after n ≡ (if is_number tid n then true else committed n)

-- the log has the same records, or those that a merge carries
abbrev pub IsSameOrMerged : (ℕ → Bool) → Shape → Shape → Type 0
IsSameOrMerged active old new =
    (records_of new.log ≡ records_of old.log) ⊎ (records_of new.log ≡ carried active (records_of old.log))

-- ---- what is in memory, whatever a chip tells

-- the records in memory are of open sessions and of their own pages after each step
pub record StayPending (numbers : SessionNumbers) (logs : Logs) : Type 0 where
  pub begins : (s tid : ℕ) → numbers s ≡ None → ArePending (with_number numbers s (Some tid)) logs
  pub writes : (s u : ℕ) (r : Record) → numbers s ≡ Some r.tid → IsRecord VERSION r
      → ArePending numbers (with_records logs u r.page (logs u r.page ++ r ∷ []))
  pub log_sectors : (u page : ℕ) → ArePending numbers (with_records logs u page [])
  pub commits : (s tid : ℕ) → numbers s ≡ Some tid → IsWrittenOut logs tid
      → ArePending (with_number numbers s None) logs
  pub aborts : (s tid : ℕ) → numbers s ≡ Some tid
      → ArePending (with_number numbers s None) (without_number logs tid)

abbrev pub RecordsStayPending : Type 0
RecordsStayPending = (numbers : SessionNumbers) (logs : Logs) → ArePending numbers logs → StayPending numbers logs

-- ---- the steps

-- a session is opened, under a number that no record has
abbrev pub BeginsKeepPending : Type 0
BeginsKeepPending =
    (units : ℕ) (it : Layout) (logs : Logs) (numbers : SessionNumbers) (state : State) (s tid : ℕ)
    → HasPending units it logs numbers state → numbers s ≡ None → ((t : ℕ) → numbers t ≢ Some tid)
    → it.committed tid ≡ false → HasNoRecords units it logs tid
    → HasPending units it logs (with_number numbers s (Some tid)) (after_begin state s)

-- a session shares a name
abbrev pub SharesKeepPending : Type 0
SharesKeepPending =
    (units : ℕ) (it : Layout) (logs : Logs) (numbers : SessionNumbers) (state : State) (s n : ℕ)
    → HasPending units it logs numbers state → HasPending units it logs numbers (after_share state s n)

-- a session writes a name: a record is put behind those of its page in memory
abbrev pub WritesKeepPending : Type 0
WritesKeepPending =
    (units : ℕ) (it : Layout) (logs : Logs) (numbers : SessionNumbers) (state : State) (s u : ℕ) (r : Record)
    → HasPending units it logs numbers state → numbers s ≡ Some r.tid → u < units → IsRecord VERSION r
    → HasPending units it (with_records logs u r.page (logs u r.page ++ r ∷ [])) numbers
    (after_write state s (name_at u r.page r.slot, r.change))

-- the records of a page in memory are written to a log sector
abbrev pub LogSectorsKeepPending : Type 0
LogSectorsKeepPending =
    (units : ℕ) (it : Layout) (logs : Logs) (numbers : SessionNumbers) (state : State) (u page : ℕ) (e : Entry)
    → HasPending units it logs numbers state → e.records ≡ logs u page
    → HasPending units (with_log it u e) (with_records logs u page []) numbers state

-- a unit is merged: of each name the last record of an open session is carried, all others are dropped
abbrev pub MergesKeepPending : Type 0
MergesKeepPending =
    (units : ℕ) (it : Layout) (logs : Logs) (numbers : SessionNumbers) (state : State) (active : ℕ → Bool) (u : ℕ)
    (fresh : Shape)
    → HasPending units it logs numbers state → StateHasOneWriter state → AreActive numbers active
    → records_of fresh.log ≡ carried active (records_of (it.units u).log)
    → HasPending units (with_unit it u fresh) logs numbers state

-- any step that changes no unit's records, and of their numbers keeps the committed ones: the status moves, an overflow
-- place is opened, or a place changes that is no one's
abbrev pub SameLogsKeepPending : Type 0
SameLogsKeepPending =
    (units : ℕ) (it new : Layout) (logs : Logs) (numbers : SessionNumbers) (state : State)
    → HasPending units it logs numbers state
    → ((u : ℕ) → u < units → records_of (new.units u).log ≡ records_of (it.units u).log)
    → ((u : ℕ) → u < units → All (λ r. new.committed r.tid ≡ it.committed r.tid) (records_of (it.units u).log))
    → ((s tid : ℕ) → numbers s ≡ Some tid → new.committed tid ≡ false)
    → HasPending units new logs numbers state

-- units are merged one after another, and the status moves, which keeps the committed numbers of the records left
abbrev pub RenewalsKeepPending : Type 0
RenewalsKeepPending =
    (units : ℕ) (it new : Layout) (logs : Logs) (numbers : SessionNumbers) (state : State) (active : ℕ → Bool)
    → HasPending units it logs numbers state → StateHasOneWriter state → AreActive numbers active
    → ((u : ℕ) → u < units → IsSameOrMerged active (it.units u) (new.units u))
    → ((u : ℕ) → u < units → All (λ r. new.committed r.tid ≡ it.committed r.tid) (records_of (new.units u).log))
    → ((s tid : ℕ) → numbers s ≡ Some tid → new.committed tid ≡ false)
    → HasPending units new logs numbers state

-- a session is committed, all its records being on the chip: the others' records wait on
abbrev pub CommitsKeepPending : Type 0
CommitsKeepPending =
    (units : ℕ) (it : Layout) (logs : Logs) (numbers : SessionNumbers) (state : State) (s tid : ℕ) (after : ℕ → Bool)
    → HasPending units it logs numbers state → StateHasOneWriter state → numbers s ≡ Some tid → IsWrittenOut logs tid
    → NumberJoins it.committed tid after
    → HasPending units (with_committed it after) logs (with_number numbers s None) (after_commit state s)

-- and with its number the pages say what its writes make of the map, for which they have room
abbrev pub CommitsSayWrites : Type 0
CommitsSayWrites =
    (places : ℕ) (pages : Legibility) (c : Chart) (it : Layout) (logs : Logs) (numbers : SessionNumbers) (state : State) (s tid : ℕ)
    (after : ℕ → Bool)
    → HasPending it.count it logs numbers state → PagesHaveRoom it.count c it state
    → numbers s ≡ Some tid → IsWrittenOut logs tid
    → NumberJoins it.committed tid after → Says places c it (of pages state.map)
    → Says places c (with_committed it after) (of pages (after_commit state s).map)

-- ---- several sessions are committed together

-- these sessions have no number any more
abbrev pub without_sessions : SessionNumbers → List ℕ → SessionNumbers
without_sessions numbers [] = numbers
without_sessions numbers (s ∷ ss) = without_sessions (with_number numbers s None) ss

-- the numbers join the committed ones
abbrev pub NumbersJoin : (ℕ → Bool) → List ℕ → (ℕ → Bool) → Type 0
NumbersJoin committed tids after =
    (n : ℕ) → after n ≡ (if list_any (λ tid. is_number tid n) tids then true else committed n)

-- the number of a session joins them, or it wrote nothing, and they stay
abbrev pub JoinsIfWritten : State → ℕ → ℕ → (ℕ → Bool) → (ℕ → Bool) → Type 0
JoinsIfWritten state s tid committed after =
    NumberJoins committed tid after ⊎ (((n : ℕ) → wrote state s n ≡ false) × (after ≡ committed))

-- so do the numbers of these sessions, one session after the other, all their records being on the chip
abbrev pub JoinInTurn : SessionNumbers → Logs → State → List ℕ → (ℕ → Bool) → (ℕ → Bool) → Type 0
JoinInTurn numbers logs state [] committed after = after ≡ committed
JoinInTurn numbers logs state (s ∷ ss) committed after = (tid : ℕ) × (between : ℕ → Bool) × (numbers s ≡ Some tid)
    × IsWrittenOut logs tid × JoinsIfWritten state s tid committed between
    × JoinInTurn (with_number numbers s None) logs (after_commit state s) ss between after

-- then the records of the other sessions wait on
abbrev pub BatchesKeepPending : Type 0
BatchesKeepPending =
    (units : ℕ) (it : Layout) (logs : Logs) (numbers : SessionNumbers) (state : State) (ss : List ℕ) (after : ℕ → Bool)
    → HasPending units it logs numbers state → StateHasOneWriter state
    → JoinInTurn numbers logs state ss it.committed after
    → HasPending units (with_committed it after) logs (without_sessions numbers ss) (after_batch state ss)

-- and the pages say what the writes, one session after the other, make of the map
abbrev pub BatchesSayWrites : Type 0
BatchesSayWrites =
    (places : ℕ) (pages : Legibility) (c : Chart) (it : Layout) (logs : Logs) (numbers : SessionNumbers) (state : State) (ss : List ℕ)
    (after : ℕ → Bool)
    → HasPending it.count it logs numbers state → PagesHaveRoom it.count c it state
    → StateHasOneWriter state → JoinInTurn numbers logs state ss it.committed after → Says places c it (of pages state.map)
    → Says places c (with_committed it after) (of pages (after_batch state ss).map)

-- ---- an abort, and a restart

-- a session is aborted: its records in memory are dropped, those on the chip never count
abbrev pub AbortsKeepPending : Type 0
AbortsKeepPending =
    (units : ℕ) (it : Layout) (logs : Logs) (numbers : SessionNumbers) (state : State) (s tid : ℕ)
    → HasPending units it logs numbers state → numbers s ≡ Some tid
    → HasPending units it (without_number logs tid) (with_number numbers s None) (after_abort state s)

-- after a restart nothing is pending, whatever records are on the chip
abbrev pub RestartsLeaveNone : Type 0
RestartsLeaveNone =
    (units : ℕ) (it : Layout) (state : State) → ((u : ℕ) → u < units → All (IsRecord VERSION) (records_of (it.units u).log))
    → HasPending units it (λ u page. []) (λ s. None) (after_restart state)

-- ---- what follows

-- a session with a record on a name wrote it
abbrev pub RecordsAreWrites : Type 0
RecordsAreWrites =
    (units : ℕ) (it : Layout) (logs : Logs) (numbers : SessionNumbers) (state : State) (s u page : ℕ) (r : Record)
    → HasPending units it logs numbers state → numbers s ≡ Some r.tid → u < units → r.page ≡ page → IsRecord VERSION r
    → Contains (records_at it logs u page) r → wrote state s (name_at u page r.slot) ≡ true

-- where the pages that a session changed have nothing in memory, no record of it is in memory
abbrev pub ChangedPagesSuffice : Type 0
ChangedPagesSuffice =
    (units : ℕ) (it : Layout) (logs : Logs) (numbers : SessionNumbers) (state : State) (s tid : ℕ)
    → HasPending units it logs numbers state → numbers s ≡ Some tid
    → ((u page slot : ℕ) → u < units → wrote state s (name_at u page slot) ≡ true → page < PAGES → slot < SLOTS
    → logs u page ≡ [])
    → ((u page : ℕ) → units ≤ u → logs u page ≡ [])
    → IsWrittenOut logs tid

-- a record of an open session, on the chip or in memory, weighs at most what its name does by the peak in the state
abbrev pub RecordsWeighNoMore : Type 0
RecordsWeighNoMore =
    (units : ℕ) (it : Layout) (logs : Logs) (numbers : SessionNumbers) (state : State) (active : ℕ → Bool) (u page : ℕ)
    (r : Record)
    → HasPending units it logs numbers state → AreActive numbers active → u < units
    → Contains (records_at it logs u page) r → IsTrue (active r.tid)
    → weight_of r ≤ weight_of_peak (peaks state (name_at u r.page r.slot))
