-- Which committed numbers live records have, unit by unit.
use Rattle.std.specs.Prelude.{ℕ, ◌≡◌, ◌⊎◌, ◌↔◌, ◌<◌, ◌+◌, Bool, IsTrue, List, [], Contains}
use Rattle.ipl_format.specs.Record.{Record}
use Rattle.ipl_meaning.specs.Layout.{Entry, Layout, records_of}
use Rattle.ipl_meaning.specs.Steps.{AllWait, KeepsNumbers}
use Rattle.number_set.specs.Numbers.{among}
use Rattle.restart.specs.Joins.{joined}

-- a record of the log has this number
abbrev pub IsLogged : List Entry → ℕ → Type 0
IsLogged log tid = (r : Record) × Contains (records_of log) r × (r.tid ≡ tid)

-- a live record of one of the first n units has it
abbrev pub IsLoggedBelow : ℕ → Layout → ℕ → Type 0
IsLoggedBelow n it tid = (u : ℕ) × (u < n) × IsLogged (it.units u).log tid

-- of the numbers in live records of these units, these are exactly the committed ones
abbrev pub KeepsOf : (ℕ → Type 0) → Layout → List ℕ → Type 0
KeepsOf Of it kept = (tid : ℕ) → Contains kept tid
    ↔ (IsTrue (it.committed tid) × ((u : ℕ) × Of u × IsLogged (it.units u).log tid))

-- of the numbers in live records of the first n units, these are exactly the committed ones
abbrev pub KeepsBelow : ℕ → Layout → List ℕ → Type 0
KeepsBelow n it kept =
    (tid : ℕ) → Contains kept tid ↔ (IsTrue (it.committed tid) × IsLoggedBelow n it tid)

-- the one list has the numbers of the other, and the committed ones of this log
abbrev pub JoinsLog : (ℕ → Bool) → List Entry → List ℕ → List ℕ → Type 0
JoinsLog committed log old new = (tid : ℕ)
    → Contains new tid ↔ (Contains old tid ⊎ (IsTrue (committed tid) × IsLogged log tid))

-- the first n units are the same, and so are the committed numbers
pub record SameBelow (n : ℕ) (it now : Layout) : Type 0 where
  pub committed : now.committed ≡ it.committed
  pub units : (u : ℕ) → u < n → now.units u ≡ it.units u

-- ---- laws

-- at first none are kept
abbrev pub NoneAreKept : Type 0
NoneAreKept = (it : Layout) → KeepsBelow 0 it []

-- a unit's numbers join them
abbrev pub UnitsJoin : Type 0
UnitsJoin = (n : ℕ) (it : Layout) (kept new : List ℕ)
    → KeepsBelow n it kept → JoinsLog it.committed (it.units n).log kept new
    → KeepsBelow (n + 1) it new

-- where the numbers in memory are the committed ones, so do those of its records in memory
abbrev pub JoinedNumbersJoin : Type 0
JoinedNumbersJoin = (committed : ℕ → Bool) (numbers : List ℕ) (log : List Entry) (kept : List ℕ)
    → ((tid : ℕ) → IsTrue (committed tid) ↔ Contains numbers tid)
    → JoinsLog committed log kept (joined numbers (records_of log) kept)

-- a unit that was merged adds nothing, since none of its records is of a committed number then; the
-- units before it are as they were
abbrev pub MergedUnitsAddNothing : Type 0
MergedUnitsAddNothing = (n : ℕ) (it now : Layout) (kept : List ℕ)
    → KeepsBelow n it kept → SameBelow n it now
    → AllWait now.committed (records_of (now.units n).log) → KeepsBelow (n + 1) now kept

-- with all units passed, each number in a live record is kept exactly where it is committed
abbrev pub KeptNumbersKeep : Type 0
KeptNumbersKeep = (it : Layout) (kept : List ℕ)
    → KeepsBelow it.count it kept → KeepsNumbers it (among kept)

-- and the numbers that are kept are those committed ones that a live record has
abbrev pub KeptNumbersAreExact : Type 0
KeptNumbersAreExact = (it : Layout) (kept : List ℕ)
    → KeepsBelow it.count it kept
    → (tid : ℕ) → IsTrue (among kept tid)
    ↔ (IsTrue (it.committed tid) × IsLoggedBelow it.count it tid)
