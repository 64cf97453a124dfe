-- Records in memory that fit in one log sector, and what is left of them without one transaction's.
use Rattle.std.specs.Prelude.{ℕ, ◌≤◌, ◌==◌, not, Bool, List, filter, All}
use Rattle.ipl_base.specs.declared.limits.TheConstants.{PAYLOAD_LEN, VERSION}
use Rattle.ipl_format.specs.Record.{Record, IsRecord}
use Rattle.ipl_meaning.specs.Last.{size_of_all}

-- the record isn't of this number
abbrev pub is_other : ℕ → Record → Bool
is_other tid r = not (r.tid == tid)

-- the records of other numbers, in order
abbrev pub without_tid : ℕ → List Record → List Record
without_tid tid records = filter (is_other tid) records

-- what always holds: each record has a spelling in the version that is written, and together they
-- fit in a log sector
pub record IsMemLog (records : List Record) : Type 0 where
  pub valid : All (IsRecord VERSION) records
  pub fits : size_of_all records ≤ PAYLOAD_LEN
