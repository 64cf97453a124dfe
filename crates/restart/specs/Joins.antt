-- The committed numbers of records join those that are kept.
use Rattle.std.specs.Prelude.{ℕ, ◌≡◌, List, length, map}
use Rattle.std.specs.List.{filter}
use Rattle.ipl_format.specs.Record.{Record}
use Rattle.number_set.specs.Flags.{Flags, flagged}
use Rattle.number_set.specs.Numbers.{with_numbers, among}
use Rattle.txn_status.specs.Status.{keeps_of}

-- the number of a record
abbrev pub number_of : Record → ℕ
number_of r = r.tid

-- the numbers of the records that are among these
abbrev pub committed_in : List ℕ → List Record → List ℕ
committed_in numbers records = filter (among numbers) (map number_of records)

-- those that are kept, and these
abbrev pub joined : List ℕ → List Record → List ℕ → List ℕ
joined numbers records kept = with_numbers (committed_in numbers records) kept

-- the numbers that are kept, how many flags were made for them, and how many may be kept
pub record Kept : Type 0 where
  pub list : List ℕ
  pub count : ℕ
  pub limit : ℕ

-- those of these numbers that have a flag, where the flags are made for as many numbers as have room
abbrev pub kept_of : List ℕ → Flags → Kept
kept_of numbers flags = record { list = flagged flags numbers; count = flags.count; limit = keeps_of flags.room }

-- each flag stands beside a number
abbrev pub IsExact : Kept → Type 0
IsExact kept = kept.count ≡ length kept.list
