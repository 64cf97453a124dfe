-- The last record that counts, what a merge carries, and how records are packed into sectors.
use Rattle.std.specs.Prelude.{ℕ, ◌+◌, ◌*◌, List, [], ◌∷◌, ◌++◌, length, sum_by, Option, Some, None, Bool, false, ◌≡◌, ◌==◌, ◌&&◌, not, if◌then◌else◌, nat_le}
use Rattle.std.specs.List.{list_any}
use Rattle.ipl_base.specs.declared.limits.TheConstants.{PAYLOAD_LEN, SHORT_LEN, LONG_WEIGHT, SLOTS}
use Rattle.ipl_format.specs.Record.{Record, value_of}
use Rattle.ipl_meaning.specs.Values.{counts_for}
use Rattle.ipl_meaning.specs.Layout.{Entry, records_of}

-- the last record that passes the test, or the one from before
abbrev pub last_that : (Record → Bool) → List Record → Option Record → Option Record
last_that test [] before = before
last_that test (r ∷ records) before = last_that test records (if test r then Some r else before)

-- how many bytes a record takes
abbrev pub size_of : Record → ℕ
size_of r = 12 + length (value_of r.change)

-- and several
abbrev pub size_of_all : List Record → ℕ
size_of_all records = sum_by size_of records

-- a record of a long value weighs 8, each other one 1
abbrev pub weight_of : Record → ℕ
weight_of r = if nat_le (length (value_of r.change)) SHORT_LEN then 1 else LONG_WEIGHT

-- the record fits behind those of the sector
abbrev pub has_room : List Record → Record → Bool
has_room full r = nat_le (size_of_all full + size_of r) PAYLOAD_LEN

-- the records after those of the open sector: each joins the sector where it fits, else it begins the next
abbrev pub pack_after : List Record → List Record → List (List Record)
pack_after full [] = full ∷ []
pack_after full (r ∷ records) =
    if has_room full r then pack_after (full ++ r ∷ []) records else full ∷ pack_after (r ∷ []) records

-- each sector takes records in order while they fit
abbrev pub pack : List Record → List (List Record)
pack [] = []
pack (r ∷ records) = pack_after (r ∷ []) records

-- what a merge carries: per name the last record of an active number, in order
abbrev pub carried : (ℕ → Bool) → List Record → List Record
carried active [] = []
carried active (r ∷ records) =
    if active r.tid && not (list_any (counts_for active r.page r.slot) records) then r ∷ carried active records
    else carried active records

-- the number of a record's name among those of its unit
abbrev pub name_in_unit : Record → ℕ
name_in_unit r = SLOTS * r.page + r.slot

-- how many log sectors a merge of a unit with this log writes
abbrev pub carried_count : (ℕ → Bool) → List Entry → ℕ
carried_count active log = length (pack (carried active (records_of log)))

-- the change of a record, or what was before
abbrev pub applied : Option Record → Option (List ℕ) → Option (List ℕ)
applied (Some r) before = r.change
applied None before = before

-- it is this number
abbrev pub is_number : ℕ → ℕ → Bool
is_number tid n = n == tid

-- no committed record on a name comes after one on it with this number
abbrev pub NoneIsBehind : (ℕ → Bool) → ℕ → List Record → Type 0
NoneIsBehind committed tid [] = Unit {0}
NoneIsBehind committed tid (r ∷ records) =
    (r.tid ≡ tid → list_any (counts_for committed r.page r.slot) records ≡ false) × NoneIsBehind committed tid records
