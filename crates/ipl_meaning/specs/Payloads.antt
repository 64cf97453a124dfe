-- Tests of payloads, and what they hold, by computing.
use Rattle.std.specs.Prelude.{ℕ, zero, suc, ◌+◌, ◌/◌, ◌%◌, ◌==◌, ◌&&◌, ◌||◌, nat_le, Bool, false, if◌then◌else◌, List, [], ◌∷◌, take, drop, length, slice_index, map, Option, Some, None}
use Rattle.std.specs.List.{list_all}
use Rattle.std.specs.Option.{option_map_or}
use Rattle.ipl_base.specs.declared.limits.TheConstants.{PAGES, PAGE_SECTORS, CARRIED_SECTORS, COMMIT_NUMBERS}
use Rattle.ipl_format.specs.Numbers.{word_at, long_at}
use Rattle.ipl_format.specs.Record.{Record}
use Rattle.ipl_format.specs.Laws.{erases_size}
use Rattle.unit_layout.specs.Retired.{retired_in, is_status_length, may_be_retired}
use Rattle.log_records.specs.Reading.{record_at, records_of}

-- ---- headers

-- the number of units that a payload says, which it begins with where it has room for one
abbrev pub units_said_in : List ℕ → Option ℕ
units_said_in payload = if nat_le 4 (length payload) then Some (word_at 0 payload) else None

-- how many base sectors each page has
abbrev pub pieces_in : List ℕ → List ℕ
pieces_in payload = take PAGES (drop 4 payload)

-- a page has at most 16
abbrev pub is_count : ℕ → Bool
is_count pieces = nat_le pieces PAGE_SECTORS

-- a data header's payload: a number of units, a count for each of 15 pages, at most 12 carried log sectors, and from
-- version 3 on how often its place was erased
abbrev pub is_data_payload : ℕ → List ℕ → Bool
is_data_payload version payload =
    (length payload == 20 + erases_size version)
    && (list_all is_count (pieces_in payload) && nat_le (slice_index payload 19) CARRIED_SECTORS)

-- a status header's payload, on a chip of so many places: a number of units, and from version 3 on how often its place
-- was erased and which places are retired, no more than there are to spare beside so many units
abbrev pub is_status_payload : ℕ → ℕ → List ℕ → Bool
is_status_payload version places payload =
    is_status_length version payload && may_be_retired places (word_at 0 payload) (retired_in version payload)

-- ---- commit sectors

-- the first n numbers of eight bytes
abbrev pub numbers_within : ℕ → List ℕ → List ℕ
numbers_within zero bytes = []
numbers_within (suc n) bytes = long_at 0 bytes ∷ numbers_within n (drop 8 bytes)

-- the numbers of a commit sector's payload
abbrev pub numbers_in : List ℕ → List ℕ
numbers_in payload = numbers_within (length payload / 8) payload

-- a commit sector's payload: 1 to 60 numbers of eight bytes, nothing left over
abbrev pub is_commit_payload : List ℕ → Bool
is_commit_payload payload =
    (length payload % 8 == 0) && (nat_le 1 (length payload / 8) && nat_le (length payload / 8) COMMIT_NUMBERS)

-- ---- log sectors

-- the bytes are a list of at most n records in this version, nothing left over
abbrev pub is_list_within : ℕ → ℕ → List ℕ → Bool
is_list_within version zero bytes = length bytes == 0
is_list_within version (suc n) bytes =
    (length bytes == 0)
    || option_map_or (λ p. is_list_within version n p.1) (record_at version bytes) false

-- a log sector's payload: a list of records, by the version of the sector
unfoldable pub is_log_payload : ℕ → List ℕ → Bool
is_log_payload version payload = is_list_within version (length payload) payload

-- ---- the numbers that they hold, where they are in their grammar

-- of transactions that are committed
abbrev pub numbers_told : List ℕ → List ℕ
numbers_told payload = if is_commit_payload payload then numbers_in payload else []

-- of a record's transaction
abbrev pub tid_of : Record → ℕ
tid_of r = r.tid

-- of transactions that have records
abbrev pub tids_told : ℕ → List ℕ → List ℕ
tids_told version payload =
    if is_log_payload version payload then map tid_of (records_of version payload) else []
