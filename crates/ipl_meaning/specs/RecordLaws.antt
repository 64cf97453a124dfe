-- Laws of lists of records.
use Rattle.std.specs.Prelude.{ℕ, ◌≡◌, ◌≤◌, ◌<◌, Bool, true, List, All, Contains, IsTrue, length, Option, None, if◌then◌else◌}
use Rattle.std.specs.List.{flat_map, sum_by, range_with_len}
use Rattle.ipl_base.specs.declared.limits.TheConstants.{PAYLOAD_LEN, CARRIED_SECTORS, PAGE_LEN, PENDING_WEIGHT, SLOTS, UNIT_NAMES, VERSION}
use Rattle.ipl_base.specs.Sizes.{size_of_values}
use Rattle.ipl_format.specs.Record.{Record, IsRecord}
use Rattle.ipl_format.specs.Page.{Slots, IsShort, page_text, value_in}
use Rattle.ipl_meaning.specs.Values.{Values, counts_for, after_records}
use Rattle.ipl_meaning.specs.Layout.{Entry, records_of}
use Rattle.ipl_meaning.specs.Last.{last_that, size_of_all, weight_of, pack, carried, name_in_unit, carried_count, applied, is_number, NoneIsBehind}

-- the last record that counts gives the value, or else the base does
abbrev pub TheLastGivesTheValue : Type 0
TheLastGivesTheValue =
    (committed : ℕ → Bool) (page slot : ℕ) (records : List Record) (base : Option (List ℕ))
    → after_records committed page slot records base
    ≡ applied (last_that (counts_for committed page slot) records None) base

-- of each name, the last record of an active number is carried
abbrev pub MergesCarryTheLast : Type 0
MergesCarryTheLast =
    (active : ℕ → Bool) (page slot : ℕ) (records : List Record) (before : Option Record)
    → last_that (counts_for active page slot) (carried active records) before
    ≡ last_that (counts_for active page slot) records before

-- committing a number puts its last record on a name in place of the name's value
abbrev pub CommitsApplyTheLast : Type 0
CommitsApplyTheLast =
    (committed after : ℕ → Bool) (tid : ℕ) (records : List Record)
    → ((n : ℕ) → after n ≡ (if is_number tid n then true else committed n)) → NoneIsBehind committed tid records
    → (page slot : ℕ) (base : Option (List ℕ))
    → after_records after page slot records base
    ≡ applied (last_that (counts_for (is_number tid) page slot) records None)
    (after_records committed page slot records base)

-- packed, they are the same records in the same order
abbrev pub PacksAreTheList : Type 0
PacksAreTheList = (records : List Record) → flat_map (λ sector. sector) (pack records) ≡ records

-- the records of a sector have room there
abbrev pub FitsSector : List Record → Type 0
FitsSector sector = size_of_all sector ≤ PAYLOAD_LEN

-- each sector of a pack is within its 480 bytes
abbrev pub PacksFit : Type 0
PacksFit = (records : List Record) → All (IsRecord VERSION) records → All FitsSector (pack records)

-- where the weights of a unit's 960 names sum to at most 48, and each record of an active number weighs at most what its
-- name does, a merge carries at most 12 sectors
abbrev pub FewAreCarried : Type 0
FewAreCarried =
    (active : ℕ → Bool) (log : List Entry) (weights : ℕ → ℕ) → All (IsRecord VERSION) (records_of log)
    → sum_by weights (range_with_len 0 UNIT_NAMES) ≤ PENDING_WEIGHT
    → ((r : Record) → Contains (records_of log) r → IsTrue (active r.tid) → weight_of r ≤ weights (name_in_unit r))
    → carried_count active log ≤ CARRIED_SECTORS

-- the text of a page has as many bytes as its values take
abbrev pub TextsHaveSizes : Type 0
TextsHaveSizes = (page : Slots) → length page ≡ SLOTS
    → length (page_text VERSION page) ≡ size_of_values (value_in page)

-- 64 values of at most 108 bytes always have room
abbrev pub ShortValuesHaveRoom : Type 0
ShortValuesHaveRoom = (values : Values) → ((slot : ℕ) → slot < SLOTS → IsShort 1 (values slot))
    → size_of_values values ≤ PAGE_LEN
