-- The records of a log, by where they stand in the log sectors that were read.
use Rattle.std.specs.Prelude.{ℕ, zero, suc, ◌≡◌, ◌≤◌, ◌<◌, ◌+◌, true, List, [], ◌∷◌, ◌++◌, length, map, drop, slice_index_or, None, if◌then◌else◌}
use Rattle.std.specs.List.{All}
use Rattle.ipl_base.specs.declared.limits.TheConstants.{LIVE_RECORDS, RECORD_HEAD, VERSION}
use Rattle.ipl_format.specs.Record.{Record, IsRecord, size_in}
use Rattle.log_records.specs.Reading.{first_record, has_record}
use Rattle.unit_log.specs.declared.scratch.LogSector.{LogSector}
use Rattle.selective_merge.specs.declared.record_offset.RecordOffset.{RecordOffset}

-- the i-th record of a log that has more
abbrev pub nth_record : List Record → ℕ → Record
nth_record log i = slice_index_or log i (record { page = 0; slot = 0; tid = 0; change = None })

-- the k-th of the log sectors
abbrev pub sector_at : List LogSector → ℕ → LogSector
sector_at sectors k =
    slice_index_or sectors k (record { serial = 0; payload = record { version = 0; bytes = [] } })

-- the bytes that begin with the record at an offset
abbrev pub bytes_at : List LogSector → RecordOffset → List ℕ
bytes_at sectors p = drop p.at (sector_at sectors p.sector).payload.bytes

-- that record
abbrev pub located : List LogSector → RecordOffset → Record
located sectors p = first_record (sector_at sectors p.sector).payload.version (bytes_at sectors p)

-- a record stands there
pub record IsOffset (sectors : List LogSector) (p : RecordOffset) : Type 0 where
  pub sector : p.sector < length sectors
  pub at : p.at ≤ length (sector_at sectors p.sector).payload.bytes
  pub begins : has_record (sector_at sectors p.sector).payload.version (bytes_at sectors p) ≡ true

-- the offsets of records, at most 1240, each of which is one that may be written
pub record AreOffsets (sectors : List LogSector) (offsets : List RecordOffset) : Type 0 where
  pub each : All (IsOffset sectors) offsets
  pub valid : All (IsRecord VERSION) (map (located sectors) offsets)
  pub few : length offsets ≤ LIVE_RECORDS

-- the offsets of the records of a sector from a byte on, at most n
abbrev pub offsets_within : ℕ → ℕ → ℕ → ℕ → List ℕ → List RecordOffset
offsets_within zero version k at bytes = []
offsets_within (suc n) version k at bytes =
    if has_record version (drop at bytes)
    then record { sector = k; at = at }
    ∷ offsets_within n version k (at + (RECORD_HEAD + size_in version (drop at bytes))) bytes
    else []

-- of all of them
abbrev pub offsets_in : ℕ → ℕ → List ℕ → List RecordOffset
offsets_in version k bytes = offsets_within (length bytes) version k 0 bytes

-- of several sectors, the first of which is the k-th
abbrev pub offsets_of : ℕ → List LogSector → List RecordOffset
offsets_of k [] = []
offsets_of k (x ∷ sectors) =
    offsets_in x.payload.version k x.payload.bytes ++ offsets_of (k + 1) sectors
