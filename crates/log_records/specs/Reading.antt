-- How log records are read from bytes, one by one.
use Rattle.std.specs.Prelude.{ℕ, zero, suc, ◌+◌, ◌==◌, ◌&&◌, ◌||◌, Bool, if◌then◌else◌, List, [], ◌∷◌, take, drop, length, slice_index, nat_le, nat_lt, Option, Some, None}
use Rattle.std.specs.Option.{option_map_or}
use Rattle.ipl_base.specs.declared.limits.TheConstants.{PAGES, RECORD_HEAD, SLOTS}
use Rattle.ipl_format.specs.Numbers.{long_at}
use Rattle.ipl_format.specs.Version.{most_len}
use Rattle.ipl_format.specs.Record.{Record, Change, kind_in, slot_in, size_in}

-- the kind, and the length that a record of it may have: 1 is a put, 2 a delete
abbrev pub is_change : ℕ → ℕ → ℕ → Bool
is_change version kind len = (kind == 1 && nat_le len (most_len version)) || (kind == 2 && len == 0)

-- the bytes begin with a record
abbrev pub has_record : ℕ → List ℕ → Bool
has_record version bytes =
    nat_le RECORD_HEAD (length bytes) && (nat_lt (slice_index bytes 0) PAGES
    && (nat_lt (slot_in version bytes) SLOTS
    && (is_change version (kind_in version bytes) (size_in version bytes)
    && nat_le (RECORD_HEAD + size_in version bytes) (length bytes))))

-- what that record does
abbrev pub change_at : ℕ → List ℕ → Change
change_at version bytes =
    if kind_in version bytes == 1 then Some (take (size_in version bytes) (drop RECORD_HEAD bytes))
    else None

-- that record
abbrev pub first_record : ℕ → List ℕ → Record
first_record version bytes = record {
  page = slice_index bytes 0;
  slot = slot_in version bytes;
  tid = long_at 4 bytes;
  change = change_at version bytes;
}

-- it, and the bytes after it
unfoldable pub record_at : ℕ → List ℕ → Option (Record × List ℕ)
record_at version bytes =
    if has_record version bytes
    then Some (first_record version bytes, drop (RECORD_HEAD + size_in version bytes) bytes)
    else None

-- the records that the bytes begin with, at most n of them
unfoldable pub records_within : ℕ → ℕ → List ℕ → List Record
records_within version zero bytes = []
records_within version (suc n) bytes =
    option_map_or (λ p. p.0 ∷ records_within version n p.1) (record_at version bytes) []

-- the records that the bytes begin with
unfoldable pub records_of : ℕ → List ℕ → List Record
records_of version bytes = records_within version (length bytes) bytes
