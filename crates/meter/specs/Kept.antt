-- How a reading is kept.
use Rattle.std.specs.Prelude.{ℕ, ◌==◌, List, length, drop, Option, Some, None, if◌then◌else◌}
use Rattle.byteorder.specs.Endian.{big_number}
use Rattle.meter.specs.declared.reading.Reading.{Reading}

-- the reading that eight bytes keep: the day, then the watt-hours, each in four, the highest first
abbrev pub reading_in : List ℕ → Option Reading
reading_in bytes = if length bytes == 8
    then Some (record { day = big_number 4 bytes; watt_hours = big_number 4 (drop 4 bytes) })
    else None
