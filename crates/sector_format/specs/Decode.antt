-- What the bytes of a sector are read as.
use Rattle.std.specs.Prelude.{◌≡◌, ◌≢◌, ◌≤◌, ◌<◌, ◌^◌, List, [], ◌∷◌, ◌++◌, ℕ, take, drop, slice_index, Option, Some, None}
use Rattle.byteorder.specs.Endian.{big_bytes}
use Rattle.chip_trait.specs.Story.{blank}
use Rattle.ipl_base.specs.declared.limits.TheConstants.{PAYLOAD_LEN}
use Rattle.ipl_format.specs.Numbers.{word_at, long_at}
use Rattle.ipl_format.specs.Sector.{Sector as SaidSector, stored_sum, computed_sum}
use Rattle.sector_format.specs.declared.sector.Head.{Head}
use Rattle.sector_format.specs.declared.sector.Decoded.{Decoded}
use Rattle.sector_format.specs.declared.sector.Decoded.TheVariants.{Erased, Bad, Strange, Sector}

-- the sector of a head and a payload
abbrev pub sector_of : Head → List ℕ → SaidSector
sector_of head payload = record {
  kind = head.kind;
  version = head.version;
  unit = head.unit;
  generation = head.generation;
  serial = head.serial;
  payload = payload;
}

-- the numbers of a head have a place in a sector
pub record HasRange (head : Head) : Type 0 where
  pub unit : head.unit < 2 ^ 32
  pub generation : head.generation < 2 ^ 64
  pub serial : head.serial < 2 ^ 64

-- the first 28 bytes of a head whose payload uses so many bytes
unfoldable pub head_bytes : Head → ℕ → List ℕ
head_bytes head used =
    (73 ∷ 80 ∷ 76 ∷ 49 ∷ head.kind ∷ head.version ∷ []) ++ big_bytes 2 used ++ big_bytes 4 head.unit
    ++ big_bytes 8 head.generation ++ big_bytes 8 head.serial

-- the head that stands in the bytes
abbrev pub head_in : List ℕ → Head
head_in bytes =
    record {
      kind = slice_index bytes 4;
      version = slice_index bytes 5;
      unit = word_at 8 bytes;
      generation = long_at 12 bytes;
      serial = long_at 20 bytes;
    }

-- the sector that an answer names: its payload begins at byte 32
abbrev pub sector_read : List ℕ → Decoded → Option SaidSector
sector_read bytes Erased = None
sector_read bytes (Bad stored computed) = None
sector_read bytes Strange = None
sector_read bytes (Sector head used) = Some (sector_of head (take used (drop 32 bytes)))

-- when each answer comes, beside that it names what the bytes say: erased bytes first, then the sums, then the rest
abbrev pub IsDecoded : List ℕ → Decoded → Type 0
IsDecoded bytes Erased = bytes ≡ blank
IsDecoded bytes (Bad stored computed) = (bytes ≢ blank) × (stored ≡ stored_sum bytes) × (computed ≡ computed_sum bytes) × (stored ≢ computed)
IsDecoded bytes Strange = (bytes ≢ blank) × (stored_sum bytes ≡ computed_sum bytes)
IsDecoded bytes (Sector head used) = used ≤ PAYLOAD_LEN
