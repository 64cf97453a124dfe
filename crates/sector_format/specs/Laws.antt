-- A law of reading sectors.
use Rattle.std.specs.Prelude.{◌≡◌, List, ℕ, take, drop, length, Some}
use Rattle.ipl_format.specs.Sector.{sector_in}
use Rattle.sector_format.specs.declared.sector.Head.{Head}
use Rattle.sector_format.specs.declared.sector.Decoded.{Decoded}
use Rattle.sector_format.specs.declared.sector.Decoded.TheVariants.{Sector}
use Rattle.sector_format.specs.Decode.{IsDecoded, sector_of, sector_read}

-- bytes that say the sector of a head and a payload, as what was written does, are read as these
abbrev pub ReadsBack : Type 0
ReadsBack = (bytes : List ℕ) (head : Head) (payload : List ℕ) (answer : Decoded) → length bytes ≡ 512
    → sector_in bytes ≡ Some (sector_of head payload) → sector_in bytes ≡ sector_read bytes answer → IsDecoded bytes answer
    → (answer ≡ Sector head (length payload)) × (take (length payload) (drop 32 bytes) ≡ payload)
