-- What the pieces of a text bring into the sums of the sectors that hold them.
use Rattle.std.specs.Prelude.{ℕ, ◌≡◌, ◌<◌, ◌*◌, List, length, Option, None, IfSome, slice_index, slice_index_or}
use Rattle.crc_sum.specs.Crc.{tail_sum}
use Rattle.ipl_base.specs.declared.limits.TheConstants.{PAYLOAD_LEN}
use Rattle.ipl_format.specs.Sector.{filled}
use Rattle.ipl_format.specs.Page.{piece_of}

-- for each piece that the text has, what it brings into a sum as the payload of a sector
abbrev pub AreTails : List ℕ → List ℕ → Type 0
AreTails text tails = (i : ℕ) → PAYLOAD_LEN * i < length text
    → slice_index tails i ≡ tail_sum (filled (piece_of text i))

-- the same for some of the pieces: a tail that is there is that of its piece
abbrev pub FitTails : List ℕ → List (Option ℕ) → Type 0
FitTails text tails = (i : ℕ) → PAYLOAD_LEN * i < length text
    → IfSome (slice_index_or tails i None) (λ tail. tail ≡ tail_sum (filled (piece_of text i)))
