-- What the tables hold.
use Rattle.std.specs.Prelude.{ℕ, zero, suc}
use Rattle.crc_sum.specs.Crc.{shifted_8}

-- the register shifted by so many bytes
unfoldable pub shifted_bytes : ℕ → ℕ → ℕ
shifted_bytes zero r = r
shifted_bytes (suc k) r = shifted_bytes k (shifted_8 r)
