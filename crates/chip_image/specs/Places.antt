-- Where sectors lie in the file of a chip.
use Rattle.std.specs.Prelude.{ℕ, ◌+◌, ◌*◌}

-- the bytes of a sector begin here: the sectors of a place follow each other, and so do the places
abbrev pub sector_start : ℕ → ℕ → ℕ
sector_start place sector = (place * 256 + sector) * 512

-- a chip of so many places has so many bytes
abbrev pub chip_length : ℕ → ℕ
chip_length places = places * 131072
