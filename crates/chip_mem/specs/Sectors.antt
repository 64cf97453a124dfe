-- The sectors of a chip, one after another, as contents.
use Rattle.std.specs.Prelude.{◌≡◌, ℕ, Bool, false, List, ◌+◌, ◌*◌, length, nat_lt, slice_index_or, if◌then◌else◌}
use Rattle.ipl_base.specs.declared.limits.TheConstants.{SECTORS}
use Rattle.chip_trait.specs.Story.{Contents, blank}

-- sector s of place p is at 256 p + s, and numbers that name no sector are blank
abbrev pub contents_of : List (List ℕ) → Contents
contents_of sectors = λ p s. if nat_lt s SECTORS then slice_index_or sectors (p * SECTORS + s) blank else blank

-- the sector of this number, where it was written since its place was erased; else it is blank
abbrev pub written_at : List Bool → List (List ℕ) → ℕ → List ℕ
written_at written sectors n = if slice_index_or written n false then slice_index_or sectors n blank else blank

-- the same, of sectors of which only those that were written count
abbrev pub written_contents : List Bool → List (List ℕ) → Contents
written_contents written sectors = λ p s. if nat_lt s SECTORS then written_at written sectors (p * SECTORS + s) else blank

-- an erased chip
abbrev pub erased : Contents
erased = λ p s. blank

-- each sector has 512 bytes
abbrev pub HasWholeSectors : Contents → Type 0
HasWholeSectors x = (p s : ℕ) → length (x p s) ≡ 512
