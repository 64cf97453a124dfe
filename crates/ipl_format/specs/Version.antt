-- The versions of the format (docs/FORMAT.md, "Versions"). A payload is read by the version of its
-- own sector.
use Rattle.std.specs.Prelude.{ℕ, ◌≤◌, ◌==◌, List, [], ◌∷◌, slice_index, if◌then◌else◌}
use Rattle.ipl_base.specs.declared.limits.TheConstants.{SHORT_LEN, VALUE_LEN, VERSION}
use Rattle.ipl_format.specs.Numbers.{half, half_at}

-- the versions that there are
abbrev pub IsVersion : ℕ → Type 0
IsVersion version = (1 ≤ version) × (version ≤ VERSION)

-- the bytes of a value, at most
abbrev pub most_len : ℕ → ℕ
most_len version = if version == 1 then SHORT_LEN else VALUE_LEN

-- a length: one byte in version 1, two from then on
abbrev pub len_bytes : ℕ → ℕ → List ℕ
len_bytes version len = if version == 1 then len ∷ [] else half len

-- how many bytes a length takes
abbrev pub len_size : ℕ → ℕ
len_size version = if version == 1 then 1 else 2

-- the length that the bytes begin with
abbrev pub len_in : ℕ → List ℕ → ℕ
len_in version bytes = if version == 1 then slice_index bytes 0 else half_at 0 bytes
