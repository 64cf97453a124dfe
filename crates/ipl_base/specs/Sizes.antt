-- How many bytes values take in the text of a page (docs/FORMAT.md, "Page text").
use Rattle.std.specs.Prelude.{ℕ, ◌+◌, List, length, sum_by, Option, Some, None}
use Rattle.std.specs.List.{range_with_len}
use Rattle.ipl_base.specs.declared.limits.TheConstants.{SLOTS}

-- a slot that holds a value takes three bytes and the value's; an empty one takes none
abbrev pub size_in_page : Option (List ℕ) → ℕ
size_in_page None = 0
size_in_page (Some value) = 3 + length value

-- what the values of the 64 slots take
unfoldable pub size_of_values : (ℕ → Option (List ℕ)) → ℕ
size_of_values values = sum_by (λ slot. size_in_page (values slot)) (range_with_len 0 SLOTS)
