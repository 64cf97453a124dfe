-- What log records make of the values of a page.
use Rattle.std.specs.Prelude.{ℕ, List, [], ◌∷◌, Option, ◌==◌, ◌&&◌, Bool, if◌then◌else◌}
use Rattle.ipl_format.specs.Record.{Record}

-- a value for each slot of a page, or none
abbrev pub Values : Type 0
Values = ℕ → Option (List ℕ)

-- the record is on this slot, and of a number in the set
abbrev pub counts_for : (ℕ → Bool) → ℕ → ℕ → Record → Bool
counts_for committed page slot r = (r.page == page) && ((r.slot == slot) && committed r.tid)

-- the slot's value after the records of committed numbers, in order
abbrev pub after_records : (ℕ → Bool) → ℕ → ℕ → List Record → Option (List ℕ) → Option (List ℕ)
after_records committed page slot [] value = value
after_records committed page slot (r ∷ records) value =
    after_records committed page slot records (if counts_for committed page slot r then r.change else value)
