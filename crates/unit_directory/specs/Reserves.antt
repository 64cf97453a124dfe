-- What a directory has left: how evenly its places are worn, and how many log sectors are clean.
use Rattle.std.specs.Prelude.{ℕ, zero, suc, ◌-◌, ◌^◌, ◌==◌, Bool, if◌then◌else◌, length, slice_index, min}
use Rattle.std.specs.List.{list_any}
use Rattle.ipl_base.specs.declared.limits.TheConstants.{LOG_SECTORS}
use Rattle.ipl_meaning.specs.First.{greatest_below}
use Rattle.ipl_meaning.specs.Tables.{Places, counted_written}

-- the least of f 0, f 1, .. below n, and at most this
abbrev pub least_below : ℕ → (ℕ → ℕ) → ℕ → ℕ
least_below most f zero = most
least_below most f (suc n) = min (least_below most f n) (f n)

-- the place is retired
abbrev pub is_retired : Places → ℕ → Bool
is_retired it p = list_any (λ q. q == p) it.retired

-- how often a place was erased; one that is retired counts as this
abbrev pub erases_or : ℕ → Places → ℕ → ℕ
erases_or other it p = if is_retired it p then other else slice_index it.erases p

-- how often that place was that was erased least often, of those that aren't retired
abbrev pub least_erases : Places → ℕ
least_erases it = least_below (2 ^ 32 - 1) (erases_or (2 ^ 32 - 1) it) (length it.in_use)

-- and that which was most often
abbrev pub most_erases : Places → ℕ
most_erases it = greatest_below 0 (erases_or 0 it) (length it.in_use)

-- how many log sectors of the unit's place count as clean
abbrev pub clean_logs : Places → ℕ → ℕ
clean_logs it u = LOG_SECTORS - counted_written (slice_index it.written u)

-- and of that unit of which fewest do
abbrev pub least_clean_logs : Places → ℕ
least_clean_logs it = least_below LOG_SECTORS (clean_logs it) (length it.current)
