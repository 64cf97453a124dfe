-- The records of a log, by number.
use Rattle.std.proofs.Common.{◌≡◌, ◌<◌, ◌+◌, ℕ, List, ◌∷◌, length, drop, None, refl, add-one, drop-cons}
use Rattle.ipl_format.specs.Record.{Record}
use Rattle.selective_merge.specs.Logs.{nth_record}

-- the i-th record stands before those behind it
pub nth_first : (log : List Record) (i : ℕ) → i < length log
    → drop i log ≡ nth_record log i ∷ drop (i + 1) log
nth_first log i low = rw (
  add-one,
  drop-cons log i (record { page = 0; slot = 0; tid = 0; change = None }) low,
) refl
