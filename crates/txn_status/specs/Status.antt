-- What the calls on the status make of it, and what always holds of it.
use Rattle.std.specs.Prelude.{ℕ, ◌≡◌, ◌≤◌, ◌+◌, ◌-◌, ◌*◌, ◌/◌, min, nat_lt, cond, List, [], length, Result, OnOk, OnErr}
use Rattle.ipl_base.specs.declared.limits.TheConstants.{SECTORS, COMMIT_NUMBERS, KEPT_NUMBERS, LEAST_NUMBERS, STATUS_NUMBERS}
use Rattle.ipl_meaning.specs.Tables.{StatusTable}
use Rattle.number_set.specs.Numbers.{with_numbers, AreRising}

-- the status of these
abbrev pub status_table : ℕ → ℕ → List ℕ → ℕ → ℕ → StatusTable
status_table place generation numbers most first =
    record { place = place; generation = generation; numbers = numbers; most = most; first = first }

-- no number is committed, there is room for so many, and no sector of place 0 is known clean
abbrev pub empty_status : ℕ → StatusTable
empty_status most = record { place = 0; generation = 0; numbers = []; most = most; first = SECTORS }

-- How many more commit sectors the status place takes: so many of its sectors are known clean. It counts as full
-- where the numbers of one more might have no room in memory.
abbrev pub room_of : StatusTable → ℕ
room_of it = cond (nat_lt it.most (length it.numbers + COMMIT_NUMBERS)) 0 (SECTORS - it.first)

-- a commit sector of these numbers was written
abbrev pub after_add : StatusTable → List ℕ → StatusTable
after_add it numbers =
    record it { numbers = with_numbers numbers it.numbers; first = it.first + 1 }

-- a mark was written
abbrev pub after_mark : StatusTable → StatusTable
after_mark it = record it { first = it.first + 1 }

-- done, the status is this one, and else it is as it was; and one number was drawn
pub record AdvancesTo {T E : Type 0} (after : StatusTable) (result : Result T E) (old new : StatusTable)
    (next then : ℕ) : Type 0 where
  pub done : OnOk result (new ≡ after)
  pub same : OnErr result (new ≡ old)
  pub drawn : then ≡ next + 1

-- how many numbers a new status place is given at most, where there is room for so many: those of one commit
-- more have room besides
abbrev pub keeps_of : ℕ → ℕ
keeps_of most = min KEPT_NUMBERS (most - COMMIT_NUMBERS)

-- the numbers fit a new status place, where there is room for so many: they rise, and are no more than it is given
pub record FitStatusPlace (most : ℕ) (kept : List ℕ) : Type 0 where
  pub rising : AreRising kept
  pub few : length kept ≤ keeps_of most

-- how many commit sectors these numbers fill
abbrev pub parts_of : List ℕ → ℕ
parts_of numbers = (length numbers + (COMMIT_NUMBERS - 1)) / COMMIT_NUMBERS

-- the status stands at a new place, with exactly these numbers, and room for so many
abbrev pub switched_to : ℕ → ℕ → ℕ → List ℕ → StatusTable
switched_to most place generation kept =
    record { place = place; generation = generation; numbers = kept; most = most; first = 1 + parts_of kept }

-- Done, the status stands at the new place, and a number was drawn for each commit sector; else it is as
-- it was. At most 64 numbers were drawn.
pub record SwitchesTo {T E : Type 0} (place generation : ℕ) (kept : List ℕ) (result : Result T E)
    (old new : StatusTable) (next then : ℕ) : Type 0 where
  pub switched : OnOk result (new ≡ switched_to old.most place generation kept)
  pub same : OnErr result (new ≡ old)
  pub drawn : OnOk result (then ≡ next + parts_of kept)
  pub draws : (next ≤ then) × (then ≤ next + 64)

-- What always holds: the numbers rise, and are at most 60 for each sector of the place that is not
-- known clean, but for its header; the first clean one is one of 1 to 255, or there is none; and the numbers
-- have room, which is for those of two commit sectors at the least, and for all of a place at most.
pub record IsSoundStatus (it : StatusTable) : Type 0 where
  pub rising : AreRising it.numbers
  pub least : 1 ≤ it.first
  pub most : it.first ≤ SECTORS
  pub few : length it.numbers + COMMIT_NUMBERS ≤ COMMIT_NUMBERS * it.first
  pub within : length it.numbers ≤ it.most
  pub roomy : LEAST_NUMBERS ≤ it.most
  pub bounded : it.most ≤ STATUS_NUMBERS
