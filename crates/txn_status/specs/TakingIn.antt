-- What is taken in of a status place: numbers, marks, and the greatest number found.
use Rattle.std.specs.Prelude.{ℕ, ◌≡◌, ◌<◌, ◌+◌, List, length, Option}
use Rattle.ipl_base.specs.declared.limits.TheConstants.{COMMIT_NUMBERS}
use Rattle.ipl_format.specs.Sector.{Sector}
use Rattle.ipl_meaning.specs.Chart.{Chart}
use Rattle.ipl_meaning.specs.Live.{sectors, kept, is_commit_sector}
use Rattle.ipl_meaning.specs.LaidOut.{numbers_of}
use Rattle.ipl_meaning.specs.Faults.{noted_number, greatest_of_notes}
use Rattle.number_set.specs.Numbers.{Numbers, with_numbers}
use Rattle.txn_status.specs.ReadingIn.{under, numbers_at}
use Rattle.txn_status.specs.Marks.{MarksRead, with_noted, marks_in}

-- what is noted at a sector came to the numbers and to the marks that were read before; and this is
-- its greatest number
pub record TakesIn (noted : Option Sector) (n : ℕ) (old new : List ℕ) (before after : MarksRead)
    : Type 0 where
  pub numbers : new ≡ with_numbers (numbers_of (kept is_commit_sector noted)) old
  pub marks : after ≡ with_noted noted before
  pub number : n ≡ noted_number noted

-- the numbers that are noted have no room among those that were read before, which are within 60 of it
pub record HasNoRoom (noted : Option Sector) (old : Numbers) : Type 0 where
  pub many : old.most < length (with_numbers (numbers_of (kept is_commit_sector noted)) old.list)
  pub near : old.most < length old.list + COMMIT_NUMBERS

-- the numbers and the marks are those of the sectors of this generation at a place, and this is the
-- greatest number found there
pub record TakesInPlace (c : Chart) (place generation n : ℕ) (new : List ℕ) (after : MarksRead)
    : Type 0 where
  pub numbers : new ≡ numbers_at c (under place generation)
  pub marks : after ≡ marks_in c place generation
  pub number : n ≡ greatest_of_notes 0 c (under place generation) sectors
