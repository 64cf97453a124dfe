-- The close marks of a status place, as they are read.
use Rattle.std.specs.Prelude.{ℕ, max, nat_lt, Bool, true, Option, Some, None}
use Rattle.ipl_format.specs.Sector.{Sector}
use Rattle.ipl_meaning.specs.Chart.{Chart}
use Rattle.ipl_meaning.specs.Live.{sectors, kept, is_commit_sector, is_close_mark}
use Rattle.ipl_meaning.specs.Marked.{later_close_mark, best_close_mark, serial_of, commit_serial, is_no_older}
use Rattle.txn_status.specs.ReadingIn.{under}

-- the close mark with the greatest serial, the first on a tie, and the greatest serial of a commit
-- sector, 0 for none
pub record MarksRead : Type 0 where
  pub best : Option Sector
  pub commits : ℕ

-- no sector was read yet
abbrev pub none_read : MarksRead
none_read = record { best = None; commits = 0 }

-- with what is noted at one sector more: a commit sector, a close mark or nothing
abbrev pub with_noted : Option Sector → MarksRead → MarksRead
with_noted noted it = record {
  best = later_close_mark it.best (kept is_close_mark noted);
  commits = max it.commits (serial_of (kept is_commit_sector noted));
}

-- those of the place that have this generation, below this number
abbrev pub marks_below : Chart → ℕ → ℕ → ℕ → MarksRead
marks_below c place generation n = record {
  best = best_close_mark c (under place generation) n;
  commits = commit_serial c (under place generation) n;
}

-- all of them
abbrev pub marks_in : Chart → ℕ → ℕ → MarksRead
marks_in c place generation = marks_below c place generation sectors

-- the close mark that counts: the best one, where no commit sector has a greater serial
abbrev pub counting : MarksRead → Option Sector
counting it = kept (is_no_older it.commits) it.best

-- a mark of this serial comes behind the best one before
abbrev pub is_later : Option Sector → ℕ → Bool
is_later None serial = true
is_later (Some best) serial = nat_lt best.serial serial
