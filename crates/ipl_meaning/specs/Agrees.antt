-- A chip with which the tables agree.
use Rattle.std.specs.Prelude.{ℕ}
use Rattle.chip_trait.specs.Told.{History}
use Rattle.ipl_meaning.specs.Layout.{Layout}
use Rattle.ipl_meaning.specs.Rests.{now, IsUntouched}
use Rattle.ipl_meaning.specs.Tables.{Tables, IsCountedClean}
use Rattle.ipl_meaning.specs.Mirrors.{Mirrors}

-- Each sector that is counted as clean is blank, nothing was done to it since the last barrier, and its place isn't worn. That it
-- was never programmed since the last erase is told apart: of a sector that a mark says to be clean no story need tell it.
abbrev pub IsTidy : History → Tables → Type 0
IsTidy h t = (p s : ℕ) → IsCountedClean t p s → IsUntouched h p s

-- the tables mirror what the chip holds, and count as clean what is
pub record Agrees (places : ℕ) (h : History) (it : Layout) (t : Tables) : Type 0 where
  pub mirrors : Mirrors places (now h) it t
  pub tidy : IsTidy h t
