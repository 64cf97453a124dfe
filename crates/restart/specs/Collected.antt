-- The committed numbers that live log records have, as far as they are found.
use Rattle.std.specs.Prelude.{ℕ, zero, suc, ◌≡◌, ◌<◌, ◌≤◌, Bool, List, [], length, Option, Some, None}
use Rattle.std.specs.Bool.{OnTrue, OnFalse}
use Rattle.ipl_format.specs.Record.{Record}
use Rattle.ipl_format.specs.Sector.{Sector}
use Rattle.log_records.specs.Reading.{records_of}
use Rattle.ipl_meaning.specs.Chart.{Chart}
use Rattle.number_set.specs.Numbers.{AreRising}
use Rattle.restart.specs.Joins.{Kept, joined, IsExact}
use Rattle.restart.specs.Keeps.{KeepsBelow}
use Rattle.ipl_meaning.specs.Chosen.{KeptHeader, Winner}
use Rattle.ipl_meaning.specs.LaidOut.{layout_in}
use Rattle.ipl_meaning.specs.Live.{live_at}

-- the records of a log sector, where there is one
abbrev pub records_at : Option Sector → List Record
records_at None = []
records_at (Some sector) = records_of sector.version sector.payload

-- of the records of the live log sectors below the number k, by these headers, the numbers that are among these, in rising
-- order
unfoldable pub numbers_below : List ℕ → (ℕ → Option KeptHeader) → (ℕ → Option Winner) → Chart → ℕ → List ℕ
numbers_below committed heads current c zero = []
numbers_below committed heads current c (suc k) =
    joined committed (records_at (live_at heads current c k)) (numbers_below committed heads current c k)

-- the numbers that were found are those that are kept, at most as many as may be, a flag for each; or they don't fit, and
-- are more
pub record AreKept (found : List ℕ) (fits : Bool) (numbers : Kept) : Type 0 where
  pub all : OnTrue fits (numbers.list ≡ found)
  pub exact : OnTrue fits (IsExact numbers)
  pub few : OnTrue fits (length found ≤ numbers.limit)
  pub more : OnFalse fits (numbers.limit < length found)

-- the committed numbers that a live log record of the chart has, in rising order: they are kept, or they don't fit
pub record AreCollected (places : ℕ) (c : Chart) (fits : Bool) (numbers : Kept) : Type 0 where
  pub found : List ℕ
  pub rising : AreRising found
  pub exact : KeepsBelow (layout_in c places).count (layout_in c places) found
  pub kept : AreKept found fits numbers
