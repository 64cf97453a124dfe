-- The sectors that are found to count are those that count.
use Rattle.std.specs.Prelude.{ℕ, ◌≡◌, ◌⊎◌, ◌<◌, ◌/◌, ◌%◌, Option, Some}
use Rattle.ipl_base.specs.declared.limits.TheConstants.{SECTORS}
use Rattle.ipl_format.specs.Sector.{Sector}
use Rattle.ipl_meaning.specs.Chart.{Chart, IsLive}
use Rattle.ipl_meaning.specs.Layout.{IsCommitSector, IsMark}
use Rattle.ipl_meaning.specs.Chosen.{Winner, current_at}
use Rattle.ipl_meaning.specs.Live.{sectors, kept, is_commit_sector, commit_at, noted_at, live_in}

-- a place has 256 sectors
abbrev pub SectorsAre256 : Type 0
SectorsAre256 = sectors ≡ 256

-- what is found is a commit sector of the status place, and of its header's generation
abbrev pub FoundCommitsCount : Type 0
FoundCommitsCount =
    (c : Chart) (status : Winner) (s : ℕ) (sector : Sector) → s < SECTORS → commit_at c (Some status) s ≡ Some sector
    → IsCommitSector c status.place status.head.generation s sector

-- each of these is found
abbrev pub CommitsAreFound : Type 0
CommitsAreFound =
    (c : Chart) (status : Winner) (s : ℕ) (sector : Sector)
    → IsCommitSector c status.place status.head.generation s sector → commit_at c (Some status) s ≡ Some sector

-- it is a commit sector or a close mark of the status place, and of its header's generation
abbrev pub IsStatusNote : Chart → Winner → ℕ → Sector → Type 0
IsStatusNote c status s sector =
    IsCommitSector c status.place status.head.generation s sector ⊎ IsMark c status.place status.head.generation s sector

-- what is noted is one
abbrev pub FoundNotesCount : Type 0
FoundNotesCount =
    (c : Chart) (status : Winner) (s : ℕ) (sector : Sector) → s < SECTORS → noted_at c (Some status) s ≡ Some sector
    → IsStatusNote c status s sector

-- each is noted
abbrev pub NotesAreFound : Type 0
NotesAreFound =
    (c : Chart) (status : Winner) (s : ℕ) (sector : Sector) → IsStatusNote c status s sector → noted_at c (Some status) s ≡ Some sector

-- of those that are noted, the commit sectors are those that count
abbrev pub NotedCommitsCount : Type 0
NotedCommitsCount = (c : Chart) (status : Option Winner) (s : ℕ) → kept is_commit_sector (noted_at c status s) ≡ commit_at c status s

-- the log sector is live for its unit
pub record IsLiveAt (c : Chart) (places p s : ℕ) (sector : Sector) : Type 0 where
  pub winner : Winner
  pub current : current_at c places sector.unit ≡ Some winner
  pub live : IsLive c places sector.unit winner.place winner.head.generation p s sector

-- what is found is live
abbrev pub FoundLogsAreLive : Type 0
FoundLogsAreLive =
    (c : Chart) (places k : ℕ) (sector : Sector) → live_in c places k ≡ Some sector
    → IsLiveAt c places (k / SECTORS) (k % SECTORS) sector

-- what is live is found
abbrev pub LiveLogsAreFound : Type 0
LiveLogsAreFound =
    (c : Chart) (places k u : ℕ) (winner : Winner) (sector : Sector) → current_at c places u ≡ Some winner
    → IsLive c places u winner.place winner.head.generation (k / SECTORS) (k % SECTORS) sector
    → live_in c places k ≡ Some sector
