-- What a chart stands for after each step.
use Rattle.std.specs.Prelude.{ℕ, Bool, List}
use Rattle.chip_trait.specs.Chart.{with_sector}
use Rattle.ipl_meaning.specs.Legible.{Legible}
use Rattle.ipl_format.specs.Sector.{Sector}
use Rattle.ipl_format.specs.Record.{Record}
use Rattle.ipl_meaning.specs.Chart.{Chart}
use Rattle.ipl_meaning.specs.Layout.{Shape, Layout, Laid}
use Rattle.ipl_meaning.specs.Stands.{Says, StandsBeside}
use Rattle.ipl_meaning.specs.Steps.{SameBut, IsIdle, ComesToNothing, with_unit, with_committed, MayLog, MayCommit, MayMark, MaySeal, IsMerged, MaySwitch, KeepsNumbers, MayOpenOverflow}

-- for the same map, where a place changed at which nothing counts
abbrev pub StandsAfterIdle : Type 0
StandsAfterIdle =
    (places : ℕ) (c : Chart) (it : Layout) (m : Legible) (p : ℕ) (y : Chart) → Laid places c it → Says places c it m
    → IsIdle places c it p → SameBut p c y → ComesToNothing places y it p → StandsBeside places c y m

-- for the same map, with a log sector that may join
abbrev pub StandsAfterLogs : Type 0
StandsAfterLogs =
    (places : ℕ) (c : Chart) (it : Layout) (m : Legible) (u p s : ℕ) (sector : Sector) (records : List Record)
    → Laid places c it → Says places c it m → MayLog places c it u p s sector records
    → StandsBeside places c (with_sector c p s sector) m

-- with a commit sector, for the map that its numbers make
abbrev pub StandsAfterCommits : Type 0
StandsAfterCommits =
    (places : ℕ) (c : Chart) (it : Layout) (n : Legible) (s : ℕ) (sector : Sector) (numbers : List ℕ) (committed : ℕ → Bool)
    → Laid places c it → MayCommit c it s sector numbers committed → Says places c (with_committed it committed) n
    → StandsBeside places c (with_sector c it.status s sector) n

-- for the same map, with a mark
abbrev pub StandsAfterMarks : Type 0
StandsAfterMarks =
    (places : ℕ) (c : Chart) (it : Layout) (m : Legible) (s : ℕ) (mark : Sector) → Laid places c it → Says places c it m
    → MayMark c it s mark → StandsBeside places c (with_sector c it.status s mark) m

-- with a data header, for the map that the new place makes
abbrev pub StandsAfterHeaders : Type 0
StandsAfterHeaders =
    (places : ℕ) (c : Chart) (it : Layout) (n : Legible) (u p : ℕ) (fresh : Shape) → Laid places c it
    → MaySeal places c it u p fresh → Says places c (with_unit it u fresh) n → StandsBeside places c (with_sector c p 0 fresh.head) n

-- that is the same map where the unit was merged
abbrev pub StandsAfterMerges : Type 0
StandsAfterMerges =
    (places : ℕ) (c : Chart) (it : Layout) (m : Legible) (u p : ℕ) (fresh : Shape) → Laid places c it → Says places c it m
    → MaySeal places c it u p fresh → IsMerged c it u fresh → StandsBeside places c (with_sector c p 0 fresh.head) m

-- with a status header, for the same map where the committed numbers of live sectors are kept
abbrev pub StandsAfterRenewals : Type 0
StandsAfterRenewals =
    (places : ℕ) (c : Chart) (it : Layout) (m : Legible) (p : ℕ) (head : Sector) (committed : ℕ → Bool) → Laid places c it
    → Says places c it m → MaySwitch places it.count c p head committed → KeepsNumbers it committed
    → StandsBeside places c (with_sector c p 0 head) m

-- with an overflow header, for the same map
abbrev pub StandsAfterOverflows : Type 0
StandsAfterOverflows =
    (places : ℕ) (c : Chart) (it : Layout) (m : Legible) (p : ℕ) (head : Sector) → Laid places c it → Says places c it m
    → MayOpenOverflow places c it p head → StandsBeside places c (with_sector c p 0 head) m
