-- Laws of the counter: what it draws is new, and it stays above all that is found.
use Rattle.std.specs.Prelude.{ℕ, ◌≡◌, ◌≢◌, ◌<◌, ◌≤◌, Bool, false, List, Some, None, All}
use Rattle.ipl_base.specs.declared.limits.TheConstants.{FIRST_LOG_SECTOR}
use Rattle.chip_trait.specs.Chart.{with_sector}
use Rattle.ipl_format.specs.Sector.{Sector}
use Rattle.ipl_format.specs.Record.{Record}
use Rattle.ipl_meaning.specs.Chart.{Chart, IsHeader, IsOverflowHeader, IsLive}
use Rattle.ipl_meaning.specs.Layout.{Shape, Layout, Laid, IsCommitSector, IsMark, IsLiveIn}
use Rattle.ipl_meaning.specs.Steps.{SameBut, with_log, with_committed, with_unit, with_status, entry_at, MayLog, MayCommit}
use Rattle.ipl_meaning.specs.Found.{MentionsBelow, IsAbove, IsPlaceBelow}

-- under a new generation no log sector that stands elsewhere comes to count
abbrev pub NewGenerationsWakeNothing : Type 0
NewGenerationsWakeNothing =
    (places : ℕ) (c : Chart) (it : Layout) (next generation u p q s : ℕ) (sector : Sector)
    → IsAbove places c it next → next ≤ generation → IsLive c places u p generation q s sector → (q ≡ p) × (FIRST_LOG_SECTOR ≤ s)

-- a new serial is above those of all headers and live sectors
abbrev pub NewSerialsAreGreatest : Type 0
NewSerialsAreGreatest =
    (places : ℕ) (c : Chart) (it : Layout) (next serial : ℕ) → IsAbove places c it next → next ≤ serial
    → ((q : ℕ) (other : Sector) → q < places → c q 0 ≡ Some other → IsHeader other → other.serial < serial)
    × ((u q t : ℕ) (other : Sector) → u < it.count → IsLiveIn c places it u q t other → other.serial < serial)

-- a new transaction number is not committed, and no live sector has a record of it
abbrev pub NewNumbersWait : Type 0
NewNumbersWait =
    (places : ℕ) (c : Chart) (it : Layout) (next tid : ℕ) → Laid places c it → IsAbove places c it next → next ≤ tid
    → (it.committed tid ≡ false)
    × ((u : ℕ) → u < it.count
    → All (λ e. All (λ r. r.tid ≢ tid) e.records) (it.units u).log)

-- the counter is above all found numbers after a log sector that it is above
abbrev pub LogSectorsKeepTheCounter : Type 0
LogSectorsKeepTheCounter =
    (places : ℕ) (c : Chart) (it : Layout) (u p s : ℕ) (sector : Sector) (records : List Record) (next : ℕ)
    → MayLog places c it u p s sector records → MentionsBelow next sector → IsAbove places c it next
    → IsAbove places (with_sector c p s sector) (with_log it u (entry_at p s sector records)) next

-- it is above each mark and each commit sector
abbrev pub NewSerialsPassTheStatus : Type 0
NewSerialsPassTheStatus =
    (places : ℕ) (c : Chart) (it : Layout) (next serial : ℕ) → IsAbove places c it next → next ≤ serial
    → ((s : ℕ) (sector : Sector) → IsMark c it.status it.head.generation s sector → sector.serial < serial)
    × ((s : ℕ) (sector : Sector) → IsCommitSector c it.status it.head.generation s sector → sector.serial < serial)

-- the same after a commit sector
abbrev pub CommitSectorsKeepTheCounter : Type 0
CommitSectorsKeepTheCounter =
    (places : ℕ) (c : Chart) (it : Layout) (s : ℕ) (sector : Sector) (numbers : List ℕ) (committed : ℕ → Bool)
    (next : ℕ)
    → MayCommit c it s sector numbers committed → MentionsBelow next sector → IsAbove places c it next
    → IsAbove places (with_sector c it.status s sector) (with_committed it committed) next

-- the same after a header on a place whose sectors it is above
abbrev pub HeadersKeepTheCounter : Type 0
HeadersKeepTheCounter =
    (places : ℕ) (c : Chart) (it : Layout) (p : ℕ) (head : Sector) (next : ℕ)
    → c p 0 ≡ None → IsHeader head → MentionsBelow next head → IsPlaceBelow next c p → IsAbove places c it next
    → ((u : ℕ) (fresh : Shape) → fresh.home ≡ p → IsAbove places (with_sector c p 0 head) (with_unit it u fresh) next)
    × ((committed : ℕ → Bool) → IsAbove places (with_sector c p 0 head) (with_status it p head committed) next)
    × (IsOverflowHeader head → IsAbove places (with_sector c p 0 head) it next)

-- the same where only a place changes that is no one's and has no header then
abbrev pub BarePlacesKeepTheCounter : Type 0
BarePlacesKeepTheCounter =
    (places : ℕ) (c : Chart) (it : Layout) (p : ℕ) (y : Chart) (next : ℕ)
    → it.status ≢ p → ((u : ℕ) → u < it.count → (it.units u).home ≢ p) → SameBut p c y → y p 0 ≡ None
    → IsAbove places c it next → IsAbove places y it next
