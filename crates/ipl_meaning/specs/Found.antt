-- The numbers that an opening finds, and a counter above them.
use Rattle.std.specs.Prelude.{ℕ, ◌≡◌, ◌⊎◌, ◌<◌, ◌≤◌, List, Some, Contains}
use Rattle.ipl_base.specs.declared.limits.TheConstants.{SECTORS, FIRST_LOG_SECTOR}
use Rattle.ipl_format.specs.Sector.{Sector}
use Rattle.ipl_format.specs.Record.{Record, SpellsLog}
use Rattle.ipl_format.specs.Commit.{SpellsCommit}
use Rattle.ipl_meaning.specs.Chart.{Chart, IsHeader, IsOverflow}
use Rattle.ipl_meaning.specs.Layout.{IsCommitSector, IsMark, Layout}

-- where a log sector may be read: in the log region of a unit's place, or in an overflow place
abbrev pub IsLogSpot : Chart → Layout → ℕ → ℕ → Type 0
IsLogSpot c it p s = ((u : ℕ) × (u < it.count) × (p ≡ (it.units u).home) × (FIRST_LOG_SECTOR ≤ s)) ⊎ (IsOverflow c p × (1 ≤ s))

-- an opening reads this sector's numbers: it is a header, a commit sector or a mark of the status place and its generation,
-- or a log sector, live or not
abbrev pub IsRead : ℕ → Chart → Layout → ℕ → ℕ → Sector → Type 0
IsRead places c it p s sector =
    ((s ≡ 0) × (p < places) × (c p 0 ≡ Some sector) × IsHeader sector)
    ⊎ ((p ≡ it.status) × (IsCommitSector c it.status it.head.generation s sector
    ⊎ IsMark c it.status it.head.generation s sector))
    ⊎ ((p < places) × (s < SECTORS) × (c p s ≡ Some sector) × (sector.kind ≡ 5) × IsLogSpot c it p s)

-- the number is the sector's own, or one of the numbers in it
abbrev pub Mentions : Sector → ℕ → Type 0
Mentions sector n =
    (n ≡ sector.generation)
    ⊎ (n ≡ sector.serial)
    ⊎ ((sector.kind ≡ 6) × (numbers : List ℕ) × SpellsCommit sector.payload numbers × Contains numbers n)
    ⊎ ((sector.kind ≡ 5) × (records : List Record) × SpellsLog sector.version sector.payload records
    × (r : Record) × Contains records r × (r.tid ≡ n))

-- the numbers found
abbrev pub IsFoundNumber : ℕ → Chart → Layout → ℕ → Type 0
IsFoundNumber places c it n = (p s : ℕ) × (sector : Sector) × IsRead places c it p s sector × Mentions sector n

-- all that the sector mentions is below this
abbrev pub MentionsBelow : ℕ → Sector → Type 0
MentionsBelow next sector = (n : ℕ) → Mentions sector n → n < next

-- the counter is above every number found
abbrev pub IsAbove : ℕ → Chart → Layout → ℕ → Type 0
IsAbove places c it next = (n : ℕ) → IsFoundNumber places c it n → n < next

-- the log sectors, commit sectors and marks of a place are below the counter
abbrev pub IsPlaceBelow : ℕ → Chart → ℕ → Type 0
IsPlaceBelow next c p = (s : ℕ) (sector : Sector) → c p s ≡ Some sector → (sector.kind ≡ 5) ⊎ (sector.kind ≡ 6) ⊎ (sector.kind ≡ 7)
    → MentionsBelow next sector
