-- How the tables follow log sectors and commit sectors.
use Rattle.std.specs.Prelude.{ℕ, ◌<◌, ◌≤◌, Bool, List, length, slice_index, All, AllPairs, Contains}
use Rattle.ipl_base.specs.declared.limits.TheConstants.{SECTORS, LOG_SECTORS, OVERFLOW_SECTORS}
use Rattle.chip_trait.specs.Chart.{with_sector}
use Rattle.ipl_format.specs.Sector.{Sector}
use Rattle.ipl_format.specs.Record.{Record}
use Rattle.ipl_meaning.specs.Chart.{Chart}
use Rattle.ipl_meaning.specs.Layout.{Layout}
use Rattle.ipl_meaning.specs.Masks.{mask_of}
use Rattle.ipl_meaning.specs.Found.{MentionsBelow}
use Rattle.ipl_meaning.specs.Steps.{with_log, with_committed, entry_at, MayCommit}
use Rattle.ipl_meaning.specs.Tables.{Tables, spots_of, first_log}
use Rattle.ipl_meaning.specs.Mirrors.{AreApart, Mirrors}
use Rattle.ipl_meaning.specs.TableSteps.{IsFreshLog, after_home_log, after_overflow_log, after_commit, CountedShrink}

-- the tables mirror the chart after a log sector at home
abbrev pub TablesFollowHomeLogs : Type 0
TablesFollowHomeLogs =
    (places : ℕ) (c : Chart) (it : Layout) (t : Tables) (u next : ℕ) (sector : Sector) (records : List Record)
    → Mirrors places c it t → u < it.count
    → slice_index t.places.written u < LOG_SECTORS → IsFreshLog it t u sector records → t.next ≤ next → MentionsBelow next sector
    → let p = slice_index t.places.current u in let s = first_log t u in
    Mirrors places (with_sector c p s sector) (with_log it u (entry_at p s sector records)) (after_home_log t u (mask_of records) next)

-- after one in an overflow place
abbrev pub TablesFollowOverflowLogs : Type 0
TablesFollowOverflowLogs =
    (places : ℕ) (c : Chart) (it : Layout) (t : Tables) (u p s next : ℕ) (sector : Sector) (records : List Record)
    → Mirrors places c it t → u < it.count
    → Contains t.overflow.in_use (p, s) → 1 ≤ s → s < SECTORS → length (spots_of t u) < OVERFLOW_SECTORS → IsFreshLog it t u sector records
    → t.next ≤ next → MentionsBelow next sector
    → Mirrors places (with_sector c p s sector) (with_log it u (entry_at p s sector records))
    (after_overflow_log t u p s (mask_of records) next)

-- after a commit sector
abbrev pub TablesFollowCommits : Type 0
TablesFollowCommits =
    (places : ℕ) (c : Chart) (it : Layout) (t : Tables) (sector : Sector) (numbers : List ℕ) (committed : ℕ → Bool)
    (next : ℕ) (active : List ℕ) → Mirrors places c it t
    → MayCommit c it t.status.first sector numbers committed → t.next ≤ next → MentionsBelow next sector
    → All (Contains t.active) active → AllPairs AreApart active → All (λ n. ¬ Contains numbers n) active
    → Mirrors places (with_sector c it.status t.status.first sector) (with_committed it committed)
    (after_commit t numbers next active)

-- what is counted as clean shrinks with each of these
abbrev pub CountedFollow : Type 0
CountedFollow =
    (places : ℕ) (c : Chart) (it : Layout) (t : Tables) → Mirrors places c it t
    → ((u mask next : ℕ) → u < it.count → slice_index t.places.written u < LOG_SECTORS
    → CountedShrink t (after_home_log t u mask next) (slice_index t.places.current u) (first_log t u))
    × ((u p s mask next : ℕ) → Contains t.overflow.in_use (p, s) → CountedShrink t (after_overflow_log t u p s mask next) p s)
    × ((numbers active : List ℕ) (next : ℕ) → CountedShrink t (after_commit t numbers next active) it.status t.status.first)
