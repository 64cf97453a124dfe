-- How the tables follow places that are taken, and units that move.
use Rattle.std.specs.Prelude.{ℕ, ◌≡◌, ◌≢◌, ◌↔◌, ◌<◌, ◌≤◌, ◌+◌, Bool, false, IsTrue, List, length, None, All, Contains}
use Rattle.ipl_base.specs.declared.limits.TheConstants.{SECTORS, FIRST_LOG_SECTOR, OVERFLOW_PLACES}
use Rattle.chip_trait.specs.Chart.{with_sector}
use Rattle.ipl_format.specs.Sector.{Sector}
use Rattle.ipl_meaning.specs.Chart.{Chart}
use Rattle.ipl_meaning.specs.Layout.{Shape, Layout, HasNoMark}
use Rattle.ipl_meaning.specs.Found.{MentionsBelow, IsPlaceBelow}
use Rattle.ipl_meaning.specs.Steps.{SameBut, with_unit, with_status, IsIdle, MaySwitch, MayOpenOverflow}
use Rattle.ipl_meaning.specs.Tables.{IsFree, Tables, overflow_places, IsCountedClean}
use Rattle.ipl_meaning.specs.Mirrors.{Mirrors}
use Rattle.ipl_meaning.specs.TableSteps.{IsReady, with_next, with_erases, with_all_retired, without_worn, taken, IsMoved, TellsShape, IsRenewed, with_overflow, without_marks, CountedMove}

-- a place that is no one's may change, but for a header, and numbers may be drawn
abbrev pub TablesFollowIdlePlaces : Type 0
TablesFollowIdlePlaces =
    (places : ℕ) (c : Chart) (it : Layout) (t : Tables) (p : ℕ) (y : Chart) (next : ℕ) → Mirrors places c it t
    → IsIdle places c it p → ¬ Contains (overflow_places t) p → SameBut p c y → y p 0 ≡ None → t.next ≤ next
    → Mirrors places y it (with_next t next)

-- a place may be taken
abbrev pub PlacesMayBeTaken : Type 0
PlacesMayBeTaken = (places : ℕ) (c : Chart) (it : Layout) (t : Tables) (p : ℕ) → Mirrors places c it t → p < places
    → Mirrors places c it (taken t p)

-- erase counts are nothing that the tables and a chart must agree on
abbrev pub CountsAreFree : Type 0
CountsAreFree = (places : ℕ) (c : Chart) (it : Layout) (t : Tables) (erases : List ℕ) → Mirrors places c it t
    → length erases ≡ places → Mirrors places c it (with_erases t erases)

-- nor are retired places
abbrev pub RetiredAreFree : Type 0
RetiredAreFree = (places : ℕ) (c : Chart) (it : Layout) (t : Tables) (retired : List ℕ) → Mirrors places c it t
    → Mirrors places c it (with_all_retired t retired)

-- a place that is found worn may be retired
abbrev pub PlacesMayBeRetired : Type 0
PlacesMayBeRetired = (places : ℕ) (c : Chart) (it : Layout) (t : Tables) (p : ℕ) → Mirrors places c it t → p < places
    → Mirrors places c it (without_worn t p)

-- the tables mirror the chart after the header of a unit's new place
abbrev pub TablesFollowMerges : Type 0
TablesFollowMerges =
    (places : ℕ) (c : Chart) (it : Layout) (t after : Tables) (u p used : ℕ) (fresh : Shape) → Mirrors places c it t
    → u < it.count → IsReady places c t u p fresh → ¬ IsFree t.places p
    → IsMoved t after u p used → TellsShape t after u fresh → MentionsBelow after.next fresh.head → IsPlaceBelow after.next c p
    → ((s : ℕ) → FIRST_LOG_SECTOR + used ≤ s → s < SECTORS → c p s ≡ None)
    → ((s : ℕ) → FIRST_LOG_SECTOR ≤ s → s < FIRST_LOG_SECTOR + used → c p s ≢ None)
    → Mirrors places (with_sector c p 0 fresh.head) (with_unit it u fresh) after

-- after the header of a new status place
abbrev pub TablesFollowRenewals : Type 0
TablesFollowRenewals =
    (places : ℕ) (c : Chart) (it : Layout) (t after : Tables) (p first : ℕ) (head : Sector) (committed : ℕ → Bool)
    → Mirrors places c it t → MaySwitch places it.count c p head committed → ¬ IsFree t.places p
    → IsRenewed t after p head.generation first
    → ((tid : ℕ) → IsTrue (committed tid) ↔ Contains after.status.numbers tid) → All (λ n. committed n ≡ false) t.active
    → MentionsBelow after.next head → IsPlaceBelow after.next c p → 1 ≤ first
    → ((s : ℕ) → first ≤ s → s < SECTORS → c p s ≡ None)
    → Mirrors places (with_sector c p 0 head) (with_status it p head committed) after

-- once the status place has no mark, what a mark said is known
abbrev pub TablesFollowEndsOfMarks : Type 0
TablesFollowEndsOfMarks =
    (places : ℕ) (c : Chart) (it : Layout) (t : Tables) → Mirrors places c it t → HasNoMark c it.status it.head.generation
    → Mirrors places c it (without_marks t)

-- and as much is counted as clean
abbrev pub CountedFollowEndsOfMarks : Type 0
CountedFollowEndsOfMarks = (t : Tables) (p s : ℕ) → IsCountedClean t p s ↔ IsCountedClean (without_marks t) p s

-- after the header of a new overflow place
abbrev pub TablesFollowOverflows : Type 0
TablesFollowOverflows =
    (places : ℕ) (c : Chart) (it : Layout) (t : Tables) (p next : ℕ) (head : Sector) → Mirrors places c it t
    → MayOpenOverflow places c it p head → p < places → ¬ IsFree t.places p → length t.overflow.in_use < OVERFLOW_PLACES
    → t.next ≤ next → MentionsBelow next head → ((s : ℕ) → c p s ≡ None)
    → Mirrors places (with_sector c p 0 head) it (with_overflow t p next)

-- what is counted as clean after a merge
abbrev pub CountedFollowMerges : Type 0
CountedFollowMerges =
    (places : ℕ) (c : Chart) (it : Layout) (t after : Tables) (u p used : ℕ) (fresh : Shape) → Mirrors places c it t
    → u < it.count → IsReady places c t u p fresh → ¬ IsFree t.places p
    → IsMoved t after u p used → MentionsBelow after.next fresh.head → IsPlaceBelow after.next c p
    → ((s : ℕ) → FIRST_LOG_SECTOR + used ≤ s → s < SECTORS → c p s ≡ None)
    → CountedMove t after p 0 (FIRST_LOG_SECTOR + used)

-- after a renewal
abbrev pub CountedFollowRenewals : Type 0
CountedFollowRenewals =
    (places : ℕ) (c : Chart) (it : Layout) (t after : Tables) (p first : ℕ) (head : Sector) (committed : ℕ → Bool)
    → Mirrors places c it t → MaySwitch places it.count c p head committed → ¬ IsFree t.places p
    → IsRenewed t after p head.generation first
    → ((tid : ℕ) → IsTrue (committed tid) ↔ Contains after.status.numbers tid) → All (λ n. committed n ≡ false) t.active
    → MentionsBelow after.next head → IsPlaceBelow after.next c p → 1 ≤ first
    → ((s : ℕ) → first ≤ s → s < SECTORS → c p s ≡ None)
    → CountedMove t after p 0 first

-- after a new overflow place
abbrev pub CountedFollowOverflows : Type 0
CountedFollowOverflows =
    (places : ℕ) (c : Chart) (it : Layout) (t : Tables) (p next : ℕ) (head : Sector) → Mirrors places c it t
    → MayOpenOverflow places c it p head → p < places → ¬ IsFree t.places p → length t.overflow.in_use < OVERFLOW_PLACES
    → t.next ≤ next → MentionsBelow next head → ((s : ℕ) → c p s ≡ None)
    → CountedMove t (with_overflow t p next) p 0 1
