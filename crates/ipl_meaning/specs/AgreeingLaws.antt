-- What agreement gives, and what keeps it.
use Rattle.std.specs.Prelude.{ℕ, ◌≡◌, ◌<◌, ◌≤◌, ◌++◌, List, Some, Contains}
use Rattle.ipl_base.specs.declared.limits.TheConstants.{SECTORS}
use Rattle.chip_trait.specs.declared.event.Event.TheVariants.{Read, Program, Erase, Worn, Barrier, Said}
use Rattle.chip_trait.specs.Story.{Story}
use Rattle.chip_trait.specs.Lawful.{AreClean}
use Rattle.chip_trait.specs.Chart.{with_sector}
use Rattle.chip_trait.specs.Told.{History, adds, adds_all}
use Rattle.ipl_format.specs.Sector.{Sector, sector_in}
use Rattle.ipl_meaning.specs.Layout.{Layout}
use Rattle.ipl_meaning.specs.Steps.{IsIdle}
use Rattle.ipl_meaning.specs.Mirrors.{Mirrors}
use Rattle.ipl_meaning.specs.Tables.{Tables, IsCountedClean, overflow_places}
use Rattle.ipl_meaning.specs.TableSteps.{CountedShrink, CountedMove}
use Rattle.ipl_meaning.specs.Agrees.{IsTidy, Agrees}
use Rattle.ipl_meaning.specs.Marks.{AreUnused}
use Rattle.ipl_meaning.specs.Rests.{now, IsUntouched}

-- once a sector is programmed, what is counted as clean without it is clean
abbrev pub TidyAfterPrograms : Type 0
TidyAfterPrograms =
    (h : History) (t after : Tables) (p s : ℕ) (bytes : List ℕ) → IsTidy h t → CountedShrink t after p s
    → IsTidy (adds (Program p s bytes) h) after

-- also where clean sectors of a new place come to be counted
abbrev pub TidyAfterMoves : Type 0
TidyAfterMoves =
    (h : History) (t after : Tables) (p s from : ℕ) (bytes : List ℕ) → IsTidy h t → CountedMove t after p s from
    → ((n : ℕ) → from ≤ n → n < SECTORS → IsUntouched h p n) → IsTidy (adds (Program p s bytes) h) after

-- it stays so with a barrier
abbrev pub TidyAfterBarriers : Type 0
TidyAfterBarriers = (h : History) (t : Tables) → IsTidy h t → IsTidy (adds Barrier h) t

-- and with an erase of a place that has none of them
abbrev pub TidyAfterErases : Type 0
TidyAfterErases = (h : History) (t : Tables) (p : ℕ) → IsTidy h t → ((s : ℕ) → ¬ IsCountedClean t p s) → IsTidy (adds (Erase p) h) t

-- and where such a place is found worn
abbrev pub TidyAfterWorns : Type 0
TidyAfterWorns = (h : History) (t : Tables) (p : ℕ) → IsTidy h t → ((s : ℕ) → ¬ IsCountedClean t p s) → IsTidy (adds (Worn p) h) t

-- Where events, whatever came before, leave the one tables' sectors clean once the other's were, they do so for a chip too: what is
-- counted as clean then is, where what was counted before was.
abbrev pub TidyIsCarried : Type 0
TidyIsCarried =
    (places : ℕ) (h : History) (it : Layout) (t after : Tables) (added : Story) → Agrees places h it t
    → ((base : Story) → AreClean (IsCountedClean t) base → AreClean (IsCountedClean after) (added ++ base))
    → IsTidy (adds_all added h) after

-- and unused, where that was
abbrev pub UnusedIsCarried : Type 0
UnusedIsCarried =
    (places : ℕ) (h : History) (it : Layout) (t after : Tables) (added : Story) → Agrees places h it t
    → ((base : Story) → AreClean (IsCountedClean t) base → AreClean (IsCountedClean after) (added ++ base))
    → AreUnused (IsCountedClean t) h.story → AreUnused (IsCountedClean after) (added ++ h.story)

-- after a program the tables agree where they mirror the chart with its sector
abbrev pub ProgramsAgree : Type 0
ProgramsAgree =
    (places : ℕ) (h : History) (new : Layout) (after : Tables) (p s : ℕ) (bytes : List ℕ) (sector : Sector)
    → sector_in bytes ≡ Some sector → Mirrors places (with_sector (now h) p s sector) new after
    → IsTidy (adds (Program p s bytes) h) after → Agrees places (adds (Program p s bytes) h) new after

-- after a barrier, where they agreed
abbrev pub BarriersAgree : Type 0
BarriersAgree =
    (places : ℕ) (h : History) (it : Layout) (t : Tables) → Agrees places h it t → Agrees places (adds Barrier h) it t

-- after a read
abbrev pub ReadsAgree : Type 0
ReadsAgree =
    (places : ℕ) (h : History) (it : Layout) (t : Tables) (p s : ℕ) → Agrees places h it t
    → Agrees places (adds (Read p s) h) it t

-- after what is said
abbrev pub SaysAgree : Type 0
SaysAgree =
    (places : ℕ) (h : History) (it : Layout) (t : Tables) (piece : List ℕ) → Agrees places h it t
    → Agrees places (adds (Said piece) h) it t

-- after an idle place that is no overflow place was found worn, where they agreed
abbrev pub WornsAgree : Type 0
WornsAgree =
    (places : ℕ) (h : History) (it : Layout) (t : Tables) (p : ℕ) → Agrees places h it t
    → IsIdle places (now h) it p → ¬ Contains (overflow_places t) p → Agrees places (adds (Worn p) h) it t

-- after an erase of an idle place that is no overflow place, where they agreed
abbrev pub ErasesAgree : Type 0
ErasesAgree =
    (places : ℕ) (h : History) (it : Layout) (t : Tables) (p : ℕ) → Agrees places h it t
    → IsIdle places (now h) it p → ¬ Contains (overflow_places t) p → Agrees places (adds (Erase p) h) it t
