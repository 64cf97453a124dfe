-- What each call makes of the marks, in all that a power cut may leave.
use Rattle.std.specs.Prelude.{ℕ, ◌≡◌, ◌≢◌, ◌↔◌, ◌<◌, ◌≤◌, Bool, true, List, Some, None, length}
use Rattle.chip_trait.specs.declared.event.Event.TheVariants.{Read, Program, Erase, Worn, Barrier, Said}
use Rattle.chip_trait.specs.Story.{held}
use Rattle.chip_trait.specs.Image.{IsClosed}
use Rattle.chip_trait.specs.Chart.{with_sector}
use Rattle.chip_trait.specs.Told.{History, adds}
use Rattle.ipl_meaning.specs.Legible.{Legible}
use Rattle.ipl_format.specs.Sector.{Sector, sector_in}
use Rattle.ipl_format.specs.Mark.{has_unit}
use Rattle.ipl_format.specs.Record.{Record}
use Rattle.ipl_meaning.specs.Chart.{Chart}
use Rattle.ipl_meaning.specs.Layout.{Shape, Layout, Laid}
use Rattle.ipl_meaning.specs.Steps.{IsIdle, MayLog, MayCommit, MayMark, MaySwitch, MayOpenOverflow}
use Rattle.ipl_meaning.specs.Rests.{now, IsUntouched, WornAreIdle, StoryRests}
use Rattle.ipl_meaning.specs.Tables.{Tables, written_of, IsCountedClean, UNKNOWN_LOGS}
use Rattle.ipl_meaning.specs.Mirrors.{Mirrors}
use Rattle.ipl_meaning.specs.TableSteps.{IsReady}
use Rattle.ipl_meaning.specs.Agrees.{Agrees}
use Rattle.ipl_meaning.specs.Marks.{IsMarked, AreUnused, KeepsMarks, MarksNoMore}

-- ---- events that program nothing

-- a read, what is said and a barrier keep each marked sector unused
abbrev pub IdleEventsKeepMarks : Type 0
IdleEventsKeepMarks = (places : ℕ) (h : History)
    → ((p s : ℕ) → KeepsMarks places h (adds (Read p s) h))
    × ((piece : List ℕ) → KeepsMarks places h (adds (Said piece) h))
    × KeepsMarks places h (adds Barrier h)

-- so does an erase of an idle place
abbrev pub ErasesKeepMarks : Type 0
ErasesKeepMarks =
    (places : ℕ) (m : Legible) (h : History) (it : Layout) (p : ℕ) → StoryRests places m h → Laid places (now h) it → p < places
    → IsIdle places (now h) it p → KeepsMarks places h (adds (Erase p) h)

-- and one that finds its place worn
abbrev pub WornsKeepMarks : Type 0
WornsKeepMarks =
    (places : ℕ) (m : Legible) (h : History) (it : Layout) (p : ℕ) → StoryRests places m h → Laid places (now h) it
    → IsIdle places (now h) it p → KeepsMarks places h (adds (Worn p) h)

-- ---- programs

-- so does a program of another sector than the header, in a place without one
abbrev pub AsidesKeepMarks : Type 0
AsidesKeepMarks =
    (places : ℕ) (m : Legible) (h : History) (p s : ℕ) (bytes : List ℕ) (sector : Sector) → StoryRests places m h → IsUntouched h p s
    → sector_in bytes ≡ Some sector → now h p 0 ≡ None → s ≢ 0 → KeepsMarks places h (adds (Program p s bytes) h)

-- and that of a log sector that may join its unit's
abbrev pub LogSectorsKeepMarks : Type 0
LogSectorsKeepMarks =
    (places : ℕ) (m : Legible) (h : History) (it : Layout) (u p s : ℕ) (bytes : List ℕ) (sector : Sector) (records : List Record)
    → StoryRests places m h → IsUntouched h p s → sector_in bytes ≡ Some sector → Laid places (now h) it
    → MayLog places (now h) it u p s sector records → KeepsMarks places h (adds (Program p s bytes) h)

-- and where nothing else is open, one after which no more is marked
abbrev pub ProgramsKeepMarks : Type 0
ProgramsKeepMarks =
    (places : ℕ) (m : Legible) (h : History) (p s : ℕ) (bytes : List ℕ) (sector : Sector) → StoryRests places m h
    → IsClosed h.story → IsUntouched h p s → sector_in bytes ≡ Some sector
    → WornAreIdle places h.story (with_sector (now h) p s sector) → MarksNoMore places (now h) (with_sector (now h) p s sector) p
    → KeepsMarks places h (adds (Program p s bytes) h)

-- ---- after which no more is marked

-- a commit sector
abbrev pub CommitsMarkNoMore : Type 0
CommitsMarkNoMore =
    (places : ℕ) (c : Chart) (it : Layout) (s : ℕ) (sector : Sector) (numbers : List ℕ) (committed : ℕ → Bool)
    → Laid places c it → MayCommit c it s sector numbers committed
    → MarksNoMore places c (with_sector c it.status s sector) it.status

-- a data header of a new serial
abbrev pub HeadersMarkNoMore : Type 0
HeadersMarkNoMore =
    (places : ℕ) (c : Chart) (it : Layout) (t : Tables) (u p : ℕ) (fresh : Shape) → Mirrors places c it t → u < it.count
    → IsReady places c t u p fresh → MarksNoMore places c (with_sector c p 0 fresh.head) p

-- a status header
abbrev pub RenewalsMarkNoMore : Type 0
RenewalsMarkNoMore =
    (places : ℕ) (c : Chart) (it : Layout) (p : ℕ) (head : Sector) (committed : ℕ → Bool) → Laid places c it
    → MaySwitch places it.count c p head committed → MarksNoMore places c (with_sector c p 0 head) p

-- and an overflow header
abbrev pub OverflowsMarkNoMore : Type 0
OverflowsMarkNoMore =
    (places : ℕ) (c : Chart) (it : Layout) (p : ℕ) (head : Sector) → Laid places c it
    → MayOpenOverflow places c it p head → MarksNoMore places c (with_sector c p 0 head) p

-- ---- a clean close

-- the mark has units alone of which something is known, and all of these
abbrev pub MarksWhatIsKnown : Tables → Sector → Type 0
MarksWhatIsKnown t mark = (u : ℕ) → u < length t.places.current
    → (has_unit mark.payload u ≡ true) ↔ (written_of t u < UNKNOWN_LOGS)

-- What a close marks is clean, whatever a power cut may leave of it, the mark torn too: where nothing is open, the tables
-- agree, what they count as clean is unused and the mark's serial is new.
abbrev pub ClosesKeepMarks : Type 0
ClosesKeepMarks =
    (places : ℕ) (m : Legible) (h : History) (it : Layout) (t : Tables) (s : ℕ) (bytes : List ℕ) (mark : Sector)
    → StoryRests places m h → IsClosed h.story → Agrees places h it t → AreUnused (IsCountedClean t) h.story
    → MayMark (now h) it s mark → t.next ≤ mark.serial → MarksWhatIsKnown t mark → IsUntouched h it.status s → sector_in bytes ≡ Some mark
    → KeepsMarks places h (adds (Program it.status s bytes) h)

-- with it, exactly those sectors at units' places are marked that are counted as clean
abbrev pub ClosesMarkWhatIsClean : Type 0
ClosesMarkWhatIsClean =
    (places : ℕ) (h : History) (it : Layout) (t : Tables) (s : ℕ) (bytes : List ℕ) (mark : Sector)
    → Agrees places h it t → MayMark (now h) it s mark → t.next ≤ mark.serial → MarksWhatIsKnown t mark
    → sector_in bytes ≡ Some mark
    → let k = adds (Program it.status s bytes) h in
    (u n : ℕ) → u < it.count → IsMarked places (held k.start k.story) (it.units u).home n ↔ IsCountedClean t (it.units u).home n
