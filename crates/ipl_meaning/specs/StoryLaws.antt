-- From bytes to charts: what each call makes of all that a power cut may leave.
use Rattle.std.specs.Prelude.{ℕ, ◌≡◌, ◌≢◌, ◌<◌, ◌∷◌, List, Bool, Some, None, true}
use Rattle.chip_trait.specs.declared.event.Event.TheVariants.{Read, Program, Erase, Worn, Barrier, Said}
use Rattle.chip_trait.specs.Story.{Story, Contents, held}
use Rattle.chip_trait.specs.Image.{is_worn, IsNoChanceImage, IsQuiet, IsClosed, KeepsWorn}
use Rattle.chip_trait.specs.Chart.{with_sector, says}
use Rattle.chip_trait.specs.Moment.{AtEachMoment}
use Rattle.chip_trait.specs.Told.{History, Told, adds, adds_all}
use Rattle.ipl_model.specs.State.{Map}
use Rattle.ipl_meaning.specs.Legible.{Legible, whole, but}
use Rattle.ipl_meaning.specs.Laws.{AgreeWhereBoth}
use Rattle.ipl_format.specs.Sector.{Sector, sector_in}
use Rattle.ipl_format.specs.Record.{Record}
use Rattle.ipl_meaning.specs.Chart.{Chart, chart_of}
use Rattle.ipl_meaning.specs.Layout.{Shape, Layout, Laid}
use Rattle.ipl_meaning.specs.Stands.{Stands, StandsBeside}
use Rattle.ipl_meaning.specs.Rests.{now, IsUntouched, EachStands, EachStandsEither, EachStandsEitherIn, WornAreIdle, StoryRests, Rests}
use Rattle.ipl_meaning.specs.Steps.{IsPart, IsIdle, MayLog, MayCommit, MayMark, MaySeal, with_committed, with_unit, with_status}

-- in a quiet story, what a power cut leaves is a part of what is held, with the same headers where nothing is lost at worn
-- places
abbrev pub QuietImagesAreParts : Type 0
QuietImagesAreParts = (h : History) (x : Contents) → IsQuiet h.start h.story
    → IsNoChanceImage (says sector_in) h.start h.story x → KeepsWorn h.start h.story x → IsPart (chart_of x) (now h)

-- what is held stands for what all images stand for
abbrev pub HeldStands : Type 0
HeldStands = (places : ℕ) (m : Legible) (h : History) → EachStands places m h → Stands places (now h) m

-- a story rests on one map at most
abbrev pub RestsOnce : Type 0
RestsOnce = (places : ℕ) (m n : Map) (h : History) → StoryRests places (whole m) h → StoryRests places (whole n) h → m ≡ n

-- two on which it rests agree on the names of each page of which both are said
abbrev pub StoriesAgree : Type 0
StoriesAgree = (places : ℕ) (m n : Legible) (h : History) → StoryRests places m h → StoryRests places n h → AgreeWhereBoth m n

-- what rests on the records of some pages rests on those of fewer
abbrev pub FewerPagesRest : Type 0
FewerPagesRest =
    (places : ℕ) (m : Legible) (reads : ℕ → ℕ → Bool) (h : History) → ((u page : ℕ) → reads u page ≡ true → m.pages.reads u page ≡ true)
    → StoryRests places m h → StoryRests places (but reads m) h

-- nor a chip
abbrev pub ChipsRestOnce : Type 0
ChipsRestOnce = (m n : Map) (t : Told) → Rests (whole m) t → Rests (whole n) t → m ≡ n

-- where nothing is open and worn places are idle, the story rests on what the held chart stands for
abbrev pub ClosedRests : Type 0
ClosedRests = (places : ℕ) (m : Legible) (h : History) → IsClosed h.story → Stands places (now h) m → WornAreIdle places h.story (now h) → StoryRests places m h

-- so it does after a barrier
abbrev pub BarriersRest : Type 0
BarriersRest = (places : ℕ) (m : Legible) (h : History) → Stands places (now h) m → WornAreIdle places h.story (now h) → StoryRests places m (adds Barrier h)

-- and at the moment of a barrier there is nothing new
abbrev pub BarriersKeepEither : Type 0
BarriersKeepEither = (places : ℕ) (m n : Legible) (h : History) → EachStandsEither places m n h
    → EachStandsEither places m n (adds Barrier h)

-- a read changes nothing
abbrev pub ReadsKeep : Type 0
ReadsKeep = (places : ℕ) (m : Legible) (h : History) (p s : ℕ) → StoryRests places m h → StoryRests places m (adds (Read p s) h)

-- nor does what is said
abbrev pub SaysKeep : Type 0
SaysKeep = (places : ℕ) (m : Legible) (h : History) (piece : List ℕ) → StoryRests places m h → StoryRests places m (adds (Said piece) h)

-- nor an idle place that is found worn
abbrev pub WornsKeep : Type 0
WornsKeep = (places : ℕ) (m : Legible) (h : History) (it : Layout) (p : ℕ) → StoryRests places m h
    → Laid places (now h) it → IsIdle places (now h) it p → StoryRests places m (adds (Worn p) h)

-- an erase of an idle place changes no meaning
abbrev pub ErasesKeep : Type 0
ErasesKeep =
    (places : ℕ) (m : Legible) (h : History) (it : Layout) (p : ℕ) → StoryRests places m h
    → Laid places (now h) it → p < places → IsIdle places (now h) it p
    → EachStands places m (adds (Erase p) h) × WornAreIdle places (Erase p ∷ h.story) (now (adds (Erase p) h))

-- a program of a log sector that may join its unit's
abbrev pub LogSectorsKeep : Type 0
LogSectorsKeep =
    (places : ℕ) (m : Legible) (h : History) (it : Layout) (u p s : ℕ) (bytes : List ℕ) (sector : Sector)
    (records : List Record)
    → StoryRests places m h → IsUntouched h p s → sector_in bytes ≡ Some sector
    → Laid places (now h) it → MayLog places (now h) it u p s sector records
    → StoryRests places m (adds (Program p s bytes) h)

-- a program of another sector than the header, in a place without one
abbrev pub AsidesKeep : Type 0
AsidesKeep =
    (places : ℕ) (m : Legible) (h : History) (p s : ℕ) (bytes : List ℕ) (sector : Sector)
    → StoryRests places m h → IsUntouched h p s → sector_in bytes ≡ Some sector
    → now h p 0 ≡ None → s ≢ 0
    → StoryRests places m (adds (Program p s bytes) h)

-- where nothing else is open, a program leaves the old meaning or the new one
abbrev pub ProgramsLead : Type 0
ProgramsLead =
    (places : ℕ) (m n : Legible) (h : History) (p s : ℕ) (bytes : List ℕ) (sector : Sector)
    → StoryRests places m h → IsClosed h.story → IsUntouched h p s → sector_in bytes ≡ Some sector
    → StandsBeside places (now h) (with_sector (now h) p s sector) n → WornAreIdle places h.story (with_sector (now h) p s sector)
    → EachStandsEither places m n (adds (Program p s bytes) h) × Stands places (now (adds (Program p s bytes) h)) n
    × WornAreIdle places (Program p s bytes ∷ h.story) (now (adds (Program p s bytes) h))

-- what stands for the one map stands for one of two
abbrev pub OneIsEither : Type 0
OneIsEither = (places : ℕ) (m n : Legible) (h : History) → EachStands places m h → EachStandsEither places m n h

-- where both are one, it is kept
abbrev pub EitherIsKept : Type 0
EitherIsKept = (places : ℕ) (m : Legible) (h : History) → EachStandsEither places m m h → EachStands places m h

-- ---- how many units there are

-- At each moment of some events what a power cut leaves stands for one of two maps: it does so in as many units as the
-- chart before them was laid out in.
abbrev pub MomentsKeepUnits : Type 0
MomentsKeepUnits =
    (places : ℕ) (m n : Legible) (h : History) (it : Layout) (added : Story) → Laid places (now h) it
    → AtEachMoment (λ e. EachStandsEither places m n (adds_all e h)) added
    → AtEachMoment (λ e. EachStandsEitherIn places it.count m n (adds_all e h)) added

-- ---- idle places, as units and the status move

-- where worn places are idle in one layout of a chart, they are idle
abbrev pub WornByLayout : Type 0
WornByLayout = (places : ℕ) (story : Story) (c : Chart) (it : Layout) → Laid places c it → ((p : ℕ) → is_worn story p ≡ true → IsIdle places c it p)
    → WornAreIdle places story c

-- an idle place stays so with a commit sector
abbrev pub IdleAfterCommits : Type 0
IdleAfterCommits =
    (places : ℕ) (c : Chart) (it : Layout) (s : ℕ) (sector : Sector) (numbers : List ℕ) (committed : ℕ → Bool) (q : ℕ)
    → MayCommit c it s sector numbers committed → IsIdle places c it q → IsIdle places (with_sector c it.status s sector) (with_committed it committed) q

-- with a mark
abbrev pub IdleAfterMarks : Type 0
IdleAfterMarks =
    (places : ℕ) (c : Chart) (it : Layout) (s : ℕ) (mark : Sector) (q : ℕ)
    → MayMark c it s mark → IsIdle places c it q → IsIdle places (with_sector c it.status s mark) it q

-- with a data header at another place
abbrev pub IdleAfterHeaders : Type 0
IdleAfterHeaders =
    (places : ℕ) (c : Chart) (it : Layout) (u p : ℕ) (fresh : Shape) (q : ℕ) → MaySeal places c it u p fresh → q ≢ p → IsIdle places c it q
    → IsIdle places (with_sector c p 0 fresh.head) (with_unit it u fresh) q

-- with a status header at another place
abbrev pub IdleAfterRenewals : Type 0
IdleAfterRenewals =
    (places : ℕ) (c : Chart) (it : Layout) (p : ℕ) (head : Sector) (committed : ℕ → Bool) (q : ℕ) → q ≢ p → IsIdle places c it q
    → IsIdle places (with_sector c p 0 head) (with_status it p head committed) q

-- and with an overflow header at another place
abbrev pub IdleAfterOverflows : Type 0
IdleAfterOverflows =
    (places : ℕ) (c : Chart) (it : Layout) (p : ℕ) (head : Sector) (q : ℕ) → q ≢ p → IsIdle places c it q
    → IsIdle places (with_sector c p 0 head) it q
