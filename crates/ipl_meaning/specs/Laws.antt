-- Laws of what stands.
use Rattle.std.specs.Prelude.{ℕ, ◌≡◌, ◌≢◌, ◌⊎◌, ◌↔◌, ◌<◌, ◌≤◌, ◌*◌, None, Some, Bool, true, List, Contains}
use Rattle.std.specs.FinMap.{empty, get}
use Rattle.ipl_base.specs.declared.limits.TheConstants.{LEAST_PLACES, MOST_PLACES, PAGES, SLOTS, UNIT_NAMES, FIRST_LOG_SECTOR, PAGE_SECTORS}
use Rattle.chip_trait.specs.Chart.{with_sector}
use Rattle.ipl_model.specs.State.{Map}
use Rattle.ipl_meaning.specs.Legible.{Legibility, Legible, of, whole, every, but, with_rotten, IsToldApart}
use Rattle.ipl_format.specs.Sector.{Sector}
use Rattle.ipl_format.specs.Record.{Record}
use Rattle.ipl_format.specs.Page.{Slots}
use Rattle.ipl_format.specs.Place.{base_sector_of}
use Rattle.ipl_meaning.specs.Chart.{Chart}
use Rattle.ipl_meaning.specs.Layout.{Entry, Shape, Layout, Laid, ReadsWell}
use Rattle.ipl_meaning.specs.Masks.{of_page}
use Rattle.ipl_meaning.specs.Allowed.{IsAllowed}
use Rattle.ipl_meaning.specs.Values.{Values}
use Rattle.ipl_meaning.specs.Stands.{Shows, Says, Stands, page_in}
use Rattle.ipl_meaning.specs.Formatted.{formatted}
use Rattle.ipl_base.specs.Places.{KeepsUnits}
use Rattle.ipl_meaning.specs.Steps.{IsPart, SameBut, SameOff, LeftAt, SameWithin, KeepsPages, with_unit, with_log, with_status, with_committed, entry_at, IsIdle, ComesToNothing, MayLog, MayCommit, MayMark, MaySeal, IsSameUnit, IsMerged, MaySwitch, KeepsNumbers, MayOpenOverflow}

-- a chart stands for one map at most
abbrev pub StandsOnce : Type 0
StandsOnce = (places : ℕ) (c : Chart) (m n : Map) → Stands places c (whole m) → Stands places c (whole n) → m ≡ n

-- two of one chart agree on the names of each page of which both are said
abbrev pub AgreeWhereBoth : Legible → Legible → Type 0
AgreeWhereBoth m n = (u page slot : ℕ) → page < PAGES → slot < SLOTS → m.pages.reads u page ≡ true → n.pages.reads u page ≡ true
    → page_in m.map u page slot ≡ page_in n.map u page slot

abbrev pub ChartsAgree : Type 0
ChartsAgree = (places : ℕ) (c : Chart) (m n : Legible) → Stands places c m → Stands places c n → AgreeWhereBoth m n

-- what is said of some pages is said of fewer
abbrev pub FewerPagesStand : Type 0
FewerPagesStand =
    (places : ℕ) (c : Chart) (m : Legible) (reads : ℕ → ℕ → Bool) → ((u page : ℕ) → reads u page ≡ true → m.pages.reads u page ≡ true)
    → Stands places c m → Stands places c (but reads m)

-- what it was to say a map of every page, and is
pub record SaysEvery (places : ℕ) (c : Chart) (it : Layout) (m : Map) : Type 0 where
  pub pages : (u page : ℕ) → u < it.count → page < PAGES → Shows c it.committed u (it.units u) page (page_in m u page)
  pub nowhere_else : (n : ℕ) → UNIT_NAMES * it.count ≤ n → get m n ≡ None

abbrev pub WholeIsEvery : Type 0
WholeIsEvery = (places : ℕ) (c : Chart) (it : Layout) (m : Map) → Says places c it (whole m) ↔ SaysEvery places c it m

-- two layouts with the same status place and committed numbers, and the same units
pub record AreOneLayout (it other : Layout) : Type 0 where
  pub status : it.status ≡ other.status
  pub head : it.head ≡ other.head
  pub committed : (tid : ℕ) → it.committed tid ≡ other.committed tid
  pub count : it.count ≡ other.count
  pub units : (u : ℕ) → u < it.count → it.units u ≡ other.units u

-- a chart is laid out in one way
abbrev pub LaidOnce : Type 0
LaidOnce = (places : ℕ) (c : Chart) (it other : Layout) → Laid places c it → Laid places c other
    → AreOneLayout it other

-- what keeps the pages, and the number of units, keeps the map
abbrev pub KeptPagesKeepTheMap : Type 0
KeptPagesKeepTheMap = (places : ℕ) (c y : Chart) (it new : Layout) (m : Legible) → KeepsPages places c it y new
    → new.count ≡ it.count → Says places c it m → Says places y new m

-- the unit with those of its log sectors alone that have a record of the page
abbrev pub with_page_log : Shape → ℕ → Shape
with_page_log it page = record { home = it.home; head = it.head; pieces = it.pieces; log = of_page page it.log }

-- the chart has the unit's header and its live sectors with a record of the page, and by these alone shows the page with
-- these values
pub record IsRebuilt (y : Chart) (it : Layout) (u page : ℕ) (now : Values) : Type 0 where
  pub head : y (it.units u).home 0 ≡ Some (it.units u).head
  pub shows : Shows y it.committed u (with_page_log (it.units u) page) page now
  pub log : (e : Entry) → Contains (of_page page (it.units u).log) e → y e.place e.number ≡ Some e.sector

-- a page is rebuilt from the allowed sectors alone: a chart that has these shows the page
abbrev pub AllowedSectorsSuffice : Type 0
AllowedSectorsSuffice =
    (places : ℕ) (c y : Chart) (it : Layout) (u page : ℕ) (now : Values)
    → Laid places c it → u < it.count → ((p s : ℕ) → IsAllowed it u page p s → y p s ≡ c p s)
    → Shows c it.committed u (it.units u) page now → IsRebuilt y it u page now

-- a place at which nothing counts may change, where nothing there comes to count
abbrev pub IdlePlacesDoNotCount : Type 0
IdlePlacesDoNotCount =
    (places : ℕ) (c : Chart) (it : Layout) (p : ℕ) (y : Chart)
    → Laid places c it → IsIdle places c it p → SameBut p c y → ComesToNothing places y it p
    → Laid places y it × KeepsPages places c it y it

-- at places at which nothing counts a chart may lose some of what another one has there
abbrev pub LossesDoNotCount : Type 0
LossesDoNotCount =
    (places : ℕ) (h c y : Chart) (it jt : Layout) (w : ℕ → Bool)
    → Laid places h it → Laid places c jt → IsPart c h → ((q : ℕ) → w q ≡ true → IsIdle places h it q) → SameOff w c y → LeftAt w h y
    → Laid places y jt × KeepsPages places c jt y jt

-- nothing outside the chip counts
abbrev pub OutsideDoesNotCount : Type 0
OutsideDoesNotCount =
    (places : ℕ) (c : Chart) (it : Layout) (y : Chart) → Laid places c it → SameWithin places c y
    → Laid places y it × KeepsPages places c it y it

-- a log sector may join its unit's, and changes no page
abbrev pub LogSectorsWait : Type 0
LogSectorsWait =
    (places : ℕ) (c : Chart) (it : Layout) (u p s : ℕ) (sector : Sector) (records : List Record)
    → Laid places c it → MayLog places c it u p s sector records
    → let new = with_log it u (entry_at p s sector records) in
    Laid places (with_sector c p s sector) new × KeepsPages places c it (with_sector c p s sector) new

-- a commit sector adds exactly its numbers, and a page then shows what its unit says under the larger set
abbrev pub CommitSectorsAdd : Type 0
CommitSectorsAdd =
    (places : ℕ) (c : Chart) (it : Layout) (s : ℕ) (sector : Sector) (numbers : List ℕ) (committed : ℕ → Bool)
    → Laid places c it → MayCommit c it s sector numbers committed
    → let new = with_committed it committed in
    Laid places (with_sector c it.status s sector) new × KeepsPages places c new (with_sector c it.status s sector) new

-- a mark changes nothing of what stands
abbrev pub MarksWait : Type 0
MarksWait =
    (places : ℕ) (c : Chart) (it : Layout) (s : ℕ) (mark : Sector) → Laid places c it → MayMark c it s mark
    → Laid places (with_sector c it.status s mark) it × KeepsPages places c it (with_sector c it.status s mark) it

-- a data header switches the unit to its new place at once, and its pages then show what the new place has
abbrev pub HeadersSwitch : Type 0
HeadersSwitch =
    (places : ℕ) (c : Chart) (it : Layout) (u p : ℕ) (fresh : Shape)
    → Laid places c it → MaySeal places c it u p fresh
    → let new = with_unit it u fresh in
    Laid places (with_sector c p 0 fresh.head) new × KeepsPages places c new (with_sector c p 0 fresh.head) new

-- the new place of a merged unit shows its pages as the old one does
abbrev pub MergesKeepPages : Type 0
MergesKeepPages = (c : Chart) (it : Layout) (u : ℕ) (fresh : Shape) → IsMerged c it u fresh → IsSameUnit c it u fresh

-- so a switch to it keeps all pages
abbrev pub SameUnitsKeepPages : Type 0
SameUnitsKeepPages = (places : ℕ) (c : Chart) (it : Layout) (u : ℕ) (fresh : Shape) → IsSameUnit c it u fresh
    → KeepsPages places c it c (with_unit it u fresh)

-- a status header makes exactly the numbers of its place the committed ones
abbrev pub StatusHeadersSwitch : Type 0
StatusHeadersSwitch =
    (places : ℕ) (c : Chart) (it : Layout) (p : ℕ) (head : Sector) (committed : ℕ → Bool)
    → Laid places c it → MaySwitch places it.count c p head committed
    → let new = with_status it p head committed in
    Laid places (with_sector c p 0 head) new × KeepsPages places c new (with_sector c p 0 head) new

-- where the live sectors' committed numbers are kept, the pages are kept
abbrev pub KeptNumbersKeepPages : Type 0
KeptNumbersKeepPages =
    (places : ℕ) (c : Chart) (it : Layout) (p : ℕ) (head : Sector) (committed : ℕ → Bool)
    → KeepsNumbers it committed → KeepsPages places c it c (with_status it p head committed)

-- an overflow header changes nothing
abbrev pub OverflowHeadersWait : Type 0
OverflowHeadersWait =
    (places : ℕ) (c : Chart) (it : Layout) (p : ℕ) (head : Sector)
    → Laid places c it → MayOpenOverflow places c it p head
    → Laid places (with_sector c p 0 head) it × KeepsPages places c it (with_sector c p 0 head) it

-- a formatted chip stands for the empty map
abbrev pub FormattedChipsAreEmpty : Type 0
FormattedChipsAreEmpty = (places units : ℕ) → LEAST_PLACES ≤ places → places ≤ MOST_PLACES → KeepsUnits places units
    → Stands places (formatted units) (whole empty)

-- the other chart may differ in the base sectors of one page of the unit alone
pub record SameButPage (it : Layout) (u page : ℕ) (c y : Chart) : Type 0 where
  pub apart : (p s : ℕ) → (p ≡ (it.units u).home → (s ≡ 0) ⊎ (FIRST_LOG_SECTOR ≤ s)) → y p s ≡ c p s
  pub others : (q i : ℕ) → q ≢ page → i < PAGE_SECTORS
      → y (it.units u).home (base_sector_of q i) ≡ c (it.units u).home (base_sector_of q i)

-- rot of one page takes nothing from the others: the same records are said of them
abbrev pub RotCostsAPage : Type 0
RotCostsAPage =
    (places : ℕ) (c y : Chart) (it : Layout) (m : Legible) (u page : ℕ) → Laid places c it → u < it.count → SameButPage it u page c y
    → ((base : Slots) → ¬ ReadsWell y u (it.units u) page base)
    → Says places c it m → Laid places y it × Says places y it (of (with_rotten m.pages u page) m.map)

-- and where the pages were told apart, they are
abbrev pub RotTellsApart : Type 0
RotTellsApart = (pages : Legibility) (u page : ℕ) → IsToldApart pages → IsToldApart (with_rotten pages u page)

-- so are they where every page reads
abbrev pub EveryIsToldApart : Type 0
EveryIsToldApart = IsToldApart every
