-- The steps from one chart to the next, and when each may be taken.
use Rattle.std.specs.Prelude.{ℕ, ◌≡◌, ◌≢◌, ◌⊎◌, ◌<◌, ◌≤◌, Bool, true, false, Some, None, All, Contains, IsTrue, List, [], ◌∷◌, ◌++◌, length, if◌then◌else◌, ◌==◌}
use Rattle.ipl_base.specs.declared.limits.TheConstants.{SECTORS, PAGES, SLOTS, FIRST_LOG_SECTOR, OVERFLOW_PLACES, OVERFLOW_SECTORS}
use Rattle.chip_trait.specs.Chart.{IsPartOf}
use Rattle.ipl_format.specs.Sector.{Sector}
use Rattle.ipl_format.specs.Record.{Record, SpellsLog}
use Rattle.ipl_format.specs.Commit.{SpellsCommit}
use Rattle.ipl_format.specs.Mark.{SpellsMark, has_unit}
use Rattle.ipl_format.specs.Header.{SpellsDataHeader, SpellsStatusHeader}
use Rattle.ipl_format.specs.Page.{Slots, value_in}
use Rattle.ipl_meaning.specs.Chart.{Chart, Beats, IsDataHeader, IsStatusHeader, IsOverflowHeader, IsOverflow}
use Rattle.ipl_meaning.specs.Values.{Values, after_records}
use Rattle.ipl_meaning.specs.Layout.{Entry, Shape, Layout, IsLog, IsStatus, IsMark, HasNoMark, IsLiveIn, ReadsWell, records_of}
use Rattle.ipl_meaning.specs.Stands.{Shows}

-- ---- two charts

-- two charts that may differ at this place alone
abbrev pub SameBut : ℕ → Chart → Chart → Type 0
SameBut p c y = (q s : ℕ) → q ≢ p → y q s ≡ c q s

-- two charts that may differ at these places alone
abbrev pub SameOff : (ℕ → Bool) → Chart → Chart → Type 0
SameOff w c y = (q s : ℕ) → w q ≡ false → y q s ≡ c q s

-- what the one says at these places the other says
abbrev pub LeftAt : (ℕ → Bool) → Chart → Chart → Type 0
LeftAt w h y = (q s : ℕ) (sector : Sector) → w q ≡ true → y q s ≡ Some sector → h q s ≡ Some sector

-- two charts that are the same within the chip
abbrev pub SameWithin : ℕ → Chart → Chart → Type 0
SameWithin places c y = (p s : ℕ) → p < places → s < SECTORS → y p s ≡ c p s

-- all that the part has, the whole has too, and the headers are the same
pub record IsPart (part whole : Chart) : Type 0 where
  pub each : IsPartOf part whole
  pub headers : (p : ℕ) → part p 0 ≡ whole p 0

-- each page that the one chart shows, laid out so, the other shows with the same values; and what reads well there did so before
pub record KeepsPages (places : ℕ) (c : Chart) (it : Layout) (y : Chart) (new : Layout) : Type 0 where
  pub shown : (u page : ℕ) (now : Values) → u < it.count → page < PAGES
      → Shows c it.committed u (it.units u) page now → Shows y new.committed u (new.units u) page now
  pub no_more : (u page : ℕ) (base : Slots) → u < it.count → page < PAGES → ReadsWell y u (new.units u) page base
      → (was : Slots) × ReadsWell c u (it.units u) page was

-- ---- two layouts

-- the unit with one more live sector
abbrev pub grown : Shape → Entry → Shape
grown shape e = record { home = shape.home; head = shape.head; pieces = shape.pieces; log = shape.log ++ e ∷ [] }

-- the layout with another shape of a unit
abbrev pub with_unit : Layout → ℕ → Shape → Layout
with_unit it u shape = record {
  status = it.status;
  head = it.head;
  committed = it.committed;
  count = it.count;
  units = λ v. if v == u then shape else it.units v;
}

-- with one more live sector of a unit
abbrev pub with_log : Layout → ℕ → Entry → Layout
with_log it u e = with_unit it u (grown (it.units u) e)

-- with another status place
abbrev pub with_status : Layout → ℕ → Sector → (ℕ → Bool) → Layout
with_status it p head committed = record {
  status = p;
  head = head;
  committed = committed;
  count = it.count;
  units = it.units;
}

-- with other committed numbers
abbrev pub with_committed : Layout → (ℕ → Bool) → Layout
with_committed it committed = with_status it it.status it.head committed

-- the entry of a log sector
abbrev pub entry_at : ℕ → ℕ → Sector → List Record → Entry
entry_at p s sector records = record { place = p; number = s; sector = sector; records = records }

-- ---- idle places

-- nothing that counts stands at the place
pub record IsIdle (places : ℕ) (c : Chart) (it : Layout) (p : ℕ) : Type 0 where
  pub not_status : it.status ≢ p
  pub not_home : (u : ℕ) → u < it.count → (it.units u).home ≢ p
  pub no_live : (u : ℕ) → u < it.count → (s : ℕ) (sector : Sector) → ¬ IsLiveIn c places it u p s sector

-- what the chart has at the place does not come to count
pub record ComesToNothing (places : ℕ) (y : Chart) (it : Layout) (p : ℕ) : Type 0 where
  pub unit_header : (u : ℕ) → u < it.count → (head : Sector) → y p 0 ≡ Some head → IsDataHeader u head
      → Beats (it.units u).head (it.units u).home head p
  pub status : (head : Sector) → y p 0 ≡ Some head → IsStatusHeader head → Beats it.head it.status head p
  pub no_live : (u : ℕ) → u < it.count → (s : ℕ) (sector : Sector) → ¬ IsLiveIn y places it u p s sector

-- ---- log sectors

-- no mark behind the unit's header has the unit
abbrev pub NoMarkHas : Chart → Layout → ℕ → Type 0
NoMarkHas c it u = (s : ℕ) (mark : Sector) → IsMark c it.status it.head.generation s mark
    → has_unit mark.payload u ≡ true → mark.serial ≤ (it.units u).head.serial

-- no record of the list has a number of the set
abbrev pub AllWait : (ℕ → Bool) → List Record → Type 0
AllWait committed records = All (λ r. committed r.tid ≡ false) records

-- a log sector of the unit that may go to this spot: it comes last, and none of its records is committed
pub record MayLog (places : ℕ) (c : Chart) (it : Layout) (u p s : ℕ) (sector : Sector) (records : List Record) : Type 0 where
  pub unit : u < it.count
  pub free : c p s ≡ None
  pub kind : sector.kind ≡ 5
  pub of_unit : sector.unit ≡ u
  pub of_generation : sector.generation ≡ (it.units u).head.generation
  pub within : (p < places) × (s < SECTORS)
  pub counts : ((p ≡ (it.units u).home) × (FIRST_LOG_SECTOR ≤ s)) ⊎ (IsOverflow c p × (1 ≤ s))
  pub spelled : SpellsLog sector.version sector.payload records
  pub waits : AllWait it.committed records
  pub last : (q t : ℕ) (other : Sector) → IsLiveIn c places it u q t other → other.serial < sector.serial
  -- at home, where no mark behind the unit's header has the unit
  pub unmarked : p ≡ (it.units u).home → NoMarkHas c it u
  -- with the new one, these spots are all of the unit's that stand elsewhere
  pub spots : List (ℕ × ℕ)
  pub few : length spots ≤ OVERFLOW_SECTORS
  pub listed : (q t : ℕ) (other : Sector) → IsLiveIn c places it u q t other → q ≢ (it.units u).home
      → Contains spots (q, t)
  pub listed_here : p ≢ (it.units u).home → Contains spots (p, s)
  -- and these places are all that hold live sectors elsewhere
  pub overflows : List ℕ
  pub two : length overflows ≤ OVERFLOW_PLACES
  pub in_overflow : (v q t : ℕ) (other : Sector) → v < it.count
      → IsLiveIn c places it v q t other
      → q ≢ (it.units v).home → Contains overflows q
  pub in_overflow_here : p ≢ (it.units u).home → Contains overflows p

-- ---- commit sectors

-- the new commit sector, and what is committed with it
pub record MayCommit (c : Chart) (it : Layout) (s : ℕ) (sector : Sector) (numbers : List ℕ) (committed : ℕ → Bool) : Type 0 where
  pub free : c it.status s ≡ None
  pub kind : sector.kind ≡ 6
  pub of_generation : sector.generation ≡ it.head.generation
  pub where_it_is : (1 ≤ s) × (s < SECTORS)
  pub spelled : SpellsCommit sector.payload numbers
  pub old_too : (tid : ℕ) → IsTrue (it.committed tid) → IsTrue (committed tid)
  pub new_too : (tid : ℕ) → Contains numbers tid → IsTrue (committed tid)
  pub no_more : (tid : ℕ) → IsTrue (committed tid) → IsTrue (it.committed tid) ⊎ Contains numbers tid

-- ---- marks

-- a mark that may go to the status place
pub record MayMark (c : Chart) (it : Layout) (s : ℕ) (mark : Sector) : Type 0 where
  pub free : c it.status s ≡ None
  pub kind : mark.kind ≡ 7
  pub of_generation : mark.generation ≡ it.head.generation
  pub where_it_is : (1 ≤ s) × (s < SECTORS)
  pub spelled : SpellsMark it.count mark.payload

-- ---- data headers

-- a header that may be put on the place: it beats the unit's others, and what stands there is ready
pub record MaySeal (places : ℕ) (c : Chart) (it : Layout) (u p : ℕ) (fresh : Shape) : Type 0 where
  pub unit : u < it.count
  pub within : p < places
  pub free : c p 0 ≡ None
  pub home : fresh.home ≡ p
  pub fits : IsDataHeader u fresh.head
  pub counts : SpellsDataHeader fresh.head.version it.count fresh.pieces
      fresh.head.payload
  pub newest : (q : ℕ) (other : Sector) → q < places → c q 0 ≡ Some other → IsDataHeader u other
      → other.serial < fresh.head.serial
  pub log : IsLog c places u p fresh.head.generation fresh.log
  -- no live sector of the unit stands elsewhere then
  pub gathered : All (λ e. e.place ≡ p) fresh.log

-- the new place shows the unit's pages as the old one does
pub record IsSameUnit (c : Chart) (it : Layout) (u : ℕ) (fresh : Shape) : Type 0 where
  pub shown : (page : ℕ) (now : Values) → page < PAGES → Shows c it.committed u (it.units u) page now
      → Shows c it.committed u fresh page now
  pub no_more : (page : ℕ) (base : Slots) → page < PAGES → ReadsWell c u fresh page base
      → (was : Slots) × ReadsWell c u (it.units u) page was

-- the slots have the values that the log's committed records make of the base
abbrev pub IsApplied : (ℕ → Bool) → List Entry → ℕ → Slots → Slots → Type 0
IsApplied committed log page base new = (slot : ℕ) → slot < SLOTS
    → value_in new slot ≡ after_records committed page slot (records_of log) (value_in base slot)

-- the new place has the committed pages, and log sectors of records that wait
pub record IsMerged (c : Chart) (it : Layout) (u : ℕ) (fresh : Shape) : Type 0 where
  pub pages : (page : ℕ) (base : Slots) → page < PAGES → ReadsWell c u (it.units u) page base
      → (new : Slots) × ReadsWell c u fresh page new × IsApplied it.committed (it.units u).log page base new
  -- each page was read
  pub all : (page : ℕ) → page < PAGES → (base : Slots) × ReadsWell c u (it.units u) page base
  pub waits : AllWait it.committed (records_of fresh.log)

-- ---- status headers

-- a status header that may be put on the place, of so many units, and what is committed with it
pub record MaySwitch (places count : ℕ) (c : Chart) (p : ℕ) (head : Sector) (committed : ℕ → Bool) : Type 0 where
  pub within : p < places
  pub free : c p 0 ≡ None
  pub fits : IsStatusHeader head
  pub counts : SpellsStatusHeader head.version places count head.payload
  pub newest : (q : ℕ) (other : Sector) → q < places → c q 0 ≡ Some other → IsStatusHeader other
      → other.serial < head.serial
  pub commits : IsStatus c p head.generation committed
  pub unmarked : HasNoMark c p head.generation

-- exactly the committed numbers of the unit's live sectors are committed still
abbrev pub KeepsNumbers : Layout → (ℕ → Bool) → Type 0
KeepsNumbers it committed = (u : ℕ) → u < it.count
    → All (λ r. committed r.tid ≡ it.committed r.tid) (records_of (it.units u).log)

-- ---- overflow headers

-- an overflow header that may be put on the place: no log sector there comes to count
pub record MayOpenOverflow (places : ℕ) (c : Chart) (it : Layout) (p : ℕ) (head : Sector) : Type 0 where
  pub free : c p 0 ≡ None
  pub kind : IsOverflowHeader head
  pub no_log : (u s : ℕ) (sector : Sector) → u < it.count → c p s ≡ Some sector → sector.kind ≡ 5 → sector.unit ≡ u
      → sector.generation ≢ (it.units u).head.generation
