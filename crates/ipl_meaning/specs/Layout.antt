-- How the sectors of a chip are laid out: one home for each unit, and one status place.
use Rattle.std.specs.Prelude.{ℕ, ◌≡◌, ◌≢◌, ◌<◌, ◌≤◌, ◌+◌, ◌*◌, List, length, slice_index, Some, Bool, IsTrue, All, AllPairs, Contains}
use Rattle.std.specs.List.{flat_map}
use Rattle.ipl_base.specs.declared.limits.TheConstants.{SECTORS, LEAST_PLACES, MOST_PLACES, PAGE_SECTORS, OVERFLOW_PLACES, OVERFLOW_SECTORS}
use Rattle.ipl_base.specs.Places.{KeepsUnits}
use Rattle.ipl_format.specs.Sector.{Sector}
use Rattle.ipl_format.specs.Record.{Record, SpellsLog}
use Rattle.ipl_format.specs.Commit.{SpellsCommit}
use Rattle.ipl_format.specs.Mark.{SpellsMark}
use Rattle.ipl_format.specs.Header.{SpellsDataHeader, SpellsStatusHeader}
use Rattle.ipl_format.specs.Page.{Slots, IsPage, IsCutInto, page_text, piece_of}
use Rattle.ipl_format.specs.Place.{base_sector_of}
use Rattle.ipl_meaning.specs.Chart.{Chart, IsChosen, IsDataHeader, IsStatusHeader, IsLive}

-- ---- what is laid out

-- a live log sector: where it stands, and its records
pub record Entry : Type 0 where
  pub place : ℕ
  pub number : ℕ
  pub sector : Sector
  pub records : List Record

-- one unit: its place and header, the number of base sectors of each page, its live log sectors
pub record Shape : Type 0 where
  pub home : ℕ
  pub head : Sector
  pub pieces : List ℕ
  -- by rising serial
  pub log : List Entry

-- the status place and its header, the committed numbers, how many units there are, the units
pub record Layout : Type 0 where
  pub status : ℕ
  pub head : Sector
  pub committed : ℕ → Bool
  pub count : ℕ
  pub units : ℕ → Shape

-- ---- the log of a unit

-- the one log sector's serial is below the other's
abbrev pub IsBelow : Entry → Entry → Type 0
IsBelow e f = e.sector.serial < f.sector.serial

-- each entry's serial is below those of all later ones
abbrev pub AllRise : List Entry → Type 0
AllRise log = AllPairs IsBelow log

-- the entry's sector is live for the unit, and has these records
pub record IsEntry (c : Chart) (places u home generation : ℕ) (e : Entry) : Type 0 where
  pub live : IsLive c places u home generation e.place e.number e.sector
  pub records : SpellsLog e.sector.version e.sector.payload e.records

-- the entry stands at home, or at one of these spots
abbrev pub IsHomeOrListed : List (ℕ × ℕ) → ℕ → Entry → Type 0
IsHomeOrListed spots home e = e.place ≢ home → Contains spots (e.place, e.number)

-- the entry stands at home, or in one of these places
abbrev pub IsInOverflow : List ℕ → ℕ → Entry → Type 0
IsInOverflow overflows home e = e.place ≢ home → Contains overflows e.place

-- the log has exactly the unit's live sectors
pub record IsLog (c : Chart) (places u home generation : ℕ) (log : List Entry) : Type 0 where
  pub each : All (IsEntry c places u home generation) log
  pub all : (p s : ℕ) (sector : Sector) → IsLive c places u home generation p s sector
      → (e : Entry) × Contains log e × (e.place ≡ p) × (e.number ≡ s)
  pub rising : AllRise log
  -- at most 16 of them stand elsewhere: these spots are all of theirs
  pub spots : List (ℕ × ℕ)
  pub few : length spots ≤ OVERFLOW_SECTORS
  pub listed : All (IsHomeOrListed spots home) log

-- the header of the unit that counts stands at its home and says that there are so many units, and
-- the log is its log
pub record IsUnit (c : Chart) (places count u : ℕ) (it : Shape) : Type 0 where
  pub chosen : IsChosen c places (IsDataHeader u) it.home it.head
  pub counts : SpellsDataHeader it.head.version count it.pieces it.head.payload
  pub log : IsLog c places u it.home it.head.generation it.log

-- ---- committed numbers

-- a commit sector of the status place, of its header's generation
pub record IsCommitSector (c : Chart) (status generation s : ℕ) (sector : Sector) : Type 0 where
  pub here : c status s ≡ Some sector
  pub kind : sector.kind ≡ 6
  pub of_generation : sector.generation ≡ generation
  pub where_it_is : (1 ≤ s) × (s < SECTORS)

-- the number is in one of them
pub record IsCommitted (c : Chart) (status generation tid : ℕ) : Type 0 where
  pub number : ℕ
  pub sector : Sector
  pub is : IsCommitSector c status generation number sector
  pub numbers : List ℕ
  pub spelled : SpellsCommit sector.payload numbers
  pub has : Contains numbers tid

-- each of them spells its numbers, and the set has exactly these
pub record IsStatus (c : Chart) (status generation : ℕ) (committed : ℕ → Bool) : Type 0 where
  pub spelled : (s : ℕ) (sector : Sector) → IsCommitSector c status generation s sector
      → (numbers : List ℕ) × SpellsCommit sector.payload numbers
  pub told : (tid : ℕ) → IsTrue (committed tid) → IsCommitted c status generation tid
  pub all_told : (tid : ℕ) → IsCommitted c status generation tid → IsTrue (committed tid)

-- ---- marks

-- a mark of the status place, of its header's generation
pub record IsMark (c : Chart) (status generation s : ℕ) (sector : Sector) : Type 0 where
  pub here : c status s ≡ Some sector
  pub kind : sector.kind ≡ 7
  pub of_generation : sector.generation ≡ generation
  pub where_it_is : (1 ≤ s) × (s < SECTORS)

-- each of them is one of so many units
abbrev pub AreMarks : Chart → ℕ → ℕ → ℕ → Type 0
AreMarks c status generation count = (s : ℕ) (sector : Sector) → IsMark c status generation s sector
    → SpellsMark count sector.payload

-- there is none
abbrev pub HasNoMark : Chart → ℕ → ℕ → Type 0
HasNoMark c status generation = (s : ℕ) (sector : Sector) → ¬ IsMark c status generation s sector

-- ---- all of it

-- the chart is laid out so: all that it takes to stand for a map, but for the base pages
pub record Laid (places : ℕ) (c : Chart) (it : Layout) : Type 0 where
  pub least : LEAST_PLACES ≤ places
  pub most : places ≤ MOST_PLACES
  pub count : KeepsUnits places it.count
  pub chosen : IsChosen c places IsStatusHeader it.status it.head
  pub counts : SpellsStatusHeader it.head.version places it.count it.head.payload
  pub commits : IsStatus c it.status it.head.generation it.committed
  pub marks : AreMarks c it.status it.head.generation it.count
  pub each : (u : ℕ) → u < it.count → IsUnit c places it.count u (it.units u)
  -- at most two overflow places hold live sectors: these are all
  pub overflows : List ℕ
  pub two : length overflows ≤ OVERFLOW_PLACES
  pub in_overflow : (u : ℕ) → u < it.count → All (IsInOverflow overflows (it.units u).home) (it.units u).log

-- the sector is live for the unit, as it is laid out
abbrev pub IsLiveIn : Chart → ℕ → Layout → ℕ → ℕ → ℕ → Sector → Type 0
IsLiveIn c places it u p s sector = IsLive c places u (it.units u).home (it.units u).head.generation p s sector

-- ---- base pages

-- a base sector: the i-th piece of the text of a page, in a version
abbrev pub base_sector : ℕ → ℕ → ℕ → ℕ → ℕ → List ℕ → Sector
base_sector version u generation page i text =
    record {
      kind = 4;
      version = version;
      unit = u;
      generation = generation;
      serial = page * PAGE_SECTORS + i;
      payload = piece_of text i;
    }

-- the page's base sectors read well: they hold the text of this page, in the header's version, cut
-- into as many pieces as the header says
pub record ReadsWell (c : Chart) (u : ℕ) (it : Shape) (page : ℕ) (slots : Slots) : Type 0 where
  pub fits : IsPage it.head.version slots
  pub cut : IsCutInto (page_text it.head.version slots) (slice_index it.pieces page)
  pub here : (i : ℕ) → i < slice_index it.pieces page
      → c it.home (base_sector_of page i)
      ≡ Some (base_sector it.head.version u it.head.generation page i
      (page_text it.head.version slots))

-- all the records of the unit's live sectors, in their order
abbrev pub records_of : List Entry → List Record
records_of log = flat_map (λ e. e.records) log
