-- Laws of the formats: what is spelled says what was spelled, and there is no other spelling.
use Rattle.std.specs.Prelude.{ℕ, ◌≡◌, ◌≢◌, ◌↔◌, ◌<◌, ◌≤◌, ◌+◌, ◌*◌, ◌^◌, nat_le, if◌then◌else◌, List, [], ◌++◌, length, Some, None, All}
use Rattle.chip_trait.specs.Story.{blank}
use Rattle.ipl_base.specs.declared.limits.TheConstants.{MOST_PLACES, RECORD_HEAD, SLOTS, VERSION}
use Rattle.ipl_format.specs.Numbers.{IsBytes}
use Rattle.ipl_format.specs.Sector.{Sector, IsSector, sector_bytes, sector_in}
use Rattle.ipl_format.specs.Record.{Record, IsRecord, SpellsLog, record_bytes, value_of}
use Rattle.ipl_format.specs.Commit.{SpellsCommit}
use Rattle.ipl_format.specs.Mark.{SpellsMark, has_unit}
use Rattle.ipl_format.specs.Header.{SpellsDataHeader, SpellsStatusHeader, SpellsOverflowHeader, erases_said}
use Rattle.ipl_format.specs.Page.{Slots, IsShort, IsPage, SpellsPage, IsCutInto, empty_page, piece_of}

-- ---- sectors

-- a sector's spelling has 512 bytes, and says that sector
abbrev pub SectorsAreSaid : Type 0
SectorsAreSaid = (s : Sector) → IsSector s → (length (sector_bytes s) ≡ 512) × (sector_in (sector_bytes s) ≡ Some s)

-- 512 bytes that say a sector are its spelling: there is no other
abbrev pub SectorsSpellOnce : Type 0
SectorsSpellOnce = (bytes : List ℕ) (s : Sector) → length bytes ≡ 512 → IsBytes bytes → sector_in bytes ≡ Some s
    → IsSector s × (bytes ≡ sector_bytes s)

-- an erased sector says nothing
abbrev pub BlankSaysNothing : Type 0
BlankSaysNothing = sector_in blank ≡ None

-- ---- log records

-- a record has 12 bytes and its value's, in each version
abbrev pub RecordsHaveSizes : Type 0
RecordsHaveSizes =
    (version : ℕ) (r : Record)
    → length (record_bytes version r) ≡ RECORD_HEAD + length (value_of r.change)

-- no record's spelling begins another's
abbrev pub RecordsEndThemselves : Type 0
RecordsEndThemselves = (version : ℕ) (r s : Record) (x y : List ℕ) → IsRecord version r
    → IsRecord version s
    → record_bytes version r ++ x ≡ record_bytes version s ++ y
    → (r ≡ s) × (x ≡ y)

-- a record of each version is one of the version that is written
abbrev pub RecordsStay : Type 0
RecordsStay = (version : ℕ) (r : Record) → IsRecord version r → IsRecord VERSION r

-- a payload is one list of records
abbrev pub LogsSpellOnce : Type 0
LogsSpellOnce = (version : ℕ) (payload : List ℕ) (a b : List Record) → SpellsLog version payload a
    → SpellsLog version payload b → a ≡ b

-- two lists of records, one after the other
abbrev pub LogsJoin : Type 0
LogsJoin = (version : ℕ) (x y : List ℕ) (a b : List Record) → SpellsLog version x a
    → SpellsLog version y b
    → SpellsLog version (x ++ y) (a ++ b)

-- ---- commit payloads

-- a payload is one list of numbers
abbrev pub CommitsSpellOnce : Type 0
CommitsSpellOnce = (payload : List ℕ) (a b : List ℕ) → SpellsCommit payload a → SpellsCommit payload b → a ≡ b

-- each number has eight bytes
abbrev pub CommitsHaveSizes : Type 0
CommitsHaveSizes = (payload : List ℕ) (numbers : List ℕ) → SpellsCommit payload numbers → length payload ≡ 8 * length numbers

-- ---- marks

-- of these units there is one mark
abbrev pub MarksSpellOnce : Type 0
MarksSpellOnce = (units : ℕ) (a b : List ℕ) → SpellsMark units a → SpellsMark units b
    → ((u : ℕ) → u < units → has_unit a u ≡ has_unit b u) → a ≡ b

-- ---- headers

-- a data header is one header
pub record AreOneHeader (units u : ℕ) (pieces q : List ℕ) (carried k erases e : ℕ) : Type 0 where
  pub same_units : units ≡ u
  pub same_pieces : pieces ≡ q
  pub same_carried : carried ≡ k
  pub same_erases : erases ≡ e

abbrev pub DataHeadersSpellOnce : Type 0
DataHeadersSpellOnce = (version : ℕ) (payload : List ℕ) (units u : ℕ) (pieces q : List ℕ)
    (one : SpellsDataHeader version units pieces payload)
    (other : SpellsDataHeader version u q payload)
    → AreOneHeader units u pieces q one.carried other.carried one.erases other.erases

-- how many bytes an erase count takes
abbrev pub erases_size : ℕ → ℕ
erases_size version = if nat_le 3 version then 4 else 0

-- each data header has 20 bytes, and from version 3 on 24
abbrev pub DataHeadersHaveSizes : Type 0
DataHeadersHaveSizes = (version : ℕ) (payload : List ℕ) (units : ℕ) (pieces : List ℕ)
    → SpellsDataHeader version units pieces payload → length payload ≡ 20 + erases_size version

-- two readings of a status header are one
pub record AreOneStatus (units u erases e : ℕ) (retired r : List ℕ) : Type 0 where
  pub same_units : units ≡ u
  pub same_erases : erases ≡ e
  pub same_retired : retired ≡ r

-- a status header is one header
abbrev pub StatusHeadersSpellOnce : Type 0
StatusHeadersSpellOnce = (version places : ℕ) (payload : List ℕ) (units u : ℕ) → places ≤ MOST_PLACES
    → (one : SpellsStatusHeader version places units payload)
    → (other : SpellsStatusHeader version places u payload)
    → AreOneStatus units u one.erases other.erases one.retired other.retired

-- it has 4 bytes, and from version 3 on 9 and 4 for each retired place
abbrev pub StatusHeadersHaveSizes : Type 0
StatusHeadersHaveSizes = (version places : ℕ) (payload : List ℕ) (units : ℕ)
    (spelled : SpellsStatusHeader version places units payload)
    → length payload ≡ 4 + (if nat_le 3 version then 5 + 4 * length spelled.retired else 0)

-- an overflow header is one header
abbrev pub OverflowHeadersSpellOnce : Type 0
OverflowHeadersSpellOnce = (version : ℕ) (payload : List ℕ) (units u : ℕ)
    (one : SpellsOverflowHeader version units payload)
    (other : SpellsOverflowHeader version u payload)
    → (units ≡ u) × (one.erases ≡ other.erases)

-- it has 4 bytes, and from version 3 on 8
abbrev pub OverflowHeadersHaveSizes : Type 0
OverflowHeadersHaveSizes = (version : ℕ) (payload : List ℕ) (units : ℕ)
    → SpellsOverflowHeader version units payload → length payload ≡ 4 + erases_size version

-- ---- erase counts

-- the place of a header counts as erased as often as the header says
abbrev pub DataHeadersSayErases : Type 0
DataHeadersSayErases = (head : Sector) (units : ℕ) (pieces : List ℕ) → head.kind ≡ 1
    → (spelled : SpellsDataHeader head.version units pieces head.payload)
    → erases_said (Some head) ≡ spelled.erases

abbrev pub StatusHeadersSayErases : Type 0
StatusHeadersSayErases = (head : Sector) (places units : ℕ) → head.kind ≡ 2
    → (spelled : SpellsStatusHeader head.version places units head.payload)
    → erases_said (Some head) ≡ spelled.erases

abbrev pub OverflowHeadersSayErases : Type 0
OverflowHeadersSayErases = (head : Sector) (units : ℕ) → head.kind ≡ 3
    → (spelled : SpellsOverflowHeader head.version units head.payload)
    → erases_said (Some head) ≡ spelled.erases

-- a count has 32 bits
abbrev pub ErasesFit : Type 0
ErasesFit = (head : Sector) → IsSector head → erases_said (Some head) < 2 ^ 32

-- ---- pages

-- bytes are the text of one page
abbrev pub PagesSpellOnce : Type 0
PagesSpellOnce = (version : ℕ) (bytes : List ℕ) (p q : Slots) → SpellsPage version bytes p
    → SpellsPage version bytes q → p ≡ q

-- a page with nothing has no text
abbrev pub EmptyPagesSpellNothing : Type 0
EmptyPagesSpellNothing = (version : ℕ) → SpellsPage version [] empty_page

-- a page of version 1 is one of each version
abbrev pub PagesGrow : Type 0
PagesGrow = (version : ℕ) (page : Slots) → IsPage 1 page → IsPage version page

-- all versions but the first have the same pages, and the same texts of them
abbrev pub LaterPagesAreAlike : Type 0
LaterPagesAreAlike = (version : ℕ) (bytes : List ℕ) (page : Slots) → version ≢ 1
    → SpellsPage VERSION bytes page ↔ SpellsPage version bytes page

-- in version 1 no page is ever full
abbrev pub ShortPagesHaveRoom : Type 0
ShortPagesHaveRoom = (page : Slots) → length page ≡ SLOTS → All (IsShort 1) page → IsPage 1 page

-- the pieces of a text say what it is
abbrev pub PiecesSayOnce : Type 0
PiecesSayOnce = (n : ℕ) (a b : List ℕ) → IsCutInto a n → IsCutInto b n → ((i : ℕ) → i < n → piece_of a i ≡ piece_of b i) → a ≡ b
