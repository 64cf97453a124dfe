-- Where a unit is moved from, what is read of it, and why it isn't merged.
use Rattle.std.specs.Prelude.{ℕ, ◌≡◌, ◌≢◌, ◌⊎◌, ◌+◌, ◌==◌, ◌&&◌, Bool, List, length, Result, Ok, MatchResult, slice_index}
use Rattle.ipl_base.specs.declared.limits.TheConstants.{PAGES}
use Rattle.chip_trait.specs.Told.{Told, Rose}
use Rattle.ipl_base.specs.declared.fault.ChipFault.{ChipFault}
use Rattle.ipl_base.specs.declared.fault.ChipFault.TheVariants.{ReadFault, Stopped, Damaged, Malformed, WornOut}
use Rattle.ipl_format.specs.Record.{Record}
use Rattle.ipl_meaning.specs.Layout.{Shape, records_of}
use Rattle.ipl_meaning.specs.Tables.{Places, OverflowLists, Tables}
use Rattle.unit_directory.specs.Free.{spares_of}
use Rattle.unit_log.specs.Live.{OfMirrored}
use Rattle.unit_log.specs.Looks.{IsLogRead}
use Rattle.selective_merge.specs.Packs.{among}
use Rattle.selective_merge.specs.Pages.{IsBaseSpotBelow, IsFew}
use Rattle.selective_merge.specs.Moved.{Source}
use Rattle.selective_merge.specs.declared.home.HomeHeader.{HomeHeader}

-- the source of a move from there, with these committed numbers and log records
abbrev pub from_home : HomeHeader → List ℕ → List Record → Source
from_home home numbers records = record {
  place = home.place;
  version = home.head.version;
  unit = home.head.unit;
  generation = home.head.generation;
  pieces = home.pieces;
  committed = among numbers;
  records = records;
}

-- the record counts: it is of this page, and its number is in the set
abbrev pub is_counted : (ℕ → Bool) → ℕ → Record → Bool
is_counted committed page r = (r.page == page) && committed r.tid

-- ---- what is read

-- the unit stands there, with this header and these records
pub record IsHomeOf (home : HomeHeader) (it : Shape) (u : ℕ) (log : List Record) : Type 0 where
  pub place : home.place ≡ it.home
  pub version : home.head.version ≡ it.head.version
  pub unit : home.head.unit ≡ u
  pub generation : home.head.generation ≡ it.head.generation
  pub pieces : home.pieces ≡ it.pieces
  pub log_is : log ≡ records_of it.log

-- where tables with this directory and these overflow lists mirror what the chip holds, this is where
-- the unit stands, unless a read failed
abbrev pub LearnsHome : Places → OverflowLists → ℕ → Told → Result (Unit {0}) ChipFault → HomeHeader → List Record
    → Type 0
LearnsHome directory overflow u told result home log = OfMirrored told directory overflow
    (λ it. MatchResult result (λ done. IsHomeOf home (it.units u) u log) (λ fault. fault ≡ ReadFault))

-- the tables have the unit there, and no page of it takes more than 16 sectors
pub record IsHomeBy (t : Tables) (u : ℕ) (home : HomeHeader) : Type 0 where
  pub place : home.place ≡ slice_index t.places.current u
  pub few : IsFew home.pieces

-- what was read of the unit is this, by tables that are still so
pub record IsLearnt (t : Tables) (u : ℕ) (told : Told) (home : HomeHeader) (log : List Record) : Type 0 where
  pub learns : LearnsHome t.places t.overflow u told (Ok tt) home log
  pub stands : IsHomeBy t u home

-- ---- causes

-- why a unit isn't moved from this place to one that was taken, whatever the chip tells: a read or a
-- write failed, and that count rose; or a base sector of the place is at fault, and where it is damaged
-- its sums differ; or a page has no room, which is said of sector 0
abbrev pub MoveCause : ℕ → ChipFault → Told → Told → Type 0
MoveCause place ReadFault old new = Rose old.read_faults new.read_faults
MoveCause place Stopped old new = Rose old.write_faults new.write_faults
MoveCause place (Damaged p s stored computed) old new =
    (p ≡ place) × IsBaseSpotBelow PAGES s × (stored ≢ computed)
MoveCause place (Malformed p s) old new = (p ≡ place) × (IsBaseSpotBelow PAGES s ⊎ (s ≡ 0))
MoveCause place (WornOut n) old new = ⊥

-- So many places were found worn: one more than are spare, all of which are retired then; and the
-- count of such erases rose.
abbrev pub WearCause : Places → ℕ → Told → Told → Type 0
WearCause after n old new = (n ≡ 1 + spares_of after)
    × (length after.retired ≡ spares_of after) × Rose old.worn_erases new.worn_erases

-- why it isn't merged: this, or its header or a sector where its log may be read is at fault, or too
-- many places are worn, by the directory then
abbrev pub MergeCause : Places → ℕ → List (ℕ × ℕ) → ChipFault → Told → Told → Type 0
MergeCause after place spots ReadFault old new = Rose old.read_faults new.read_faults
MergeCause after place spots Stopped old new = Rose old.write_faults new.write_faults
MergeCause after place spots (Damaged p s stored computed) old new =
    (p ≡ place) × IsBaseSpotBelow PAGES s × (stored ≢ computed)
MergeCause after place spots (Malformed p s) old new =
    ((p ≡ place) × IsBaseSpotBelow PAGES s) ⊎ IsLogRead place spots p s
MergeCause after place spots (WornOut n) old new = WearCause after n old new
