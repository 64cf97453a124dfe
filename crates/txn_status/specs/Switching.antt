-- What a new status place makes of a chart, of the tables, and of what a power cut leaves.
use Rattle.std.specs.Prelude.{ℕ, ◌≡◌, ◌<◌, ◌≤◌, ◌+◌, List, length, slice_index, Some, None, All, Contains, Result, is_ok}
use Rattle.chip_trait.specs.Lawful.{Clean, age}
use Rattle.chip_trait.specs.Told.{History, Told}
use Rattle.ipl_base.specs.declared.fault.ChipFault.{ChipFault}
use Rattle.ipl_format.specs.Header.{SpellsStatusHeader, erases_said}
use Rattle.ipl_format.specs.Sector.{Sector}
use Rattle.ipl_meaning.specs.Legible.{Legible}
use Rattle.ipl_meaning.specs.Chart.{Chart}
use Rattle.ipl_meaning.specs.Layout.{Layout, HasNoMark}
use Rattle.ipl_meaning.specs.Stands.{Says}
use Rattle.ipl_meaning.specs.Rests.{now, EachStands, StoryRests}
use Rattle.ipl_meaning.specs.Steps.{KeepsPages, KeepsNumbers, with_status, IsIdle}
use Rattle.ipl_meaning.specs.Tables.{IsFree, StatusTable, Tables, overflow_places}
use Rattle.ipl_meaning.specs.TableSteps.{IsRenewed}
use Rattle.ipl_meaning.specs.Mirrors.{Mirrors}
use Rattle.ipl_meaning.specs.Agrees.{Agrees}
use Rattle.unit_io.specs.Leads.{IsSteady}
use Rattle.unit_io.specs.Spots.{Programs}
use Rattle.unit_io.specs.Steps.{Settled, NoOtherEnd, EndsWith, Outcome, RestsAgreeing}
use Rattle.number_set.specs.Numbers.{among}
use Rattle.unit_layout.specs.Retired.{retired_in}
use Rattle.txn_status.specs.Commits.{commit_sector, part_of}
use Rattle.txn_status.specs.Status.{parts_of, switched_to}
use Rattle.txn_status.specs.Adding.{HasStatus}

-- ---- what is written

-- the first n parts of the numbers stand in commit sectors of the place, from sector 1 on and with
-- rising serials, and elsewhere the chart is as it was
pub record HasParts (p generation serial : ℕ) (numbers : List ℕ) (n : ℕ)
    (c y : Chart) : Type 0 where
  pub here : (i : ℕ) → i < n
      → y p (1 + i) ≡ Some (commit_sector generation (serial + i) (part_of numbers i))
  pub others : (q s : ℕ) → (q ≡ p → 1 ≤ s → s < 1 + n → ⊥) → y q s ≡ c q s

-- the spots of the first n parts
abbrev pub IsPartSpot : ℕ → ℕ → Type 0
IsPartSpot n s = (1 ≤ s) × (s < 1 + n)

-- these spots, and that of the header
abbrev pub IsStatusSpot : ℕ → ℕ → Type 0
IsStatusSpot n s = s < 1 + n

-- a status header for so many units, of a place that was erased so often, that lists these places as
-- retired
pub record IsStatusHead (places units erases : ℕ) (retired : List ℕ) (generation : ℕ) (head : Sector)
    : Type 0 where
  pub kind : head.kind ≡ 2
  pub generation_is : head.generation ≡ generation
  pub serial : head.serial ≡ generation
  pub counts : SpellsStatusHeader head.version places units head.payload
  pub says : erases_said (Some head) ≡ erases
  pub lists : counts.retired ≡ retired

-- the header of the place lists exactly these places as retired
abbrev pub ListsAt : ℕ → List ℕ → Chart → Type 0
ListsAt p retired y = (head : Sector) × (y p 0 ≡ Some head)
    × (retired_in head.version head.payload ≡ retired)

-- ---- tables

-- the place was taken for this: it isn't free, nothing that counts stands there, and nothing checks
pub record IsTaken (places : ℕ) (c : Chart) (it : Layout) (t : Tables) (p : ℕ) : Type 0 where
  pub idle : IsIdle places c it p
  pub not_overflow : ¬ Contains (overflow_places t) p
  pub in_use : ¬ IsFree t.places p
  pub bare : (s : ℕ) → c p s ≡ None

-- the tables have so many units, and count so many erases of the place
pub record HasCounts (t : Tables) (p units erases : ℕ) : Type 0 where
  pub units_are : length t.places.current ≡ units
  pub erases_are : slice_index t.places.erases p ≡ erases

-- the tables have what such a header says: these counts, and these places retired
pub record FitsHeader (t : Tables) (p units erases : ℕ) (retired : List ℕ) : Type 0 where
  pub counts : HasCounts t p units erases
  pub retired_are : t.places.retired ≡ retired

-- the numbers may be kept: they were drawn, and none is of an open session
pub record MayKeep (t : Tables) (kept : List ℕ) : Type 0 where
  pub below : All (λ n. n < t.next) kept
  pub waits : All (λ n. ¬ Contains kept n) t.active

-- the tables with the new status, and with as many numbers drawn as sectors were written
pub record IsSwitched (t after : Tables) (p generation : ℕ) (kept : List ℕ) : Type 0 where
  pub renewed : IsRenewed t after p generation (1 + parts_of kept)
  pub has : HasStatus after (switched_to t.status.most p generation kept) (generation + 1 + parts_of kept)

-- ---- what the chip holds

-- The header says how often the tables have it that its place was erased, and lists exactly the places
-- that are retired in them. The tables with the new status mirror the new chart, and no mark stands in
-- the new status place; and where of the numbers in live log sectors exactly the committed ones are
-- kept, the new chart has the pages of the old one.
pub record Switched (places : ℕ) (c y : Chart) (it : Layout) (after : Tables)
    (p generation : ℕ) (kept : List ℕ) : Type 0 where
  pub head : Sector
  pub is_head : IsStatusHead places it.count (slice_index after.places.erases p) after.places.retired
      generation head
  pub mirrors : Mirrors places y (with_status it p head (among kept)) after
  pub unmarked : HasNoMark y p head.generation
  pub pages : KeepsNumbers it (among kept)
      → KeepsPages places c it y (with_status it p head (among kept))

-- whatever tables of this status and counter, with these counts and these places retired, mirrored the
-- old chart
abbrev pub Switches : ℕ → ℕ → ℕ → List ℕ → StatusTable → ℕ → ℕ → List ℕ → Chart → Chart → Type 0
Switches places units erases retired status next p kept c y = (it : Layout) (t after : Tables)
    → Mirrors places c it t → HasStatus t status next → FitsHeader t p units erases retired
    → IsTaken places c it t p → MayKeep t kept → IsSwitched t after p next kept
    → Switched places c y it after p next kept

-- ---- what a power cut leaves

-- the tables agree with a chip whose story rests on a map, each sector of the place is clean, and the
-- place may take these numbers
pub record IsReadyToSwitch (places : ℕ) (h : History) (it : Layout) (t : Tables) (m : Legible)
    (p : ℕ) (kept : List ℕ) : Type 0 where
  pub rests : StoryRests places m h
  pub agrees : Agrees places h it t
  pub says : Says places (now h) it m
  pub taken : IsTaken places (now h) it t p
  pub clean : (s : ℕ) → age h.story p s ≡ Clean
  pub may : MayKeep t kept
  pub keeps : KeepsNumbers it (among kept)

-- the story rests on the same map, the header says how often its place was erased and which places are
-- retired, and the tables with the new status agree
pub record RestsSwitched (places : ℕ) (m : Legible) (it : Layout) (after : Tables)
    (p generation : ℕ) (kept : List ℕ) (k : History) : Type 0 where
  pub head : Sector
  pub is_head : IsStatusHead places it.count (slice_index after.places.erases p) after.places.retired
      generation head
  pub stands : RestsAgreeing places m (with_status it p head (among kept)) after k

-- At each moment a power cut leaves the map, and done, the story rests on it and the tables with
-- the new status agree. Sectors of the place are programmed, each once. It fails only where a write
-- failed.
abbrev pub StepsSwitching : ℕ → Layout → Tables → Legible → ℕ → ℕ → List ℕ
    → History → Result (Unit {0}) ChipFault → Told → Told → Type 0
StepsSwitching places it after m p generation kept h result old new =
    Outcome (EachStands places m) (Programs p (IsStatusSpot (parts_of kept)) (is_ok result))
    (Settled result old new)
    (EndsWith result (λ done k. RestsSwitched places m it after p generation kept k) NoOtherEnd)
    h old new

-- whatever layout, tables and map it began with
abbrev pub SwitchesInSteps : ℕ → ℕ → ℕ → List ℕ → StatusTable → ℕ → ℕ → List ℕ
    → Result (Unit {0}) ChipFault → Told → Told → Type 0
SwitchesInSteps places units erases retired status next p kept result old new =
    (h : History) (it : Layout) (t after : Tables) (m : Legible)
    → IsSteady h old → HasStatus t status next → FitsHeader t p units erases retired
    → IsReadyToSwitch places h it t m p kept
    → IsSwitched t after p next kept
    → StepsSwitching places it after m p next kept h result old new
