-- What a clean close leaves.
use Rattle.std.specs.Prelude.{ℕ, ◌≡◌, ◌↔◌, ◌<◌, ◌≤◌, ◌+◌, List, ◌∷◌, length, slice_index, Some, Result, OnOk, OnErr}
use Rattle.chip_trait.specs.declared.event.Event.TheVariants.{Program, Barrier}
use Rattle.chip_trait.specs.Image.{IsClosed}
use Rattle.chip_trait.specs.Story.{Story, Contents, blank, held}
use Rattle.chip_trait.specs.Told.{History, Told}
use Rattle.ipl_base.specs.declared.limits.TheConstants.{SECTORS, FIRST_LOG_SECTOR}
use Rattle.ipl_base.specs.declared.fault.ChipFault.{ChipFault}
use Rattle.ipl_format.specs.Sector.{Sector, sector_in}
use Rattle.ipl_meaning.specs.Legible.{Legible}
use Rattle.ipl_meaning.specs.Agrees.{Agrees}
use Rattle.ipl_meaning.specs.Chart.{chart_of}
use Rattle.ipl_meaning.specs.Layout.{Layout, Laid}
use Rattle.ipl_meaning.specs.Marks.{IsMarked, AreUnused}
use Rattle.ipl_meaning.specs.Rests.{EachStands, StoryRests}
use Rattle.ipl_meaning.specs.Tables.{Tables, written_of, UNKNOWN_LOGS, IsCountedClean}
use Rattle.unit_io.specs.Leads.{IsSteady}
use Rattle.unit_io.specs.Steps.{Settled, NoOtherEnd, EndsWith, OutcomeWhere, TidyWork}
use Rattle.txn_status.specs.Status.{after_mark}
use Rattle.selective_merge.specs.declared.parts.Parts.{Parts}

-- at the units' places exactly those sectors are marked that the tables count as clean
abbrev pub MarksWhatCounts : ℕ → Tables → Contents → Type 0
MarksWhatCounts places t x = (u n : ℕ) → u < length t.places.current
    → IsMarked places x (slice_index t.places.current u) n ↔ IsCountedClean t (slice_index t.places.current u) n

-- Of a unit at this place: the tables have that; and where something is known of the unit, each log sector there that holds
-- 512 bytes FF is marked.
pub record MarksUnit (places : ℕ) (t : Tables) (x : Contents) (u p : ℕ) : Type 0 where
  pub low : u < length t.places.current
  pub current : slice_index t.places.current u ≡ p
  pub blanks : written_of t u < UNKNOWN_LOGS → (n : ℕ) → FIRST_LOG_SECTOR ≤ n → n < SECTORS → x p n ≡ blank → IsMarked places x p n

-- so it is of each unit, as the contents are laid out
abbrev pub MarksUnits : ℕ → Tables → Contents → Type 0
MarksUnits places t x = (it : Layout) → Laid places (chart_of x) it → (u : ℕ) → u < it.count
    → MarksUnit places t x u (it.units u).home

-- the story rests on the map, and exactly that is marked
pub record RestsMarked (places : ℕ) (m : Legible) (t : Tables) (k : History) : Type 0 where
  pub rests : StoryRests places m k
  pub marks : MarksWhatCounts places t (held k.start k.story)
  pub units : MarksUnits places t (held k.start k.story)

-- what the tables count as clean is unused
abbrev pub CountsUnused : Tables → History → Type 0
CountsUnused t h = AreUnused (IsCountedClean t) h.story

-- At each moment a power cut leaves the map; and marks are kept, where what the tables count as clean is unused. Done, the story
-- rests on the map, and exactly that is marked. It fails only where a write failed.
abbrev pub Closes : ℕ → Legible → Tables → Tables → Result (Unit {0}) ChipFault → History → Told → Told → Type 0
Closes places m t after result h old new =
    OutcomeWhere (CountsUnused t h) (EachStands places m)
    (TidyWork (IsCountedClean t) (IsCountedClean after) (Settled result old new)) (Settled result old new)
    (EndsWith result (λ v k. RestsMarked places m after k) NoOtherEnd) h old new

-- over a story that rests on a map and with which the tables agree
abbrev pub ClosesInSteps : ℕ → Tables → Tables → Told → Result (Unit {0}) ChipFault → Told → Type 0
ClosesInSteps places t after old result new = (m : Legible) (it : Layout) (h : History)
    → IsSteady h old → StoryRests places m h → Agrees places h it t → Closes places m t after result h old new

-- and in which nothing is open
abbrev pub ClosesClosed : ℕ → Tables → Tables → Told → Result (Unit {0}) ChipFault → Told → Type 0
ClosesClosed places t after old result new = (m : Legible) (it : Layout) (h : History)
    → IsSteady h old → StoryRests places m h → IsClosed h.story → Agrees places h it t → Closes places m t after result h old new

-- the last two events are the program of a mark and a barrier
pub record EndsWithMark (added : Story) : Type 0 where
  pub place : ℕ
  pub number : ℕ
  pub bytes : List ℕ
  pub mark : Sector
  pub spelled : sector_in bytes ≡ Some mark
  pub kind : mark.kind ≡ 7
  pub before : Story
  pub events : added ≡ Barrier ∷ Program place number bytes ∷ before

-- Done, the status has one sector less that is known clean; and where it failed, the status is as it was. One number at
-- most was drawn, and all else is as it was.
pub record MarksOrStays (result : Result (Unit {0}) ChipFault) (old new : Parts) : Type 0 where
  pub marked : OnOk result (new.status ≡ after_mark old.status)
  pub same : OnErr result (new.status ≡ old.status)
  pub rest : new ≡ record old { status = new.status; counter = new.counter }
  pub drawn : (old.counter ≤ new.counter) × (new.counter ≤ old.counter + 1)
