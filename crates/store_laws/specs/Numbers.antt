-- The numbers of sessions that are added to the committed ones, between two barriers.
use Rattle.std.specs.Prelude.{ℕ, ◌≡◌, ◌+◌, [], List, All, Contains, Result, filter}
use Rattle.chip_trait.specs.Told.{History, Told}
use Rattle.ipl_base.specs.Places.{home_of}
use Rattle.ipl_base.specs.declared.fault.ChipFault.{ChipFault}
use Rattle.record_locks.specs.Held.{SessionSlots, numbers_in}
use Rattle.ipl_meaning.specs.Chart.{Chart}
use Rattle.ipl_meaning.specs.Legible.{Legible}
use Rattle.ipl_meaning.specs.Layout.{Layout}
use Rattle.ipl_meaning.specs.Stands.{Says}
use Rattle.ipl_meaning.specs.Rests.{now, EachStandsEither, StoryRests}
use Rattle.ipl_meaning.specs.Mirrors.{Mirrors}
use Rattle.ipl_meaning.specs.Tables.{StatusTable, Tables}
use Rattle.unit_io.specs.Leads.{IsSteady}
use Rattle.unit_io.specs.Steps.{NoOtherEnd, Steps, RestsAgreeing}
use Rattle.txn_status.specs.Adding.{HasStatus, with_added, layout_added, Added}
use Rattle.store_laws.specs.Frames.{Frames, logs_of}
use Rattle.store_laws.specs.Fits.{is_none_of}

-- ---- before it

-- the page of the name has no records in memory
abbrev pub IsOut : Frames → ℕ → Type 0
IsOut frames n = logs_of frames (home_of n).unit (home_of n).page ≡ []

-- ---- what it leaves

-- the tables once the numbers are committed, with these sessions open still: one number was drawn
abbrev pub added_to : Tables → List ℕ → SessionSlots → Tables
added_to t tids slots = with_added t tids (1 + t.next) (numbers_in slots)

-- the numbers of the open sessions without these
abbrev pub others_of : Tables → List ℕ → List ℕ
others_of t tids = filter (is_none_of tids) t.active

-- Whatever tables of this status and this counter mirrored the old chart, with the numbers among
-- those of open sessions: with the numbers committed they mirror the new one, and its pages are
-- kept, which the old chart has with the records of the numbers.
abbrev pub AddsNumbers : ℕ → StatusTable → ℕ → List ℕ → Chart → Chart → Type 0
AddsNumbers places status next tids c y = (it : Layout) (t : Tables) → Mirrors places c it t
    → HasStatus t status next → All (Contains t.active) tids
    → Added places c y it t tids (1 + next) (others_of t tids)

-- Over a story that rests on a map, with which such tables agree: at each moment a power cut leaves
-- the old map or the one with the records of all the numbers; done, the story rests on the new one.
-- It fails only where a write failed.
abbrev pub AddsNumbersInSteps : ℕ → StatusTable → ℕ → List ℕ → Result (Unit {0}) ChipFault → Told → Told
    → Type 0
AddsNumbersInSteps places status next tids result old new =
    (h : History) (it : Layout) (t : Tables) (m n : Legible) → IsSteady h old
    → HasStatus t status next → All (Contains t.active) tids → RestsAgreeing places m it t h
    → Says places (now h) (layout_added it tids) n
    → Steps (EachStandsEither places m n) t
    (with_added t tids (1 + next) (others_of t tids))
    (λ done k. StoryRests places n k) NoOtherEnd h result old new
