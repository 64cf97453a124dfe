-- What a commit sector makes of a chart, of the tables, and of what a power cut leaves.
use Rattle.std.specs.Prelude.{ℕ, ◌≡◌, ◌<◌, ◌+◌, List, All, AllPairs, Contains, Result}
use Rattle.chip_trait.specs.Image.{IsClosed}
use Rattle.chip_trait.specs.Told.{History, Told}
use Rattle.ipl_base.specs.declared.fault.ChipFault.{ChipFault}
use Rattle.ipl_meaning.specs.Legible.{Legible}
use Rattle.ipl_meaning.specs.Chart.{Chart}
use Rattle.ipl_meaning.specs.Layout.{Layout}
use Rattle.ipl_meaning.specs.Stands.{Says}
use Rattle.ipl_meaning.specs.Rests.{now, EachStandsEither, StoryRests}
use Rattle.ipl_meaning.specs.Steps.{KeepsPages, with_committed}
use Rattle.ipl_meaning.specs.Tables.{StatusTable, Tables}
use Rattle.ipl_meaning.specs.Mirrors.{AreApart, Mirrors}
use Rattle.ipl_meaning.specs.Agrees.{Agrees}
use Rattle.unit_io.specs.Leads.{IsSteady}
use Rattle.unit_io.specs.Steps.{NoOtherEnd, Steps, RestsAgreeing}
use Rattle.number_set.specs.Numbers.{also}
use Rattle.txn_status.specs.Status.{after_add}

-- ---- tables

-- the tables have this status and this counter
pub record HasStatus (t : Tables) (status : StatusTable) (next : ℕ) : Type 0 where
  pub status_is : t.status ≡ status
  pub next_is : t.next ≡ next

-- the numbers may be committed, and these sessions stay open: the numbers were drawn, and none is
-- of such a session
pub record MayAdd (t : Tables) (numbers active : List ℕ) : Type 0 where
  pub below : All (λ n. n < t.next) numbers
  pub open_still : All (Contains t.active) active
  pub once : AllPairs AreApart active
  pub waits : All (λ n. ¬ Contains numbers n) active

-- the tables once a commit sector of these numbers is written
abbrev pub with_added : Tables → List ℕ → ℕ → List ℕ → Tables
with_added t numbers next active =
    record t { status = after_add t.status numbers; next = next; active = active }

-- the layout with these numbers committed too
abbrev pub layout_added : Layout → List ℕ → Layout
layout_added it numbers = with_committed it (also it.committed numbers)

-- ---- what the chip holds

-- the tables with the numbers mirror the new chart, and it has the pages of the old one with the
-- records of these numbers
pub record Added (places : ℕ) (c y : Chart) (it : Layout) (t : Tables) (numbers : List ℕ)
    (next : ℕ) (active : List ℕ) : Type 0 where
  pub mirrors : Mirrors places y (layout_added it numbers) (with_added t numbers next active)
  pub pages : KeepsPages places c (layout_added it numbers) y (layout_added it numbers)

-- the first sector of the place is as it was
abbrev pub KeepsFirstAt : ℕ → Chart → Chart → Type 0
KeepsFirstAt p c y = y p 0 ≡ c p 0

-- whatever tables of this status and counter mirrored the old chart
abbrev pub Adds : ℕ → StatusTable → ℕ → List ℕ → Chart → Chart → Type 0
Adds places status next numbers c y = (it : Layout) (t : Tables) (active : List ℕ)
    → Mirrors places c it t → HasStatus t status next → MayAdd t numbers active
    → Added places c y it t numbers (1 + next) active

-- ---- what a power cut leaves

-- the tables agree with a chip whose story rests on a map, and nothing is open
pub record IsReadyToAdd (places : ℕ) (h : History) (it : Layout) (t : Tables) (m n : Legible)
    (numbers active : List ℕ) : Type 0 where
  pub rests : StoryRests places m h
  pub closed : IsClosed h.story
  pub agrees : Agrees places h it t
  pub may : MayAdd t numbers active
  -- the other map is the one with the records of these numbers
  pub then_says : Says places (now h) (layout_added it numbers) n

-- At each moment a power cut leaves the old map or the new one; done, the story rests on the new
-- one, and the tables with the numbers agree. It fails only where a write failed.
abbrev pub StepsAdding : ℕ → Layout → Tables → Legible → Legible → List ℕ → ℕ → List ℕ
    → History → Result (Unit {0}) ChipFault → Told → Told → Type 0
StepsAdding places it t m n numbers next active h result old new =
    Steps (EachStandsEither places m n) t (with_added t numbers next active)
    (λ done k. RestsAgreeing places n (layout_added it numbers)
    (with_added t numbers next active) k)
    NoOtherEnd h result old new

-- whatever layout, tables and maps it began with
abbrev pub AddsInSteps : ℕ → StatusTable → ℕ → List ℕ → Result (Unit {0}) ChipFault
    → Told → Told → Type 0
AddsInSteps places status next numbers result old new =
    (h : History) (it : Layout) (t : Tables) (m n : Legible) (active : List ℕ)
    → IsSteady h old → HasStatus t status next → IsReadyToAdd places h it t m n numbers active
    → StepsAdding places it t m n numbers (1 + next) active h result old new
