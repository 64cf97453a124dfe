-- What passes over the units know of a chip and of its tables, and what their steps leave.
use Rattle.std.specs.Prelude.{ℕ, ◌≡◌, ◌≢◌, ◌⊎◌, ◌<◌, ◌≤◌, ◌+◌, ◌*◌, ◌^◌, Bool, true, false, List, [], Some, length, Result, Ok, Err, MatchResult, OnOk, IfOk}
use Rattle.chip_trait.specs.Story.{Contents}
use Rattle.chip_trait.specs.Told.{Told}
use Rattle.ipl_base.specs.declared.fault.ChipFault.{ChipFault}
use Rattle.ipl_base.specs.declared.fault.ChipFault.TheVariants.{Stopped}
use Rattle.ipl_base.specs.Calls.{IsFailedCall}
use Rattle.ipl_meaning.specs.Chart.{chart_of}
use Rattle.ipl_meaning.specs.Layout.{Shape, Layout, records_of}
use Rattle.ipl_meaning.specs.Mirrors.{Mirrors}
use Rattle.ipl_meaning.specs.Steps.{KeepsPages}
use Rattle.ipl_meaning.specs.Tables.{Places, StatusTable, Tables}
use Rattle.unit_io.specs.Reads.{OfContents}
use Rattle.restart.specs.InPlace.{FailsInPlace}
use Rattle.restart.specs.Joins.{joined}
use Rattle.restart.specs.Keeps.{KeepsOf}
use Rattle.restart.specs.Leaving.{LeavesPassed}
use Rattle.selective_merge.specs.Faults.{merge_fault}
use Rattle.restart.specs.Passes.{fits, kept_below, IsRepacked, ArePassed, HasFound, HasStopped, TellsChart, GoesOnTelling, KeepsInSteps}
use Rattle.restart.specs.Stuck.{HasFault, OneIsStuck, IsHeldFault}
use Rattle.restart.specs.Turns.{turn_of, is_ended, is_merged, is_stuck, ended_below}
use Rattle.restart.specs.declared.turns.Turns.{Turns}
use Rattle.restart.specs.declared.turns.Turn.TheVariants.{Open}

-- ---- between two steps

-- The tables mirror what the chip holds. The units are as they were, with all bytes, but for those that were
-- merged; with those that are stuck something is wrong, and with one of them what is noted. All pages show what
-- they showed, and the same numbers are committed.
pub record IsBetween (places : ℕ) (x : Contents) (it : Layout) (t : Tables) (turns : Turns)
    (new : Told) (after : Tables) : Type 0 where
  pub sized : new.places ≡ places
  pub contents : Contents
  pub told : new.contents ≡ Some contents
  pub now : Layout
  pub mirrors : Mirrors places (chart_of contents) now after
  pub active : after.active ≡ t.active
  pub status : after.status ≡ t.status
  pub pages : KeepsPages places (chart_of x) it (chart_of contents) now
  pub count : now.count ≡ it.count
  pub committed : now.committed ≡ it.committed
  pub same : (u : ℕ) → u < it.count → is_merged turns u ≡ false → now.units u ≡ it.units u
  pub bytes : (u : ℕ) → u < it.count → is_merged turns u ≡ false
      → (s : ℕ) → contents (it.units u).home s ≡ x (it.units u).home s
  pub merged : (u : ℕ) → u < it.count → is_merged turns u ≡ true
      → IsRepacked t.active u (it.units u) (now.units u)
  pub stuck : (u : ℕ) → u < it.count → is_stuck turns u ≡ true → HasFault x it t u
  pub noted : (u : ℕ) → u < it.count → is_stuck turns u ≡ true
      → (v : ℕ) × (v < it.count) × (is_stuck turns v ≡ true)
      × (merge_fault x t (it.units v) v ≡ Some turns.fault)

-- It is the first pass, and n units were passed in order: those whose numbers don't fit were merged, none
-- is stuck, and nothing was made of the others.
pub record IsFirst (n : ℕ) (it : Layout) (t : Tables) (turns : Turns) (kept : List ℕ) (now : Layout)
    : Type 0 where
  pub passed : ArePassed n t.active t.status it now
  pub kept_is : kept ≡ kept_below t.status it n
  pub idle : (u : ℕ) → u < it.count → n ≤ u → turn_of turns u ≡ Open
  pub unstuck : (u : ℕ) → u < it.count → is_stuck turns u ≡ false

-- of the numbers in live records of these units exactly the committed ones are kept; and it is the first
-- pass, with n units passed, or a unit can't be merged
pub record IsPassing (Of : ℕ → Type 0) (n places : ℕ) (x : Contents) (it : Layout) (t : Tables)
    (turns : Turns) (kept : List ℕ) (new : Told) (after : Tables) : Type 0 where
  pub state : IsBetween places x it t turns new after
  pub keeps : KeepsOf Of state.now kept
  pub order : IsFirst n it t turns kept state.now ⊎ OneIsStuck (chart_of x) it t

-- those of the first n units that are stuck
abbrev pub IsStuckBelow : Turns → ℕ → ℕ → Type 0
IsStuckBelow turns n u = (u < n) × (is_stuck turns u ≡ true)

-- those that are stuck, and the first n units
abbrev pub IsPassedBelow : Turns → ℕ → ℕ → ℕ → Type 0
IsPassedBelow turns count n u = (u < n) ⊎ IsStuckBelow turns count u

-- the numbers of those of the first n units that are stuck are kept
abbrev pub HasHeld : ℕ → ℕ → Contents → Layout → Tables → Turns → List ℕ → Told → Tables → Type 0
HasHeld n places x it t turns = IsPassing (IsStuckBelow turns n) 0 places x it t turns

-- a pass begins: nothing is kept
abbrev pub Begins : ℕ → Contents → Layout → Tables → Turns → Told → Tables → Type 0
Begins places x it t turns new after = HasHeld 0 places x it t turns [] new after

-- the numbers of all that are stuck are kept, and those of the first n units
abbrev pub HasPassed : ℕ → ℕ → Contents → Layout → Tables → Turns → List ℕ → Told → Tables → Type 0
HasPassed n places x it t turns = IsPassing (IsPassedBelow turns it.count n) n places x it t turns

-- ---- how a step ends

-- it fails since a call of the chip failed, or for what is wrong with a unit, which is where it was; and
-- where no write failed, all is as between two steps
abbrev pub StepEnds : {T : Type 0} → ℕ → Contents → Layout → Tables → Result T ChipFault → Told → Tables
    → (T → Type 0) → Type 0
StepEnds places x it t result new after Done = MatchResult result Done
    (λ e. FailsInPlace x it t after e
    × (e ≢ Stopped → TellsChart (HasStopped places (chart_of x) it t after) new))

-- the one where it says so, else the other
abbrev pub OnAnswer : Bool → Type 0 → Type 0 → Type 0
OnAnswer true Yes No = Yes
OnAnswer false Yes No = No

-- the numbers of the log joined those that are kept; or they don't fit, and the same are kept
abbrev pub IsJoined : StatusTable → Shape → List ℕ → List ℕ → Bool → Type 0
IsJoined status it old new true =
    (fits status it.log old ≡ true) × (new ≡ joined status.numbers (records_of it.log) old)
IsJoined status it old new false = (fits status it.log old ≡ false) × (new ≡ old)

-- over contents that the tables mirror: the numbers of the unit joined, or don't fit
abbrev pub JoinsUnit : ℕ → ℕ → Tables → List ℕ → List ℕ → Result Bool ChipFault → Told → Type 0
JoinsUnit places unit t old new result told = OfContents told (λ x. (it : Layout)
    → Mirrors places (chart_of x) it t
    → MatchResult result (IsJoined t.status (it.units unit) old new) IsFailedCall)

-- a unit of which nothing was made, whose numbers don't fit: it was merged, and so passed; or it is stuck, and a
-- pass begins anew
abbrev pub MakesRoom : ℕ → Turns → Turns → Tables → Tables → Result Bool ChipFault
    → Told → Told → Type 0
MakesRoom unit turns ended before after result old new =
    (places : ℕ) (x : Contents) (it : Layout) (t : Tables) (kept : List ℕ)
    → fits t.status (it.units unit).log kept ≡ false
    → HasPassed unit places x it t turns kept old before → is_ended turns unit ≡ false
    → StepEnds places x it t result new after
    (λ done. OnAnswer done (HasPassed (unit + 1) places x it t ended kept new after)
    (Begins places x it t ended new after))

-- a unit that may be stuck: its numbers are kept, if it is
abbrev pub HoldsUnit : ℕ → Turns → List ℕ → List ℕ → Tables → Tables
    → Result (Unit {0}) ChipFault → Told → Told → Type 0
HoldsUnit unit turns kept next before after result old new =
    (places : ℕ) (x : Contents) (it : Layout) (t : Tables)
    → HasHeld unit places x it t turns kept old before
    → StepEnds places x it t result new after
    (λ done. HasHeld (unit + 1) places x it t turns next new after)

-- all units that are stuck
abbrev pub HoldsStuck : Turns → List ℕ → List ℕ → Tables → Tables
    → Result (Unit {0}) ChipFault → Told → Told → Type 0
HoldsStuck turns kept next before after result old new =
    (places : ℕ) (x : Contents) (it : Layout) (t : Tables)
    → HasHeld 0 places x it t turns kept old before
    → StepEnds places x it t result new after (λ done. HasPassed 0 places x it t turns next new after)

-- a unit was passed; or it is stuck, and a pass begins anew
abbrev pub TakesUnit : ℕ → Turns → Turns → List ℕ → List ℕ → Tables → Tables → Result Bool ChipFault
    → Told → Told → Type 0
TakesUnit unit turns ended kept next before after result old new =
    (places : ℕ) (x : Contents) (it : Layout) (t : Tables)
    → HasPassed unit places x it t turns kept old before
    → StepEnds places x it t result new after
    (λ done. OnAnswer done (HasPassed (unit + 1) places x it t ended next new after)
    (Begins places x it t ended new after))

-- all units were passed; or one is stuck
abbrev pub TakesUnits : Turns → Turns → List ℕ → List ℕ → Tables → Tables → Result Bool ChipFault
    → Told → Told → Type 0
TakesUnits turns ended kept next before after result old new =
    (places : ℕ) (x : Contents) (it : Layout) (t : Tables)
    → HasPassed 0 places x it t turns kept old before
    → StepEnds places x it t result new after
    (λ done. OnAnswer done (HasFound places (chart_of x) it t next new after)
    (Begins places x it t ended new after))

-- the same of a whole pass
abbrev pub TriesPass : Turns → Turns → List ℕ → Tables → Tables → Result Bool ChipFault
    → Told → Told → Type 0
TriesPass turns ended next before after result old new =
    (places : ℕ) (x : Contents) (it : Layout) (t : Tables)
    → Begins places x it t turns old before
    → StepEnds places x it t result new after
    (λ done. OnAnswer done (HasFound places (chart_of x) it t next new after)
    (Begins places x it t ended new after))

-- ---- what a step leaves, whatever the chip tells

-- how it ended, whatever it answers
abbrev pub done : {T : Type 0} → Result T ChipFault → Result (Unit {0}) ChipFault
done (Ok v) = Ok tt
done (Err e) = Err e

-- where the tables mirrored what the chip held, they do so of what it holds
abbrev pub GoesOnMirroring : ℕ → Tables → Tables → Told → Told → Type 0
GoesOnMirroring places t after old new = OfContents old (λ x. (it : Layout)
    → Mirrors places (chart_of x) it t
    → (y : Contents) × (now : Layout) × (new.contents ≡ Some y) × Mirrors places (chart_of y) now after)

-- The chip goes on telling contents and keeps its map. For each unit that is merged or stuck since, a merge was
-- tried, which draws 13 numbers at most and tries one erase. What is noted is a fault of what the chip holds.
pub record Walks {T : Type 0} (turns ended : Turns) (t after : Tables) (result : Result T ChipFault)
    (old new : Told) : Type 0 where
  pub goes_on : GoesOnTelling (done result) old new
  pub mirrored : OnOk result (GoesOnMirroring old.places t after old new)
  pub steps : KeepsInSteps old.places t after old (done result) new
  pub tries : ℕ
  pub spent : ended_below ended (length t.places.current) ≡ ended_below turns (length t.places.current) + tries
  pub held : IsHeldFault turns.fault → IsHeldFault ended.fault
  pub leaves : LeavesPassed (13 * tries) tries t after (done result) old new

-- numbers are left for a merge of each unit that isn't merged or stuck
abbrev pub AreLeft : ℕ → Places → Turns → Type 0
AreLeft next d turns = next + 13 * length d.current < 2 ^ 64 + 13 * ended_below turns (length d.current)

-- where it says that a unit is stuck, one more is
abbrev pub Grows : Turns → Turns → Places → Result Bool ChipFault → Type 0
Grows turns ended d result = IfOk result
    (λ done. done ≡ false → ended_below turns (length d.current) < ended_below ended (length d.current))
