-- What a call leaves that reads and writes a chip and keeps a map, however it ends.
use Rattle.std.specs.Prelude.{ℕ, ◌≢◌, ◌⊎◌, Bool, Result, MatchResult, is_ok}
use Rattle.chip_trait.specs.Story.{Story}
use Rattle.chip_trait.specs.Told.{History, Told, Unrisen}
use Rattle.ipl_base.specs.Calls.{IsFailedCall}
use Rattle.ipl_base.specs.declared.fault.ChipFault.{ChipFault}
use Rattle.ipl_base.specs.declared.fault.ChipFault.TheVariants.{Stopped}
use Rattle.ipl_meaning.specs.Legible.{Legible}
use Rattle.ipl_meaning.specs.Chart.{Chart}
use Rattle.ipl_meaning.specs.Rests.{now, EachStands, StoryRests}
use Rattle.ipl_meaning.specs.Tables.{Tables, IsCountedClean}
use Rattle.unit_io.specs.Charts.{Charts}
use Rattle.unit_io.specs.Costs.{Spends}
use Rattle.unit_io.specs.Leads.{RestsWith}
use Rattle.unit_io.specs.Steps.{EndsWith, Outcome, TidyWork}

-- ---- the end of a call

-- no write failed: the call was done, or no write fault was counted, or it failed for what the chip holds
abbrev pub Unbroken : {T : Type 0} → Result T ChipFault → Told → Told → Type 0
Unbroken result old new =
    MatchResult result (λ _. Unit {0}) (λ fault. Unrisen old new ⊎ (¬ IsFailedCall fault))

-- it is so, unless a call of the chip failed: done, and where it failed for what the chip holds
abbrev pub UnlessCallsFailed : {T : Type 0} → Result T ChipFault → Type 0 → Type 0
UnlessCallsFailed result P = MatchResult result (λ _. P) (λ fault. ¬ IsFailedCall fault → P)

-- ---- a map

-- The story rests on the map, and G holds of the chart at the history before and of the chart then.
abbrev pub RestsBy : ℕ → Legible → (Chart → Chart → Type 0) → History → History → Type 0
RestsBy places m G h k = StoryRests places m k × G (now h) (now k)

-- What a call leaves that keeps the map. Whatever a power cut leaves at any moment of it stands for
-- the map. Where no write failed, the story rests on it: done, with F of the answer and of the
-- charts before and after; and not done, with G of these charts.
abbrev pub KeepsThroughout : {T : Type 0} → ℕ → Legible → (Bool → Story → Type 0)
    → (T → Chart → Chart → Type 0) → (Chart → Chart → Type 0)
    → History → Result T ChipFault → Told → Told → Type 0
KeepsThroughout places m Does F G h result old new =
    Outcome (EachStands places m) (Does (is_ok result)) (Unbroken result old new)
    (EndsWith result (RestsWith places m F h) (RestsBy places m G h)) h old new

-- A chip that tells its contents goes on telling them, unless a write failed: done, their chart is
-- by F related to the one before; and not done, by G.
abbrev pub ChartsThroughout : {T : Type 0} → (T → Chart → Chart → Type 0)
    → (Chart → Chart → Type 0) → Result T ChipFault → Told → Told → Type 0
ChartsThroughout F G result old new = MatchResult result
    (λ v. Charts (F v) old new) (λ fault. fault ≢ Stopped → Charts G old new)

-- ---- the tables

-- What a call leaves that turns these tables into those, as `Steps` says it, and that also where it failed
-- for what the chip holds.
abbrev pub StepsThroughout : {T : Type 0} → (History → Type 0) → Tables → Tables → (T → History → Type 0)
    → (History → Type 0) → History → Result T ChipFault → Told → Told → Type 0
StepsThroughout Each t after Then Else h result old new =
    Outcome Each (TidyWork (IsCountedClean t) (IsCountedClean after) (Unbroken result old new))
    (Unbroken result old new) (EndsWith result Then Else) h old new

-- What a call adds that turns these tables into those, as `Tidies` says it, and that however it ends: a
-- failed write is of a sector that isn't counted as clean.
abbrev pub TidiesThroughout : Tables → Tables → Told → Told → Type 0
TidiesThroughout t after old new =
    Spends (TidyWork (IsCountedClean t) (IsCountedClean after) (Unit {0})) old new
