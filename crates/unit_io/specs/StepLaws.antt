-- How what calls leave is joined.
use Rattle.std.specs.Prelude.{◌≡◌, ◌≢◌, ℕ, Bool, true, false, [], ◌++◌, Result, Ok, Err, is_ok, IfErr}
use Rattle.chip_trait.specs.Story.{Story, pieces}
use Rattle.chip_trait.specs.Lawful.{AreClean, IsLawfulAfter, LeavesClean}
use Rattle.chip_trait.specs.Told.{History, Told, Counts, adds_all}
use Rattle.ipl_base.specs.declared.fault.ChipFault.{ChipFault}
use Rattle.ipl_meaning.specs.Legible.{Legible}
use Rattle.ipl_meaning.specs.Layout.{Layout}
use Rattle.ipl_meaning.specs.Rests.{EachStands, StoryRests}
use Rattle.ipl_meaning.specs.Tables.{Tables, IsCountedClean}
use Rattle.ipl_meaning.specs.Agrees.{Agrees}
use Rattle.unit_io.specs.Leads.{IsSteady, LeadsWhere, Leads, IsStopped}
use Rattle.unit_io.specs.ReadsAt.{ReadsAt}
use Rattle.unit_io.specs.Spots.{Programs}
use Rattle.unit_io.specs.Steps.{Settled, NoOtherEnd, EndsWith, OutcomeWhere, Outcome, TidyWork, Steps, KeepsTables}

-- ---- what was left

-- nothing was done
abbrev pub NothingIsDone : Type 1
NothingIsDone = (Each : History → Type 0) (Does : Story → Type 0) (Settles : Type 0) (Then : History → Type 0) (h : History) (t : Told)
    → IsSteady h t → Each h → Does [] → Then h → Outcome Each Does Settles Then h t t

-- one part of it, which settled, and then another
abbrev pub PartsAreJoined : Type 0 → Type 1
PartsAreJoined Sound = (Each : History → Type 0) (D1 D2 D3 : Story → Type 0) (A B : Type 0) (T1 T2 : History → Type 0) (h : History) (old mid new : Told)
    → (first : OutcomeWhere Sound Each D1 A T1 h old mid) → A → OutcomeWhere Sound Each D2 B T2 (adds_all first.added h) mid new
    → ((a b : Story) → D1 a → D2 b → D3 (b ++ a)) → OutcomeWhere Sound Each D3 B T2 h old new

-- the same, said less of
abbrev pub LessIsSaid : Type 0 → Type 1
LessIsSaid Sound = (P Q : History → Type 0) (D1 D2 : Story → Type 0) (A B : Type 0) (T1 T2 : History → Type 0) (h : History) (old new : Told)
    → ((k : History) → P k → Q k) → ((a : Story) → D1 a → D2 a) → (B → A) → (B → (k : History) → T1 k → T2 k)
    → OutcomeWhere Sound P D1 A T1 h old new → OutcomeWhere Sound Q D2 B T2 h old new

-- a call that writes fails only where a write failed: so whatever is said of other ends
abbrev pub WritesAreOutcomes : Type 0 → Type 1
WritesAreOutcomes Sound = (T : Type 0) (Each : History → Type 0) (Does : Bool → Story → Type 0) (Then : T → History → Type 0) (Else : History → Type 0)
    (h : History) (old new : Told) (result : Result T ChipFault)
    → LeadsWhere Sound Each Does Then h old result new → IfErr result (λ fault. IsStopped fault old new)
    → OutcomeWhere Sound Each (Does (is_ok result)) (Settled result old new) (EndsWith result Then Else) h old new

-- A call that writes and fails only where a write failed. Its events are lawful, and what was done
-- and holds then says which sectors are clean, and what holds besides.
abbrev pub WritesAreSteps : Type 1
WritesAreSteps = (T : Type 0) (Each : History → Type 0) (Does : Bool → Story → Type 0)
    (Then Holds : T → History → Type 0) (t after : Tables) (h : History) (old new : Told)
    (result : Result T ChipFault)
    → Leads Each Does Then h old result new → IfErr result (λ fault. IsStopped fault old new)
    → ((done : Bool) (a : Story) → Does done a
    → (pieces a ≡ []) × IsLawfulAfter (IsCountedClean t) a)
    → ((v : T) (a : Story) → Does true a → Then v (adds_all a h) → (base : Story)
    → AreClean (IsCountedClean t) base → AreClean (IsCountedClean after) (a ++ base))
    → ((v : T) (a : Story) → Does true a → Then v (adds_all a h) → Holds v (adds_all a h))
    → Steps Each t after Holds NoOtherEnd h result old new

-- a call that fails as such a call did, and does nothing else then
abbrev pub FailedWritesAreSteps : Type 1
FailedWritesAreSteps = (T U : Type 0) (Each : History → Type 0) (Does : Bool → Story → Type 0)
    (Then : T → History → Type 0) (Holds : U → History → Type 0) (t after : Tables) (h : History)
    (old new : Told) (e f : ChipFault)
    → Leads Each Does Then h old (Err e) new → IsStopped e old new
    → ((a : Story) → Does false a → (pieces a ≡ []) × IsLawfulAfter (IsCountedClean t) a)
    → Steps Each t after Holds NoOtherEnd h (Err f) old new

-- what a call left that only reads
abbrev pub ReadsAreOutcomes : Type 1
ReadsAreOutcomes = (At : ℕ → ℕ → Type 0) (places : ℕ) (m : Legible) (Does : Story → Type 0) (Settles : Type 0) (Then : History → Type 0) (h : History) (old new : Told)
    → IsSteady h old → StoryRests places m h → (did : ReadsAt At old new) → Does did.added → Then (adds_all did.added h)
    → Outcome (EachStands places m) Does Settles Then h old new

-- ---- the events

abbrev pub ReadsAreTidy : Type 1
ReadsAreTidy = (At before : ℕ → ℕ → Type 0) (Settles : Type 0) (old new : Told) → (did : ReadsAt At old new) → TidyWork before before Settles did.added

abbrev pub TidyWorkIsJoined : Type 1
TidyWorkIsJoined = (s0 s1 s2 : ℕ → ℕ → Type 0) (A B : Type 0) (a b : Story) → TidyWork s0 s1 A a → A → TidyWork s1 s2 B b → TidyWork s0 s2 B (b ++ a)

-- programs of clean sectors, which don't count as clean then
abbrev pub ProgramsAreTidy : Type 1
ProgramsAreTidy = (p : ℕ) (Spot : ℕ → Type 0) (done : Bool) (before after : ℕ → ℕ → Type 0) (Settles : Type 0) (added : Story) → Programs p Spot done added
    → ((s : ℕ) → Spot s → before p s) → (Settles → (q s : ℕ) → after q s → before q s × (q ≡ p → Spot s → ⊥)) → TidyWork before after Settles added

-- what a store hands to a run
abbrev pub TidyWorkLeavesClean : Type 1
TidyWorkLeavesClean = (before after : ℕ → ℕ → Type 0) (Settles : Type 0) (added : Story) → TidyWork before after Settles added → Settles → LeavesClean before after added

-- ---- at the exit of a function

-- it settles where the call that failed did
abbrev pub FailuresSettle : Type 1
FailuresSettle = (T U E F : Type 0) (e : E) (f : F) (old mid new : Told) → Counts old mid → Settled {T = U} {E = F} (Err f) old new → Settled {T = T} {E = E} (Err e) mid new

-- ---- calls that keep what a chip stands for

-- a call that keeps a map, however it ends
abbrev pub Preserves : {T E : Type 0} → ℕ → Legible → Tables → Tables → History → Result T E → Told → Told → Type 0
Preserves places m t after h result old new = Steps (EachStands places m) t after (λ v k. StoryRests places m k) (λ k. StoryRests places m k) h result old new

abbrev pub NothingKeeps : Type 0
NothingKeeps = (places : ℕ) (m : Legible) (t : Tables) (h : History) (old : Told) → IsSteady h old → StoryRests places m h → Preserves {T = Unit {0}} {E = ChipFault} places m t t h (Ok tt) old old

-- reads of a place keep it and the tables, done or not: a read fault leaves what was there
abbrev pub ReadsKeepTables : Type 0
ReadsKeepTables = (place : ℕ) (places : ℕ) (m : Legible) (it : Layout) (t : Tables) (h : History)
    (result : Result (Unit {0}) ChipFault) (old new : Told)
    → IsSteady h old → StoryRests places m h → Agrees places h it t
    → ReadsAt (λ p s. p ≡ place) old new → KeepsTables places m it t h result old new

-- reads of a place keep it, done or not
abbrev pub ReadsKeepPlace : Type 0
ReadsKeepPlace = (place : ℕ) (places : ℕ) (m : Legible) (t : Tables) (h : History) (result : Result (Unit {0}) ChipFault) (old new : Told) → IsSteady h old → StoryRests places m h → ReadsAt (λ p s. p ≡ place) old new
    → Preserves places m t t h result old new

-- one call that was done, and then another
abbrev pub CallsKeep : Type 0
CallsKeep = (places : ℕ) (m : Legible) (t between after : Tables) (h : History) (result : Result (Unit {0}) ChipFault) (old mid new : Told) → Counts old mid
    → (first : Preserves {T = Unit {0}} {E = ChipFault} places m t between h (Ok tt) old mid) → Preserves places m between after (adds_all first.added h) result mid new
    → Preserves places m t after h result old new

-- a call that failed, where nothing else is done then
abbrev pub FailuresKeep : Type 0
FailuresKeep = (places : ℕ) (m : Legible) (t after : Tables) (h : History) (e : ChipFault) (old new : Told)
    → Preserves {T = ℕ} {E = ChipFault} places m t after h (Err e) old new → Preserves {T = Unit {0}} {E = ChipFault} places m t after h (Err e) old new

-- a call of unit_io that writes sectors which count as clean before, and no more then
abbrev pub WritesKeep : Type 0
WritesKeep = (places : ℕ) (m : Legible) (t after : Tables) (p s : ℕ) (h : History) (result : Result (Unit {0}) ChipFault) (old new : Told)
    → Leads (EachStands places m) (Programs p (λ r. r ≡ s)) (λ v k. StoryRests places m k) h old result new → IfErr result (λ fault. IsStopped fault old new)
    → IsCountedClean t p s → ((q r : ℕ) → IsCountedClean after q r → IsCountedClean t q r × (q ≡ p → r ≢ s))
    → Preserves places m t after h result old new
