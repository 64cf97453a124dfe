-- What a call leaves that works on a chip, however it ends.
use Rattle.std.specs.Prelude.{◌≡◌, ℕ, [], ◌++◌, Result, MatchResult}
use Rattle.std.specs.Option.{option_map}
use Rattle.chip_trait.specs.Story.{Story, pieces}
use Rattle.chip_trait.specs.Moment.{AtEachMoment}
use Rattle.chip_trait.specs.Lawful.{AreClean, IsLawfulAfter}
use Rattle.chip_trait.specs.Told.{History, Told, Unrisen, adds_all}
use Rattle.ipl_meaning.specs.Legible.{Legible}
use Rattle.ipl_meaning.specs.Layout.{Layout}
use Rattle.ipl_meaning.specs.Rests.{EachStands, StoryRests}
use Rattle.ipl_meaning.specs.Tables.{Tables, IsCountedClean}
use Rattle.ipl_meaning.specs.Agrees.{Agrees}
use Rattle.ipl_meaning.specs.Marks.{KeepsMarks}
use Rattle.unit_io.specs.Leads.{IsSteady}
use Rattle.unit_io.specs.Costs.{Spends}

-- ---- the end of a call

-- no write failed: the call was done, or no write fault was counted
abbrev pub Settled : {T E : Type 0} → Result T E → Told → Told → Type 0
Settled result old new = MatchResult result (λ _. Unit {0}) (λ _. Unrisen old new)

-- no write failed only where all was done, as for a call that fails only where a write did
abbrev pub NoOtherEnd : History → Type 0
NoOtherEnd k = ⊥

-- done, the one holds of the answer and the history; else the other does of the history
abbrev pub EndsWith : {T E : Type 0} → Result T E → (T → History → Type 0) → (History → Type 0) → History → Type 0
EndsWith result Then Else k = MatchResult result (λ v. Then v k) (λ _. Else k)

-- ---- what it left

-- What was left since a history. What the chip tells grew by the added events, and its places are as many as before. At each
-- moment of them Each holds of the history then, and where the first condition holds, marks are kept: where no marked sector was
-- used before, none is then. Does holds of the events. Where it settled, the chip holds what the history then leaves, and Then
-- holds of that.
pub record OutcomeWhere (Sound : Type 0) (Each : History → Type 0) (Does : Story → Type 0) (Settles : Type 0) (Then : History → Type 0) (h : History) (old new : Told) : Type 0 where
  pub added : Story
  pub places : new.places ≡ old.places
  pub history : new.history ≡ option_map (adds_all added) old.history
  pub each_moment : AtEachMoment (λ e. Each (adds_all e h)) added
  pub marks : Sound → AtEachMoment (λ e. KeepsMarks old.places h (adds_all e h)) added
  pub does : Does added
  pub steady : Settles → IsSteady (adds_all added h) new
  pub ends : Settles → Then (adds_all added h)

-- the same, where marks are kept in any case
abbrev pub Outcome : (History → Type 0) → (Story → Type 0) → Type 0 → (History → Type 0) → History → Told → Told → Type 0
Outcome Each Does Settles Then h old new = OutcomeWhere (Unit {0}) Each Does Settles Then h old new

-- The events say nothing. They are lawful after any lawful events that leave the one set of sectors clean; and where all settled,
-- after any events that leave it clean, the other set is clean too.
pub record TidyWork (before after : ℕ → ℕ → Type 0) (Settles : Type 0) (added : Story) : Type 0 where
  pub silent : pieces added ≡ []
  pub lawful : IsLawfulAfter before added
  pub clean : Settles → (base : Story) → AreClean before base → AreClean after (added ++ base)

-- ---- the clause of a call

-- What a call leaves that turns these tables into those.
abbrev pub Steps : {T E : Type 0} → (History → Type 0) → Tables → Tables → (T → History → Type 0) → (History → Type 0) → History → Result T E → Told → Told → Type 0
Steps Each t after Then Else h result old new =
    Outcome Each (TidyWork (IsCountedClean t) (IsCountedClean after) (Settled result old new)) (Settled result old new) (EndsWith result Then Else) h old new

-- What a call adds that turns these tables into those, whatever the chip tells or holds: lawful events, after any lawful ones
-- that leave clean what the first tables count so; and where no write failed, they leave clean what the second count so.
abbrev pub Tidies : {T E : Type 0} → Tables → Result T E → Tables → Told → Told → Type 0
Tidies t result after old new =
    Spends (TidyWork (IsCountedClean t) (IsCountedClean after) (Settled result old new)) old new

-- the story rests on the map, and the tables agree
pub record RestsAgreeing (places : ℕ) (m : Legible) (it : Layout) (t : Tables) (k : History) : Type 0 where
  pub rests : StoryRests places m k
  pub agrees : Agrees places k it t

-- What a call leaves that keeps a map and the tables, however it ends.
abbrev pub KeepsTables : {T E : Type 0} → ℕ → Legible → Layout → Tables → History → Result T E
    → Told → Told → Type 0
KeepsTables places m it t h result old new =
    Steps (EachStands places m) t t (λ v k. RestsAgreeing places m it t k)
    (λ k. RestsAgreeing places m it t k) h result old new
