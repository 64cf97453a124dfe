-- Calls that keep a map, one after another, where tables agree with the chip between them.
use Rattle.std.proofs.Common.{◌≡◌, ℕ, List, Some, Result, Ok, Err, sym, ◌∙◌, subst}
use Rattle.chip_trait.specs.Story.{Contents, held}
use Rattle.chip_trait.specs.Told.{History, Told, Counts, adds_all}
use Rattle.ipl_base.specs.declared.fault.ChipFault.{ChipFault}
use Rattle.ipl_meaning.specs.Legible.{Legible}
use Rattle.ipl_meaning.proofs.CarriedLemmas.{tidy_is_carried}
use Rattle.ipl_meaning.specs.Agrees.{IsTidy, Agrees}
use Rattle.ipl_meaning.specs.Chart.{chart_of}
use Rattle.ipl_meaning.specs.Layout.{Layout}
use Rattle.ipl_meaning.specs.Mirrors.{Mirrors}
use Rattle.ipl_meaning.specs.Rests.{now, EachStands, StoryRests}
use Rattle.ipl_meaning.specs.Tables.{Tables, IsCountedClean}
use Rattle.unit_io.specs.StepLaws.{Preserves}
use Rattle.unit_io.specs.Steps.{Settled, EndsWith, TidyWork, Steps}
use Rattle.unit_io.proofs.MapLemmas.{calls_keep}
use Rattle.unit_io.proofs.StepLemmas.{outcome_weaker, outcome_reads, outcome_steady}
use Rattle.unit_io.proofs.StepTidyLemmas.{tidy_reads}
use Rattle.unit_io.specs.Leads.{IsSteady}
use Rattle.unit_io.specs.ReadsAt.{ReadsAt}
use Rattle.unit_io.proofs.ReadsAtLemmas.{at_rests}
use Rattle.restart.specs.Passes.{HasFound}

-- ---- what is held is told

pub same_told : (x y : Contents) → Some x ≡ Some y → x ≡ y
same_told x y e = cc

-- tables that mirror what is told agree with the story
pub agrees_of : (places : ℕ) (h : History) (told : Told) (x : Contents) (it : Layout) (t : Tables)
    → IsSteady h told → told.contents ≡ Some x
    → Mirrors places (chart_of x) it t → IsTidy h t → Agrees places h it t
agrees_of places h told x it t steady is mirrors tidy =
    let same : x ≡ held h.start h.story =
    same_told x (held h.start h.story) (sym is ∙ steady.holds) in
    record {
      mirrors = subst (λ (y : Contents). Mirrors places (chart_of y) it t) same mirrors;
      tidy = tidy;
    }

-- ---- single calls

rests_at_end : (places : ℕ) (m : Legible) (k : History) (result : Result (Unit {0}) ChipFault)
    → StoryRests places m k
    → EndsWith result (λ v k. StoryRests places m k) (λ k. StoryRests places m k) k
rests_at_end places m k (Ok v) rests = rests
rests_at_end places m k (Err e) rests = rests

-- reads of any sectors
pub reads_preserve : (At : ℕ → ℕ → Type 0) (places : ℕ) (m : Legible) (h : History) (t : Tables)
    (result : Result (Unit {0}) ChipFault) (old new : Told) → IsSteady h old
    → StoryRests places m h → ReadsAt At old new → Preserves places m t t h result old new
reads_preserve At places m h t result old new steady rests did =
    outcome_reads At places m
    (TidyWork (IsCountedClean t) (IsCountedClean t) (Settled result old new))
    (Settled result old new)
    (EndsWith result (λ v k. StoryRests places m k) (λ k. StoryRests places m k)) h old new steady
    rests did (tidy_reads At (IsCountedClean t) (Settled result old new) old new did)
    (rests_at_end places m (adds_all did.added h) result
    (at_rests At places m h did.added did.each rests))

ends_less : (places : ℕ) (m : Legible) (result : Result (Unit {0}) ChipFault)
    (Then : Unit {0} → History → Type 0) (Else : History → Type 0)
    → ((v : Unit {0}) (k : History) → Then v k → StoryRests places m k)
    → ((k : History) → Else k → StoryRests places m k)
    → (k : History) → EndsWith result Then Else k
    → EndsWith result (λ v k. StoryRests places m k) (λ k. StoryRests places m k) k
ends_less places m (Ok v) Then Else done other k is = done v k is
ends_less places m (Err e) Then Else done other k is = other k is

-- a call that says more
pub steps_preserve : (places : ℕ) (m : Legible) (h : History) (t after : Tables)
    (Then : Unit {0} → History → Type 0) (Else : History → Type 0)
    (result : Result (Unit {0}) ChipFault) (old new : Told)
    → ((v : Unit {0}) (k : History) → Then v k → StoryRests places m k)
    → ((k : History) → Else k → StoryRests places m k)
    → Steps (EachStands places m) t after Then Else h result old new
    → Preserves places m t after h result old new
steps_preserve places m h t after Then Else result old new done other did =
    outcome_weaker (EachStands places m) (EachStands places m)
    (TidyWork (IsCountedClean t) (IsCountedClean after) (Settled result old new))
    (TidyWork (IsCountedClean t) (IsCountedClean after) (Settled result old new))
    (Settled result old new) (Settled result old new) (EndsWith result Then Else)
    (EndsWith result (λ v k. StoryRests places m k) (λ k. StoryRests places m k)) h old new
    (λ k is. is) (λ a is. is) (λ b. b)
    (λ _ k is. ends_less places m result Then Else done other k is) did

-- ---- one after the other

-- one call that was done, and then another
pub preserves_then : (places : ℕ) (m : Legible) (h : History) (it : Layout) (t between after : Tables)
    (old mid new : Told) (result : Result (Unit {0}) ChipFault) → Counts old mid
    → Agrees places h it t → Preserves {T = Unit {0}} {E = ChipFault} places m t between h (Ok tt) old mid
    → ((k : History) → IsSteady k mid → StoryRests places m k → IsTidy k between
    → Preserves places m between after k result mid new)
    → Preserves places m t after h result old new
preserves_then places m h it t between after old mid new result counts agrees first next =
    calls_keep places m t between after h result old mid new counts first
    (next (adds_all first.added h)
    (outcome_steady (EachStands places m)
    (TidyWork (IsCountedClean t) (IsCountedClean between) (Unit {0})) (Unit {0})
    (StoryRests places m) h old mid first tt)
    (first.ends tt)
    (tidy_is_carried places h it t between first.added agrees (first.does.clean tt)))

-- all passes, and then another call
pub passed_then : (places : ℕ) (m : Legible) (h : History) (it : Layout) (t between after : Tables)
    (old mid new : Told) (result : Result (Unit {0}) ChipFault) (kept : List ℕ)
    → Counts old mid → IsSteady h old → Agrees places h it t
    → ((x : Contents) → old.contents ≡ Some x → Mirrors places (chart_of x) it t
    → HasFound places (chart_of x) it t kept mid between)
    → Preserves {T = Unit {0}} {E = ChipFault} places m t between h (Ok tt) old mid
    → ((k : History) (was : HasFound places (now h) it t kept mid between) → IsSteady k mid
    → StoryRests places m k → Agrees places k was.now between
    → Preserves places m between after k result mid new)
    → Preserves places m t after h result old new
passed_then places m h it t between after old mid new result kept counts steady agrees passes
    first next =
    let was = passes (held h.start h.story) steady.holds agrees.mirrors in
    preserves_then places m h it t between after old mid new result counts agrees first
    (λ k there resting tidy. next k was there resting
    (agrees_of places k mid was.contents was.now between there was.told was.mirrors tidy))
