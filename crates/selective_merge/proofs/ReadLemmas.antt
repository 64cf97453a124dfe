-- Reads before what is written.
use Rattle.std.proofs.Common.{◌≡◌, ℕ, Bool, true, false, ◌++◌, Err, refl, sym, subst}
use Rattle.chip_trait.specs.Story.{Story, Contents, held}
use Rattle.chip_trait.specs.Lawful.{Clean, age}
use Rattle.chip_trait.specs.Told.{History, Told}
use Rattle.ipl_base.specs.declared.fault.ChipFault.{ChipFault}
use Rattle.ipl_meaning.specs.Legible.{Legible}
use Rattle.ipl_meaning.specs.Chart.{Chart}
use Rattle.ipl_meaning.specs.Rests.{now, StoryRests}
use Rattle.unit_io.specs.Leads.{IsSteady}
use Rattle.unit_io.specs.Reads.{OfContents}
use Rattle.unit_io.specs.ReadsAt.{ReadsAt}
use Rattle.unit_io.specs.Spots.{Programs}
use Rattle.unit_io.proofs.ReadsAtLemmas.{at_rests, at_now}
use Rattle.unit_io.proofs.SpotLemmas.{programs_then}
use Rattle.unit_io.proofs.StepLemmas.{outcome_reads}
use Rattle.unit_io.proofs.StepTidyLemmas.{tidy_reads}
use Rattle.selective_merge.specs.Throughout.{Unbroken, RestsBy, KeepsThroughout}
use Rattle.selective_merge.proofs.ThroughoutLemmas.{SoFar}

-- reads program nothing
pub reads_program : (At : ℕ → ℕ → Type 0) (p : ℕ) (Spot : ℕ → Type 0) (done : Bool)
    (old new : Told) → (did : ReadsAt At old new) → Programs p Spot done did.added
reads_program At p Spot done old new did = record {
  silent = (tidy_reads At (λ q s. ⊥) (Unit {0}) old new did).silent;
  lawful = λ base is clean.
      (tidy_reads At (λ q s. ⊥) (Unit {0}) old new did).lawful.lawful base is
      (λ q s none. absurd none);
  others = λ base q s apart clean.
      (tidy_reads At (λ r n. (r ≡ q) × (n ≡ s)) (Unit {0}) old new did).clean tt base
      (λ r n is. subst (λ k. age base k n ≡ Clean) (sym is.0)
      (subst (λ k. age base q k ≡ Clean) (sym is.1) clean)) q s (refl, refl);
}

-- programs behind what programs nothing
pub programs_behind : (p : ℕ) (Spot : ℕ → Type 0) (done : Bool) (later earlier : Story)
    → Programs p (λ s. ⊥) true earlier → Programs p Spot done later
    → Programs p Spot done (later ++ earlier)
programs_behind p Spot done later earlier first second =
    programs_then p (λ s. ⊥) Spot Spot true done later earlier (λ s none is. none)
    (λ s none. absurd none) (λ s is. is) first second

-- what a steady chip holds
pub of_now : (P : Contents → Type 0) (h : History) (t : Told) → IsSteady h t
    → OfContents t P → P (held h.start h.story)
of_now P h t steady of = of (held h.start h.story) steady.holds

module _ (At : ℕ → ℕ → Type 0) (places : ℕ) (m : Legible) (h : History) (old new : Told)
    (steady : IsSteady h old) (rests : StoryRests places m h) (did : ReadsAt At old new) where
  -- reads that were done: the chart is the same, and this is so of it
  pub so_far_read : (p : ℕ) (P : Chart → Type 0) → P (now h)
      → SoFar places m (Programs p (λ s. ⊥) true) (λ c y. (y ≡ c) × P c) h old new
  so_far_read p P is =
      outcome_reads At places m (Programs p (λ s. ⊥) true) (Unit {0})
      (λ k. StoryRests places m k × ((now k ≡ now h) × P (now h))) h old new steady rests did
      (reads_program At p (λ s. ⊥) true old new did)
      (at_rests At places m h did.added did.each rests, (at_now At h did.added did.each, is))

  -- reads that failed
  pub keeps_unread : {T : Type 0} (Does : Bool → Story → Type 0)
      (F : T → Chart → Chart → Type 0) (G : Chart → Chart → Type 0) (e : ChipFault)
      → Does false did.added → ((c : Chart) → G c c)
      → KeepsThroughout {T = T} places m Does F G h (Err e) old new
  keeps_unread Does F G e does same =
      outcome_reads At places m (Does false) (Unbroken {T = Unit {0}} (Err e) old new)
      (RestsBy places m G h) h old new steady rests did does (
        at_rests At places m h did.added did.each rests,
        subst (G (now h)) (sym (at_now At h did.added did.each)) (same (now h)),
      )
