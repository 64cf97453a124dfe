-- The events of calls, one after another.
use Rattle.std.proofs.Common.{◌≡◌, ℕ, List, [], ◌∷◌, ◌++◌, refl, sym, ◌∙◌, ap, subst, append_assoc}
use Rattle.std.specs.List.{All}
use Rattle.std.proofs.lemmas.List.Elements.{All-head, All-tail}
use Rattle.chip_trait.specs.declared.event.Event.TheVariants.{Read, Program, Erase, Worn, Barrier, Said}
use Rattle.chip_trait.specs.Story.{Story, pieces}
use Rattle.chip_trait.specs.Lawful.{age, IsLawful, AreClean}
use Rattle.chip_trait.proofs.SaidLemmas.{pieces-append}
use Rattle.unit_io.specs.ReadsAt.{IsReadAt}
use Rattle.unit_io.specs.Steps.{TidyWork}
use Rattle.unit_io.specs.StepLaws.{ReadsAreTidy, TidyWorkIsJoined, ProgramsAreTidy, TidyWorkLeavesClean}

module _ (At : ℕ → ℕ → Type 0) where
  silent_reads : (added : Story) → All (IsReadAt At) added → pieces added ≡ []
  silent_reads [] each = refl
  silent_reads (Read p s ∷ added) each = silent_reads added (All-tail (IsReadAt At) (Read p s) added each)
  silent_reads (Program p s bytes ∷ added) each = absurd (All-head (IsReadAt At) (Program p s bytes) added each)
  silent_reads (Erase p ∷ added) each = absurd (All-head (IsReadAt At) (Erase p) added each)
  silent_reads (Barrier ∷ added) each = absurd (All-head (IsReadAt At) Barrier added each)
  silent_reads (Worn q ∷ added) each = absurd (All-head (IsReadAt At) (Worn q) added each)
  silent_reads (Said piece ∷ added) each = absurd (All-head (IsReadAt At) (Said piece) added each)

  lawful_reads : (added base : Story) → All (IsReadAt At) added → IsLawful base → IsLawful (added ++ base)
  lawful_reads [] base each is = is
  lawful_reads (Read p s ∷ added) base each is = lawful_reads added base (All-tail (IsReadAt At) (Read p s) added each) is
  lawful_reads (Program p s bytes ∷ added) base each is = absurd (All-head (IsReadAt At) (Program p s bytes) added each)
  lawful_reads (Erase p ∷ added) base each is = absurd (All-head (IsReadAt At) (Erase p) added each)
  lawful_reads (Barrier ∷ added) base each is = absurd (All-head (IsReadAt At) Barrier added each)
  lawful_reads (Worn q ∷ added) base each is = absurd (All-head (IsReadAt At) (Worn q) added each)
  lawful_reads (Said piece ∷ added) base each is = absurd (All-head (IsReadAt At) (Said piece) added each)

  age_of_reads : (added base : Story) (q t : ℕ) → All (IsReadAt At) added → age (added ++ base) q t ≡ age base q t
  age_of_reads [] base q t each = refl
  age_of_reads (Read p s ∷ added) base q t each = age_of_reads added base q t (All-tail (IsReadAt At) (Read p s) added each)
  age_of_reads (Program p s bytes ∷ added) base q t each = absurd (All-head (IsReadAt At) (Program p s bytes) added each)
  age_of_reads (Erase p ∷ added) base q t each = absurd (All-head (IsReadAt At) (Erase p) added each)
  age_of_reads (Barrier ∷ added) base q t each = absurd (All-head (IsReadAt At) Barrier added each)
  age_of_reads (Worn p ∷ added) base q t each = absurd (All-head (IsReadAt At) (Worn p) added each)
  age_of_reads (Said piece ∷ added) base q t each = absurd (All-head (IsReadAt At) (Said piece) added each)

pub tidy_none : (before : ℕ → ℕ → Type 0) (Settles : Type 0) → TidyWork before before Settles []
tidy_none before Settles = record { silent = refl; lawful = record { lawful = λ base is clean. is }; clean = λ _ base clean. clean }

pub tidy_reads : ReadsAreTidy
tidy_reads At before Settles old new did = record {
  silent = silent_reads At did.added did.each;
  lawful = record { lawful = λ base is clean. lawful_reads At did.added base did.each is };
  clean = λ _ base clean p s counted_clean. age_of_reads At did.added base p s did.each ∙ clean p s counted_clean;
}

pub tidy_then : TidyWorkIsJoined
tidy_then s0 s1 s2 A B a b first done second = record {
  silent = pieces-append b a ∙ ap (λ (l : List (List ℕ)). l ++ pieces b) first.silent ∙ second.silent;
  lawful = record {
    lawful = λ base is clean. subst IsLawful (sym (append_assoc b a base)) (second.lawful.lawful (a ++ base) (first.lawful.lawful base is clean) (first.clean done base clean));
  };
  clean = λ end base clean. subst (AreClean s2) (sym (append_assoc b a base)) (second.clean end (a ++ base) (first.clean done base clean));
}

pub tidy_weaker : (before after : ℕ → ℕ → Type 0) (A B : Type 0) (added : Story) → (B → A) → TidyWork before after A added → TidyWork before after B added
tidy_weaker before after A B added less did = record { silent = did.silent; lawful = did.lawful; clean = λ b. did.clean (less b) }

pub tidy_programs : ProgramsAreTidy
tidy_programs p Spot done before after Settles added did spots fewer = record {
  silent = did.silent;
  lawful = record { lawful = λ base is clean. did.lawful base is (λ s spot. clean p s (spots s spot)) };
  clean = λ end base clean q s counted. let was = fewer end q s counted in did.others base q s was.1 (clean q s was.0);
}

pub tidy_clean : TidyWorkLeavesClean
tidy_clean before after Settles added did end = record { clean = λ base is clean. did.clean end base clean }
