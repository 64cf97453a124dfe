-- Programs and erases, one after another.
use Rattle.std.proofs.Common.{◌≡◌, ◌≢◌, ◌≤◌, ℕ, List, Bool, true, false, [], ◌∷◌, ◌++◌, ◌&&◌, eqb, inl, inr, refl, sym, ◌∙◌, ap, subst, append_assoc}
use Rattle.std.proofs.lemmas.Bool.{cases_Bool, and_parts, eqb-true, eq-eqb, ne_eqb, false≢true}
use Rattle.chip_trait.specs.declared.event.Event.TheVariants.{Program, Erase, Barrier, Worn}
use Rattle.chip_trait.specs.Story.{Story, pieces}
use Rattle.chip_trait.specs.Lawful.{Clean, settled, age, IsLawful}
use Rattle.chip_trait.proofs.AgeLemmas.{age_apart}
use Rattle.chip_trait.proofs.SaidLemmas.{pieces-append}
use Rattle.unit_io.specs.Spots.{Programs, Clears, Rewrites, IsSpot}

not_both : (p s q t : ℕ) → (q ≡ p → t ≡ s → ⊥) → (eqb p q && eqb s t) ≡ false
not_both p s q t apart = elim (cases_Bool (eqb p q && eqb s t)) [
  | inl both ↦ let parts = and_parts _ _ both in absurd (apart (sym (eqb-true _ _ parts.0)) (sym (eqb-true _ _ parts.1)))
  | inr none ↦ none
]

-- ---- programs

pub programs_none : (p : ℕ) (Spot : ℕ → Type 0) (done : Bool) → Programs p Spot done []
programs_none p Spot done = record { silent = refl; lawful = λ base lawful clean. lawful; others = λ base q s apart clean. clean }

pub programs_one : (p s : ℕ) (bytes : List ℕ) (done : Bool) → Programs p (IsSpot s) done (Program p s bytes ∷ [])
programs_one p s bytes done = record {
  silent = refl;
  lawful = λ base lawful clean. (clean s refl, lawful);
  others = λ base q t apart clean. age_apart base p s bytes q t (not_both p s q t apart) ∙ clean;
}

pub programs_barrier : (p : ℕ) (Spot : ℕ → Type 0) (done : Bool) → Programs p Spot done (Barrier ∷ [])
programs_barrier p Spot done = record { silent = refl; lawful = λ base lawful clean. lawful; others = λ base q s apart clean. ap settled clean }

pub programs_wider : (p : ℕ) (Few Many : ℕ → Type 0) (done then : Bool) (added : Story) → ((s : ℕ) → Few s → Many s) → Programs p Few done added → Programs p Many then added
programs_wider p Few Many done then added wider did = record {
  silent = did.silent;
  lawful = λ base lawful clean. did.lawful base lawful (λ s is. clean s (wider s is));
  others = λ base q s apart clean. did.others base q s (λ same is. apart same (wider s is)) clean;
}

pub silent_both : (later earlier : Story) → pieces later ≡ [] → pieces earlier ≡ [] → pieces (later ++ earlier) ≡ []
silent_both later earlier second first = pieces-append later earlier ∙ ap (λ l. l ++ pieces later) first ∙ second

-- at some spots, and then at others
pub programs_then : (p : ℕ) (First Second All : ℕ → Type 0) (done then : Bool) (later earlier : Story)
    → ((s : ℕ) → First s → Second s → ⊥) → ((s : ℕ) → First s → All s) → ((s : ℕ) → Second s → All s)
    → Programs p First done earlier → Programs p Second then later → Programs p All then (later ++ earlier)
programs_then p First Second All done then later earlier apart a b first second = record {
  silent = silent_both later earlier second.silent first.silent;
  lawful = λ base lawful clean. subst IsLawful (sym (append_assoc later earlier base))
      (second.lawful (earlier ++ base) (first.lawful base lawful (λ s is. clean s (a s is)))
      (λ s is. first.others base p s (λ same here. apart s here is) (clean s (b s is))));
  others = λ base q s none clean. subst (λ (story : Story). age story q s ≡ Clean) (sym (append_assoc later earlier base))
      (second.others (earlier ++ base) q s (λ same is. none same (b s is)) (first.others base q s (λ same is. none same (a s is)) clean));
}

-- ---- erases

pub clears_none : (p : ℕ) → Clears p false []
clears_none p = record { silent = refl; lawful = λ base lawful. lawful; others = λ base q s apart clean. clean; fresh = λ done. absurd (false≢true done) }

pub clears_erase : (p : ℕ) → Clears p false (Erase p ∷ [])
clears_erase p = record {
  silent = refl;
  lawful = λ base lawful. lawful;
  others = λ base q s apart clean. rw (ne_eqb p q (λ same. apart (sym same))) clean;
  fresh = λ done. absurd (false≢true done);
}

pub clears_worn : (p : ℕ) → Clears p false (Worn p ∷ [])
clears_worn p = record {
  silent = refl;
  lawful = λ base lawful. lawful;
  others = λ base q s apart clean. rw (ne_eqb p q (λ same. apart (sym same))) clean;
  fresh = λ done. absurd (false≢true done);
}

pub clears_all : (p : ℕ) → Clears p true (Barrier ∷ Erase p ∷ [])
clears_all p = record {
  silent = refl;
  lawful = λ base lawful. lawful;
  others = λ base q s apart clean. rw (ne_eqb p q (λ same. apart (sym same))) (ap settled clean);
  fresh = λ done base s. rw (eq-eqb p p refl) refl;
}

-- a place cleared, and then programmed
pub cleared_then : (p : ℕ) (Spot : ℕ → Type 0) (then : Bool) (later earlier : Story) → Clears p true earlier → Programs p Spot then later → Clears p false (later ++ earlier)
cleared_then p Spot then later earlier first second = record {
  silent = silent_both later earlier second.silent first.silent;
  lawful = λ base lawful. subst IsLawful (sym (append_assoc later earlier base)) (second.lawful (earlier ++ base) (first.lawful base lawful) (λ s is. first.fresh refl base s));
  others = λ base q s apart clean. subst (λ (story : Story). age story q s ≡ Clean) (sym (append_assoc later earlier base))
      (second.others (earlier ++ base) q s (λ same is. apart same) (first.others base q s apart clean));
  fresh = λ done. absurd (false≢true done);
}

-- ---- a place that was erased, and then programmed

-- at these spots: the others are clean
pub record Refills (p : ℕ) (Spot : ℕ → Type 0) (added : Story) : Type 0 where
  pub silent : pieces added ≡ []
  pub lawful : (base : Story) → IsLawful base → IsLawful (added ++ base)
  pub others : (base : Story) (q s : ℕ) → q ≢ p → age base q s ≡ Clean
      → age (added ++ base) q s ≡ Clean
  pub fresh : (base : Story) (s : ℕ) → (Spot s → ⊥) → age (added ++ base) p s ≡ Clean

pub refills_from : (p : ℕ) (Spot : ℕ → Type 0) (then : Bool) (later earlier : Story)
    → Clears p true earlier → Programs p Spot then later → Refills p Spot (later ++ earlier)
refills_from p Spot then later earlier first second = record {
  silent = silent_both later earlier second.silent first.silent;
  lawful = λ base lawful. subst IsLawful (sym (append_assoc later earlier base))
      (second.lawful (earlier ++ base) (first.lawful base lawful) (λ s is. first.fresh refl base s));
  others = λ base q s apart clean.
      subst (λ (story : Story). age story q s ≡ Clean) (sym (append_assoc later earlier base))
      (second.others (earlier ++ base) q s (λ same is. apart same)
      (first.others base q s apart clean));
  fresh = λ base s none.
      subst (λ (story : Story). age story p s ≡ Clean) (sym (append_assoc later earlier base))
      (second.others (earlier ++ base) p s (λ same is. none is) (first.fresh refl base s));
}

-- at some spots, and then at others, all below this one
pub rewrites_then : (p from : ℕ) (First Second : ℕ → Type 0) (then done : Bool)
    (later earlier : Story) → ((s : ℕ) → Second s → First s → ⊥)
    → ((s : ℕ) → from ≤ s → First s → ⊥) → ((s : ℕ) → from ≤ s → Second s → ⊥)
    → Refills p First earlier → Programs p Second then later
    → Rewrites p from done (later ++ earlier)
rewrites_then p from First Second then done later earlier apart a b first second = record {
  silent = silent_both later earlier second.silent first.silent;
  lawful = λ base lawful. subst IsLawful (sym (append_assoc later earlier base))
      (second.lawful (earlier ++ base) (first.lawful base lawful)
      (λ s is. first.fresh base s (apart s is)));
  others = λ base q s other clean.
      subst (λ (story : Story). age story q s ≡ Clean) (sym (append_assoc later earlier base))
      (second.others (earlier ++ base) q s (λ same is. other same)
      (first.others base q s other clean));
  fresh = λ is_done base s high.
      subst (λ (story : Story). age story p s ≡ Clean) (sym (append_assoc later earlier base))
      (second.others (earlier ++ base) p s (λ same is. b s high is)
      (first.fresh base s (a s high)));
}

-- not all was done: the erase, or some of the programs behind it
pub rewrites_cleared : (p from : ℕ) (added : Story)
    → Clears p false added → Rewrites p from false added
rewrites_cleared p from added did = record {
  silent = did.silent;
  lawful = did.lawful;
  others = did.others;
  fresh = λ done. absurd (false≢true done);
}

pub rewrites_refilled : (p from : ℕ) (Spot : ℕ → Type 0) (added : Story)
    → Refills p Spot added → Rewrites p from false added
rewrites_refilled p from Spot added did = record {
  silent = did.silent;
  lawful = did.lawful;
  others = did.others;
  fresh = λ done. absurd (false≢true done);
}
