-- What events do to a sector, whatever came before them.
use Rattle.std.proofs.Common.{◌≡◌, ◌≢◌, ◌⊎◌, inl, inr, ◌<◌, ◌≤◌, ◌+◌, ℕ, zero, suc, Bool, true, false, List, [], ◌∷◌, ◌++◌, eqb, ◌&&◌, refl, sym, ◌∙◌, ap, subst, arith}
use Rattle.std.proofs.lemmas.Bool.{cases_Bool, cases_eq, cases_lt, and_parts, eqb-true, eq-eqb, ne_eqb, false≢true}
use Rattle.chip_trait.specs.declared.event.Event.{Event}
use Rattle.chip_trait.specs.declared.event.Event.TheVariants.{Read, Program, Erase, Worn, Barrier, Said}
use Rattle.chip_trait.specs.Story.{Story, blank, held}
use Rattle.chip_trait.specs.Image.{is_open, is_worn}
use Rattle.chip_trait.specs.Lawful.{Age, Unknown, Erased, Clean, Used, settled, age, AreClean}
use Rattle.chip_trait.specs.Told.{History, adds, adds_all}
use Rattle.chip_trait.proofs.AgeLemmas.{clean_blank, clean_closed, clean_lasting}
use Rattle.ipl_meaning.specs.Layout.{Layout}
use Rattle.ipl_meaning.specs.Rests.{now, IsUntouched}
use Rattle.ipl_meaning.specs.Tables.{Tables, IsCountedClean}
use Rattle.ipl_meaning.specs.Mirrors.{Mirrors}
use Rattle.ipl_meaning.specs.Marks.{AreUnused}
use Rattle.ipl_meaning.specs.AgreeingLaws.{TidyIsCarried, UnusedIsCarried}
use Rattle.ipl_meaning.proofs.MirrorLemmas.{map_contains}

-- ---- one sector

-- the events alone say how it stands, whatever came before
record IsDecided (added : Story) (p s : ℕ) : Type 0 where
  same : (base other : Story) → age (added ++ base) p s ≡ age (added ++ other) p s

-- or they pass it: a used one is used, an unused one unused, and an untouched one untouched
record IsPassed (added : Story) (p s : ℕ) : Type 0 where
  used : (base : Story) → age base p s ≡ Used → age (added ++ base) p s ≡ Used
  unused : (base : Story) → age base p s ≢ Used → age (added ++ base) p s ≢ Used
  untouched : (h : History) → IsUntouched h p s → IsUntouched (adds_all added h) p s

settled_unused : (a : Age) → a ≢ Used → settled a ≢ Used
settled_unused Unknown unused is = cc is
settled_unused Erased unused is = cc is
settled_unused Clean unused is = cc is
settled_unused Used unused is = unused refl

decided_or_passed : (added : Story) (p s : ℕ) → IsDecided added p s ⊎ IsPassed added p s
decided_or_passed [] p s = inr (record { used = λ base is. is; unused = λ base fresh. fresh; untouched = λ h is. is })
decided_or_passed (Read q t ∷ added) p s = elim (decided_or_passed added p s) [
  | inl decided ↦ inl (record { same = decided.same })
  | inr passed ↦ inr (record { used = passed.used; unused = passed.unused; untouched = passed.untouched })
]
decided_or_passed (Said piece ∷ added) p s = elim (decided_or_passed added p s) [
  | inl decided ↦ inl (record { same = decided.same })
  | inr passed ↦ inr (record { used = passed.used; unused = passed.unused; untouched = passed.untouched })
]
decided_or_passed (Barrier ∷ added) p s = elim (decided_or_passed added p s) [
  | inl decided ↦ inl (record { same = λ base other. ap settled (decided.same base other) })
  | inr passed ↦ inr (record {
    used = λ base is. ap settled (passed.used base is);
    unused = λ base fresh. settled_unused _ (passed.unused base fresh);
    untouched = λ h is. let (is_blank, closed, sound) = passed.untouched h is in (is_blank, refl, rw sound refl);
  })
]
decided_or_passed (Program q t bytes ∷ added) p s = elim (cases_Bool (eqb q p && eqb t s)) [
  | inl here ↦ inl (record { same = λ base other. rw here refl })
  | inr apart ↦ elim (decided_or_passed added p s) [
    | inl decided ↦ inl (record { same = λ base other. rw apart (decided.same base other) })
    | inr passed ↦ inr (record {
      used = λ base is. rw apart (passed.used base is);
      unused = λ base fresh. rw apart (passed.unused base fresh);
      untouched = λ h is. rw apart (passed.untouched h is);
    })
  ]
]
decided_or_passed (Erase q ∷ added) p s = elim (cases_Bool (eqb q p)) [
  | inl here ↦ inl (record { same = λ base other. rw here refl })
  | inr apart ↦ elim (decided_or_passed added p s) [
    | inl decided ↦ inl (record { same = λ base other. rw apart (decided.same base other) })
    | inr passed ↦ inr (record {
      used = λ base is. rw apart (passed.used base is);
      unused = λ base fresh. rw apart (passed.unused base fresh);
      untouched = λ h is. rw apart (passed.untouched h is);
    })
  ]
]
decided_or_passed (Worn q ∷ added) p s = elim (cases_Bool (eqb q p)) [
  | inl here ↦ inl (record { same = λ base other. rw here refl })
  | inr apart ↦ elim (decided_or_passed added p s) [
    | inl decided ↦ inl (record { same = λ base other. rw apart (decided.same base other) })
    | inr passed ↦ inr (record {
      used = λ base is. rw apart (passed.used base is);
      unused = λ base fresh. rw apart (passed.unused base fresh);
      untouched = λ h is. rw apart (passed.untouched h is);
    })
  ]
]

-- a clean sector is untouched
pub clean_is_untouched : (h : History) (p s : ℕ) → age h.story p s ≡ Clean → IsUntouched h p s
clean_is_untouched h p s clean =
    (clean_blank h.start h.story p s clean, clean_closed h.story p s clean, clean_lasting h.story p s clean)

-- what leaves it clean, whatever came before, leaves it untouched
pub stays_untouched : (h : History) (added : Story) (p s : ℕ)
    → ((base : Story) → age base p s ≡ Clean → age (added ++ base) p s ≡ Clean)
    → IsUntouched h p s → IsUntouched (adds_all added h) p s
stays_untouched h added p s clean is = elim (decided_or_passed added p s) [
  | inl decided ↦
      let base : Story = Barrier ∷ Erase p ∷ [] in
      let before : age base p s ≡ Clean = rw (eq-eqb p p refl) refl in
      clean_is_untouched (adds_all added h) p s (decided.same h.story base ∙ clean base before)
  | inr passed ↦ passed.untouched h is
]

-- ---- some sectors

-- all places were erased, and a barrier came after
erases : ℕ → Story
erases zero = []
erases (suc n) = Erase n ∷ erases n

cleared : ℕ → Story
cleared n = Barrier ∷ erases n

erased_age : (n p s : ℕ) → p < n → age (erases n) p s ≡ Erased
unfolding erases
erased_age zero p s low = absurd (omega (arith, low))
erased_age (suc n) p s low = elim (cases_eq p n) [
  | inl here ↦ rw (eq-eqb n p (sym here)) refl
  | inr other ↦ rw (ne_eqb n p (λ at. other (sym at))) (erased_age n p s (omega (arith, low, other)))
]

cleared_age : (n p s : ℕ) → p < n → age (cleared n) p s ≡ Clean
unfolding cleared
cleared_age n p s low = ap settled (erased_age n p s low)

same_or_other : (a b : List ℕ) → (a ≡ b) ⊎ (a ≢ b)
same_or_other [] [] = inl refl
same_or_other [] (y ∷ b) = inr (λ is. cc is)
same_or_other (x ∷ a) [] = inr (λ is. cc is)
same_or_other (x ∷ a) (y ∷ b) = elim (cases_eq x y) [
  | inl first ↦ elim (same_or_other a b) [ inl rest ↦ inl (cc (first, rest)) | inr other ↦ inr (λ is. other (cc is)) ]
  | inr other ↦ inr (λ is. other (cc is))
]

module _ (A B : ℕ → ℕ → Type 0) (places : ℕ) (added : Story) (within : (p s : ℕ) → A p s → p < places)
    (clean : (base : Story) → AreClean A base → AreClean B (added ++ base)) where
  all_clean : AreClean A (cleared places)
  all_clean p s is = cleared_age places p s (within p s is)

  -- where another sector was programmed besides
  clean_but : (p s : ℕ) → ¬ A p s → AreClean A (Program p s [] ∷ cleared places)
  clean_but p s none q n is = elim (cases_Bool (eqb p q && eqb s n)) [
    | inl here ↦
        let both = and_parts _ _ here in
        let at_p : q ≡ p = sym (eqb-true _ _ both.0) in
        let at_s : n ≡ s = sym (eqb-true _ _ both.1) in
        absurd (none (subst (λ (k : ℕ). A p k) at_s (subst (λ (k : ℕ). A k n) at_p is)))
    | inr apart ↦ rw apart (all_clean q n is)
  ]

  -- a sector that is passed was one of the first
  was_one : (p s : ℕ) → IsPassed added p s → B p s → ¬ ¬ A p s
  was_one p s passed is none =
      let base : Story = Program p s [] ∷ cleared places in
      let before : age base p s ≡ Used = rw (eq-eqb p p refl, eq-eqb s s refl) refl in
      let then : Used ≡ Clean = sym (passed.used base before) ∙ clean base (clean_but p s none) p s is in cc then

  untouched_carried : (h : History) → ((p s : ℕ) → A p s → IsUntouched h p s)
      → (p s : ℕ) → B p s → IsUntouched (adds_all added h) p s
  untouched_carried h untouched p s is = elim (decided_or_passed added p s) [
    | inl decided ↦
        clean_is_untouched (adds_all added h) p s
        (decided.same h.story (cleared places) ∙ clean (cleared places) all_clean p s is)
    | inr passed ↦
        let was = was_one p s passed is in
        passed.untouched h (
          elim (same_or_other (held h.start h.story p s) blank) [
            | inl same ↦ same
            | inr other ↦ absurd (was (λ one. other (untouched p s one).0))
          ],
          elim (cases_Bool (is_open h.story p s)) [
            | inl opened ↦ absurd (was (λ one. let no : false ≡ true = sym (untouched p s one).1 ∙ opened in cc no))
            | inr closed ↦ closed
          ],
          elim (cases_Bool (is_worn h.story p)) [
            | inl worn ↦ absurd (was (λ one. let no : false ≡ true = sym (untouched p s one).2 ∙ worn in cc no))
            | inr sound ↦ sound
          ],
        )
  ]

  pub unused_carried : (story : Story) → AreUnused A story → AreUnused B (added ++ story)
  unused_carried story unused p s is = elim (decided_or_passed added p s) [
    | inl decided ↦ λ used.
        let then : Used ≡ Clean = sym used ∙ decided.same story (cleared places) ∙ clean (cleared places) all_clean p s is in cc then
    | inr passed ↦
        passed.unused story (λ used. was_one p s passed is (λ one. unused p s one used))
  ]

-- ---- what the tables count

-- it stands at a place of the chip
pub counted_within : (places : ℕ) (h : History) (it : Layout) (t : Tables) → Mirrors places (now h) it t
    → (p s : ℕ) → IsCountedClean t p s → p < places
counted_within places h it t mirrors p s (small, inl (u, less, is, first)) =
    let low : u < it.count = omega (arith, less, mirrors.directory.units) in
    let at : p ≡ (it.units u).home = is ∙ mirrors.directory.current u low in
    let inside = (mirrors.laid.each u low).chosen.within in omega (arith, at, inside)
counted_within places h it t mirrors p s (small, inr (inl (first, is, above))) =
    (mirrors.overflow.headed p (map_contains t.overflow.in_use p first is)).0
counted_within places h it t mirrors p s (small, inr (inr (is, above))) =
    let at : p ≡ it.status = is ∙ mirrors.status.place in
    let inside = mirrors.laid.chosen.within in omega (arith, at, inside)

pub tidy_is_carried : TidyIsCarried
tidy_is_carried places h it t after added agrees clean =
    untouched_carried (IsCountedClean t) (IsCountedClean after) places added
    (counted_within places h it t agrees.mirrors) clean h agrees.tidy

pub unused_is_carried : UnusedIsCarried
unused_is_carried places h it t after added agrees clean =
    unused_carried (IsCountedClean t) (IsCountedClean after) places added
    (counted_within places h it t agrees.mirrors) clean h.story
