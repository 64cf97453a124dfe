-- What a story tells of each sector since an erase of its place.
use Rattle.std.proofs.Common.{◌≡◌, ◌≢◌, ◌<◌, ℕ, zero, suc, [], ◌∷◌, ◌++◌, ◌&&◌, eqb, inl, inr, refl, arith, append_assoc, subst, sym}
use Rattle.std.proofs.lemmas.Bool.{cases_Bool}
use Rattle.std.proofs.lemmas.Bool.Decides.{nat_tests}
use Rattle.chip_trait.specs.declared.event.Event.TheVariants.{Read, Program, Erase, Worn, Barrier, Said}
use Rattle.chip_trait.specs.Image.{IsQuiet}
use Rattle.chip_trait.specs.Lawful.{Age, Unknown, Erased, Clean, Used, settled, age}
use Rattle.chip_trait.specs.Story.{Story, Contents}
use Rattle.restart.specs.Events.{each_below, heading_events, clearing_events, status_event, format_events}

-- what is known is so behind a barrier
known_settled : (a : Age) → a ≢ Unknown → settled a ≢ Unknown
known_settled Unknown known is = known is
known_settled Erased known is = cc is
known_settled Clean known is = cc is
known_settled Used known is = cc is

-- and behind any other events
pub known_later : (added base : Story) (p s : ℕ) → age base p s ≢ Unknown → age (added ++ base) p s ≢ Unknown
known_later [] base p s known = known
known_later (Read q t ∷ added) base p s known = known_later added base p s known
known_later (Said piece ∷ added) base p s known = known_later added base p s known
known_later (Barrier ∷ added) base p s known = known_settled (age (added ++ base) p s) (known_later added base p s known)
known_later (Worn q ∷ added) base p s known = elim (cases_Bool (eqb q p)) [
  | inl here ↦ rw here (λ is. cc is)
  | inr apart ↦ rw apart (known_later added base p s known)
]
known_later (Erase q ∷ added) base p s known = elim (cases_Bool (eqb q p)) [
  | inl here ↦ rw here (λ is. cc is)
  | inr apart ↦ rw apart (known_later added base p s known)
]
known_later (Program q t bytes ∷ added) base p s known = elim (cases_Bool (eqb q p && eqb t s)) [
  | inl here ↦ rw here (λ is. cc is)
  | inr apart ↦ rw apart (known_later added base p s known)
]

-- a barrier leaves none that was erased and isn't clean
settled_unerased : (a : Age) → settled a ≢ Erased
settled_unerased Unknown is = cc is
settled_unerased Erased is = cc is
settled_unerased Clean is = cc is
settled_unerased Used is = cc is

-- nor is there one in a story that is quiet
pub quiet_unerased : (start : Contents) (story : Story) (p s : ℕ) → IsQuiet start story → age story p s ≢ Erased
quiet_unerased start [] p s quiet = λ is. cc is
quiet_unerased start (Read q t ∷ story) p s quiet = quiet_unerased start story p s quiet
quiet_unerased start (Said piece ∷ story) p s quiet = quiet_unerased start story p s quiet
quiet_unerased start (Barrier ∷ story) p s quiet = settled_unerased (age story p s)
quiet_unerased start (Erase q ∷ story) p s quiet = absurd quiet
quiet_unerased start (Worn q ∷ story) p s quiet = elim (cases_Bool (eqb q p)) [
  | inl here ↦ rw here (λ is. cc is)
  | inr apart ↦ rw apart (quiet_unerased start story p s quiet)
]
quiet_unerased start (Program q t bytes ∷ story) p s quiet = elim (cases_Bool (eqb q p && eqb t s)) [
  | inl here ↦ rw here (λ is. cc is)
  | inr apart ↦ rw apart (quiet_unerased start story p s quiet.3)
]

-- what was erased, and neither used nor open, is clean
pub clean_else : (a : Age) → a ≢ Unknown → a ≢ Erased → a ≢ Used → a ≡ Clean
clean_else Unknown known closed unused = absurd (known refl)
clean_else Erased known closed unused = absurd (closed refl)
clean_else Clean known closed unused = refl
clean_else Used known closed unused = absurd (unused refl)

-- ---- a format

-- each place was erased
cleared : (n : ℕ) (base : Story) (p s : ℕ) → p < n → age (each_below Erase n ++ base) p s ≢ Unknown
cleared zero base p s low = absurd (omega (arith, low))
cleared (suc n) base p s low = elim (cases_Bool (eqb n p)) [
  | inl here ↦ rw here (λ is. cc is)
  | inr apart ↦ rw apart (cleared n base p s (grind (arith, nat_tests, low, apart)))
]

pub format_known : (places units : ℕ) (base : Story) (p s : ℕ) → p < places
    → age (format_events places units ++ base) p s ≢ Unknown
format_known places units base p s low =
    let erased = known_later (Barrier ∷ []) (each_below Erase places ++ base) p s (cleared places base p s low) in
    let headed = subst (λ (story : Story). age story p s ≢ Unknown)
    (sym (append_assoc (heading_events units) (clearing_events places) base))
    (known_later (heading_events units) (clearing_events places ++ base) p s erased) in
    known_later (Barrier ∷ status_event units ∷ []) ((heading_events units ++ clearing_events places) ++ base) p s headed
