-- A clean sector is blank, and was not touched since the last barrier.
use Rattle.std.proofs.Common.{◌≡◌, ℕ, List, [], ◌∷◌, eqb, true, false, not, ◌&&◌, ◌||◌, Bool, inl, inr, refl}
use Rattle.std.proofs.lemmas.Bool.{cases_Bool}
use Rattle.chip_trait.specs.declared.event.Event.TheVariants.{Read, Program, Erase, Worn, Barrier, Said}
use Rattle.chip_trait.specs.Story.{Story, Contents, blank, held}
use Rattle.chip_trait.specs.Lawful.{Age, Unknown, Erased, Clean, Used, settled, age}
use Rattle.chip_trait.specs.Image.{is_open, is_sound, is_worn}

-- the sector was erased, and not programmed since
abbrev IsBlankAge : Age → Type 0
IsBlankAge Unknown = ⊥
IsBlankAge Erased = Unit {0}
IsBlankAge Clean = Unit {0}
IsBlankAge Used = ⊥

abbrev IsCleanAge : Age → Type 0
IsCleanAge Unknown = ⊥
IsCleanAge Erased = ⊥
IsCleanAge Clean = Unit {0}
IsCleanAge Used = ⊥

clean_is_blank : (a : Age) → IsCleanAge a → IsBlankAge a
clean_is_blank Unknown is = is
clean_is_blank Erased is = tt
clean_is_blank Clean is = tt
clean_is_blank Used is = is

before_barrier : (a : Age) → IsBlankAge (settled a) → IsBlankAge a
before_barrier Unknown is = is
before_barrier Erased is = tt
before_barrier Clean is = tt
before_barrier Used is = is

blank_by_age : (start : Contents) (story : Story) (p s : ℕ) → IsBlankAge (age story p s) → held start story p s ≡ blank
blank_by_age start [] p s is = absurd is
blank_by_age start (Read q t ∷ story) p s is = blank_by_age start story p s is
blank_by_age start (Said b ∷ story) p s is = blank_by_age start story p s is
blank_by_age start (Barrier ∷ story) p s is = blank_by_age start story p s (before_barrier (age story p s) is)
blank_by_age start (Worn q ∷ story) p s is = elim (cases_Bool (eqb q p)) [
  | inl here ↦ absurd (rw here at is)
  | inr apart ↦ let before : IsBlankAge (age story p s) = rw apart at is in blank_by_age start story p s before
]
blank_by_age start (Erase q ∷ story) p s is = elim (cases_Bool (eqb q p)) [
  | inl here ↦ rw here refl
  | inr apart ↦ let before : IsBlankAge (age story p s) = rw apart at is in rw apart (blank_by_age start story p s before)
]
blank_by_age start (Program q t b ∷ story) p s is = elim (cases_Bool (eqb q p && eqb t s)) [
  | inl here ↦ absurd (rw here at is)
  | inr apart ↦ let before : IsBlankAge (age story p s) = rw apart at is in rw apart (blank_by_age start story p s before)
]

closed_by_age : (story : Story) (p s : ℕ) → IsCleanAge (age story p s) → is_open story p s ≡ false
closed_by_age [] p s is = refl
closed_by_age (Read q t ∷ story) p s is = closed_by_age story p s is
closed_by_age (Said b ∷ story) p s is = closed_by_age story p s is
closed_by_age (Barrier ∷ story) p s is = refl
closed_by_age (Worn q ∷ story) p s is = elim (cases_Bool (eqb q p)) [
  | inl here ↦ absurd (rw here at is)
  | inr apart ↦ let before : IsCleanAge (age story p s) = rw apart at is in closed_by_age story p s before
]
closed_by_age (Erase q ∷ story) p s is = elim (cases_Bool (eqb q p)) [
  | inl here ↦ absurd (rw here at is)
  | inr apart ↦ let before : IsCleanAge (age story p s) = rw apart at is in rw apart (closed_by_age story p s before)
]
closed_by_age (Program q t b ∷ story) p s is = elim (cases_Bool (eqb q p && eqb t s)) [
  | inl here ↦ absurd (rw here at is)
  | inr apart ↦ let before : IsCleanAge (age story p s) = rw apart at is in rw apart (closed_by_age story p s before)
]

-- an erase that was done lasts with the next barrier
sound_by_age : (story : Story) (p s : ℕ) → IsBlankAge (age story p s) → is_sound story p ≡ true
sound_by_age [] p s is = absurd is
sound_by_age (Read q t ∷ story) p s is = sound_by_age story p s is
sound_by_age (Said b ∷ story) p s is = sound_by_age story p s is
sound_by_age (Barrier ∷ story) p s is = sound_by_age story p s (before_barrier (age story p s) is)
sound_by_age (Worn q ∷ story) p s is = elim (cases_Bool (eqb q p)) [
  | inl here ↦ absurd (rw here at is)
  | inr apart ↦ let before : IsBlankAge (age story p s) = rw apart at is in rw apart (sound_by_age story p s before)
]
sound_by_age (Erase q ∷ story) p s is = elim (cases_Bool (eqb q p)) [
  | inl here ↦ rw here refl
  | inr apart ↦ let before : IsBlankAge (age story p s) = rw apart at is in rw apart (sound_by_age story p s before)
]
sound_by_age (Program q t b ∷ story) p s is = elim (cases_Bool (eqb q p && eqb t s)) [
  | inl here ↦ absurd (rw here at is)
  | inr apart ↦ let before : IsBlankAge (age story p s) = rw apart at is in sound_by_age story p s before
]

not_both : (worn : Bool) → (worn && not true) ≡ false
not_both true = refl
not_both false = refl

lasting_by_age : (story : Story) (p s : ℕ) → IsCleanAge (age story p s) → is_worn story p ≡ false
lasting_by_age [] p s is = refl
lasting_by_age (Read q t ∷ story) p s is = lasting_by_age story p s is
lasting_by_age (Said b ∷ story) p s is = lasting_by_age story p s is
lasting_by_age (Barrier ∷ story) p s is = rw (sound_by_age story p s (before_barrier (age story p s) (clean_is_blank (settled (age story p s)) is))) (not_both (is_worn story p))
lasting_by_age (Worn q ∷ story) p s is = elim (cases_Bool (eqb q p)) [
  | inl here ↦ absurd (rw here at is)
  | inr apart ↦ let before : IsCleanAge (age story p s) = rw apart at is in rw apart (lasting_by_age story p s before)
]
lasting_by_age (Erase q ∷ story) p s is = elim (cases_Bool (eqb q p)) [
  | inl here ↦ absurd (rw here at is)
  | inr apart ↦ let before : IsCleanAge (age story p s) = rw apart at is in lasting_by_age story p s before
]
lasting_by_age (Program q t b ∷ story) p s is = elim (cases_Bool (eqb q p && eqb t s)) [
  | inl here ↦ absurd (rw here at is)
  | inr apart ↦ let before : IsCleanAge (age story p s) = rw apart at is in lasting_by_age story p s before
]

-- a clean sector is blank
pub clean_blank : (start : Contents) (story : Story) (p s : ℕ) → age story p s ≡ Clean → held start story p s ≡ blank
clean_blank start story p s is = blank_by_age start story p s (rw is tt)

-- and closed
pub clean_closed : (story : Story) (p s : ℕ) → age story p s ≡ Clean → is_open story p s ≡ false
clean_closed story p s is = closed_by_age story p s (rw is tt)

-- and its place isn't worn
pub clean_lasting : (story : Story) (p s : ℕ) → age story p s ≡ Clean → is_worn story p ≡ false
clean_lasting story p s is = lasting_by_age story p s (rw is tt)

-- another sector's program leaves its age
pub age_apart : (story : Story) (q t : ℕ) (b : List ℕ) (p s : ℕ) → (eqb q p && eqb t s) ≡ false → age (Program q t b ∷ story) p s ≡ age story p s
age_apart story q t b p s apart = rw apart refl
