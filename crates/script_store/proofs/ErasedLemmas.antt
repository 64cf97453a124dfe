-- What was erased and not programmed is marked behind a close.
use Rattle.std.proofs.Common.{ℕ, ◌≡◌, ◌≢◌, ◌<◌, Bool, true, false, ◌||◌, ◌&&◌, eqb, [], ◌∷◌, length, slice_index, inl, inr, refl, subst}
use Rattle.std.proofs.lemmas.Bool.{cases_Bool, cases_lt}
use Rattle.chip_trait.specs.declared.event.Event.TheVariants.{Read, Program, Erase, Worn, Barrier, Said}
use Rattle.chip_trait.specs.Lawful.{Age, Unknown, Erased, Clean, Used, settled, age}
use Rattle.chip_trait.specs.Story.{Story, held}
use Rattle.chip_trait.specs.Told.{History, adds_all}
use Rattle.chip_trait.proofs.AgeLemmas.{clean_blank}
use Rattle.chip_trait.proofs.LawfulLemmas.{clean-append}
use Rattle.ipl_meaning.specs.Tables.{Tables, written_of}
use Rattle.place_taking.specs.Homes.{IsUnknown}
use Rattle.unit_io.specs.Costs.{is_tried}
use Rattle.restart.specs.Closing.{MarksUnits}
use Rattle.script_store.specs.Closes.{MarksErased}

-- ---- a place of which no erase was tried

-- its sectors weren't erased
abbrev IsOld : Age → Type 0
IsOld Unknown = Unit {0}
IsOld Erased = ⊥
IsOld Clean = ⊥
IsOld Used = Unit {0}

old_settled : (a : Age) → IsOld a → IsOld (settled a)
old_settled Unknown is = tt
old_settled Erased is = absurd is
old_settled Clean is = absurd is
old_settled Used is = tt

-- an erase of another place
not_first : (b c : Bool) → (b || c) ≡ false → (b ≡ false) × (c ≡ false)
not_first true c is = absurd cc
not_first false c is = (refl, is)

untried_old : (added : Story) (p n : ℕ) → is_tried added p ≡ false → IsOld (age added p n)
untried_old [] p n none = tt
untried_old (Read q t ∷ added) p n none = untried_old added p n none
untried_old (Said piece ∷ added) p n none = untried_old added p n none
untried_old (Barrier ∷ added) p n none = old_settled (age added p n) (untried_old added p n none)
untried_old (Worn q ∷ added) p n none =
    let (other, rest) = not_first (eqb q p) (is_tried added p) none in
    rw other (untried_old added p n rest)
untried_old (Erase q ∷ added) p n none =
    let (other, rest) = not_first (eqb q p) (is_tried added p) none in
    rw other (untried_old added p n rest)
untried_old (Program q t bytes ∷ added) p n none = elim (cases_Bool (eqb q p && eqb t n)) [
  | inl here ↦ rw here tt
  | inr other ↦ rw other (untried_old added p n none)
]

-- none of them is clean by these events
untried_unclean : (added : Story) (p n : ℕ) → is_tried added p ≡ false → age added p n ≢ Clean
untried_unclean added p n none clean = let old : IsOld (age added p n) = untried_old added p n none in rw clean at old

-- ---- what is marked

-- Each log sector of a unit's place, where what holds 512 bytes FF is marked of each unit of which something is known.
pub marks_erased : (places : ℕ) (t : Tables) (h : History) (added : Story)
    → MarksUnits places t (held (adds_all added h).start (adds_all added h).story)
    → ((u : ℕ) → u < length t.places.current → IsUnknown t.places u
    → is_tried added (slice_index t.places.current u) ≡ false)
    → MarksErased places (adds_all added h) added
marks_erased places t h added units untried it laid u n low least most clean =
    let k = adds_all added h in
    let home = (it.units u).home in
    let unit = units it laid u low in
    elim (cases_lt (written_of t u) 32) [
      | inl known ↦ unit.blanks known n least most
          (clean_blank k.start k.story home n (clean-append added h.story home n clean))
      | inr unknown ↦ absurd (untried_unclean added home n
          (subst (λ (p : ℕ). is_tried added p ≡ false) unit.current (untried u unit.low unknown)) clean)
    ]
