-- How many commit sectors a status place takes more.
use Rattle.std.proofs.Common.{ℕ, List, ◌≡◌, ◌<◌, ◌≤◌, ◌+◌, ◌-◌, nat_lt, length, inl, inr, refl, ◌∙◌, arith}
use Rattle.std.proofs.lemmas.Bool.{cases_Bool, ltb-true, ltb-false, lt-ltb, le-ltb}
use Rattle.ipl_base.specs.declared.limits.TheConstants.{SECTORS, COMMIT_NUMBERS, KEPT_NUMBERS, STATUS_NUMBERS}
use Rattle.ipl_meaning.specs.Tables.{StatusTable}
use Rattle.number_set.specs.Numbers.{Numbers, AreRising}
use Rattle.txn_status.specs.Status.{room_of, status_table, FitStatusPlace, IsSoundStatus}
use Rattle.txn_status.specs.Laws.{CleanSectorsAreRoom}

-- where it takes one, a sector is known clean, and the numbers of one more have room
pub room_left : (it : StatusTable) → 0 < room_of it
    → (it.first < SECTORS) × (length it.numbers + COMMIT_NUMBERS ≤ it.most)
room_left it room = elim (cases_Bool (nat_lt it.most (length it.numbers + COMMIT_NUMBERS))) [
  | inl full ↦ absurd (let none : 0 < 0 = rw full at room in omega (arith, none))
  | inr more ↦ (
    let clean : 0 < SECTORS - it.first = rw more at room in omega (arith, clean),
    ltb-false it.most (length it.numbers + COMMIT_NUMBERS) more,
  )
]

-- where these have room, it takes as many as are known clean
pub room_clean : (it : StatusTable) → length it.numbers + COMMIT_NUMBERS ≤ it.most
    → room_of it ≡ SECTORS - it.first
room_clean it few = rw (le-ltb it.most (length it.numbers + COMMIT_NUMBERS) few) refl

-- and else none
pub room_full : (it : StatusTable) → it.most < length it.numbers + COMMIT_NUMBERS → room_of it ≡ 0
room_full it many = rw (lt-ltb it.most (length it.numbers + COMMIT_NUMBERS) many) refl

pub clean_is_room : CleanSectorsAreRoom
clean_is_room it sound all = elim (cases_Bool (nat_lt it.most (length it.numbers + COMMIT_NUMBERS))) [
  | inl full ↦ room_full it (ltb-true it.most (length it.numbers + COMMIT_NUMBERS) full)
      ∙ omega (arith, ltb-true it.most (length it.numbers + COMMIT_NUMBERS) full, all, sound.few, sound.most)
  | inr more ↦ room_clean it (ltb-false it.most (length it.numbers + COMMIT_NUMBERS) more)
]

-- numbers that were read in, with no sector known clean
pub unclean_sound : (was : StatusTable) (place generation : ℕ) {numbers : Numbers} → IsSoundStatus was
    → numbers.most ≡ was.most → AreRising numbers.list → length numbers.list ≤ numbers.most
    → length numbers.list ≤ STATUS_NUMBERS
    → IsSoundStatus (status_table place generation numbers.list numbers.most SECTORS)
unclean_sound was place generation sound most rising within few = record {
  rising = rising;
  least = omega arith;
  most = omega arith;
  few = omega (arith, few);
  within = within;
  roomy = omega (arith, sound.roomy, most);
  bounded = omega (arith, sound.bounded, most);
}

-- what a new place is given at most
pub keeps_few : (most : ℕ) (kept : List ℕ) → FitStatusPlace most kept → length kept ≤ KEPT_NUMBERS
keeps_few most kept fits = omega (arith, fits.few)
