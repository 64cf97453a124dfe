-- A chip that was just formatted, with its first tables and no session.
use Rattle.std.proofs.Common.{None, Option, ap, arith, false, get_or, inl, inr, refl, replicate, sym, true, ℕ, ◌+◌, ◌-◌, ◌∙◌, ◌≡◌}
use Rattle.std.specs.FinMap.{empty, get-empty}
use Rattle.std.specs.Option.{option_map}
use Rattle.std.specs.Ordering.{nat_cmp}
use Rattle.std.proofs.lemmas.Bool.{cases_eq, cases_lt}
use Rattle.std.proofs.lemmas.List.{get_or-append_right, get_or-replicate, get_or_past, length-replicate}
use Rattle.std.proofs.lemmas.List.FromFn.{get_or-range_with_len, length-range_with_len}
use Rattle.ipl_model.specs.Peaks.{peaks_of}
use Rattle.ipl_model.specs.State.{Session, at_rest}
use Rattle.record_locks.specs.Held.{Held, slot_peaks}
use Rattle.record_locks.specs.Locks.{AreSoundSlots}
use Rattle.record_locks.specs.Names.{names_of, SamePeaks, SameNames}
use Rattle.record_locks.specs.Standing.{slot_of, state_of}
use Rattle.record_locks.proofs.StandingLemmas.{session_at}
use Rattle.record_locks.proofs.SoundLemmas.{sound_none}
use Rattle.record_locks.proofs.TotalLemmas.{one_writer}
use Rattle.ipl_meaning.specs.FirstTables.{first_layout, first_tables}
use Rattle.ipl_meaning.specs.Formatted.{formatted}
use Rattle.ipl_meaning.specs.Mirrors.{NoneIsLost}
use Rattle.ipl_meaning.proofs.FirstTableLemmas.{first_tables_mirror}
use Rattle.store_laws.specs.Fits.{LocksHold}
use Rattle.store_laws.specs.FittingLaws.{EmptySlotsAreAtRest, FirstStoresFit}
use Rattle.store_laws.proofs.MemoryFitLemmas.{openings_fit}
use Rattle.store_laws.proofs.StateLemmas.{writes_in}

-- ---- no session

abbrev no_one : Option Held
no_one = None

none_at : (n s : ℕ) → get_or (replicate n None) s None ≡ no_one
none_at n s = elim (cases_lt s n) [
  | inl low ↦ get_or-replicate n s no_one no_one low
  | inr past ↦ get_or_past (replicate n no_one) s no_one (omega (arith, past, length-replicate n no_one))
]

pub empty_slots_are_at_rest : EmptySlotsAreAtRest
empty_slots_are_at_rest sessions m few = record { names = names; peaks = peaked; locked = locked }
  where
    names : SameNames (state_of (replicate sessions None)) (at_rest m)
    names s =
        ap (option_map names_of)
        (session_at (replicate sessions None) s ∙ ap slot_of (none_at sessions s) ∙ sym (get-empty nat_cmp s))

    peaked : SamePeaks (replicate sessions None) (at_rest m)
    peaked s n =
        ap (λ (o : Option Held). slot_peaks o n) (none_at sessions s)
        ∙ sym (ap (λ (o : Option Session). peaks_of (writes_in o) n) (get-empty nat_cmp s))

    sound : AreSoundSlots (replicate sessions None)
    sound = sound_none sessions few

    locked : LocksHold (replicate sessions None)
    locked = record {
      all = sound.all;
      one_writer = one_writer (replicate sessions None) sound;
      sized = sound.sized;
      few = sound.few;
    }

-- ---- the first tables

none_lost : (places units : ℕ) → NoneIsLost places (first_tables places units)
none_lost places units p low used = elim (cases_lt p units) [
  | inl unit ↦ inl (
    p,
    omega (arith, unit, length-range_with_len 0 units),
    get_or-range_with_len 0 units p p unit ∙ omega arith,
  )
  | inr past ↦ elim (cases_eq p units) [
    | inl status ↦ inr (inl status)
    | inr later ↦ absurd (used (
        let front = length-replicate (units + 1) true in
        get_or-append_right (replicate (units + 1) true) (replicate (places - units - 1) false) (units + 1) p true front
        (omega (arith, past, later))
        ∙ get_or-replicate (places - units - 1) (p - (units + 1)) false true (omega (arith, low, past, later))))
  ]
]

pub first_stores_fit : FirstStoresFit
first_stores_fit places units sessions least most keeps few =
    openings_fit places (formatted units) (first_layout units) (first_tables places units) (replicate sessions None) empty
    (first_tables_mirror places units least most keeps) (none_lost places units) refl
    (λ s. ap (option_map (λ (h : Held). h.number)) (none_at sessions s)) (empty_slots_are_at_rest sessions empty few)
