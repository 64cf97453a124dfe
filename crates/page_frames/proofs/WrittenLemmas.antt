-- Which session wrote which name of a page: sessions that are noted name by name, session by session.
use Rattle.std.proofs.Common.{◌≡◌, ◌≤◌, ◌<◌, ◌+◌, ℕ, Bool, true, false, cond, List, replicate, length, Option, None, ◌⊎◌, ◌≢◌, inl, inr, refl, ◌∙◌, ap, arith}
use Rattle.std.specs.Prelude.{slice_index, if◌then◌else◌}
use Rattle.std.proofs.lemmas.Bool.{cases_eq, cases_lt}
use Rattle.std.proofs.lemmas.List.{get_or_past, get_or-replicate}
use Rattle.ipl_base.specs.declared.limits.TheConstants.{SESSIONS, SLOTS}
use Rattle.record_locks.specs.Held.{Held, SessionSlots, held_at, written_of, is_among, slot_peaks, peaks_in}
use Rattle.record_locks.proofs.PeakLemmas.{absent_slot, all_at_most}

-- ---- the names of one session

-- for a name that is among these the session is noted, for any other it is what it was
abbrev pub AreNoted : ℕ → List ℕ → ℕ → List ℕ → List ℕ → Type 0
AreNoted s names first old now = (k : ℕ) → k < SLOTS
    → slice_index now k ≡ (if is_among (first + k) names then s else slice_index old k)

-- ---- the sessions, one after the other

-- what is noted below the number of sessions is one that wrote the name; where it is not, none of the first s did
pub record AreWriters (slots : SessionSlots) (first s : ℕ) (now : List ℕ) : Type 0 where
  pub none : (k : ℕ) → k < SLOTS → length slots ≤ slice_index now k
      → (t : ℕ) → t < s → is_among (first + k) (written_of slots t) ≡ false
  pub wrote : (k : ℕ) → k < SLOTS → slice_index now k < length slots
      → is_among (first + k) (written_of slots (slice_index now k)) ≡ true

pub writers_first : (slots : SessionSlots) (first : ℕ) → length slots ≤ SESSIONS
    → AreWriters slots first 0 (replicate SLOTS SESSIONS)
writers_first slots first few = record {
  none = λ k low past t before. absurd (omega (arith, before));
  wrote = λ k low known. absurd (let is = get_or-replicate SLOTS k SESSIONS 0 low in omega (arith, is, known, few));
}

pub writers_more : (slots : SessionSlots) (first s : ℕ) (now new : List ℕ) → s < length slots → AreWriters slots first s now
    → AreNoted s (written_of slots s) first now new → AreWriters slots first (s + 1) new
writers_more slots first s now new within so noted = record {
  none = λ k low past t before.
      none_of k low (is_among (first + k) (written_of slots s)) refl (noted k low) past t before (cases_eq t s);
  wrote = λ k low known. by_test k low (is_among (first + k) (written_of slots s)) refl (noted k low) known;
}
  where
    none_of : (k : ℕ) → k < SLOTS → (b : Bool) → is_among (first + k) (written_of slots s) ≡ b
        → slice_index new k ≡ cond b s (slice_index now k) → length slots ≤ slice_index new k
        → (t : ℕ) → t < s + 1 → (t ≡ s) ⊎ (t ≢ s) → is_among (first + k) (written_of slots t) ≡ false
    none_of k low true is new_is past t before same = absurd (omega (arith, new_is, past, within))
    none_of k low false is new_is past t before (inl same) =
        ap (λ (j : ℕ). is_among (first + k) (written_of slots j)) same ∙ is
    none_of k low false is new_is past t before (inr other) =
        so.none k low (omega (arith, new_is, past)) t (omega (arith, before, other))

    by_test : (k : ℕ) → k < SLOTS → (b : Bool) → is_among (first + k) (written_of slots s) ≡ b
        → slice_index new k ≡ cond b s (slice_index now k) → slice_index new k < length slots
        → is_among (first + k) (written_of slots (slice_index new k)) ≡ true
    by_test k low true is new_is known = ap (λ (j : ℕ). is_among (first + k) (written_of slots j)) new_is ∙ is
    by_test k low false is new_is known =
        ap (λ (j : ℕ). is_among (first + k) (written_of slots j)) new_is
        ∙ so.wrote k low (omega (arith, new_is, known))

-- ---- peaks

-- a name that no session wrote has no peak
unwritten : (slots : SessionSlots) (n : ℕ)
    → ((s : ℕ) → s < length slots → is_among n (written_of slots s) ≡ false) → peaks_in slots n ≡ 0
unwritten slots n none = omega (arith, all_at_most slots n 0 each)
  where
    each : (s : ℕ) → slot_peaks (held_at slots s) n ≤ 0
    each s = elim (cases_lt s (length slots)) [
      | inl low ↦ omega (arith, absent_slot (held_at slots s) n (none s low))
      | inr past ↦
          let empty : held_at slots s ≡ None = get_or_past slots s None past in
          omega (arith, ap (λ (o : Option Held). slot_peaks o n) empty)
    ]

pub writers_done : (slots : SessionSlots) (first s : ℕ) (now : List ℕ) → length slots ≤ s
    → AreWriters slots first s now
    → (k : ℕ) → k < SLOTS → length slots ≤ slice_index now k → peaks_in slots (first + k) ≡ 0
writers_done slots first s now past so k low none =
    unwritten slots (first + k) (λ t before. so.none k low none t (omega (arith, before, past)))
