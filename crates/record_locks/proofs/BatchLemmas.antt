-- Commits of several sessions: refused alike where the names are the same, and these and the peaks are the same after it.
use Rattle.std.proofs.Common.{◌≡◌, ℕ, zero, suc, ◌+◌, ◌≤◌, ◌<◌, ◌==◌, Bool, false, cond, not, nat_le, nat_lt, List, [], ◌∷◌, length, Option, Some, None, refl, sym, ◌∙◌, ap, arith}
use Rattle.std.specs.Prelude.{find, filter}
use Rattle.std.specs.List.{list_any, range_with_len}
use Rattle.std.specs.Option.{option_map}
use Rattle.std.proofs.lemmas.List.{length-set}
use Rattle.std.proofs.lemmas.Bool.{or_parts, leb-false}
use Rattle.std.proofs.lemmas.Bool.Decides.{nat_tests}
use Rattle.ipl_base.specs.declared.fault.Refusal.TheVariants.{BadSession, NotOpen}
use Rattle.ipl_model.specs.State.{is_open_session}
use Rattle.ipl_model.specs.Refusals.{first_of, is_twice, twice}
use Rattle.ipl_model.specs.Operations as rules
use Rattle.ipl_model.proofs.RuleBatchLemmas.{first_in, later_in, any_alike}
use Rattle.record_locks.specs.Held.{SessionSlots, held_at, new_held, with_shared, with_written, after_end, after_batch}
use Rattle.record_locks.specs.Standing.{state_of}
use Rattle.record_locks.specs.Names.{BatchesRefuseAsStates, BatchesKeepNames, BatchesKeepPeaks, CallsKeepSlots}
use Rattle.record_locks.proofs.SameLemmas.{alike}
use Rattle.record_locks.proofs.KeepLemmas.{keeps_names, commits_peak}

pub batches_refuse : BatchesRefuseAsStates
batches_refuse slots limits state whole same ss =
    let opens : list_any (λ s. not (is_open_session (state_of slots) s)) ss ≡ list_any (λ s. not (is_open_session state s)) ss =
    any_alike (λ s. not (is_open_session (state_of slots) s)) (λ s. not (is_open_session state s)) ss (λ t at. ap not (alike (state_of slots) state same t 0).opens) in
    let count = sym whole in
    λ i. first_of ((list_any (λ s. nat_le (count i) s) ss, BadSession) ∷ twice (find (is_twice ss) (range_with_len 0 (count i)))
    ∷ (opens i, NotOpen) ∷ [])

pub batches_keep_names : BatchesKeepNames
batches_keep_names slots state [] within same = same
batches_keep_names slots state (s ∷ ss) within same =
    batches_keep_names (after_end slots s) (rules.after_commit state s) ss
    (λ t at. omega (arith, within t (later_in s ss t at), length-set slots s None))
    (keeps_names slots state s (within s (first_in s ss)) same).commits

pub batches_keep_peaks : BatchesKeepPeaks
batches_keep_peaks slots state [] within same = same
batches_keep_peaks slots state (s ∷ ss) within same =
    batches_keep_peaks (after_end slots s) (rules.after_commit state s) ss
    (λ t at. omega (arith, within t (later_in s ss t at), length-set slots s None))
    (commits_peak slots state s (within s (first_in s ss)) same)

-- ---- a number that is none of a session's

-- no number from here on passes, so the search in a longer range ends as that in a shorter one
pub found_within : (p : ℕ → Bool) (a few all : ℕ) → few ≤ all → ((s : ℕ) → a + few ≤ s → p s ≡ false)
    → find p (range_with_len a all) ≡ find p (range_with_len a few)
found_within p a zero zero less none = refl
found_within p a zero (suc all) less none =
    rw (none a (omega arith)) (found_within p (a + 1) zero all (omega arith) (λ s past. none s (omega (arith, past))))
found_within p a (suc few) zero less none = absurd (omega (arith, less))
found_within p a (suc few) (suc all) less none =
    ap (λ (o : Option ℕ). cond (p a) (Some a) o)
    (found_within p (a + 1) few all (omega (arith, less)) (λ s past. none s (omega (arith, past))))

-- a number past all of these is not among them
never_past : (few s : ℕ) (ss : List ℕ) → list_any (λ t. nat_le few t) ss ≡ false → few ≤ s → filter (λ t. t == s) ss ≡ []
never_past few s [] low past = refl
never_past few s (t ∷ ss) low past =
    let parts = or_parts (nat_le few t) (list_any (λ k. nat_le few k) ss) low in
    let below : t < few = leb-false few t parts.0 in
    let other : (t == s) ≡ false = grind (arith, nat_tests) in
    rw other (never_past few s ss parts.1 past)

-- so the least that is named twice is found among the sessions that there are
pub twice_within : (few all : ℕ) (ss : List ℕ) → few ≤ all → list_any (λ t. nat_le few t) ss ≡ false
    → find (is_twice ss) (range_with_len 0 all) ≡ find (is_twice ss) (range_with_len 0 few)
twice_within few all ss less low =
    found_within (is_twice ss) 0 few all less
    (λ s past. ap (λ (ts : List ℕ). nat_lt 1 (length ts)) (never_past few s ss low (omega (arith, past))))

-- ---- the number of slots stays

pub batch_slots : (slots : SessionSlots) (ss : List ℕ) → length (after_batch slots ss) ≡ length slots
batch_slots slots [] = refl
batch_slots slots (s ∷ ss) = batch_slots (after_end slots s) ss ∙ length-set slots s None

pub calls_keep_slots : CallsKeepSlots
calls_keep_slots slots s = record {
  begins = λ number. length-set slots s (Some (new_held number));
  shares = λ n. length-set slots s (option_map (with_shared n) (held_at slots s));
  writes = λ n size. length-set slots s (option_map (with_written n size) (held_at slots s));
  ends = length-set slots s None;
  batches = batch_slots slots;
}
