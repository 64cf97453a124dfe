-- How full pages are after each operation.
use Rattle.std.proofs.Common.{◌≡◌, ◌≢◌, zero, suc, inl, inr, ℕ, ◌+◌, ◌-◌, ◌*◌, ◌/◌, ◌<◌, ◌≤◌, ◌==◌, max, Bool, true, false, cond, List, [], ◌∷◌, Option, Some, None, refl, sym, subst, arith}
use Rattle.std.specs.Prelude.{nat_lt}
use Rattle.std.specs.FinMap.{get, insert}
use Rattle.std.specs.List.{range_with_len}
use Rattle.std.specs.Option.{option_map_or}
use Rattle.std.proofs.Math.Nat.{le-max_left, le-max_right, max-le}
use Rattle.std.proofs.lemmas.Bool.{cases_Bool, cases_eq, ne_eqb}
use Rattle.std.proofs.lemmas.Bool.Decides.{nat_tests}
use Rattle.std.proofs.lemmas.List.Sums.{sum_by-le-sum_by}
use Rattle.ipl_base.specs.declared.limits.TheConstants.{PAGE_LEN, SLOTS}
use Rattle.ipl_base.specs.Sizes.{size_in_page, size_of_values}
use Rattle.ipl_model.specs.State.{Map, Write, Session, State, last_write, seen_through, writes_of, pending_writes}
use Rattle.ipl_model.specs.Operations.{new_session, after_begin, after_share, after_write, after_commit, after_batch, after_abort, after_restart}
use Rattle.ipl_model.specs.Refusals.{is_new_share}
use Rattle.ipl_model.specs.Peaks.{Peaks, with_peak, peaks_of, peaks, fill_of, fill_with, fill, overfills}
use Rattle.ipl_model.specs.FillLaws.{PageFits, OperationsKeepPagesFit, PutsMakePagesFit, RecordsHaveRoom}
use Rattle.ipl_model.proofs.SeenLemmas.{get-with_writes}
use Rattle.ipl_model.proofs.SumLemmas.{sums_less}
use Rattle.ipl_model.proofs.RulePeakLemmas.{le_trans, last_most, inserted_most, removed_most, own_most, with_write, shared_less, none_left}

-- what a name may come to take
abbrev room_for : Peaks → Map → ℕ → ℕ
room_for ms m n = max (size_in_page (get m n)) (ms n - 1)

-- where no name may take more, no page does
pub fills_less : (few more : Peaks) (m before : Map) (page : ℕ) → ((n : ℕ) → room_for few m n ≤ room_for more before n) → fill_with few m page ≤ fill_with more before page
unfolding fill_of
fills_less few more m before page less = sum_by-le-sum_by (λ slot. room_for few m (SLOTS * page + slot)) (λ slot. room_for more before (SLOTS * page + slot)) (range_with_len 0 SLOTS) (λ slot. less (SLOTS * page + slot))

-- where the writes of open sessions take no more, all pages fit still
less_fits : (state after : State) → after.map ≡ state.map → ((n : ℕ) → peaks after n ≤ peaks state n) → (page : ℕ) → PageFits state page → PageFits after page
less_fits state after same less page fits =
    let fewer = fills_less (peaks after) (peaks state) after.map state.map page (λ n.
    max-le (subst (λ (m : Map). size_in_page (get m n) ≤ room_for (peaks state) state.map n) (sym same) (le-max_left _ _))
    (omega (arith, less n, le-max_right (size_in_page (get state.map n)) (peaks state n - 1)))) in
    omega (arith, fewer, fits)

-- ---- the records

same_records : (state : State) (s : ℕ) (w : Write) → (after_write state s w).map ≡ state.map
same_records state s w = by_session (get state.sessions s)
  where
    by_session : (o : Option Session) → (option_map_or (λ session. record state { sessions = insert state.sessions s (record session { writes = w ∷ session.writes }) }) o state).map ≡ state.map
    by_session None = refl
    by_session (Some v) = refl

same_map_shared : (state : State) (s n : ℕ) → (after_share state s n).map ≡ state.map
same_map_shared state s n = by_new (is_new_share state s n) (get state.sessions s)
  where
    by_new : (b : Bool) (o : Option Session) → (cond b (option_map_or (λ session. record state { sessions = insert state.sessions s (record session { shared = n ∷ session.shared }) }) o state) state).map ≡ state.map
    by_new true None = refl
    by_new true (Some v) = refl
    by_new false o = refl

-- ---- a page, slot by slot

-- a name takes no more than with the write
grown : (state : State) (s : ℕ) (w : Write) (k : ℕ) → room_for (peaks (after_write state s w)) (after_write state s w).map k ≤ room_for (with_peak (peaks state) w.0 (1 + size_in_page w.1)) state.map k
grown state s w k = max-le
    (subst (λ (m : Map). size_in_page (get m k) ≤ room_for (with_peak (peaks state) w.0 (1 + size_in_page w.1)) state.map k) (sym (same_records state s w)) (le-max_left _ _))
    (omega (arith, with_write state s w k, le-max_right (size_in_page (get state.map k)) (peaks_of (w ∷ pending_writes state) k - 1)))

-- and another name as much as before
as_before : (state : State) (n m k : ℕ) → n ≢ k → room_for (with_peak (peaks state) n m) state.map k ≡ room_for (peaks state) state.map k
as_before state n m k other = let no : (n == k) ≡ false = ne_eqb n k other in rw no refl

other_page : (page n slot : ℕ) → slot < SLOTS → page ≢ n / SLOTS → n ≢ SLOTS * page + slot
other_page page n slot low other is = other (omega (arith, is, low))

put_fits : (state : State) (s n : ℕ) (bytes : List ℕ) (page : ℕ) → PageFits state page → overfills state n bytes ≡ false → PageFits (after_write state s (n, Some bytes)) page
unfolding fill_of
put_fits state s n bytes page fits room = elim (cases_eq page (n / SLOTS)) [
  | inl same ↦ le_trans (here page) (subst (λ (q : ℕ). fill_with with_it state.map q ≤ PAGE_LEN) (sym same) (not_above _ room))
  | inr other ↦ le_trans (elsewhere other) fits
]
  where
    with_it : Peaks
    with_it = with_peak (peaks state) n (1 + size_in_page (Some bytes))

    not_above : (size : ℕ) → nat_lt PAGE_LEN size ≡ false → size ≤ PAGE_LEN
    not_above size room = grind (arith, nat_tests)

    here : (q : ℕ) → fill (after_write state s (n, Some bytes)) q ≤ fill_with with_it state.map q
    here q = fills_less (peaks (after_write state s (n, Some bytes))) with_it (after_write state s (n, Some bytes)).map state.map q (grown state s (n, Some bytes))

    elsewhere : page ≢ n / SLOTS → fill (after_write state s (n, Some bytes)) page ≤ fill state page
    elsewhere other = sums_less
        (λ slot. room_for (peaks (after_write state s (n, Some bytes))) (after_write state s (n, Some bytes)).map (SLOTS * page + slot))
        (λ slot. room_for (peaks state) state.map (SLOTS * page + slot)) 0 SLOTS
        (λ slot low. subst (λ (k : ℕ). room_for (peaks (after_write state s (n, Some bytes))) (after_write state s (n, Some bytes)).map (SLOTS * page + slot) ≤ k)
        (as_before state n (1 + size_in_page (Some bytes)) (SLOTS * page + slot) (other_page page n slot low other)) (grown state s (n, Some bytes) (SLOTS * page + slot)))

pub max_one : (m : ℕ) → max 1 m - 1 ≤ m - 1
max_one zero = omega arith
max_one (suc m) = let most : max 1 (suc m) ≤ suc m = max-le (omega arith) (omega arith) in omega (arith, most)

-- a delete takes no room
no_room : (ws : List Write) (n k : ℕ) → peaks_of ((n, None) ∷ ws) k - 1 ≤ peaks_of ws k - 1
no_room ws n k = elim (cases_Bool (n == k)) [
  | inl same ↦ rw same (max_one (peaks_of ws k))
  | inr other ↦ rw other (omega arith)
]

del_fits : (state : State) (s n page : ℕ) → PageFits state page → PageFits (after_write state s (n, None)) page
del_fits state s n page fits =
    let less = fills_less (peaks (after_write state s (n, None))) (peaks state) (after_write state s (n, None)).map state.map page (λ k.
    max-le (subst (λ (m : Map). size_in_page (get m k) ≤ room_for (peaks state) state.map k) (sym (same_records state s (n, None))) (le-max_left _ _))
    (omega (arith, with_write state s (n, None) k, no_room (pending_writes state) n k, le-max_right (size_in_page (get state.map k)) (peaks_of (pending_writes state) k - 1)))) in
    omega (arith, less, fits)

seen_most : (ws : List Write) (m : Map) (n k : ℕ) → peaks_of ws n ≤ k + 1 → size_in_page (get m n) ≤ k → size_in_page (seen_through ws m n) ≤ k
seen_most ws m n k writes record_ = by_last (last_write ws n) refl
  where
    by_last : (o : Option (Option (List ℕ))) → last_write ws n ≡ o → size_in_page (option_map_or (λ c. c) o (get m n)) ≤ k
    by_last None is = record_
    by_last (Some change) is = omega (arith, last_most ws n change is, writes)

commit_fits : (state : State) (s page : ℕ) → PageFits state page → PageFits (after_commit state s) page
commit_fits state s page fits =
    let less = fills_less (peaks (after_commit state s)) (peaks state) (after_commit state s).map state.map page (λ n.
    let most : peaks_of (writes_of state s) n ≤ room_for (peaks state) state.map n + 1 = omega (arith, own_most state s n, le-max_right (size_in_page (get state.map n)) (peaks_of (pending_writes state) n - 1)) in
    let seen = seen_most (writes_of state s) state.map n (room_for (peaks state) state.map n) most (le-max_left _ _) in
    max-le (subst (λ (o : Option (List ℕ)). size_in_page o ≤ room_for (peaks state) state.map n) (sym (get-with_writes (writes_of state s) state.map n)) seen)
    (omega (arith, removed_most state.sessions s n, le-max_right (size_in_page (get state.map n)) (peaks_of (pending_writes state) n - 1)))) in
    omega (arith, less, fits)

batch_fits : (state : State) (ss : List ℕ) (page : ℕ) → PageFits state page → PageFits (after_batch state ss) page
batch_fits state [] page fits = fits
batch_fits state (s ∷ ss) page fits = batch_fits (after_commit state s) ss page (commit_fits state s page fits)

pub pages_stay_fit : OperationsKeepPagesFit
pages_stay_fit state s n bytes page fits = record {
  begins = less_fits state (after_begin state s) refl (λ k. inserted_most state s new_session k _ (omega arith) (omega arith)) page fits;
  shares = less_fits state (after_share state s n) (same_map_shared state s n) (λ k. shared_less state s n k) page fits;
  puts = put_fits state s n bytes page fits;
  dels = del_fits state s n page fits;
  commits = commit_fits state s page fits;
  batches = λ ss. batch_fits state ss page fits;
  aborts = less_fits state (after_abort state s) refl (λ k. removed_most state.sessions s k) page fits;
  restarts = less_fits state (after_restart state) refl (λ k. none_left state k) page fits;
}

pub puts_make_pages_fit : PutsMakePagesFit
puts_make_pages_fit state s n bytes room =
    le_trans (fills_less (peaks (after_write state s (n, Some bytes))) (with_peak (peaks state) n (1 + size_in_page (Some bytes))) (after_write state s (n, Some bytes)).map state.map (n / SLOTS) (grown state s (n, Some bytes)))
    (not_above _ room)
  where
    not_above : (size : ℕ) → nat_lt PAGE_LEN size ≡ false → size ≤ PAGE_LEN
    not_above size room = grind (arith, nat_tests)

pub records_have_room : RecordsHaveRoom
unfolding fill_of size_of_values
records_have_room state page fits =
    let less = sum_by-le-sum_by (λ slot. size_in_page (get state.map (SLOTS * page + slot))) (λ slot. room_for (peaks state) state.map (SLOTS * page + slot)) (range_with_len 0 SLOTS) (λ slot. le-max_left _ _) in
    omega (arith, less, fits)

pub fill_less : (few more : Peaks) (values before : ℕ → Option (List ℕ))
    → ((slot : ℕ) → max (size_in_page (values slot)) (few slot - 1) ≤ max (size_in_page (before slot)) (more slot - 1)) → fill_of values few ≤ fill_of before more
unfolding fill_of
fill_less few more values before less = sum_by-le-sum_by (λ slot. max (size_in_page (values slot)) (few slot - 1)) (λ slot. max (size_in_page (before slot)) (more slot - 1)) (range_with_len 0 SLOTS) less
