-- What a command that passes leaves of each open session.
use Rattle.std.proofs.Common.{◌≡◌, ◌⊎◌, inl, inr, ℕ, ◌<◌, ◌==◌, nat_le, Bool, true, false, cond, not, List, [], ◌∷◌, Option, Some, None, refl, sym, ◌∙◌, ap, arith, ◌≤◌}
use Rattle.std.specs.Prelude.{is_some}
use Rattle.std.specs.Cmp.{nat_cmp_total}
use Rattle.std.specs.Option.{option_map_or}
use Rattle.std.specs.Ordering.{nat_cmp, eq_by_cmp}
use Rattle.std.specs.FinMap.{get, insert, remove, get-remove}
use Rattle.std.proofs.lemmas.Bool.{cases_eq, eq-eqb, ne_eqb, leb-false}
use Rattle.std.proofs.lemmas.Bool.Decides.{nat_tests}
use Rattle.ipl_model.specs.State.{Session, State, Limits}
use Rattle.ipl_model.specs.Refusals.{bad_session, bad_name, already_open, not_open}
use Rattle.ipl_model.proofs.RuleBatchLemmas.{batches_name_once}
use Rattle.ipl_model.specs.Operations.{new_session, after_commit, after_batch}
use Rattle.ipl_model.specs.declared.command.Command.{Command}
use Rattle.ipl_model.specs.declared.command.Command.TheVariants as command
use Rattle.ipl_model.specs.Step.{Stepped, refusal_of, accepted}
use Rattle.serial_view.specs.Turns.{HasSlot}
use Rattle.serial_view.specs.Serial.{session_of, is_begin}
use Rattle.ipl_model.specs.Laws.{is_commit}
use Rattle.serial_view.proofs.SessionLemmas.{share_by, write_by, same_some, none_open, get_inserted, get_other}
use Rattle.serial_view.proofs.TestLemmas.{worker, all_fail, share_tests, put_tests, del_tests}
use Rattle.serial_view.proofs.StepLemmas.{changed, does}

-- a command of session s
abbrev pub own : ℕ → Command → Bool
own s c = option_map_or (λ t. t == s) (session_of c) false

-- the command isn't of the session, which is as it was
abbrev pub Stays : State → Command → ℕ → Session → Type 0
Stays state c s y = (get state.sessions s ≡ Some y) × (own s c ≡ false)

-- the command began it
abbrev pub Begun : Command → ℕ → Session → Type 0
Begun c s y = (c ≡ command.Begin s) × (y ≡ new_session)

-- the command worked at it
abbrev pub Worked : State → Command → ℕ → Session → Type 0
Worked state c s y = (x : Session) × (get state.sessions s ≡ Some x) × (worker c ≡ Some s) × (y ≡ changed c x)

-- one of the three
abbrev pub After : State → Command → ℕ → Session → Type 0
After state c s y = Stays state c s y ⊎ (Begun c s y ⊎ Worked state c s y)

worker_own : (c : Command) (t s : ℕ) → worker c ≡ Some t → (t ≡ s → ⊥) → own s c ≡ false
worker_own (command.Get k n) t s e other = ne_eqb k s (λ same. other (sym (same_some k t e) ∙ same))
worker_own (command.Share k n) t s e other = ne_eqb k s (λ same. other (sym (same_some k t e) ∙ same))
worker_own (command.Put k n bytes) t s e other = ne_eqb k s (λ same. other (sym (same_some k t e) ∙ same))
worker_own (command.Del k n) t s e other = ne_eqb k s (λ same. other (sym (same_some k t e) ∙ same))
worker_own rest t s e other = absurd (cc)

-- a command that works at a session is its, and neither a begin nor a commit
pub worker_commits : (c : Command) (s : ℕ) → worker c ≡ Some s
    → (is_commit c ≡ false) × (is_begin c ≡ false) × (own s c ≡ true)
worker_commits (command.Get t n) s e = (refl, refl, eq-eqb t s (same_some t s e))
worker_commits (command.Share t n) s e = (refl, refl, eq-eqb t s (same_some t s e))
worker_commits (command.Put t n bytes) s e = (refl, refl, eq-eqb t s (same_some t s e))
worker_commits (command.Del t n) s e = (refl, refl, eq-eqb t s (same_some t s e))
worker_commits other s e = absurd (cc)

-- a session that commits is open
pub committer_open : (limits : Limits) (state : State) (s : ℕ) → refusal_of limits state (command.Commit s) ≡ None
    → (x : Session) × (get state.sessions s ≡ Some x)
committer_open limits state s passes =
    go (get state.sessions s) refl (all_fail (bad_session limits s ∷ not_open state s ∷ []) passes).1.0
  where
    go : (o : Option Session) → get state.sessions s ≡ o → not (is_some (get state.sessions s)) ≡ false
        → (x : Session) × (get state.sessions s ≡ Some x)
    go None is e =
        let shut : not (is_some (get state.sessions s)) ≡ true = ap (λ (o : Option Session). not (is_some o)) is in
        absurd (cc)
    go (Some x) is e = (x, is)

-- what is open after a commit was open before, as it was
open_before : (state : State) (t s : ℕ) (y : Session) → get (remove state.sessions t) s ≡ Some y
    → get state.sessions s ≡ Some y
open_before state t s y found = go (eq_by_cmp nat_cmp s t) (sym (get-remove nat_cmp_total state.sessions t s) ∙ found)
  where
    go : (b : Bool) → cond b None (get state.sessions s) ≡ Some y → get state.sessions s ≡ Some y
    go true e = absurd (cc)
    go false e = e

-- and so after a batch
pub still_open : (ss : List ℕ) (state : State) (s : ℕ) (y : Session) → get (after_batch state ss).sessions s ≡ Some y
    → get state.sessions s ≡ Some y
still_open [] state s y found = found
still_open (t ∷ ss) state s y found = open_before state t s y (still_open ss (after_commit state t) s y found)

module _ (state : State) where
  -- where the session isn't open nothing is done
  idle : (c : Command) (t : ℕ) → worker c ≡ Some t → get state.sessions t ≡ None → (accepted state c).0 ≡ state
  idle (command.Get k n) t e none = refl
  idle (command.Share k n) t e none = ap (share_by state k n) (ap (get state.sessions) (same_some k t e) ∙ none)
  idle (command.Put k n bytes) t e none =
      ap (write_by state k (n, Some bytes)) (ap (get state.sessions) (same_some k t e) ∙ none)
  idle (command.Del k n) t e none =
      ap (write_by state k (n, None)) (ap (get state.sessions) (same_some k t e) ∙ none)
  idle rest t e none = absurd (cc)

  how_works : (c : Command) (t s : ℕ) (y : Session) → worker c ≡ Some t
      → get (accepted state c).0.sessions s ≡ Some y → After state c s y
  how_works c t s y e found = go (get state.sessions t) refl (cases_eq t s)
    where
      go : (o : Option Session) → get state.sessions t ≡ o → (t ≡ s) ⊎ (t ≡ s → ⊥) → After state c s y
      go None none at =
          let there : get state.sessions s ≡ Some y =
          ap (λ (st : State). get st.sessions s) (sym (idle c t e none)) ∙ found in
          elim at [
            | inl same ↦
                let gone : get state.sessions s ≡ None = ap (get state.sessions) (sym same) ∙ none in
                absurd (cc)
            | inr other ↦ inl (there, worker_own c t s e other)
          ]
      go (Some x) is (inl same) =
          let open_is : get state.sessions s ≡ Some x = ap (get state.sessions) (sym same) ∙ is in
          let at_s : worker c ≡ Some s = e ∙ ap {B = Option ℕ} (λ (k : ℕ). Some k) same in
          let made : Some y ≡ Some (changed c x) =
          sym found ∙ ap (λ (p : Stepped). get p.0.sessions s) (does state s x open_is c at_s)
          ∙ get_inserted state.sessions s (changed c x) in
          inr (inr (x, open_is, at_s, same_some y (changed c x) made))
      go (Some x) is (inr other) =
          inl (
            sym (get_other state.sessions t s (changed c x) (λ k. other (sym k)))
                ∙ ap (λ (p : Stepped). get p.0.sessions s) (sym (does state t x is c e)) ∙ found,
            worker_own c t s e other,
          )

  pub closed : (t s : ℕ) (y : Session) → get (remove state.sessions t) s ≡ Some y
      → (get state.sessions s ≡ Some y) × ((t == s) ≡ false)
  closed t s y found = go (cases_eq t s)
    where
      removed : get (remove state.sessions t) s ≡ cond (eq_by_cmp nat_cmp s t) None (get state.sessions s)
      removed = get-remove nat_cmp_total state.sessions t s

      go : (t ≡ s) ⊎ (t ≡ s → ⊥) → (get state.sessions s ≡ Some y) × ((t == s) ≡ false)
      go (inl same) =
          let here : eq_by_cmp nat_cmp s t ≡ true = grind (arith, nat_tests) in
          let gone : get (remove state.sessions t) s ≡ None =
          removed ∙ ap (λ (b : Bool). cond b None (get state.sessions s)) here in
          absurd (cc)
      go (inr other) =
          let apart : eq_by_cmp nat_cmp s t ≡ false = grind (arith, nat_tests) in
          let as_it_was = removed ∙ ap (λ (b : Bool). cond b None (get state.sessions s)) apart in
          (sym as_it_was ∙ found, ne_eqb t s other)

  -- a session that is open after a command stayed, was begun by it, or was worked at
  pub how : (c : Command) (s : ℕ) (y : Session) → get (accepted state c).0.sessions s ≡ Some y → After state c s y
  how (command.Begin t) s y found = go (cases_eq t s)
    where
      go : (t ≡ s) ⊎ (t ≡ s → ⊥) → After state (command.Begin t) s y
      go (inl same) =
          let made : get (insert state.sessions t new_session) s ≡ Some new_session =
          ap (λ (k : ℕ). get (insert state.sessions k new_session) s) same
          ∙ get_inserted state.sessions s new_session in
          inr (inl (ap command.Begin same, same_some y new_session (sym found ∙ made)))
      go (inr other) =
          inl (sym (get_other state.sessions t s new_session (λ k. other (sym k))) ∙ found, ne_eqb t s other)
  how (command.Get t n) s y found = how_works (command.Get t n) t s y refl found
  how (command.Share t n) s y found = how_works (command.Share t n) t s y refl found
  how (command.Put t n bytes) s y found = how_works (command.Put t n bytes) t s y refl found
  how (command.Del t n) s y found = how_works (command.Del t n) t s y refl found
  how (command.Commit t) s y found = inl (closed t s y found)
  how (command.Batch ss) s y found = inl (still_open ss state s y found, refl)
  how (command.Abort t) s y found = inl ((closed t s y found).0, refl)
  how (command.List a b) s y found = inl (found, refl)
  how (command.Merge u) s y found = inl (found, refl)
  how command.Restart s y found = absurd (none_open s y found)
  how command.Syntax s y found = inl (found, refl)

-- ---- an accepted command's session is in range

module _ (limits : Limits) (whole : limits.sessions ≤ 32) where
  in_range : (s : ℕ) → nat_le limits.sessions s ≡ false → s < 32
  in_range s fails = let low = leb-false limits.sessions s fails in omega (arith, low, whole)

  pub has_slot : (state : State) (c : Command) → refusal_of limits state c ≡ None → HasSlot c
  has_slot state (command.Begin s) passes =
      in_range s (all_fail (bad_session limits s ∷ already_open state s ∷ []) passes).0
  has_slot state (command.Get s n) passes =
      in_range s (all_fail (bad_session limits s ∷ bad_name limits n ∷ not_open state s ∷ []) passes).0
  has_slot state (command.Share s n) passes = in_range s (all_fail (share_tests limits state s n) passes).0
  has_slot state (command.Put s n bytes) passes =
      in_range s (all_fail (put_tests limits state s n bytes) passes).0
  has_slot state (command.Del s n) passes =
      in_range s (all_fail (del_tests limits state s n) passes).0
  has_slot state (command.Commit s) passes =
      in_range s (all_fail (bad_session limits s ∷ not_open state s ∷ []) passes).0
  has_slot state (command.Batch ss) passes =
      λ s at. let low = (batches_name_once limits state ss passes).within s at in omega (arith, low, whole)
  has_slot state other passes = tt
