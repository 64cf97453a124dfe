-- No session writes a name that another shares, and so a commit keeps the records of the names that others share.
use Rattle.std.proofs.Common.{◌≡◌, ◌⊎◌, inl, inr, ⊎_elim, ℕ, ◌==◌, Bool, true, false, cond, not, ◌&&◌, ◌||◌, List, [], ◌∷◌, Option, Some, None, refl, sym, ◌∙◌, ap, subst, arith}
use Rattle.std.specs.Prelude.{find, is_some}
use Rattle.std.specs.Option.{option_map, option_map_or}
use Rattle.std.specs.Ordering.{nat_cmp, eq_by_cmp}
use Rattle.std.specs.FinMap.{get, empty, entries, get-entries}
use Rattle.std.specs.FinMap.Entries as es
use Rattle.std.proofs.lemmas.Bool.{cases_eq, eq-eqb, ne_eqb, eqb-true, both_ways, or_cases, or_parts}
use Rattle.std.proofs.lemmas.Bool.Decides.{nat_tests}
use Rattle.ipl_model.specs.State.{Map, Write, Session, State, Limits, writes_of, last_write, has_written, has_shared, least_other, with_writes}
use Rattle.ipl_model.proofs.SeenLemmas.{get-with_writes}
use Rattle.ipl_model.specs.declared.command.Command.{Command}
use Rattle.ipl_model.specs.declared.command.Command.TheVariants as command
use Rattle.ipl_model.specs.Step.{refusal_of, accepted}
use Rattle.ipl_model.specs.Plain.{writes_in}
use Rattle.ipl_model.specs.Laws.{is_commit}
use Rattle.ipl_model.specs.Operations.{after_batch, after_commit}
use Rattle.ipl_model.proofs.RuleBatchLemmas.{first_or_later, batches_keep}
use Rattle.std.specs.List.{Contains}
use Rattle.serial_view.proofs.SessionLemmas.{Sessions, with_session, shared_too, is_unheld, is_unheld_in, write_by, same_some, none_open}
use Rattle.serial_view.proofs.TestLemmas.{worker, all_fail, share_tests, put_tests, del_tests}
use Rattle.serial_view.proofs.StepLemmas.{changed}
use Rattle.serial_view.proofs.SessionStepLemmas.{own, Worked, After, how, still_open, closed}

-- no open session writes a name that another shares
abbrev pub Locked : Sessions → Type 0
Locked f = (s u : ℕ) (x y : Session) → get f s ≡ Some x → get f u ≡ Some y → (s ≡ u → ⊥)
    → (n : ℕ) → has_shared x n ≡ true → has_written y n ≡ false

pub none_locked : Locked empty
none_locked s u x y here there other n shares = absurd (none_open s x here)

-- ---- no other session passes a test

-- the number of the first session that passes, where that isn't s
abbrev first_other : (Session → Bool) → ℕ → List (ℕ × Session) → Option ℕ
first_other test s all =
    option_map (λ (e : ℕ × Session). e.0) (find (λ (e : ℕ × Session). not (e.0 == s) && test e.1) all)

none_found : (test : Session → Bool) (s u : ℕ) (y : Session) (all : List (ℕ × Session))
    → es.find nat_cmp u all ≡ Some y → (s ≡ u → ⊥) → is_some (first_other test s all) ≡ false → test y ≡ false
none_found test s u y [] found other none = absurd (cc)
none_found test s u y (e ∷ all) found other none =
    go (cases_eq e.0 u) (not (e.0 == s) && test e.1) refl none (λ f n. none_found test s u y all f other n)
  where
    go : (e.0 ≡ u) ⊎ (e.0 ≡ u → ⊥) → (b : Bool) → (not (e.0 == s) && test e.1) ≡ b
        → is_some (option_map (λ (e : ℕ × Session). e.0)
        (cond b (Some e) (find (λ (e : ℕ × Session). not (e.0 == s) && test e.1) all))) ≡ false
        → (es.find nat_cmp u all ≡ Some y → is_some (first_other test s all) ≡ false → test y ≡ false)
        → test y ≡ false
    go is true t none later = absurd (cc)
    go (inl same) false t none later =
        let here : eq_by_cmp nat_cmp u e.0 ≡ true = grind (arith, nat_tests) in
        let is_y : e.1 ≡ y = same_some e.1 y
        (ap (λ (b : Bool). cond b (Some e.1) (es.find nat_cmp u all)) (sym here) ∙ found) in
        let apart : (e.0 == s) ≡ false = ne_eqb e.0 s (λ k. other (sym k ∙ same)) in
        subst (λ (z : Session). test z ≡ false) is_y (sym (ap (λ (b : Bool). not b && test e.1) apart) ∙ t)
    go (inr differ) false t none later =
        let apart : eq_by_cmp nat_cmp u e.0 ≡ false = grind (arith, nat_tests) in
        later (ap (λ (b : Bool). cond b (Some e.1) (es.find nat_cmp u all)) (sym apart) ∙ found) none

pub no_other : (test : Session → Bool) (state : State) (s u : ℕ) (y : Session) → get state.sessions u ≡ Some y
    → (s ≡ u → ⊥) → is_some (least_other test state s) ≡ false → test y ≡ false
no_other test state s u y found other none =
    none_found test s u y (entries state.sessions) (sym (get-entries state.sessions u) ∙ found) other none

-- ---- what a command shares, and what it writes

abbrev shares : Command → ℕ → Bool
shares (command.Share s n) k = n == k
shares other k = false

abbrev pub writes : Command → ℕ → Bool
writes (command.Put s n bytes) k = n == k
writes (command.Del s n) k = n == k
writes other k = false

shared_then : (c : Command) (x : Session) (k : ℕ) → has_shared (changed c x) k ≡ true
    → (has_shared x k ≡ true) ⊎ (shares c k ≡ true)
shared_then (command.Share s n) x k e = go (is_unheld x n) e
  where
    go : (b : Bool) → has_shared (cond b (shared_too x n) x) k ≡ true → (has_shared x k ≡ true) ⊎ ((n == k) ≡ true)
    go true e = ⊎_elim (λ a. inr a) (λ a. inl a) (or_cases _ _ e)
    go false e = inl e
shared_then other x k e = inl e

pub written_then : (c : Command) (x : Session) (k : ℕ) → has_written x k ≡ false → writes c k ≡ false
    → has_written (changed c x) k ≡ false
written_then (command.Put s n bytes) x k old new =
    ap (λ (b : Bool). is_some (cond b (Some (Some bytes)) (last_write x.writes k))) new ∙ old
written_then (command.Del s n) x k old new =
    ap (λ (b : Bool). is_some (cond b (Some None) (last_write x.writes k))) new ∙ old
written_then (command.Share s n) x k old new = go (is_unheld x n)
  where
    go : (b : Bool) → has_written (cond b (shared_too x n) x) k ≡ false
    go true = old
    go false = old
written_then other x k old new = old

module _ (limits : Limits) (state : State) where
  -- a name that a command shares no other session wrote
  share_free : (c : Command) (s u : ℕ) (y : Session) (k : ℕ) → refusal_of limits state c ≡ None
      → worker c ≡ Some s → shares c k ≡ true → get state.sessions u ≡ Some y → (s ≡ u → ⊥)
      → has_written y k ≡ false
  share_free (command.Share t n) s u y k passes e is found other =
      let f = all_fail (share_tests limits state t n) passes in
      subst (λ (j : ℕ). has_written y j ≡ false) (eqb-true n k is)
      (no_other (λ session. has_written session n) state t u y found
      (λ j. other (sym (same_some t s e) ∙ j)) f.1.1.1.0)
  share_free rest s u y k passes e is found other = absurd (cc)

  holds_none : (n t s u : ℕ) (y : Session) (k : ℕ) → (n == k) ≡ true → Some t ≡ Some s
      → get state.sessions u ≡ Some y → (s ≡ u → ⊥)
      → is_some (least_other (λ session. has_written session n || has_shared session n) state t) ≡ false
      → has_shared y k ≡ false
  holds_none n t s u y k is e found other free =
      subst (λ (j : ℕ). has_shared y j ≡ false) (eqb-true n k is)
      (or_parts _ _ (no_other (λ session. has_written session n || has_shared session n) state t u y found
      (λ j. other (sym (same_some t s e) ∙ j)) free)).1

  -- a name that a command writes no other session shares
  write_free : (c : Command) (s u : ℕ) (y : Session) (k : ℕ) → refusal_of limits state c ≡ None
      → worker c ≡ Some s → writes c k ≡ true → get state.sessions u ≡ Some y → (s ≡ u → ⊥)
      → has_shared y k ≡ false
  write_free (command.Put t n bytes) s u y k passes e is found other =
      let f = all_fail (put_tests limits state t n bytes) passes in
      holds_none n t s u y k is e found other f.1.1.1.1.0
  write_free (command.Del t n) s u y k passes e is found other =
      let f = all_fail (del_tests limits state t n) passes in
      holds_none n t s u y k is e found other f.1.1.1.0
  write_free rest s u y k passes e is found other = absurd (cc)

  -- a command that passes keeps it so
  pub locks_kept : (c : Command) → refusal_of limits state c ≡ None → Locked state.sessions
      → Locked (accepted state c).0.sessions
  locks_kept c passes locked s u x y here there other n is = go (how state c s x here) (how state c u y there)
    where
      not_written : (b : Worked state c u y) → get state.sessions s ≡ Some x → (t : Bool) → writes c n ≡ t
          → writes c n ≡ false
      not_written b old true e =
          let free = write_free c u s x n passes b.2 e old (λ k. other (sym k)) in
          absurd (cc)
      not_written b old false e = e

      go : After state c s x → After state c u y → has_written y n ≡ false
      go (inl a) (inl b) = locked s u x y a.0 b.0 other n is
      go a (inr (inl b)) = ap (λ (z : Session). has_written z n) b.1
      go (inr (inl a)) b =
          let none : has_shared x n ≡ false = ap (λ (z : Session). has_shared z n) a.1 in
          absurd (cc)
      go (inr (inr a)) (inl b) =
          elim (shared_then c a.0 n (sym (ap (λ (z : Session). has_shared z n) a.3) ∙ is)) [
            | inl old ↦ locked s u a.0 y a.1 b.0 other n old
            | inr new ↦ share_free c s u y n passes a.2 new b.0 other
          ]
      go (inl a) (inr (inr b)) =
          ap (λ (z : Session). has_written z n) b.3
          ∙ written_then c b.0 n (locked s u x b.0 a.0 b.1 other n is) (not_written b a.0 (writes c n) refl)
      go (inr (inr a)) (inr (inr b)) = absurd (other (same_some s u (sym a.2 ∙ b.2)))

-- ---- records

-- what the session shares has the same records in both maps
abbrev pub Agree : Session → Map → Map → Type 0
Agree x m k = (n : ℕ) → has_shared x n ≡ true → get m n ≡ get k n

write_keeps : (state : State) (s : ℕ) (w : Write) (o : Option Session) → (write_by state s w o).map ≡ state.map
write_keeps state s w None = refl
write_keeps state s w (Some x) = refl

-- a command that passes, and doesn't commit, keeps the records
pub records_kept : (state : State) (c : Command) → is_commit c ≡ false → (accepted state c).0.map ≡ state.map
records_kept state (command.Begin s) e = refl
records_kept state (command.Get s n) e = refl
records_kept state (command.Share s n) e =
    go (is_unheld_in (get state.sessions s) n) (get state.sessions s)
  where
    go : (b : Bool) (o : Option Session)
        → (cond b (option_map_or (λ x. with_session state s (shared_too x n)) o state) state).map ≡ state.map
    go true None = refl
    go true (Some x) = refl
    go false o = refl
records_kept state (command.Put s n bytes) e = write_keeps state s (n, Some bytes) (get state.sessions s)
records_kept state (command.Del s n) e = write_keeps state s (n, None) (get state.sessions s)
records_kept state (command.Commit s) e = absurd (cc)
records_kept state (command.Batch ss) e = absurd (cc)
records_kept state (command.Abort s) e = refl
records_kept state (command.List a b) e = refl
records_kept state (command.Merge u) e = refl
records_kept state command.Restart e = refl
records_kept state command.Syntax e = refl

unwritten : (writes : List Write) (m : Map) (n : ℕ) → is_some (last_write writes n) ≡ false
    → get (with_writes writes m) n ≡ get m n
unwritten writes m n none = get-with_writes writes m n ∙ go (last_write writes n) none
  where
    go : (o : Option (Option (List ℕ))) → is_some o ≡ false → option_map_or (λ change. change) o (get m n) ≡ get m n
    go None e = refl
    go (Some change) e = absurd (cc)

-- a session that is open after a batch isn't among its
pub not_named : (ss : List ℕ) (state : State) (s t : ℕ) (y : Session) → get (after_batch state ss).sessions s ≡ Some y
    → Contains ss t → t ≡ s → ⊥
not_named [] state s t y found at same = omega (arith, at.1)
not_named (u ∷ ss) state s t y found at same = elim (first_or_later u ss t at) [
  | inl here ↦
      let open_then = still_open ss (after_commit state u) s y found in
      let apart = (closed state u s y open_then).1 in
      both_ways (u == s) apart (eq-eqb u s (here ∙ same))
  | inr later ↦ not_named ss (after_commit state u) s t y found later same
]

-- what another session of the run didn't write
none_written : (state : State) (s t : ℕ) (y : Session) (n : ℕ) → Locked state.sessions → get state.sessions s ≡ Some y
    → has_shared y n ≡ true → (s ≡ t → ⊥) → last_write (writes_of state t) n ≡ None
none_written state s t y n locked found is other = by_session (get state.sessions t) refl
  where
    none_of : (o : Option (Option (List ℕ))) → is_some o ≡ false → o ≡ None
    none_of None e = refl
    none_of (Some change) e = absurd (cc)

    by_session : (o : Option Session) → get state.sessions t ≡ o → last_write (writes_of state t) n ≡ None
    by_session None at = ap (λ (o : Option Session). last_write (writes_in o) n) at
    by_session (Some z) at =
        ap (λ (o : Option Session). last_write (writes_in o) n) at
        ∙ none_of (last_write z.writes n) (locked s t y z found at other n is)

-- a command that leaves a session open, and isn't its, keeps the records of the names that the session shares
pub shared_kept : (state : State) (c : Command) (s : ℕ) (y : Session) → Locked state.sessions
    → get state.sessions s ≡ Some y → own s c ≡ false → get (accepted state c).0.sessions s ≡ Some y
    → Agree y (accepted state c).0.map state.map
shared_kept state (command.Commit t) s y locked found other still n is =
    batches_keep state (t ∷ []) n (λ u at. none_written state s u y n locked found is (λ same.
    not_named (t ∷ []) state s u y still at (sym same)))
shared_kept state (command.Batch ss) s y locked found other still n is =
    batches_keep state ss n (λ u at. none_written state s u y n locked found is (λ same.
    not_named ss state s u y still at (sym same)))
shared_kept state rest s y locked found other still n is =
    ap (λ (m : Map). get m n) (records_kept state rest refl)
