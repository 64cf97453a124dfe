-- Sessions that are closed together, each open and named once: closing them isn't refused.
use Rattle.std.proofs.Common.{◌≡◌, ℕ, zero, suc, ◌+◌, ◌==◌, Bool, true, false, cond, not, nat_le, nat_lt, List, [], ◌∷◌, length, filter, get_or, Contains, Option, Some, None, refl, ◌∙◌, ap}
use Rattle.std.specs.Prelude.{find}
use Rattle.std.specs.List.{list_any, range_with_len}
use Rattle.std.proofs.lemmas.Bool.{or_parts, lt-leb}
use Rattle.std.proofs.lemmas.List.Elements.{Contains-get_or}
use Rattle.std.proofs.lemmas.List.Folds.{list_any_none}
use Rattle.ipl_base.specs.declared.fault.Refusal.TheVariants.{BadSession, NotOpen}
use Rattle.ipl_model.specs.Refusals.{first_of, is_twice, twice}
use Rattle.ipl_model.specs.State.{is_open_session}
use Rattle.ipl_model.proofs.RuleBatchLemmas.{any_listed}
use Rattle.record_locks.specs.Held.{SessionSlots}
use Rattle.record_locks.specs.Locks.{refuses_batch}
use Rattle.record_locks.specs.Standing.{state_of}
use Rattle.store_laws.specs.Refusals.{AreOpenSessions}
use Rattle.ipl_store.proofs.OpenLemmas.{is_open_then}

-- none of the sessions passes the test
none_passes : (test : ℕ → Bool) (ss : List ℕ) → ((s : ℕ) → Contains ss s → test s ≡ false)
    → list_any test ss ≡ false
none_passes test ss fails =
    list_any_none test ss (λ i d within. fails (get_or ss i d) (Contains-get_or ss i d within))

-- a number that isn't in the list is counted nowhere
none_counted : (ss : List ℕ) (s : ℕ) → list_any (λ t. t == s) ss ≡ false
    → filter (λ t. t == s) ss ≡ []
none_counted [] s absent = refl
none_counted (t ∷ ss) s absent =
    let (other, later) = or_parts (t == s) (list_any (λ k. k == s) ss) absent in
    ap (λ (b : Bool). cond b (t ∷ filter (λ k. k == s) ss) (filter (λ k. k == s) ss)) other
    ∙ none_counted ss s later

-- no number at all stands twice, where none of the list does
never_twice : (ss : List ℕ) → ((s : ℕ) → Contains ss s → is_twice ss s ≡ false) → (s : ℕ)
    → is_twice ss s ≡ false
never_twice ss once s = by_test (list_any (λ t. t == s) ss) refl
  where
    by_test : (b : Bool) → list_any (λ t. t == s) ss ≡ b → is_twice ss s ≡ false
    by_test true is = once s (any_listed ss s is)
    by_test false is = ap (λ (l : List ℕ). nat_lt 1 (length l)) (none_counted ss s is)

-- a test that no number passes finds none
none_found : (test : ℕ → Bool) → ((s : ℕ) → test s ≡ false) → (a n : ℕ)
    → find test (range_with_len a n) ≡ None
none_found test fails a zero = refl
none_found test fails a (suc n) =
    ap (λ (b : Bool). cond b (Some a) (find test (range_with_len (a + 1) n))) (fails a)
    ∙ none_found test fails (a + 1) n

-- open sessions, each once, may be closed together
pub batch_unrefused : (slots : SessionSlots) (ss : List ℕ) → AreOpenSessions slots ss
    → refuses_batch slots ss ≡ None
batch_unrefused slots ss are =
    let closed : ℕ → Bool = λ s. not (is_open_session (state_of slots) s) in
    let least : Option ℕ = find (is_twice ss) (range_with_len 0 (length slots)) in
    let low : list_any (λ s. nat_le (length slots) s) ss ≡ false =
    none_passes (λ s. nat_le (length slots) s) ss (λ s at. lt-leb (length slots) s (are.opens s at).low) in
    let opened : list_any closed ss ≡ false =
    none_passes closed ss (λ s at. ap not
    (is_open_then (is_open_session (state_of slots) s) None (are.opens s at).may_end)) in
    ap (λ (b : Bool). first_of ((b, BadSession) ∷ twice least ∷ (list_any closed ss, NotOpen) ∷ []))
    low
    ∙ ap (λ (o : Option ℕ). first_of (twice o ∷ (list_any closed ss, NotOpen) ∷ []))
    (none_found (is_twice ss) (never_twice ss are.once) 0 (length slots))
    ∙ ap (λ (b : Bool). first_of ((b, NotOpen) ∷ [])) opened
