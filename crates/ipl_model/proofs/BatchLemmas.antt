-- A commit of several sessions as the plain model does it: first all writes, and then the sessions are closed.
use Rattle.std.proofs.Common.{◌≡◌, ℕ, List, [], ◌∷◌, ◌++◌, refl, sym, ◌∙◌, ap, subst}
use Rattle.std.specs.List.{Contains}
use Rattle.std.specs.FinMap.{remove}
use Rattle.ipl_model.specs.State.{Map, Write, State, with_writes, writes_of}
use Rattle.ipl_model.specs.Operations.{after_commit, after_batch}
use Rattle.ipl_model.proofs.RuleBatchLemmas.{Distinct, first_in, later_in, other_writes}
use Rattle.ipl_model.specs.Plain.{batch_writes, with_records, with_closed}
use Rattle.ipl_model.proofs.ChangeLemmas.{with_writes-append}

-- a commit of another session leaves the writes of these
writes_alike : (state : State) (s : ℕ) (ss : List ℕ) → (Contains ss s → ⊥) → batch_writes (after_commit state s) ss ≡ batch_writes state ss
writes_alike state s [] apart = refl
writes_alike state s (t ∷ ss) apart =
    ap (λ (ws : List Write). ws ++ writes_of (after_commit state s) t) (writes_alike state s ss (λ at. apart (later_in t ss s at)))
    ∙ ap (λ (ws : List Write). batch_writes state ss ++ ws)
    (other_writes state s 0 t (λ same. apart (subst (λ (k : ℕ). Contains (t ∷ ss) k) same (first_in t ss))))

-- where each session stands once
pub batch_is : (state : State) (ss : List ℕ) → Distinct ss → with_closed (with_records (batch_writes state ss) state) ss ≡ after_batch state ss
batch_is state [] distinct = refl
batch_is state (s ∷ ss) distinct =
    ap (λ (m : Map). with_closed (record { map = m; sessions = remove state.sessions s }) ss)
    (with_writes-append (batch_writes state ss) (writes_of state s) state.map
    ∙ ap (λ (ws : List Write). with_writes ws (with_writes (writes_of state s) state.map)) (sym (writes_alike state s ss distinct.0)))
    ∙ batch_is (after_commit state s) ss distinct.1
