-- Maps of open sessions: one that is set, set twice or closed, and a session that is open alone.
use Rattle.std.proofs.Common.{◌≡◌, ◌⊎◌, inl, inr, ℕ, ◌==◌, Bool, true, false, cond, not, ◌&&◌, List, [], ◌∷◌, Option, Some, None, refl, sym, ◌∙◌, ap, arith}
use Rattle.std.specs.Prelude.{is_some, if◌then◌else◌}
use Rattle.std.specs.Cmp.{nat_cmp_total}
use Rattle.std.specs.List.{list_any}
use Rattle.std.specs.Option.{option_map_or}
use Rattle.std.specs.Ordering.{nat_cmp, eq_by_cmp}
use Rattle.std.specs.FinMap.{FinMap, get, insert, remove, empty, get-empty, get-insert, get-remove, same_map, nat_cmp-IsAntisymmetric}
use Rattle.std.proofs.lemmas.Bool.{cases_eq}
use Rattle.std.proofs.lemmas.Bool.Decides.{nat_tests}
use Rattle.ipl_model.specs.State.{Map, Write, Session, State, last_write, has_written, has_shared}
use Rattle.ipl_model.specs.Plain.{writes_in}

abbrev pub Sessions : Type 0
Sessions = FinMap nat_cmp Session

-- session s is open, and no other is
abbrev pub alone : Map → ℕ → Session → State
alone m s x = record { map = m; sessions = insert empty s x }

-- the state with this session
abbrev pub with_session : State → ℕ → Session → State
with_session state s x = record state { sessions = insert state.sessions s x }

-- the session with a write more, or with a name more that it shares
abbrev pub written : Session → Write → Session
written x w = record x { writes = w ∷ x.writes }

abbrev pub shared_too : Session → ℕ → Session
shared_too x n = record x { shared = n ∷ x.shared }

-- the names that the session in a slot shares, none where there is none
abbrev pub shared_in : Option Session → List ℕ
shared_in o = option_map_or (λ session. session.shared) o []

-- the session neither wrote the name nor shares it
abbrev pub is_unheld : Session → ℕ → Bool
is_unheld x n = not (has_written x n) && not (has_shared x n)

-- nor does the session in a slot
abbrev pub is_unheld_in : Option Session → ℕ → Bool
is_unheld_in o n = not (is_some (last_write (writes_in o) n)) && not (list_any (λ k. k == n) (shared_in o))

-- what a share and a write by the session in slot s leave
abbrev pub share_by : State → ℕ → ℕ → Option Session → State
share_by state s n o =
    if is_unheld_in o n then option_map_or (λ x. with_session state s (shared_too x n)) o state else state

abbrev pub write_by : State → ℕ → Write → Option Session → State
write_by state s w o = option_map_or (λ x. with_session state s (written x w)) o state

pub same_some : {A : Type 0} (x y : A) → Some x ≡ Some y → x ≡ y
same_some x y e = cc

-- where none is open, this one isn't
pub none_open : (s : ℕ) (x : Session) → get (empty {R = nat_cmp}) s ≡ Some x → ⊥
none_open s x found = let none : get (empty {X = Session} {R = nat_cmp}) s ≡ None = get-empty nat_cmp s in cc

-- ---- one session more

pub get_inserted : (f : Sessions) (s : ℕ) (x : Session) → get (insert f s x) s ≡ Some x
get_inserted f s x =
    let same : eq_by_cmp nat_cmp s s ≡ true = grind (arith, nat_tests) in
    get-insert nat_cmp_total f s x s ∙ ap (λ (t : Bool). cond t (Some x) (get f s)) same

pub get_other : (f : Sessions) (s u : ℕ) (x : Session) → (u ≡ s → ⊥) → get (insert f s x) u ≡ get f u
get_other f s u x other =
    let apart : eq_by_cmp nat_cmp u s ≡ false = grind (arith, nat_tests) in
    get-insert nat_cmp_total f s x u ∙ ap (λ (t : Bool). cond t (Some x) (get f u)) apart

-- a session that is set twice
pub insert_twice : (f : Sessions) (s : ℕ) (x y : Session) → insert (insert f s x) s y ≡ insert f s y
insert_twice f s x y = same_map nat_cmp_total nat_cmp-IsAntisymmetric _ _ (λ q.
    get-insert nat_cmp_total (insert f s x) s y q
    ∙ ap (cond (eq_by_cmp nat_cmp q s) (Some y)) (get-insert nat_cmp_total f s x q)
    ∙ twice (get f q) (eq_by_cmp nat_cmp q s) ∙ sym (get-insert nat_cmp_total f s y q))
  where
    twice : (o : Option Session) (t : Bool) → cond t (Some y) (cond t (Some x) o) ≡ cond t (Some y) o
    twice o true = refl
    twice o false = refl

-- a session that is set to what it was
pub insert_same : (f : Sessions) (s : ℕ) (x : Session) → get f s ≡ Some x → insert f s x ≡ f
insert_same f s x found = same_map nat_cmp_total nat_cmp-IsAntisymmetric _ _
    (λ q. get-insert nat_cmp_total f s x q ∙ at q (cases_eq q s))
  where
    at : (q : ℕ) → (q ≡ s) ⊎ (q ≡ s → ⊥) → cond (eq_by_cmp nat_cmp q s) (Some x) (get f q) ≡ get f q
    at q (inl same) =
        let here : eq_by_cmp nat_cmp q s ≡ true = grind (arith, nat_tests) in
        ap (λ (t : Bool). cond t (Some x) (get f q)) here ∙ sym found ∙ ap (get f) (sym same)
    at q (inr other) =
        let apart : eq_by_cmp nat_cmp q s ≡ false = grind (arith, nat_tests) in
        ap (λ (t : Bool). cond t (Some x) (get f q)) apart

-- a session that is set and closed
pub remove_inserted : (s : ℕ) (x : Session) → remove (insert (empty {R = nat_cmp}) s x) s ≡ empty
remove_inserted s x = same_map nat_cmp_total nat_cmp-IsAntisymmetric _ _ (λ q.
    get-remove nat_cmp_total (insert empty s x) s q
    ∙ ap (cond (eq_by_cmp nat_cmp q s) None)
    (get-insert nat_cmp_total empty s x q ∙ ap (cond (eq_by_cmp nat_cmp q s) (Some x)) (get-empty nat_cmp q))
    ∙ none (eq_by_cmp nat_cmp q s) ∙ sym (get-empty nat_cmp q))
  where
    none : (t : Bool) → cond t None (cond t (Some x) None) ≡ None
    none true = refl
    none false = refl
