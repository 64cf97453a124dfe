-- The tests of a command, of which none holds where it passes.
use Rattle.std.proofs.Common.{◌≡◌, ℕ, Bool, true, false, cond, not, List, [], ◌∷◌, Option, Some, None, refl, ap}
use Rattle.std.specs.Prelude.{is_some}
use Rattle.std.specs.FinMap.{get, empty}
use Rattle.ipl_model.specs.State.{Map, Write, Session, State, Limits, holder_for_share, holder_for_write}
use Rattle.ipl_model.specs.Refusals.{refuses_end, Test, first_of, bad_session, bad_name, too_long, not_open, conflict, writes_full, shares_full, pending_full, page_full}
use Rattle.ipl_model.specs.declared.command.Command.{Command}
use Rattle.ipl_model.specs.declared.command.Command.TheVariants as command
use Rattle.serial_view.proofs.SessionLemmas.{alone, get_inserted}

-- the session at whose transaction a command works: not its begin, nor its end
abbrev pub worker : Command → Option ℕ
worker (command.Get s n) = Some s
worker (command.Share s n) = Some s
worker (command.Put s n bytes) = Some s
worker (command.Del s n) = Some s
worker other = None

-- ---- tests of which none holds

-- no test of these holds
abbrev pub Fail : List Test → Type 0
Fail [] = Unit {0}
Fail (t ∷ tests) = (t.0 ≡ false) × (Fail tests)

pub all_fail : (tests : List Test) → first_of tests ≡ None → Fail tests
all_fail [] none = tt
all_fail (t ∷ tests) none = go t.0 none (all_fail tests)
  where
    go : (b : Bool) → cond b (Some t.1) (first_of tests) ≡ None → (first_of tests ≡ None → Fail tests)
        → (b ≡ false) × (Fail tests)
    go true none rest = absurd (cc)
    go false none rest = (refl, rest none)

pub none_holds : (tests : List Test) → Fail tests → first_of tests ≡ None
none_holds [] fail = refl
none_holds (t ∷ tests) fail = go t.0 fail.0 (none_holds tests fail.1)
  where
    go : (b : Bool) → b ≡ false → first_of tests ≡ None → cond b (Some t.1) (first_of tests) ≡ None
    go true is rest = absurd (cc)
    go false is rest = rest

-- the tests of a share, of an open session's write, and of a put and a delete with theirs before
abbrev pub share_tests : Limits → State → ℕ → ℕ → List Test
share_tests limits state s n = bad_session limits s ∷ bad_name limits n ∷ not_open state s
    ∷ conflict (holder_for_share state s n) ∷ shares_full state s n ∷ []

abbrev pub write_tests : State → ℕ → Write → List Test → List Test
write_tests state s w more = not_open state s ∷ conflict (holder_for_write state s w.0)
    ∷ writes_full state s w.0 ∷ pending_full state w ∷ more

abbrev pub put_tests : Limits → State → ℕ → ℕ → List ℕ → List Test
put_tests limits state s n bytes = bad_session limits s ∷ bad_name limits n ∷ too_long bytes
    ∷ write_tests state s (n, Some bytes) (page_full state n bytes ∷ [])

abbrev pub del_tests : Limits → State → ℕ → ℕ → List Test
del_tests limits state s n = bad_session limits s ∷ bad_name limits n ∷ write_tests state s (n, None) []

-- a session that may end may end alone, over whatever records
pub ends_alone : (limits : Limits) (state : State) (m : Map) (s : ℕ) (x : Session) → get state.sessions s ≡ Some x
    → refuses_end limits state s ≡ None → refuses_end limits (alone m s x) s ≡ None
ends_alone limits state m s x found passes =
    let f = all_fail (bad_session limits s ∷ not_open state s ∷ []) passes in
    none_holds (bad_session limits s ∷ not_open (alone m s x) s ∷ [])
    (f.0, (ap (λ (o : Option Session). not (is_some o)) (get_inserted empty s x), tt))
