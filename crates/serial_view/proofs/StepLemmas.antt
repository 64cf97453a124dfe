-- What the commands of a session do, among others and alone.
use Rattle.std.proofs.Common.{◌≡◌, ℕ, Bool, true, false, cond, List, [], ◌∷◌, Option, Some, None, refl, sym, ◌∙◌, ap, subst}
use Rattle.std.specs.Prelude.{if◌then◌else◌}
use Rattle.std.specs.Option.{option_map_or}
use Rattle.std.specs.FinMap.{get, insert, remove, empty}
use Rattle.ipl_base.specs.declared.fault.Refusal.{Refusal}
use Rattle.ipl_model.specs.State.{Map, Write, Session, State, Limits, at_rest, seen_through, with_writes}
use Rattle.ipl_model.specs.Operations.{after_write}
use Rattle.ipl_model.specs.declared.command.Command.{Command}
use Rattle.ipl_model.specs.declared.command.Command.TheVariants as command
use Rattle.ipl_model.specs.declared.reply.Reply.{Reply}
use Rattle.ipl_model.specs.declared.reply.Reply.TheVariants as reply
use Rattle.ipl_model.specs.Step.{Stepped, step, refusal_of, accepted, found_reply}
use Rattle.ipl_model.specs.Plain.{writes_in}
use Rattle.serial_view.proofs.SessionLemmas.{Sessions, alone, with_session, written, shared_too, is_unheld, share_by, write_by, same_some, get_inserted, insert_same, remove_inserted}
use Rattle.serial_view.proofs.TestLemmas.{worker, ends_alone}

-- what such a command leaves of its session
abbrev pub changed : Command → Session → Session
changed (command.Share s n) x = if is_unheld x n then shared_too x n else x
changed (command.Put s n bytes) x = written x (n, Some bytes)
changed (command.Del s n) x = written x (n, None)
changed other x = x

-- and its reply, over these records
abbrev pub said : Command → Session → Map → List Reply
said (command.Get s n) x m = found_reply (seen_through x.writes m n) ∷ []
said (command.Share s n) x m = found_reply (seen_through x.writes m n) ∷ []
said other x m = reply.Ok ∷ []

-- a step leaves this state, with these replies
abbrev pub Gives : Stepped → State → List Reply → Type 0
Gives stepped next replies = stepped ≡ (next, replies)

module _ (state : State) (s : ℕ) (x : Session) (found : get state.sessions s ≡ Some x) where
  seen_reply : ℕ → List Reply
  seen_reply n = found_reply (seen_through x.writes state.map n) ∷ []

  -- the session is set to what it was
  unchanged : (replies : List Reply) → Gives (state, replies) (with_session state s x) replies
  unchanged replies =
      ap {B = Stepped} (λ (f : Sessions). (record state { sessions = f }, replies))
      (sym (insert_same state.sessions s x found))

  gets : (n : ℕ) → Gives (accepted state (command.Get s n)) (with_session state s x) (seen_reply n)
  unfolding seen_reply
  gets n =
      ap {B = Stepped} (λ (o : Option Session).
      (state, found_reply (seen_through (writes_in o) state.map n) ∷ [])) found
      ∙ unchanged (seen_reply n)

  shares : (n : ℕ) → Gives (accepted state (command.Share s n))
      (with_session state s (changed (command.Share s n) x)) (seen_reply n)
  unfolding seen_reply
  shares n =
      ap {B = Stepped} (λ (o : Option Session).
      (share_by state s n o, found_reply (seen_through (writes_in o) state.map n) ∷ [])) found
      ∙ by_test (is_unheld x n)
    where
      by_test : (t : Bool) → Gives (cond t (with_session state s (shared_too x n)) state, seen_reply n)
          (with_session state s (cond t (shared_too x n) x)) (seen_reply n)
      by_test true = refl
      by_test false = unchanged (seen_reply n)

  writes : (w : Write) → Gives (after_write state s w, reply.Ok ∷ [])
      (with_session state s (written x w)) (reply.Ok ∷ [])
  writes w = ap {B = Stepped} (λ (o : Option Session). (write_by state s w o, reply.Ok ∷ [])) found

  -- it changes its session alone, and answers from what that sees
  pub does : (c : Command) → worker c ≡ Some s
      → Gives (accepted state c) (with_session state s (changed c x)) (said c x state.map)
  unfolding seen_reply
  does (command.Get t n) e = subst
      (λ (k : ℕ). Gives (accepted state (command.Get k n)) (with_session state s x) (seen_reply n))
      (sym (same_some t s e)) (gets n)
  does (command.Share t n) e = subst
      (λ (k : ℕ). Gives (accepted state (command.Share k n))
      (with_session state s (changed (command.Share k n) x)) (seen_reply n))
      (sym (same_some t s e)) (shares n)
  does (command.Put t n bytes) e = subst
      (λ (k : ℕ). Gives (accepted state (command.Put k n bytes))
      (with_session state s (written x (n, Some bytes))) (reply.Ok ∷ []))
      (sym (same_some t s e)) (writes (n, Some bytes))
  does (command.Del t n) e = subst
      (λ (k : ℕ). Gives (accepted state (command.Del k n))
      (with_session state s (written x (n, None))) (reply.Ok ∷ []))
      (sym (same_some t s e)) (writes (n, None))
  does other e = absurd (cc)

-- ---- steps

module _ (limits : Limits) (state : State) (c : Command) where
  refused_or : Option Refusal → Stepped
  refused_or o = option_map_or (λ refusal. (state, reply.Refused refusal ∷ [])) o (accepted state c)

  pub step_refused : (r : Refusal) → refusal_of limits state c ≡ Some r
      → Gives (step limits state c) state (reply.Refused r ∷ [])
  unfolding refused_or
  step_refused r e = ap refused_or e

  pub step_accepted : refusal_of limits state c ≡ None → step limits state c ≡ accepted state c
  unfolding refused_or
  step_accepted e = ap refused_or e

-- a commit, alone
pub step_commit : (limits : Limits) (state : State) (m : Map) (s : ℕ) (x : Session)
    → get state.sessions s ≡ Some x → refusal_of limits state (command.Commit s) ≡ None
    → Gives (step limits (alone m s x) (command.Commit s)) (at_rest (with_writes x.writes m)) (reply.Ok ∷ [])
step_commit limits state m s x found passes =
    step_accepted limits (alone m s x) (command.Commit s) (ends_alone limits state m s x found passes)
    ∙ ap {B = Stepped} (λ (o : Option Session).
    (record { map = with_writes (writes_in o) m; sessions = remove (insert empty s x) s }, reply.Ok ∷ []))
    (get_inserted empty s x)
    ∙ ap {B = Stepped} (λ (f : Sessions). (record { map = with_writes x.writes m; sessions = f }, reply.Ok ∷ []))
    (remove_inserted s x)
