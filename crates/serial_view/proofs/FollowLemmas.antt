-- What is kept follows the state through ends of sessions, one after the other.
use Rattle.std.proofs.Common.{◌≡◌, ℕ, zero, suc, ◌+◌, ◌<◌, ◌≤◌, not, cond, Bool, List, [], ◌∷◌, ◌++◌, length, take, get_or, Option, Some, None, Result, Ok, Err, refl, sym, ◌∙◌, ap, subst, add-one}
use Rattle.std.specs.Prelude.{OnOk, OnErr, is_some, slice_index}
use Rattle.std.specs.Result.{result_err}
use Rattle.std.proofs.lemmas.List.{length-set, take_more, take_all}
use Rattle.ipl_base.specs.declared.fault.Refusal.{Refusal}
use Rattle.ipl_base.specs.declared.fault.Refusal.TheVariants.{NotOpen}
use Rattle.ipl_model.specs.State.{State, is_open_session, writes_of, with_writes}
use Rattle.ipl_model.specs.Operations.{after_commit, after_batch, after_abort, after_restart}
use Rattle.record_locks.specs.Held.{Held, SessionSlots, held_at, written_of, after_end}
use Rattle.record_locks.specs.Locks.{refuses_end}
use Rattle.record_locks.specs.Standing.{state_of}
use Rattle.record_locks.proofs.StandingLemmas.{open_at}
use Rattle.serial_view.specs.Running.{KeptRun, limits_with, Tracks, Follows, Sets}
use Rattle.serial_view.proofs.FirstLemmas.{closed_below, all_closed}
use Rattle.serial_view.proofs.TrackLemmas.{AreSessions, closed, copied}

pub follows_none : (run : KeptRun) → Follows run (λ state. state) run
follows_none run = record { limits = refl; tracks = λ state tracks. tracks }

pub follows_on : (a b c : KeptRun) (f g : State → State) → Follows a f b → Follows b g c
    → Follows a (λ state. g (f state)) c
follows_on a b c f g first later = record {
  limits = later.limits ∙ first.limits;
  tracks = λ state tracks. later.tracks (f state) (first.tracks state tracks);
}

-- ---- an end of one session

-- a slot without a session is as it was once that is closed
shut_slot : (slots : SessionSlots) (s : ℕ) → held_at slots s ≡ None → after_end slots s ≡ slots
shut_slot [] s is = refl
shut_slot (o ∷ slots) zero is = ap (λ (x : Option Held). x ∷ slots) (sym is)
shut_slot (o ∷ slots) (suc s) is = ap (λ (rest : SessionSlots). o ∷ rest) (shut_slot slots s is)

-- the session is closed, whether it was open or not
pub ended : (slots new : SessionSlots) (s : ℕ) (r : Result Unit Refusal) → result_err r ≡ refuses_end slots s
    → OnOk r (new ≡ after_end slots s) → OnErr r (new ≡ slots) → new ≡ after_end slots s
ended slots new s (Ok u) is ok err = ok
ended slots new s (Err why) is ok err = err ∙ sym (shut_slot slots s (by_test (held_at slots s) (open_at slots s)))
  where
    by_test : (o : Option Held) → is_open_session (state_of slots) s ≡ is_some o → o ≡ None
    by_test None at = refl
    by_test (Some h) at =
        let passes : refuses_end slots s ≡ None = ap (λ (b : Bool). cond (not b) (Some NotOpen) None) at in
        absurd (let clash = is ∙ passes in cc clash)

pub closes : (run : KeptRun) → AreSessions run.slots → (s : ℕ) → s < length run.slots → (slots : SessionSlots) (most : List ℕ)
    → slots ≡ after_end run.slots s → Sets (written_of run.slots s) (λ n. 0) run.most most
    → Follows run (λ state. after_abort state s) (record run { slots = slots; most = most })
closes run sound s slot slots most is sets = record {
  limits = ap (λ (n : ℕ). limits_with n run.units) (ap (λ (held : SessionSlots). length held) is ∙ length-set run.slots s None);
  tracks = λ state tracks.
      subst (λ (held : SessionSlots). Tracks (after_abort state s) (record run { slots = held; most = most })) (sym is)
      (closed state run tracks sound s slot most sets);
}

pub applies : (run new : KeptRun) (s : ℕ) (records : List ℕ)
    → Sets (written_of run.slots s) (slice_index run.last) run.records records
    → Follows (record run { records = records }) (λ state. after_abort state s) new
    → Follows run (λ state. after_commit state s) new
applies run new s records sets closes = record {
  limits = closes.limits;
  tracks = λ state tracks.
      closes.tracks (record state { map = with_writes (writes_of state s) state.map })
      (copied state run tracks s records sets);
}

-- ---- of several

one_more : (state : State) (ss : List ℕ) (s : ℕ)
    → after_commit (after_batch state ss) s ≡ after_batch state (ss ++ s ∷ [])
one_more state [] s = refl
one_more state (u ∷ ss) s = one_more (after_commit state u) ss s

pub applies_more : (run now next : KeptRun) (ss : List ℕ) (i s : ℕ) → i < length ss → s ≡ get_or ss i 0
    → Follows run (λ state. after_batch state (take i ss)) now → Follows now (λ state. after_commit state s) next
    → Follows run (λ state. after_batch state (take (i + 1) ss)) next
applies_more run now next ss i s within is first later = record {
  limits = later.limits ∙ first.limits;
  tracks = λ state tracks.
      subst (λ (st : State). Tracks st next)
      (one_more state (take i ss) s ∙ ap (λ (k : ℕ). after_batch state (take i ss ++ k ∷ [])) is
      ∙ ap (after_batch state) (sym (take_more ss i 0 within)))
      (later.tracks (after_batch state (take i ss)) (first.tracks state tracks));
}

pub applies_all : (run new : KeptRun) (ss : List ℕ) (i : ℕ) → length ss ≤ i
    → Follows run (λ state. after_batch state (take i ss)) new → Follows run (λ state. after_batch state ss) new
applies_all run new ss i past follows =
    subst (λ (all : List ℕ). Follows run (λ state. after_batch state all) new) (take_all i ss past) follows

-- ---- of all

pub closes_more : (run now next : KeptRun) (s : ℕ) → Follows run (λ state. closed_below state s) now
    → Follows now (λ state. after_abort state s) next → Follows run (λ state. closed_below state (s + 1)) next
closes_more run now next s first later =
    subst (λ (k : ℕ). Follows run (λ state. closed_below state k) next) (sym (add-one s))
    (follows_on run now next (λ state. closed_below state s) (λ state. after_abort state s) first later)

pub closes_all : (run new : KeptRun) (k : ℕ) → length run.slots ≤ k
    → Follows run (λ state. closed_below state k) new → Follows run after_restart new
closes_all run new k enough follows = record {
  limits = follows.limits;
  tracks = λ state tracks.
      subst (λ (st : State). Tracks st new) (all_closed state run tracks k enough) (follows.tracks state tracks);
}
