-- Whether a command is accepted, and what is kept after it.
use Rattle.std.proofs.Common.{◌≡◌, ◌≢◌, ℕ, ◌<◌, ◌≤◌, nat_le, Bool, true, false, cond, not, ◌||◌, List, [], ◌∷◌, ◌++◌, length, Option, Some, None, Result, Ok, Err, refl, sym, ◌∙◌, ap, subst, arith}
use Rattle.std.specs.Prelude.{is_some, is_ok, OnOk, OnErr}
use Rattle.std.specs.Result.{result_err}
use Rattle.std.specs.FinMap.{get}
use Rattle.std.specs.List.{Contains}
use Rattle.std.specs.Option.{option_map}
use Rattle.std.proofs.lemmas.List.{length-set}
use Rattle.std.proofs.lemmas.Bool.{lt-leb, lt-ltb, le-ltb, or_parts, or_right}
use Rattle.ipl_base.specs.Sizes.{size_in_page}
use Rattle.ipl_base.specs.declared.fault.Refusal.{Refusal}
use Rattle.ipl_base.specs.declared.fault.Refusal.TheVariants.{NotOpen}
use Rattle.ipl_base.specs.declared.limits.TheConstants.{PAGE_LEN, SESSIONS, VALUE_LEN}
use Rattle.ipl_model.specs.State.{Session, State, is_open_session, writes_of, last_write, has_written, has_shared, holder_for_write}
use Rattle.ipl_model.specs.Operations.{after_commit, after_batch, after_abort, after_restart}
use Rattle.ipl_model.specs.Refusals as rules
use Rattle.ipl_model.specs.Refusals.{Test, first_of, bad_session, bad_name, too_long, already_open, not_open, conflict, writes_full, pending_full, page_full}
use Rattle.ipl_model.proofs.RuleBatchLemmas.{batches_name_once}
use Rattle.ipl_model.specs.declared.command.Command.{Command}
use Rattle.ipl_model.specs.declared.command.Command.TheVariants as command
use Rattle.ipl_model.specs.Plain.{writes_in}
use Rattle.ipl_model.specs.Step.{Stepped, refusal_of, accepted}
use Rattle.record_locks.specs.Held.{SessionSlots, held_at, new_held, with_shared, with_written, after_begin, after_share}
use Rattle.record_locks.specs.Locks.{refuses_begin, refuses_share, refuses_write, refuses_end, refuses_batch}
use Rattle.record_locks.specs.Standing.{state_of}
use Rattle.record_locks.proofs.SameLemmas.{refuse_as}
use Rattle.record_locks.proofs.BatchLemmas.{batches_refuse}
use Rattle.serial_view.specs.Running.{KeptRun, limits_with, run_limits, Tracks, Follows, TakesCommand, fill_in, after_write}
use Rattle.serial_view.specs.Turns.{HasSlot}
use Rattle.serial_view.proofs.StepLemmas.{step_refused, step_accepted}
use Rattle.serial_view.proofs.TestLemmas.{all_fail, write_tests, put_tests, del_tests}
use Rattle.serial_view.proofs.LockLemmas.{no_other}
use Rattle.serial_view.proofs.RoomLemmas.{overfills_is}
use Rattle.serial_view.proofs.TrackLemmas.{AreSessions, begun, shared, written}

-- ---- refused or accepted

none_of : (o : Option Refusal) → is_some o ≡ false → o ≡ None
none_of None is = refl
none_of (Some why) is = absurd (cc)

some_of : (o : Option Refusal) → is_some o ≡ true → (why : Refusal) × (o ≡ Some why)
some_of None is = absurd (cc)
some_of (Some why) is = (why, refl)

-- a command that passes
taken : (old next : KeptRun) (c : Command)
    → ((state : State) → Tracks state old → is_some (refusal_of (run_limits old) state c) ≡ false)
    → run_limits next ≡ run_limits old
    → ((state : State) → Tracks state old → refusal_of (run_limits old) state c ≡ None
    → Tracks (accepted state c).0 next)
    → HasSlot c → TakesCommand old c next true
taken old next c test same tracked slot = record {
  follows = record {
    limits = same;
    tracks = λ state tracks.
        let passes = none_of (refusal_of (run_limits old) state c) (test state tracks) in
        subst (λ (p : Stepped). Tracks p.0 next) (sym (step_accepted (run_limits old) state c passes))
        (tracked state tracks passes);
  };
  tells = λ state tracks. sym (ap not (test state tracks));
  slot = λ is. slot;
}

-- and one that is refused
pub not_taken : (old : KeptRun) (c : Command)
    → ((state : State) → Tracks state old → is_some (refusal_of (run_limits old) state c) ≡ true)
    → TakesCommand old c old false
not_taken old c test = record {
  follows = record {
    limits = refl;
    tracks = λ state tracks.
        let why = some_of (refusal_of (run_limits old) state c) (test state tracks) in
        subst (λ (p : Stepped). Tracks p.0 old) (sym (step_refused (run_limits old) state c why.0 why.1)) tracks;
  };
  tells = λ state tracks. sym (ap not (test state tracks));
  slot = λ is. absurd (cc is);
}

-- a command that is refused exactly where it isn't taken
by_test : (old new next : KeptRun) (c : Command) (b : Bool)
    → ((state : State) → Tracks state old → is_some (refusal_of (run_limits old) state c) ≡ not b)
    → (b ≡ true → new ≡ next) → (b ≡ false → new ≡ old) → run_limits next ≡ run_limits old
    → ((state : State) → Tracks state old → refusal_of (run_limits old) state c ≡ None
    → Tracks (accepted state c).0 next)
    → HasSlot c → TakesCommand old c new b
by_test old new next c true test goes stays same tracked slot =
    subst (λ (run : KeptRun). TakesCommand old c run true) (sym (goes refl)) (taken old next c test same tracked slot)
by_test old new next c false test goes stays same tracked slot =
    subst (λ (run : KeptRun). TakesCommand old c run false) (sym (stays refl)) (not_taken old c test)

-- a command that isn't refused
pub by_follow : (old new : KeptRun) (c : Command) → Follows old (λ state. (accepted state c).0) new
    → ((state : State) → Tracks state old → refusal_of (run_limits old) state c ≡ None) → HasSlot c
    → TakesCommand old c new true
by_follow old new c follows passes slot =
    taken old new c (λ state tracks. ap is_some (passes state tracks)) follows.limits
    (λ state tracks none. follows.tracks state tracks) slot

-- a command that is refused where a call on the sessions is
by_result : (old next : KeptRun) (slots : SessionSlots) (c : Command) (o : Option Refusal) (r : Result Unit Refusal)
    → result_err r ≡ o → ((state : State) → Tracks state old → refusal_of (run_limits old) state c ≡ o)
    → OnOk r (slots ≡ next.slots) → OnErr r (slots ≡ old.slots)
    → next ≡ record old { slots = next.slots } → length next.slots ≡ length old.slots
    → ((state : State) → Tracks state old → refusal_of (run_limits old) state c ≡ None
    → Tracks (accepted state c).0 next)
    → HasSlot c → TakesCommand old c (record old { slots = slots }) (is_ok r)
by_result old next slots c o (Ok u) is test ok err whole count tracked slot =
    by_test old (record old { slots = slots }) next c true (λ state tracks. ap is_some (test state tracks ∙ sym is))
    (λ e. ap (λ (held : SessionSlots). record old { slots = held }) ok ∙ sym whole) (λ e. absurd (cc e))
    (λ i. limits_with (count i) ((whole i).units)) tracked slot
by_result old next slots c o (Err why) is test ok err whole count tracked slot =
    by_test old (record old { slots = slots }) next c false (λ state tracks. ap is_some (test state tracks ∙ sym is))
    (λ e. absurd (cc e)) (λ e. ap (λ (held : SessionSlots). record old { slots = held }) err)
    (λ i. limits_with (count i) ((whole i).units)) tracked slot

-- the test of tests and of one behind them
some_more : (tests : List Test) (t : Test) → is_some (first_of (tests ++ t ∷ [])) ≡ (is_some (first_of tests) || t.0)
some_more [] t = by_test t.0
  where
    by_test : (b : Bool) → is_some (cond b (Some t.1) None) ≡ b
    by_test true = refl
    by_test false = refl
some_more (x ∷ tests) t = by_head x.0 (some_more tests t)
  where
    by_head : (b : Bool) → is_some (first_of (tests ++ t ∷ [])) ≡ (is_some (first_of tests) || t.0)
        → is_some (cond b (Some x.1) (first_of (tests ++ t ∷ [])))
        ≡ (is_some (cond b (Some x.1) (first_of tests)) || t.0)
    by_head true rest = refl
    by_head false rest = rest

-- ---- what is refused, by the sessions

module _ (state : State) (run : KeptRun) (tracks : Tracks state run) (s : ℕ) (slot : s < length run.slots) where
  in_range : nat_le (length run.slots) s ≡ false
  in_range = lt-leb (length run.slots) s slot

  begin_refused : refusal_of (run_limits run) state (command.Begin s) ≡ refuses_begin run.slots s
  begin_refused = rw in_range (sym (refuse_as run.slots state tracks.names tracks.peaks s 0).begins)

  end_refused : rules.refuses_end (run_limits run) state s ≡ refuses_end run.slots s
  end_refused = rw in_range (sym (refuse_as run.slots state tracks.names tracks.peaks s 0).ends)

  module _ (n : ℕ) (named : n < (run_limits run).names) where
    known : nat_le (run_limits run).names n ≡ false
    known = lt-leb (run_limits run).names n named

    share_refused : refusal_of (run_limits run) state (command.Share s n) ≡ refuses_share run.slots s n
    share_refused = rw (in_range, known) (sym (refuse_as run.slots state tracks.names tracks.peaks s n).shares)

    writes : (change : Option (List ℕ))
        → refuses_write run.slots s n (size_in_page change) ≡ first_of (write_tests state s (n, change) [])
    writes change = (refuse_as run.slots state tracks.names tracks.peaks s n).writes change

    del_refused : refusal_of (run_limits run) state (command.Del s n) ≡ refuses_write run.slots s n 0
    del_refused = rw (in_range, known) (sym (writes None))

    put_refused : (bytes : List ℕ) → length bytes ≤ VALUE_LEN
        → is_some (refusal_of (run_limits run) state (command.Put s n bytes))
        ≡ (is_some (refuses_write run.slots s n (size_in_page (Some bytes))) || (page_full state n bytes).0)
    put_refused bytes short =
        let fits : (too_long bytes).0 ≡ false = le-ltb VALUE_LEN (length bytes) short in
        rw (in_range, known, fits) (
        some_more (write_tests state s (n, Some bytes) []) (page_full state n bytes)
        ∙ ap (λ (o : Option Refusal). is_some o || (page_full state n bytes).0) (sym (writes (Some bytes))))

-- ---- each command

not_twice : (b : Bool) → not (not b) ≡ b
not_twice true = refl
not_twice false = refl

or_none : (a b : Bool) → b ≡ false → (a || b) ≡ a
or_none true b is = refl
or_none false b is = is

-- a session that may write a name is open, and no other wrote it
module _ (state : State) (s n : ℕ) where
  opened : not (is_open_session state s) ≡ false → is_open_session state s ≡ true
  opened none = by_test (is_open_session state s) none
    where
      by_test : (b : Bool) → not b ≡ false → b ≡ true
      by_test true is = refl
      by_test false is = absurd (cc)

  free : is_some (holder_for_write state s n) ≡ false → (t : ℕ) → t ≢ s → last_write (writes_of state t) n ≡ None
  free none t other = by_session (get state.sessions t) refl
    where
      unwritten : (o : Option (Option (List ℕ))) → is_some o ≡ false → o ≡ None
      unwritten None is = refl
      unwritten (Some change) is = absurd (cc)

      by_session : (o : Option Session) → get state.sessions t ≡ o → last_write (writes_in o) n ≡ None
      by_session None is = refl
      by_session (Some y) is =
          unwritten (last_write y.writes n) (or_parts _ _ (no_other
          (λ x. has_written x n || has_shared x n) state s t y is (λ same. other (sym same)) none)).0

module _ (run : KeptRun) (sound : AreSessions run.slots) (s : ℕ) (slot : s < length run.slots) where
  -- a table has a place for it
  low : s < SESSIONS
  low = omega (arith, slot, sound.all)

  -- a write leaves the limits
  same_limits : (n size : ℕ) → run_limits (after_write run s n size) ≡ run_limits run
  same_limits n size =
      ap (λ (k : ℕ). limits_with k run.units) (length-set run.slots s (option_map (with_written n size) (held_at run.slots s)))

  pub begins : (slots : SessionSlots) (r : Result Unit Refusal) → result_err r ≡ refuses_begin run.slots s
      → OnOk r (slots ≡ after_begin run.slots s 0) → OnErr r (slots ≡ run.slots)
      → TakesCommand run (command.Begin s) (record run { slots = slots }) (is_ok r)
  begins slots r is ok err =
      by_result run (record run { slots = after_begin run.slots s 0 }) slots (command.Begin s)
      (refuses_begin run.slots s) r is (λ state tracks. begin_refused state run tracks s slot) ok err refl
      (length-set run.slots s (Some (new_held 0))) (λ state tracks passes. begun state run tracks sound s slot
      (all_fail (bad_session (run_limits run) s ∷ already_open state s ∷ []) passes).1.0) low

  module _ (n : ℕ) (named : n < (run_limits run).names) where
    pub shares : (slots : SessionSlots) (r : Result Unit Refusal) → result_err r ≡ refuses_share run.slots s n
        → OnOk r (slots ≡ after_share run.slots s n) → OnErr r (slots ≡ run.slots)
        → TakesCommand run (command.Share s n) (record run { slots = slots }) (is_ok r)
    shares slots r is ok err =
        by_result run (record run { slots = after_share run.slots s n }) slots (command.Share s n)
        (refuses_share run.slots s n) r is (λ state tracks. share_refused state run tracks s slot n named) ok err refl
        (length-set run.slots s (option_map (with_shared n) (held_at run.slots s)))
        (λ state tracks passes. shared state run tracks sound s slot n) low

    pub dels : (new : KeptRun) (taken : Bool) → taken ≡ not (is_some (refuses_write run.slots s n 0))
        → (taken ≡ true → new ≡ after_write run s n 0) → (taken ≡ false → new ≡ run)
        → TakesCommand run (command.Del s n) new taken
    dels new taken test goes stays =
        by_test run new (after_write run s n 0) (command.Del s n) taken
        (λ state tracks. ap is_some (del_refused state run tracks s slot n named) ∙ sym (ap not test ∙ not_twice _))
        goes stays (same_limits n 0)
        (λ state tracks passes.
        let f = all_fail (del_tests (run_limits run) state s n) passes in
        written state run tracks sound s slot n None named (opened state s n f.1.1.0) (free state s n f.1.1.1.0))
        low

    pub puts : (bytes : List ℕ) (new : KeptRun) (taken : Bool) → length bytes ≤ VALUE_LEN
        → fill_in run n (size_in_page (Some bytes)) ≤ PAGE_LEN
        → taken ≡ not (is_some (refuses_write run.slots s n (size_in_page (Some bytes))))
        → (taken ≡ true → new ≡ after_write run s n (size_in_page (Some bytes))) → (taken ≡ false → new ≡ run)
        → TakesCommand run (command.Put s n bytes) new taken
    puts bytes new taken short fits test goes stays =
        by_test run new (after_write run s n (size_in_page (Some bytes))) (command.Put s n bytes) taken
        (λ state tracks.
        put_refused state run tracks s slot n named bytes short
        ∙ or_none _ _ (overfills_is state run tracks n named bytes
        ∙ le-ltb PAGE_LEN (fill_in run n (size_in_page (Some bytes))) fits) ∙ sym (ap not test ∙ not_twice _))
        goes stays (same_limits n (size_in_page (Some bytes)))
        (λ state tracks passes.
        let f = all_fail (put_tests (run_limits run) state s n bytes) passes in
        written state run tracks sound s slot n (Some bytes) named (opened state s n f.1.1.1.0)
        (free state s n f.1.1.1.1.0))
        low

-- a put that would make its page too full
pub overfull : (run : KeptRun) (s n : ℕ) → s < length run.slots → n < (run_limits run).names → (bytes : List ℕ)
    → length bytes ≤ VALUE_LEN → PAGE_LEN < fill_in run n (size_in_page (Some bytes))
    → TakesCommand run (command.Put s n bytes) run false
overfull run s n slot named bytes short full =
    not_taken run (command.Put s n bytes) (λ state tracks.
    put_refused state run tracks s slot n named bytes short
    ∙ or_right _ _ (overfills_is state run tracks n named bytes
    ∙ lt-ltb PAGE_LEN (fill_in run n (size_in_page (Some bytes))) full))

-- an end
module _ (run new : KeptRun) (few : length run.slots ≤ SESSIONS) (s : ℕ) (slot : s < length run.slots) (opens : is_open_session (state_of run.slots) s ≡ true) where
  end_passes : (state : State) → Tracks state run → rules.refuses_end (run_limits run) state s ≡ None
  end_passes state tracks =
      end_refused state run tracks s slot ∙ ap (λ (b : Bool). cond (not b) (Some NotOpen) None) opens

  pub commits : Follows run (λ state. after_commit state s) new → TakesCommand run (command.Commit s) new true
  commits follows = by_follow run new (command.Commit s) follows end_passes (omega (arith, slot, few))

  pub aborts : Follows run (λ state. after_abort state s) new → TakesCommand run (command.Abort s) new true
  aborts follows = by_follow run new (command.Abort s) follows end_passes tt

-- a batch that isn't refused names sessions in range
pub batch_named : (slots : SessionSlots) (ss : List ℕ) → is_some (refuses_batch slots ss) ≡ false → (s : ℕ) → Contains ss s
    → s < length slots
batch_named slots ss none =
    (batches_name_once (record { sessions = length slots; names = 0; units = 0 }) (state_of slots) ss
    (none_of (refuses_batch slots ss) none)).within

pub batches : (run new : KeptRun) (ss : List ℕ) → length run.slots ≤ SESSIONS → is_some (refuses_batch run.slots ss) ≡ false
    → Follows run (λ state. after_batch state ss) new → TakesCommand run (command.Batch ss) new true
batches run new ss few none follows =
    by_follow run new (command.Batch ss) follows (λ state tracks.
    sym (batches_refuse run.slots (run_limits run) state refl tracks.names ss)
    ∙ none_of (refuses_batch run.slots ss) none)
    (λ s at. let within = batch_named run.slots ss none s at in omega (arith, within, few))

pub batch_refused : (run : KeptRun) (ss : List ℕ) → is_some (refuses_batch run.slots ss) ≡ true
    → TakesCommand run (command.Batch ss) run false
batch_refused run ss some =
    not_taken run (command.Batch ss) (λ state tracks.
    sym (ap is_some (batches_refuse run.slots (run_limits run) state refl tracks.names ss)) ∙ some)

pub restarts : (run new : KeptRun) → Follows run after_restart new → TakesCommand run command.Restart new true
restarts run new follows = by_follow run new command.Restart follows (λ state tracks. refl) tt
