-- A run of a script, and then work that says nothing.
use Rattle.std.proofs.Common.{◌≡◌, ◌≤◌, ◌+◌, inl, ℕ, true, false, List, [], ◌++◌, Some, Result, Ok, Err, IfErr, MatchResult, is_ok, sym, ◌∙◌, ap, subst}
use Rattle.std.proofs.lemmas.Bool.{false≢true}
use Rattle.std.proofs.lemmas.List.{append-nil}
use Rattle.chip_trait.specs.Story.{Story, pieces, joined_pieces, said}
use Rattle.chip_trait.specs.Told.{History, Told, adds_all}
use Rattle.chip_trait.proofs.SaidLemmas.{silent-part}
use Rattle.ipl_model.specs.declared.command.Command.{Command}
use Rattle.ipl_model.specs.Grammar.{commands_of}
use Rattle.ipl_model.specs.Run.{after_all, IsNear}
use Rattle.ipl_model.specs.State.{State, Limits}
use Rattle.store_trait.specs.declared.fault.Fault.{Fault}
use Rattle.store_trait.specs.Behind.{KeepsBehind, WorksBehind}
use Rattle.store_trait.specs.Keeping.{Keeping, WORK_DRAWS, WorkLeaves, LeavesTidy, StillRecalls, DoneRecalls}
use Rattle.store_trait.specs.Onward.{Further}
use Rattle.store_trait.proofs.OnwardLemmas.{onward_counts, further_onward, further_then}
use Rattle.store_trait.proofs.TidyLemmas.{tidy_then}
use Rattle.script_run.specs.declared.fault.Stop.{Stop}
use Rattle.script_run.specs.declared.fault.Stop.TheVariants as stop
use Rattle.script_run.specs.Behind.{stop_of}
use Rattle.script_run.specs.Goes.{StaysAt, StopCause, LearnsAlong, StopWears, KeepsSome, Completes, CompletesOver, Stopped, Ended, RunsScript}
use Rattle.script_run.specs.Run.{StandsNear, EndsAt, RunLeaves}
use Rattle.script_run.proofs.CauseLemmas.{cause_earlier}
use Rattle.script_run.proofs.CompleteLemmas.{completes_then}
use Rattle.script_run.proofs.EndLemmas.{between_none}
use Rattle.script_run.proofs.GoesLemmas.{stays_later}
use Rattle.script_run.proofs.RunLemmas.{all_or_said, says_none, run_more}

-- silent events say no bytes
no_bytes : (added later e : Story) → pieces added ≡ [] → later ++ e ≡ added → said e ≡ []
no_bytes added later e silent split = ap joined_pieces (silent-part later e (ap pieces split ∙ silent))

module _ {S : Type 0} (k : Keeping S) (limits : Limits) where
  -- ---- work with no command

  run_silent : (state : State) (before then : S) (h : History) (R : History → State → Type 0) (old new : Told)
      (result : Result (Unit {0}) Stop)
      → (did : WorkLeaves k (λ x. k.stands limits x state.map) before h then old new (is_ok result))
      → (is_ok result ≡ true → StillRecalls k before old then new)
      → R (adds_all did.added h) state → EndsAt result limits state [] [] (R (adds_all did.added h))
      → RunLeaves k limits state [] before h R then old new result
  run_silent state before then h R old new result did recalls r ends = record {
    added = did.added;
    history = did.history;
    each_moment = λ later e split x is.
        subst (λ (bytes : List ℕ). StandsNear k limits state [] bytes x) (sym (no_bytes did.added later e did.silent split))
        (inl (did.each_moment later e split x is));
    replies = rw did.silent (says_none []);
    all = λ e. did.silent;
    only = all_or_said k.does did.added did.only;
    lawful = did.lawful;
    clean = did.clean;
    unused = did.unused;
    recalls = λ e calm. recalls e;
    rests = subst (λ (bytes : List ℕ). IsNear (R (adds_all did.added h)) limits state [] bytes) (sym (ap joined_pieces did.silent)) (inl r);
    ends = rw did.silent ends;
  }

  -- behind commands
  run_then : (state : State) (cs : List Command) (before mid then : S) (h : History) (Q R : History → State → Type 0)
      (old between new : Told) (result : Result (Unit {0}) Stop)
      → (first : RunLeaves k limits state cs before h Q mid old between (Ok tt))
      → (did : WorkLeaves k (λ x. k.stands limits x (after_all limits state cs).map) mid (adds_all first.added h) then between new (is_ok result))
      → (is_ok result ≡ true → StillRecalls k mid between then new)
      → R (adds_all did.added (adds_all first.added h)) (after_all limits state cs)
      → EndsAt result limits (after_all limits state cs) [] [] (R (adds_all did.added (adds_all first.added h)))
      → RunLeaves k limits state cs before h R then old new result
  run_then state cs before mid then h Q R old between new result first did recalls r ends =
      subst (λ (l : List Command). RunLeaves k limits state l before h R then old new result) (append-nil cs)
      (run_more k limits state cs [] before mid then h Q R old between new result first
      (run_silent (after_all limits state cs) mid then (adds_all first.added h) R between new result did recalls r ends))

  -- ---- a script

  -- what is left of the script stays so
  left_stays : (between new : Told) (l : List ℕ) → new.beside ≡ between.beside → between.beside.left ≡ Some l → new.beside.left ≡ Some l
  left_stays between new l same is = rw same is

  -- all commands were answered, and then the work done
  ended_then : (state : State) (source : List ℕ) (before mid then : S) (h : History) (old between new : Told)
      → new.beside ≡ between.beside → (ended : Ended k limits state source before h mid old between)
      → KeepsBehind k limits (after_all limits state (commands_of source)) mid (adds_all ended.leaves.added h) (Ok tt) then between new
      → StillRecalls k mid between then new → Ended k limits state source before h then old new
  ended_then state source before mid then h old between new same ended did recalls =
      let leaves = run_then state (commands_of source) before mid then h (k.holds limits mid between) (k.holds limits then new) old between new (Ok tt)
      ended.leaves did.leaves (λ e. recalls) did.ends did.ends in
      record { left_is = left_stays between new [] same ended.left_is; leaves = leaves; holds = leaves.ends }

  -- or it failed
  ended_failed : (state : State) (source : List ℕ) (before mid then : S) (h : History) (old between new : Told) (fault : Fault)
      → old.write_faults ≤ between.write_faults → new.beside ≡ between.beside
      → (ended : Ended k limits state source before h mid old between)
      → KeepsBehind k limits (after_all limits state (commands_of source)) mid (adds_all ended.leaves.added h) (Err fault) then between new
      → Stopped k limits state (commands_of source) source before h (StaysAt k limits then old new (stop.Store fault)) then old new (stop.Store fault)
  ended_failed state source before mid then h old between new fault writes same ended did =
      let cs = commands_of source in
      let R = StaysAt k limits then old new (stop.Store fault) in
      let stays : R (adds_all did.leaves.added (adds_all ended.leaves.added h)) (after_all limits state cs) =
      stays_later k limits then old between new (stop.Store fault) (adds_all did.leaves.added (adds_all ended.leaves.added h)) (after_all limits state cs) writes did.ends in
      record {
        read = source;
        rest = [];
        left_is = left_stays between new [] same ended.left_is;
        source_is = sym (append-nil source);
        leaves = run_then state cs before mid then h (k.holds limits mid between) R old between new (Err (stop.Store fault)) ended.leaves did.leaves (λ e. absurd (false≢true e)) stays
            (between_none limits (after_all limits state cs) [] (R (adds_all did.leaves.added (adds_all ended.leaves.added h))) stays);
      }

module _ {S : Type 0} (k : Keeping S) (before mid then : S) (old between new : Told) (closed : Result (Unit {0}) Fault)
    (further : Further old between) (did : WorksBehind k mid between closed then new) where
  pub further_both : Further old new
  further_both = further_then old between new further (further_onward between new (onward_counts between new did.counts))

  -- the rest of a script was run, and then the work done
  pub runs_behind : RunsScript k before old (Ok tt) mid between → RunsScript k before old (stop_of closed) then new
  runs_behind runs limits state h holds source told =
      let ended = runs limits state h holds source told in
      let works = did.keeps limits (after_all limits state (commands_of source)) (adds_all ended.leaves.added h) ended.holds in
      by_end closed limits state h source ended works did.recalls
    where
      by_end : (result : Result (Unit {0}) Fault) (limits : Limits) (state : State) (h : History) (source : List ℕ)
          → (ended : Ended k limits state source before h mid old between)
          → KeepsBehind k limits (after_all limits state (commands_of source)) mid (adds_all ended.leaves.added h) result then between new
          → DoneRecalls k mid between result then new
          → MatchResult (stop_of result)
          (λ _. Ended k limits state source before h then old new)
          (λ s. Stopped k limits state (commands_of source) source before h (StaysAt k limits then old new s) then old new s)
      by_end (Ok v) limits state h source ended works recalls = ended_then k limits state source before mid then h old between new did.counts.beside ended works recalls
      by_end (Err fault) limits state h source ended works recalls = ended_failed k limits state source before mid then h old between new fault further.writes did.counts.beside ended works

  pub tidy_behind : LeavesTidy k before mid old between true → LeavesTidy k before then old new (is_ok (stop_of closed))
  tidy_behind first = by_end closed did.tidy
    where
      by_end : (result : Result (Unit {0}) Fault) → LeavesTidy k mid then between new (is_ok result)
          → LeavesTidy k before then old new (is_ok (stop_of result))
      by_end (Ok v) second = tidy_then k before mid then old between new true first second
      by_end (Err fault) second = tidy_then k before mid then old between new false first second

  pub cause_behind : IfErr (stop_of closed) (λ s. StopCause k old new s)
  cause_behind = by_end closed did.cause
    where
      by_end : (result : Result (Unit {0}) Fault) → IfErr result (λ fault. k.cause fault between new)
          → IfErr (stop_of result) (λ s. StopCause k old new s)
      by_end (Ok v) cause = tt
      by_end (Err fault) cause = cause_earlier k old between new (stop.Store fault) further cause

  pub learns_behind : LearnsAlong k {T = Unit {0}} before old (Ok tt) mid between → LearnsAlong k before old (stop_of closed) then new
  learns_behind first entry knows = by_end closed (did.learns entry (first entry knows))
    where
      by_end : (result : Result (Unit {0}) Fault) → MatchResult result (λ _. k.knows entry then new) (λ fault. k.wears entry fault new)
          → MatchResult (stop_of result) (λ _. k.knows entry then new) (λ s. StopWears k entry s new)
      by_end (Ok v) is = is
      by_end (Err fault) is = is

  pub completes_behind : (n : ℕ) → CompletesOver k {T = Unit {0}} n before old (Ok tt) mid between
      → CompletesOver k (n + WORK_DRAWS) before old (stop_of closed) then new
  completes_behind n first limits keeps =
      completes_then {k = k} {limits = limits} (first limits keeps) further
      (λ now. by_end closed limits now (did.keeps limits now.state now.history now.holds))
    where
      by_end : (result : Result (Unit {0}) Fault) (limits : Limits) (now : KeepsSome k limits mid between)
          → KeepsBehind k limits now.state mid now.history result then between new
          → Completes k limits WORK_DRAWS mid between (stop_of result) then new
      by_end (Ok v) limits now w = record {
        drawn = w.drawn;
        excuse = λ fault is. cc;
        tells = λ fault is. cc;
        again = record { state = now.state; history = adds_all w.leaves.added now.history; holds = w.ends };
      }
      by_end (Err e) limits now w = record {
        drawn = w.drawn;
        excuse = λ fault is few. let same : e ≡ fault = cc in rw same at (w.excuse few);
        tells = λ fault is. let same : e ≡ fault = cc in rw same at w.tells;
        again = tt;
      }
