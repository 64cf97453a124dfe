-- What a run does with a store that keeps a state, in one part after another.
use Rattle.std.proofs.Common.{◌≡◌, inl, inr, ◌≤◌, ◌+◌, ℕ, List, Option, Result, Ok, Err, arith, subst}
use Rattle.std.specs.Prelude.{IsErrAnd, IsErrOf}
use Rattle.ipl_model.specs.State.{State, Limits}
use Rattle.ipl_model.specs.declared.command.Command.{Command}
use Rattle.ipl_model.specs.declared.reply.Reply.{Reply}
use Rattle.ipl_model.specs.Step.{step}
use Rattle.chip_trait.specs.declared.event.Event.TheVariants.{Said}
use Rattle.chip_trait.specs.Told.{History, Told, IsBeside, Appends, adds_all}
use Rattle.store_trait.specs.declared.fault.Fault.{Fault}
use Rattle.store_trait.specs.Onward.{Further, sayings}
use Rattle.store_trait.specs.Keeping.{Keeping, WORK_DRAWS, LOOK_UP_DRAWS, ChipRose, SaysFailedCall, Excuses, WorksFor, LooksUpFor}
use Rattle.store_trait.proofs.OnwardLemmas.{still_said, still_beside}
use Rattle.script_run.specs.declared.fault.Stop.{Stop}
use Rattle.script_run.specs.declared.fault.Stop.TheVariants as stop
use Rattle.script_run.specs.Goes.{KeepsSome, Completes}

-- the fault of a stop
stop_fault : (s : Stop) (fault e : Fault) → s ≡ stop.Store fault → IsErrOf {T = Unit {0}} (Err s) (stop.Store e) → fault ≡ e
stop_fault s fault e is same = cc (is, same)

-- of a part that didn't stop
abbrev pub CompletesSoFar : {S : Type 0} → Keeping S → Limits → ℕ → S → Told → S → Told → Type 0
CompletesSoFar k limits n before old then new = Completes k {T = Unit {0}} limits n before old (Ok tt) then new

-- from earlier on
chip_earlier : (first old new : Told) → first.read_faults ≤ old.read_faults → first.write_faults ≤ old.write_faults
    → first.worn_erases ≤ old.worn_erases → ChipRose old new → ChipRose first new
chip_earlier first old new reads writes worn (inl rose) = inl (omega (arith, reads, rose))
chip_earlier first old new reads writes worn (inr (inl rose)) = inr (inl (omega (arith, writes, rose)))
chip_earlier first old new reads writes worn (inr (inr rose)) = inr (inr (omega (arith, worn, rose)))

excuse_earlier : (first old new : Told) (fault : Fault) → first.read_faults ≤ old.read_faults → first.write_faults ≤ old.write_faults
    → first.worn_erases ≤ old.worn_erases → ChipRose old new × SaysFailedCall fault → ChipRose first new × SaysFailedCall fault
excuse_earlier first old new fault reads writes worn (rose, says) = (chip_earlier first old new reads writes worn rose, says)

-- the fault that was met is the one that the run stops with
fault_excused : {S : Type 0} (k : Keeping S) (n : ℕ) (before : S) (old new : Told) (s : Stop) (fault e : Fault) → s ≡ stop.Store fault
    → IsErrOf {T = Unit {0}} (Err s) (stop.Store e) → Excuses k n before old new fault → Excuses k n before old new e
fault_excused k n before old new s fault e is same excuse =
    subst (Excuses k n before old new) (stop_fault s fault e is same) excuse

-- and so may the store fail
fault_told : {S : Type 0} (k : Keeping S) (limits : Limits) (s : Stop) (fault e : Fault) → s ≡ stop.Store fault
    → IsErrOf {T = Unit {0}} (Err s) (stop.Store e) → k.tells limits fault → k.tells limits e
fault_told k limits s fault e is same tells = subst (k.tells limits) (stop_fault s fault e is same) tells

module _ {S : Type 0} {k : Keeping S} {limits : Limits} where
  -- nothing was done
  pub completes_none : {n : ℕ} {store : S} {t : Told} → KeepsSome k limits store t → CompletesSoFar k limits n store t store t
  completes_none keeps = record { drawn = omega arith; excuse = λ fault is. cc; tells = λ fault is. cc; again = keeps }

  -- the store did its work, or it failed
  pub completes_work : {state : State} {c : Command} {before then : S} {h : History} {old new : Told} {r : Reply} → WorksFor k limits state c before h (Ok r) then old new → CompletesSoFar k limits WORK_DRAWS before old then new
  completes_work {state} {c} {before} {then} {h} w = record {
    drawn = w.drawn;
    excuse = λ fault is. cc;
    tells = λ fault is. cc;
    again = record { state = (step limits state c).0; history = adds_all w.leaves.added h; holds = w.ends.0 };
  }

  pub completes_fault : {state : State} {c : Command} {before then : S} {h : History} {old new : Told} {fault : Fault} (result : Result (Unit {0}) Stop) → IsErrAnd result (λ s. s ≡ stop.Store fault)
      → WorksFor k limits state c before h (Err fault) then old new → Completes k limits WORK_DRAWS before old result then new
  completes_fault (Ok u) is w = absurd is
  completes_fault {state} {c} {before} {then} {h} {old} {new} {fault} (Err s) is w = record { drawn = w.drawn; excuse = λ e same. fault_excused k WORK_DRAWS before old new s fault e is same w.excuse; tells = λ e same. fault_told k limits s fault e is same w.tells; again = tt }

  -- a record was looked up, or that failed
  pub completes_look : {state : State} {n : ℕ} {before then : S} {h : History} {old new : Told} {found : Option (List ℕ)} → LooksUpFor k limits state n before h (Ok found) then old new → CompletesSoFar k limits LOOK_UP_DRAWS before old then new
  completes_look {state} {n} {before} {then} {h} w = record {
    drawn = w.drawn;
    excuse = λ fault is. cc;
    tells = λ fault is. cc;
    again = record { state = state; history = adds_all w.leaves.added h; holds = w.ends.0 };
  }

  pub completes_lost : {state : State} {n : ℕ} {before then : S} {h : History} {old new : Told} {fault : Fault} (result : Result (Unit {0}) Stop) → IsErrAnd result (λ s. s ≡ stop.Store fault)
      → LooksUpFor k limits state n before h (Err fault) then old new → Completes k limits LOOK_UP_DRAWS before old result then new
  completes_lost (Ok u) is w = absurd is
  completes_lost {state} {n} {before} {then} {h} {old} {new} {fault} (Err s) is w = record { drawn = w.drawn; excuse = λ e same. fault_excused k LOOK_UP_DRAWS before old new s fault e is same w.excuse; tells = λ e same. fault_told k limits s fault e is same w.tells; again = tt }

  -- then its reply was said
  pub completes_said : {n m : ℕ} {before then : S} {old mid new : Told} {piece : List ℕ} → CompletesSoFar k limits n before old then mid → Appends (Said piece) mid new → n ≤ m → CompletesSoFar k limits m before old then new
  completes_said {n} {m} {before} {then} {old} {mid} {new} {piece} first did le = record {
    drawn = omega (arith, first.drawn, le);
    excuse = λ fault is. cc;
    tells = λ fault is. cc;
    again = record {
      state = first.again.state;
      history = adds_all (sayings (still_said mid new piece did).pieces) first.again.history;
      holds = k.still limits then mid new first.again.history first.again.state (still_said mid new piece did) first.again.holds;
    };
  }

  -- or it couldn't be
  pub completes_unsaid : {n m : ℕ} {before then : S} {old mid new : Told} → CompletesSoFar k limits n before old then mid → n ≤ m → Completes k {T = Unit {0}} limits m before old (Err stop.Output) then new
  completes_unsaid first le = record { drawn = omega (arith, first.drawn, le); excuse = λ fault is. cc; tells = λ fault is. cc; again = tt }

  -- more numbers may be drawn
  pub completes_more : {T : Type 0} {n m : ℕ} {before then : S} {old new : Told} {result : Result T Stop} → Completes k limits n before old result then new → n ≤ m → Completes k limits m before old result then new
  completes_more first le = record { drawn = omega (arith, first.drawn, le); excuse = λ fault is few whole. first.excuse fault is (omega (arith, few, le)) whole; tells = first.tells; again = first.again }

  -- what a `?` hands on
  pub completes_stop : {T U : Type 0} {n : ℕ} {before then : S} {old new : Told} {s : Stop} (result : Result U Stop) → IsErrAnd result (λ e. e ≡ s) → Completes k {T = T} limits n before old (Err s) then new → Completes k limits n before old result then new
  completes_stop (Ok u) is first = absurd is
  completes_stop (Err e) is first = record { drawn = first.drawn; excuse = λ fault same. first.excuse fault cc; tells = λ fault same. first.tells fault cc; again = tt }

  -- whatever it answers
  pub completes_ok : {T U : Type 0} {n : ℕ} {before then : S} {old new : Told} {u : U} → (t : T) → Completes k limits n before old (Ok u) then new → Completes k limits n before old (Ok t) then new
  completes_ok t first = record { drawn = first.drawn; excuse = λ fault is. cc; tells = λ fault is. cc; again = first.again }

  -- one part after another
  pub completes_then : {T : Type 0} {n m : ℕ} {before between then : S} {old mid new : Told} {result : Result T Stop} → CompletesSoFar k limits n before old between mid → Further old mid
      → (KeepsSome k limits between mid → Completes k limits m between mid result then new) → Completes k limits (n + m) before old result then new
  completes_then {T} {n} {m} {before} {between} {then} {old} {mid} {new} first on next =
      let more = next first.again in record {
        drawn = omega (arith, first.drawn, more.drawn);
        excuse = λ fault is few whole. excuse_earlier old mid new fault on.reads on.writes on.worn (more.excuse fault is (omega (arith, few, first.drawn)) whole);
        tells = more.tells;
        again = more.again;
      }

  -- behind a read of the script
  pub completes_later : {T : Type 0} {n : ℕ} {before then : S} {old mid new : Told} {result : Result T Stop} → IsBeside old mid → KeepsSome k limits before old
      → (KeepsSome k limits before mid → Completes k limits n before mid result then new) → Completes k limits n before old result then new
  completes_later {T} {n} {before} {then} {old} {mid} {new} read keeps next =
      let still = still_beside old mid read in
      let more = next (record { state = keeps.state; history = adds_all (sayings still.pieces) keeps.history; holds = k.still limits before old mid keeps.history keeps.state still keeps.holds }) in record {
        drawn = more.drawn;
        excuse = λ fault is few whole. excuse_earlier old mid new fault read.reads read.writes read.worn (more.excuse fault is few whole);
        tells = more.tells;
        again = more.again;
      }

  -- or the script couldn't be read
  pub completes_unread : {T : Type 0} {n : ℕ} {store : S} {old new : Told} → Completes k {T = T} limits n store old (Err stop.Script) store new
  completes_unread = record { drawn = omega arith; excuse = λ fault is. cc; tells = λ fault is. cc; again = tt }

  -- or it was too long
  pub completes_long : {n m : ℕ} {before then : S} {old new : Told} → CompletesSoFar k limits n before old then new → n ≤ m → Completes k {T = Unit {0}} limits m before old (Err stop.TooLong) then new
  completes_long first le = record { drawn = omega (arith, first.drawn, le); excuse = λ fault is. cc; tells = λ fault is. cc; again = tt }
