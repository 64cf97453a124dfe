use Rattle.std.proofs.Common.{◌≤◌, ◌*◌}
use Rattle.ipl_model.specs.State.{State, Limits}
use Rattle.chip_trait.specs.Told.{History}
use Rattle.store_trait.specs.Keeping.{WORK_DRAWS}
use Rattle.script_run.specs.Goes.{KeepsSome}
use Rattle.script_run.proofs.AlongLemmas.{SoFar}
use Rattle.script_run.proofs.CompleteLemmas.{CompletesSoFar}
use Rattle.script_run.specs.TrialWords.{commands_from}
use Rattle.script_run.specs.Trial.{IsDone}
use Rattle.script_run.proofs.SourceLemmas.{GoesOn}
use Rattle.script_run.proofs.trial_work.do_all.Given as goal

-- the first i commands are done
abbrev pub invariant-loop-i : goal.invariant-loop-i
invariant-loop-i g l =
    let told = g.D.Chip.told in
    let k = g.S.Store.keeping g.places g.S.Store.all in
    record {
      goes : GoesOn l.fn.commands l.i l.commands;
      does : (limits : Limits) (state : State) (h : History) → k.holds limits l.fn.store (told l.fn.desk) h state
          → IsDone k limits state (commands_from l.fn.commands l.i) l.fn.tally l.fn.store h l.tally l.store (told l.fn.desk) (told l.desk);
      along : SoFar k (WORK_DRAWS * l.i) l.fn.store (told l.fn.desk) l.store (told l.desk);
      completes : (known : g.S.Store.Known) (limits : Limits) → KeepsSome (g.S.Store.keeping g.places known) limits l.fn.store (told l.fn.desk)
          → CompletesSoFar (g.S.Store.keeping g.places known) limits (WORK_DRAWS * l.i) l.fn.store (told l.fn.desk) l.store (told l.desk);
      few : l.tally.commands ≤ l.i;
    }

abbrev pub ghost-do_one : goal.ghost-do_one
ghost-do_one g a = g.places
