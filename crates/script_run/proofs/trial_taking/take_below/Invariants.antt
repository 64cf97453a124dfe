use Rattle.std.proofs.Common.{◌≤◌, ◌*◌}
use Rattle.ipl_model.specs.State.{State, Limits}
use Rattle.chip_trait.specs.Told.{History}
use Rattle.store_trait.specs.Keeping.{LOOK_UP_DRAWS}
use Rattle.script_run.specs.Goes.{KeepsSome}
use Rattle.script_run.proofs.AlongLemmas.{SoFar}
use Rattle.script_run.proofs.CompleteLemmas.{CompletesSoFar}
use Rattle.script_run.specs.TrialSummary.{record_lines}
use Rattle.script_run.specs.Trial.{AreLinesTaken}
use Rattle.script_run.proofs.trial_taking.take_below.Given as goal

-- the records of the names below n are taken
abbrev pub invariant-loop-n : goal.invariant-loop-n
invariant-loop-n g l =
    let told = g.D.Chip.told in
    let k = g.S.Store.keeping g.places g.S.Store.all in
    record {
      takes : (limits : Limits) → l.names ≤ limits.names → (state : State) (h : History)
          → k.holds limits l.fn.store (told l.fn.desk) h state
          → AreLinesTaken k limits state (record_lines state.map l.n) l.fn.records l.fn.store h l.records l.store (told l.fn.desk) (told l.desk);
      along : SoFar k (LOOK_UP_DRAWS * l.n) l.fn.store (told l.fn.desk) l.store (told l.desk);
      completes : (known : g.S.Store.Known) (limits : Limits) → l.names ≤ limits.names → KeepsSome (g.S.Store.keeping g.places known) limits l.fn.store (told l.fn.desk)
          → CompletesSoFar (g.S.Store.keeping g.places known) limits (LOOK_UP_DRAWS * l.n) l.fn.store (told l.fn.desk) l.store (told l.desk);
      few : l.records.count ≤ l.n;
    }

abbrev pub ghost-take_one : goal.ghost-take_one
ghost-take_one g a = g.places
