use Rattle.std.proofs.Common.{◌≡◌, ◌≤◌, ◌<◌, ◌-◌, ◌*◌, true}
use Rattle.ipl_model.specs.State.{State, Limits}
use Rattle.chip_trait.specs.Told.{History, adds_all}
use Rattle.store_trait.specs.Keeping.{LOOK_UP_DRAWS}
use Rattle.script_run.specs.Run.{SayingLeaves}
use Rattle.script_run.specs.Goes.{KeepsSome, rows_lines}
use Rattle.script_run.proofs.AlongLemmas.{SoFar}
use Rattle.script_run.proofs.CompleteLemmas.{CompletesSoFar}
use Rattle.script_run.proofs.answer.say_rows.Given as goal

abbrev pub invariant-loop-n : goal.invariant-loop-n
invariant-loop-n g l =
    let told = g.D.Chip.told in
    record {
      says : (known : g.S.Store.Known) → let k = g.S.Store.keeping g.places known in (limits : Limits) → l.end ≤ limits.names → (state : State) (h : History) → k.holds limits l.fn.store (told l.fn.desk) h state
          → (leaves : SayingLeaves k limits state.map (rows_lines state.map l.first (l.n - l.first)) l.fn.store h l.store (told l.fn.desk) (told l.desk) true) × k.holds limits l.store (told l.desk) (adds_all leaves.added h) state;
      along : (known : g.S.Store.Known) → SoFar (g.S.Store.keeping g.places known) (LOOK_UP_DRAWS * (l.n - l.first)) l.fn.store (told l.fn.desk) l.store (told l.desk);
      completes : (known : g.S.Store.Known) → let k = g.S.Store.keeping g.places known in (limits : Limits) → l.end ≤ limits.names → KeepsSome k limits l.fn.store (told l.fn.desk) → CompletesSoFar k limits (LOOK_UP_DRAWS * (l.n - l.first)) l.fn.store (told l.fn.desk) l.store (told l.desk);
      none : l.end < l.first → l.n ≡ l.first;
    }

abbrev pub ghost-say_row : goal.ghost-say_row
ghost-say_row g a = g.places
