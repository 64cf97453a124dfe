use Rattle.std.proofs.Common.{◌*◌, ◌-◌, ◌≤◌, length, take}
use Rattle.ipl_model.specs.State.{State, Limits}
use Rattle.chip_trait.specs.Told.{History}
use Rattle.store_trait.specs.Keeping.{COMMAND_DRAWS}
use Rattle.script_run.specs.Goes.{Goes, KeepsSome, EndsReplied}
use Rattle.script_run.proofs.AlongLemmas.{SoFar}
use Rattle.script_run.proofs.CompleteLemmas.{CompletesSoFar}
use Rattle.script_run.proofs.run.take_piece.Given as goal

abbrev pub invariant-loop-count : goal.invariant-loop-count
invariant-loop-count g l =
    let told = g.D.Chip.told in
    record {
      goes : (known : g.S.Store.Known) → let k = g.S.Store.keeping g.places known in (limits : Limits) (state : State) (h : History) → k.holds limits l.fn.store (told l.fn.desk) h state
          → Goes k limits state l.fn.line (take l.at l.piece) l.fn.store h l.store l.line (told l.fn.desk) (told l.desk);
      along : (known : g.S.Store.Known) → SoFar (g.S.Store.keeping g.places known) (COMMAND_DRAWS * l.at) l.fn.store (told l.fn.desk) l.store (told l.desk);
      completes : (known : g.S.Store.Known) → let k = g.S.Store.keeping g.places known in (limits : Limits) → KeepsSome k limits l.fn.store (told l.fn.desk) → CompletesSoFar k limits (COMMAND_DRAWS * l.at) l.fn.store (told l.fn.desk) l.store (told l.desk);
      last : EndsReplied (told l.fn.desk) (told l.desk);
      inside : l.at ≤ length l.piece;
    }

abbrev pub decreases-loop-count : goal.decreases-loop-count
decreases-loop-count g l = length l.piece - l.at

abbrev pub ghost-end_line : goal.ghost-end_line
ghost-end_line g a = g.places
