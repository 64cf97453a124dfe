use Rattle.std.proofs.Common.{◌≡◌, ◌≤◌, ◌-◌, ◌+◌, ◌*◌, max, List, ℕ, Some, Ok, true}
use Rattle.ipl_model.specs.State.{State, Limits}
use Rattle.chip_trait.specs.Told.{History, Grew}
use Rattle.store_trait.specs.Keeping.{FOUND_NUMBER, COMMAND_DRAWS, LeavesTidy}
use Rattle.store_trait.specs.Onward.{Further}
use Rattle.script_run.specs.Goes.{EndsReplied, KeepsSome, HasRead, LearnsAlong}
use Rattle.script_run.proofs.GoesLemmas.{Running}
use Rattle.script_run.proofs.CompleteLemmas.{CompletesSoFar}
use Rattle.script_run.proofs.run.run_script.Given as goal

abbrev pub invariant-loop-total : goal.invariant-loop-total
invariant-loop-total g l =
    let told = g.D.Chip.told in
    record {
      running : (known : g.S.Store.Known) → let k = g.S.Store.keeping g.places known in (limits : Limits) (state : State) (h : History) → k.holds limits l.fn.store (told l.fn.desk) h state → (source : List ℕ) → (told l.fn.desk).beside.left ≡ Some source
          → Running k limits state source l.fn.store h l.store l.line (told l.fn.desk) (told l.desk);
      tidy : (known : g.S.Store.Known) → let k = g.S.Store.keeping g.places known in LeavesTidy k l.fn.store l.store (told l.fn.desk) (told l.desk) true;
      suited : (known : g.S.Store.Known) → let k = g.S.Store.keeping g.places known in k.suits l.fn.store → k.suits l.store;
      learns : (known : g.S.Store.Known) → let k = g.S.Store.keeping g.places known in LearnsAlong k {T = Unit {0}} l.fn.store (told l.fn.desk) (Ok tt) l.store (told l.desk);
      further : Further (told l.fn.desk) (told l.desk);
      bytes : Grew (told l.fn.desk).beside.script_bytes l.total (told l.desk).beside.script_bytes;
      read : HasRead l.total (told l.fn.desk) (told l.desk);
      drew : (known : g.S.Store.Known) → let k = g.S.Store.keeping g.places known in k.counter l.store ≤ max (k.counter l.fn.store) FOUND_NUMBER + COMMAND_DRAWS * l.total;
      completes : (known : g.S.Store.Known) → let k = g.S.Store.keeping g.places known in (limits : Limits) → KeepsSome k limits l.fn.store (told l.fn.desk) → CompletesSoFar k limits (COMMAND_DRAWS * l.total) l.fn.store (told l.fn.desk) l.store (told l.desk);
      last : EndsReplied (told l.fn.desk) (told l.desk);
      few : l.total ≤ 4294967295;
    }

abbrev pub decreases-loop-total : goal.decreases-loop-total
decreases-loop-total g l = 4294967295 - l.total

abbrev pub ghost-take_next : goal.ghost-take_next
ghost-take_next g a = g.places

abbrev pub ghost-answer_line : goal.ghost-answer_line
ghost-answer_line g a = g.places
