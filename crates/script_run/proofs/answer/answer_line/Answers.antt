use Rattle.std.proofs.Common.{List, Ok, ap, subst}
use Rattle.ipl_model.specs.declared.command.Command.{Command}
use Rattle.ipl_model.specs.Run.{after_all}
use Rattle.ipl_model.specs.Grammar.{commands_in}
use Rattle.chip_trait.specs.Told.{adds_all}
use Rattle.script_run.specs.Run.{RunLeaves}
use Rattle.script_run.proofs.AlongLemmas.{along_none}
use Rattle.script_run.proofs.RunLemmas.{run_none}
use Rattle.script_run.proofs.CompleteLemmas.{completes_none}
use Rattle.script_run.proofs.ReplyLemmas.{replied_none}
use Rattle.script_run.proofs.answer.answer_line.Goals as goal

pub returns-in-Skip : goal.returns-in-Skip
returns-in-Skip g c = λ known. record {
  answers = λ limits state h holds.
      let k = g.S.Store.keeping g.places known in
      let store = c.args.store.now in
      let t = g.D.Chip.told c.args.desk.now in
      let leaves = run_none k limits state store h (k.holds limits store t) t (Ok tt) holds holds holds in
      subst (λ (cs : List Command). (leaves : RunLeaves k limits state cs store h (k.holds limits store t) store t t (Ok tt)) × k.holds limits store t (adds_all leaves.added h) (after_all limits state cs)) (ap commands_in c.in-Skip.ensures)
      (leaves, leaves.ends);
  along = along_none;
  completes = λ limits keeps. completes_none keeps;
  last = replied_none (g.D.Chip.told c.args.desk.now);
}
