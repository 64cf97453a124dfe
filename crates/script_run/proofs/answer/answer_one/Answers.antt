use Rattle.std.proofs.Common.{arith}
use Rattle.std.proofs.lemmas.Result.{err_from_is_err_and}
use Rattle.store_trait.proofs.OnwardLemmas.{still_said, still_cut}
use Rattle.script_run.proofs.AlongLemmas.{along_work, along_fault, along_said, along_unsaid}
use Rattle.script_run.proofs.AnswerLemmas.{answered, unsaid, failed}
use Rattle.script_run.proofs.CompleteLemmas.{completes_work, completes_fault, completes_said, completes_unsaid}
use Rattle.script_run.proofs.ReplyLemmas.{replied_said, failed_replies}
use Rattle.script_run.proofs.answer.answer_one.Goals as goal

pub returns-in_err-reply : goal.returns-in_err-reply
returns-in_err-reply g c = λ known. rw (← c.requires.1.1.1.places) (let w = c.in_err-reply.ensures in record {
  answers = λ limits state h holds.
      let stop = err_from_is_err_and c.from_residual.result c.from_residual.ensures.1 in
      rw stop.1 (rw stop.2 (failed (g.S.Store.keeping (g.D.Chip.told c.args.desk.now).places known) limits state c.args.command.now c.args.store.now c.work.new.self h _ _ _ (w.works known limits state h holds)));
  along = along_fault c.from_residual.result c.from_residual.ensures.1 (w.along known).draws (w.along known).counts (w.along known).cause (w.along known).tidy (w.along known).learns;
  completes = λ limits keeps.
      completes_fault c.from_residual.result c.from_residual.ensures.1 (w.works known limits keeps.state keeps.history keeps.holds);
  last = failed_replies _ _ c.from_residual.result c.from_residual.ensures.1;
})

pub returns-in-Ok : goal.returns-in-Ok
returns-in-Ok g c = λ known. rw (← c.requires.1.1.1.places) (let w = c.in_ok-reply.ensures in record {
  answers = λ limits state h holds.
      answered (g.S.Store.keeping (g.D.Chip.told c.args.desk.now).places known) limits state c.args.command.now c.args.store.now c.work.new.self h _ _ _ _ (w.works known limits state h holds) (λ calm. w.recalls calm known) c.in-Ok.ensures.says;
  along = along_said (along_work (w.along known).draws.most (λ _. (w.along known).suited) (w.along known).counts (w.along known).tidy (w.along known).learns) c.in-Ok.ensures.onward
      (still_said _ _ _ c.in-Ok.ensures.says) (omega arith);
  completes = λ limits keeps.
      completes_said (completes_work (w.works known limits keeps.state keeps.history keeps.holds)) c.in-Ok.ensures.says (omega arith);
  last = replied_said _ (w.along known).tidy.added _ (g.D.Chip.told c.work.new.chip) _ (w.along known).tidy.history c.in-Ok.ensures.says;
})

pub returns-in-Err : goal.returns-in-Err
returns-in-Err g c = λ known. rw (← c.requires.1.1.1.places) (let w = c.in_ok-reply.ensures in record {
  answers = λ limits state h holds.
      unsaid (g.S.Store.keeping (g.D.Chip.told c.args.desk.now).places known) limits state c.args.command.now c.args.store.now c.work.new.self h _ _ _ _ (w.works known limits state h holds) (λ calm. w.recalls calm known) c.in-Err.ensures.says;
  along = along_unsaid (along_work (w.along known).draws.most (λ _. (w.along known).suited) (w.along known).counts (w.along known).tidy (w.along known).learns) c.in-Err.ensures.onward c.in-Err.ensures.cause
      (still_cut _ _ _ c.in-Err.ensures.says) (omega arith);
  completes = λ limits keeps.
      completes_unsaid (completes_work (w.works known limits keeps.state keeps.history keeps.holds)) (omega arith);
  last = tt;
})
