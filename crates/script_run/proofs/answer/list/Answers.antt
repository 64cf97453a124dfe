use Rattle.std.proofs.lemmas.Result.{err_from_is_err_and}
use Rattle.std.proofs.Common.{[], arith}
use Rattle.ipl_model.specs.declared.command.Command.TheVariants as command
use Rattle.store_trait.proofs.OnwardLemmas.{still_said, still_cut}
use Rattle.script_run.proofs.AlongLemmas.{along_none, along_more, along_said, along_unsaid, along_stop}
use Rattle.script_run.proofs.AnswerLemmas.{answered, unsaid, works_refused, past_names, list_done, list_unsaid, list_failed}
use Rattle.script_run.proofs.CompleteLemmas.{completes_none, completes_said, completes_unsaid, completes_more, completes_stop}
use Rattle.chip_trait.proofs.HistoryLemmas.{same_history}
use Rattle.script_run.proofs.ReplyLemmas.{replied_said, failed_replies}
use Rattle.script_run.proofs.answer.list.Goals as goal

pub returns-in-Ok : goal.returns-in-Ok
returns-in-Ok g c = λ known. record {
  answers = λ limits state h holds.
      let out = past_names c.names-names.result c.args.first c.args.last c.then-first-names.either in
      let works = works_refused (g.S.Store.keeping g.places known) limits state c.args.first c.args.last c.names-names.result (c.names-names.ensures.limit g.places known limits (g.D.Chip.told c.args.desk.now) h state holds) c.args.store.now h (g.D.Chip.told c.args.desk.now) out holds in
      answered (g.S.Store.keeping g.places known) limits state (command.List c.args.first c.args.last) c.args.store.now c.args.store.now h _ _ _ _ works (λ calm entry recalled. recalled) c.in-Ok.ensures.says;
  along = along_said (along_none {n = 0}) c.in-Ok.ensures.onward (still_said _ _ _ c.in-Ok.ensures.says) (omega arith);
  completes = λ limits keeps. completes_said (completes_none {n = 0} keeps) c.in-Ok.ensures.says (omega arith);
  last = replied_said _ [] _ _ _ (same_history (g.D.Chip.told c.args.desk.now).history) c.in-Ok.ensures.says;
}

pub returns-in-Err : goal.returns-in-Err
returns-in-Err g c = λ known. record {
  answers = λ limits state h holds.
      let out = past_names c.names-names.result c.args.first c.args.last c.then-first-names.either in
      let works = works_refused (g.S.Store.keeping g.places known) limits state c.args.first c.args.last c.names-names.result (c.names-names.ensures.limit g.places known limits (g.D.Chip.told c.args.desk.now) h state holds) c.args.store.now h (g.D.Chip.told c.args.desk.now) out holds in
      unsaid (g.S.Store.keeping g.places known) limits state (command.List c.args.first c.args.last) c.args.store.now c.args.store.now h _ _ _ _ works (λ calm entry recalled. recalled) c.in-Err.ensures.says;
  along = along_unsaid (along_none {n = 0}) c.in-Err.ensures.onward c.in-Err.ensures.cause (still_cut _ _ _ c.in-Err.ensures.says) (omega arith);
  completes = λ limits keeps. completes_unsaid (completes_none {n = 0} keeps) (omega arith);
  last = tt;
}

pub returns-in_err-say_rows : goal.returns-in_err-say_rows
returns-in_err-say_rows g c = λ known. record {
  answers = λ limits state h holds.
      let stop = err_from_is_err_and c.from_residual.result c.from_residual.ensures.1 in
      let named = c.names-names.ensures.limit g.places known limits (g.D.Chip.told c.args.desk.now) h state holds in
      rw stop.1 (rw stop.2 (list_failed (g.S.Store.keeping g.places known) limits state c.args.first c.args.last c.names-names.result named c.args.store.now c.say_rows.new.store h _ _ _ c.if-first-names.false c.if-last-names.false holds
      ((c.in_err-say_rows.ensures known).says limits (omega (arith, named, c.if-last-names.false)) state h holds)));
  along = along_more (along_stop c.from_residual.result c.from_residual.ensures.1 (c.in_err-say_rows.ensures known).along) (omega (arith, c.names-names.ensures.most, c.if-last-names.false));
  completes = λ limits keeps.
      let named = c.names-names.ensures.limit g.places known limits (g.D.Chip.told c.args.desk.now) keeps.history keeps.state keeps.holds in
      completes_more (completes_stop c.from_residual.result c.from_residual.ensures.1 ((c.in_err-say_rows.ensures known).completes limits (omega (arith, named, c.if-last-names.false)) keeps)) (omega (arith, c.names-names.ensures.most, c.if-last-names.false));
  last = failed_replies _ _ c.from_residual.result c.from_residual.ensures.1;
}

pub returns-in-Ok-say_reply : goal.returns-in-Ok-say_reply
returns-in-Ok-say_reply g c = λ known. record {
  answers = λ limits state h holds.
      let named = c.names-names.ensures.limit g.places known limits (g.D.Chip.told c.args.desk.now) h state holds in
      let rows = (c.in_ok-say_rows.ensures known).says limits (omega (arith, named, c.if-last-names.false)) state h holds in
      list_done (g.S.Store.keeping g.places known) limits state c.args.first c.args.last c.names-names.result named c.args.store.now c.say_rows.new.store h _ _ _ c.if-first-names.false c.if-last-names.false holds rows c.in-Ok-say_reply.ensures.says;
  along = along_said (c.in_ok-say_rows.ensures known).along c.in-Ok-say_reply.ensures.onward
      (still_said _ _ _ c.in-Ok-say_reply.ensures.says) (omega (arith, c.names-names.ensures.most, c.if-last-names.false));
  completes = λ limits keeps.
      let named = c.names-names.ensures.limit g.places known limits (g.D.Chip.told c.args.desk.now) keeps.history keeps.state keeps.holds in
      completes_said ((c.in_ok-say_rows.ensures known).completes limits (omega (arith, named, c.if-last-names.false)) keeps) c.in-Ok-say_reply.ensures.says (omega (arith, c.names-names.ensures.most, c.if-last-names.false));
  last = replied_said _ (c.in_ok-say_rows.ensures known).along.tidy.added _ (g.D.Chip.told c.say_rows.new.desk) _
      (c.in_ok-say_rows.ensures known).along.tidy.history c.in-Ok-say_reply.ensures.says;
}

pub returns-in-Err-say_reply : goal.returns-in-Err-say_reply
returns-in-Err-say_reply g c = λ known. record {
  answers = λ limits state h holds.
      let named = c.names-names.ensures.limit g.places known limits (g.D.Chip.told c.args.desk.now) h state holds in
      let rows = (c.in_ok-say_rows.ensures known).says limits (omega (arith, named, c.if-last-names.false)) state h holds in
      list_unsaid (g.S.Store.keeping g.places known) limits state c.args.first c.args.last c.names-names.result named c.args.store.now c.say_rows.new.store h _ _ _ c.if-first-names.false c.if-last-names.false holds rows c.in-Err-say_reply.ensures.says;
  along = along_unsaid (c.in_ok-say_rows.ensures known).along c.in-Err-say_reply.ensures.onward c.in-Err-say_reply.ensures.cause
      (still_cut _ _ _ c.in-Err-say_reply.ensures.says) (omega (arith, c.names-names.ensures.most, c.if-last-names.false));
  completes = λ limits keeps.
      let named = c.names-names.ensures.limit g.places known limits (g.D.Chip.told c.args.desk.now) keeps.history keeps.state keeps.holds in
      completes_unsaid ((c.in_ok-say_rows.ensures known).completes limits (omega (arith, named, c.if-last-names.false)) keeps) (omega (arith, c.names-names.ensures.most, c.if-last-names.false));
  last = tt;
}
