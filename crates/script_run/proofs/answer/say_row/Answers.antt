use Rattle.std.proofs.Common.{arith, Option, List, ℕ, Ok, subst}
use Rattle.std.proofs.lemmas.Result.{err_from_is_err_and}
use Rattle.store_trait.specs.Keeping.{LooksUpFor}
use Rattle.store_trait.proofs.OnwardLemmas.{still_said, still_cut}
use Rattle.script_run.proofs.AlongLemmas.{along_work, along_fault, along_said, along_unsaid}
use Rattle.script_run.proofs.AnswerLemmas.{row_said, row_absent, row_unsaid, row_failed}
use Rattle.script_run.proofs.CompleteLemmas.{completes_look, completes_lost, completes_said, completes_unsaid}
use Rattle.script_run.proofs.answer.say_row.Goals as goal

pub returns-in_err-value : goal.returns-in_err-value
returns-in_err-value g c = λ known. rw (← c.requires.1.1.places) (let w = c.in_err-value.ensures in record {
  says = λ limits named state h holds.
      let stop = err_from_is_err_and c.from_residual.result c.from_residual.ensures.1 in
      rw stop.1 (rw stop.2 (row_failed (g.S.Store.keeping (g.D.Chip.told c.args.desk.now).places known) limits state c.args.n c.args.store.now c.look_up.new.self h _ _ _ (w.looks_up known limits state h holds named)));
  along = along_fault c.from_residual.result c.from_residual.ensures.1 (w.along known).draws (w.along known).counts (w.along known).cause (w.along known).tidy (w.along known).learns;
  completes = λ limits named keeps.
      completes_lost c.from_residual.result c.from_residual.ensures.1 (w.looks_up known limits keeps.state keeps.history keeps.holds named);
})

pub returns-in-Ok : goal.returns-in-Ok
returns-in-Ok g c = λ known. rw (← c.requires.1.1.places) (let w = c.in_ok-value.ensures in record {
  says = λ limits named state h holds.
      let found = subst (λ (o : Option (List ℕ)). LooksUpFor (g.S.Store.keeping (g.D.Chip.told c.args.desk.now).places known) limits state c.args.n c.args.store.now h (Ok o) c.look_up.new.self (g.D.Chip.told c.args.desk.now) (g.D.Chip.told c.look_up.new.chip)) c.in-Some.is (w.looks_up known limits state h holds named) in
      row_said (g.S.Store.keeping (g.D.Chip.told c.args.desk.now).places known) limits state c.args.n c.args.store.now c.look_up.new.self h _ _ _ c.in-Some.value found (w.recalls known) c.in-Ok.ensures.says;
  along = along_said (along_work (w.along known).draws.most (λ _. (w.along known).suited) (w.along known).counts (w.along known).tidy (w.along known).learns) c.in-Ok.ensures.onward
      (still_said _ _ _ c.in-Ok.ensures.says) (omega arith);
  completes = λ limits named keeps.
      completes_said (completes_look (w.looks_up known limits keeps.state keeps.history keeps.holds named)) c.in-Ok.ensures.says (omega arith);
})

pub returns-in-Err : goal.returns-in-Err
returns-in-Err g c = λ known. rw (← c.requires.1.1.places) (let w = c.in_ok-value.ensures in record {
  says = λ limits named state h holds.
      let found = subst (λ (o : Option (List ℕ)). LooksUpFor (g.S.Store.keeping (g.D.Chip.told c.args.desk.now).places known) limits state c.args.n c.args.store.now h (Ok o) c.look_up.new.self (g.D.Chip.told c.args.desk.now) (g.D.Chip.told c.look_up.new.chip)) c.in-Some.is (w.looks_up known limits state h holds named) in
      row_unsaid (g.S.Store.keeping (g.D.Chip.told c.args.desk.now).places known) limits state c.args.n c.args.store.now c.look_up.new.self h _ _ _ c.in-Some.value found (w.recalls known) c.in-Err.ensures.says;
  along = along_unsaid (along_work (w.along known).draws.most (λ _. (w.along known).suited) (w.along known).counts (w.along known).tidy (w.along known).learns) c.in-Err.ensures.onward c.in-Err.ensures.cause
      (still_cut _ _ _ c.in-Err.ensures.says) (omega arith);
  completes = λ limits named keeps.
      completes_unsaid (completes_look (w.looks_up known limits keeps.state keeps.history keeps.holds named)) (omega arith);
})

pub returns-in-None : goal.returns-in-None
returns-in-None g c = λ known. rw (← c.requires.1.1.places) (let w = c.in_ok-value.ensures in record {
  says = λ limits named state h holds.
      let found = subst (λ (o : Option (List ℕ)). LooksUpFor (g.S.Store.keeping (g.D.Chip.told c.args.desk.now).places known) limits state c.args.n c.args.store.now h (Ok o) c.look_up.new.self (g.D.Chip.told c.args.desk.now) (g.D.Chip.told c.look_up.new.chip)) c.in-None.is (w.looks_up known limits state h holds named) in
      row_absent (g.S.Store.keeping (g.D.Chip.told c.args.desk.now).places known) limits state c.args.n c.args.store.now c.look_up.new.self h _ _ found (w.recalls known);
  along = along_work (w.along known).draws.most (λ _. (w.along known).suited) (w.along known).counts (w.along known).tidy (w.along known).learns;
  completes = λ limits named keeps. completes_look (w.looks_up known limits keeps.state keeps.history keeps.holds named);
})
