use Rattle.std.proofs.Common.{◌≡◌, ◌-◌, ℕ, true, refl, subst, arith}
use Rattle.std.proofs.lemmas.Result.{err_from_is_err_and}
use Rattle.chip_trait.specs.Told.{adds_all}
use Rattle.store_trait.proofs.OnwardLemmas.{further_onward}
use Rattle.script_run.specs.Run.{SayingLeaves}
use Rattle.script_run.specs.Goes.{rows_lines}
use Rattle.script_run.proofs.AlongLemmas.{along_none, along_more, along_then, along_stop}
use Rattle.script_run.proofs.AnswerLemmas.{rows_none, rows_then, rows_stop}
use Rattle.script_run.proofs.CompleteLemmas.{completes_none, completes_more, completes_then, completes_stop}
use Rattle.script_run.proofs.answer.say_rows.Goals as goal

pub loop-n-init : goal.loop-n-init
loop-n-init g c = record {
  says = λ known limits named state h holds. rows_none (g.S.Store.keeping g.places known) limits state c.args.first c.args.store.now h _ holds;
  along = λ known. along_none;
  completes = λ known limits named keeps. completes_none keeps;
  none = λ lt. refl;
}

pub loop-n-preserved : goal.loop-n-preserved
loop-n-preserved g c = record {
  says = λ known limits named state h holds.
      let so_far = c.loop-n.invariant.says known limits named state h holds in
      let row = (c.in_ok-say_row.ensures known).says limits (omega arith) state (adds_all so_far.0.added h) so_far.1 in
      rows_then (g.S.Store.keeping g.places known) limits state c.args.first c.loop-n.n c.args.store.now c.loop-n.store c.say_row.new.store h _ _ _ (omega arith) so_far.0 row;
  along = λ known. along_more (along_then (c.loop-n.invariant.along known) (c.in_ok-say_row.ensures known).along) (omega arith);
  completes = λ known limits named keeps.
      completes_more (completes_then (c.loop-n.invariant.completes known limits named keeps) (further_onward _ _ (c.loop-n.invariant.along known).beside)
      (λ now. (c.in_ok-say_row.ensures known).completes limits (omega arith) now)) (omega arith);
  none = λ lt. absurd (omega arith);
}

pub returns-in_err-say_row : goal.returns-in_err-say_row
returns-in_err-say_row g c = λ known. record {
  says = λ limits named state h holds.
      let stop = err_from_is_err_and c.from_residual.result c.from_residual.ensures.1 in
      let so_far = c.loop-n.invariant.says known limits named state h holds in
      rw stop.1 (rw stop.2 (rows_stop (g.S.Store.keeping g.places known) limits state c.args.first c.loop-n.n c.args.end c.args.store.now c.loop-n.store c.say_row.new.store h _ _ _ _ (omega arith) (omega arith) (c.loop-n.invariant.along known).beside.writes so_far.0
      ((c.in_err-say_row.ensures known).says limits (omega arith) state (adds_all so_far.0.added h) so_far.1)));
  along = along_more (along_then (c.loop-n.invariant.along known) (along_stop c.from_residual.result c.from_residual.ensures.1 (c.in_err-say_row.ensures known).along)) (omega arith);
  completes = λ limits named keeps.
      completes_more (completes_then (c.loop-n.invariant.completes known limits named keeps) (further_onward _ _ (c.loop-n.invariant.along known).beside)
      (λ now. completes_stop c.from_residual.result c.from_residual.ensures.1 ((c.in_err-say_row.ensures known).completes limits (omega arith) now))) (omega arith);
}

pub returns : goal.returns
returns g c = λ known. record {
  says = λ limits named state h holds.
      let all : c.loop-n.n - c.args.first ≡ c.args.end - c.args.first = grind (arith, c.loop-n.invariant.none) in
      let so_far = c.loop-n.invariant.says known limits named state h holds in
      subst (λ (j : ℕ). (leaves : SayingLeaves (g.S.Store.keeping g.places known) limits state.map (rows_lines state.map c.args.first j) c.args.store.now h c.loop-n.store (g.D.Chip.told c.args.desk.now) (g.D.Chip.told c.loop-n.desk) true)
      × (g.S.Store.keeping g.places known).holds limits c.loop-n.store (g.D.Chip.told c.loop-n.desk) (adds_all leaves.added h) state) all so_far;
  along = along_more (c.loop-n.invariant.along known) (grind (arith, c.loop-n.invariant.none));
  completes = λ limits named keeps. completes_more (c.loop-n.invariant.completes known limits named keeps) (grind (arith, c.loop-n.invariant.none));
}
