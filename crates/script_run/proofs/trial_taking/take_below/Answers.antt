use Rattle.std.proofs.Common.{◌≡◌, ℕ, List, sym, subst, arith}
use Rattle.std.proofs.lemmas.Result.{err_from_is_err_and}
use Rattle.std.specs.FinMap.{get}
use Rattle.chip_trait.specs.Told.{adds_all}
use Rattle.store_trait.proofs.OnwardLemmas.{further_onward}
use Rattle.script_run.specs.Goes.{row_lines}
use Rattle.script_run.proofs.AlongLemmas.{along_none, along_more, along_then, along_stop}
use Rattle.script_run.proofs.CompleteLemmas.{completes_none, completes_more, completes_then, completes_stop}
use Rattle.script_run.specs.TrialSummary.{record_lines}
use Rattle.script_run.specs.Trial.{AreLinesTaken}
use Rattle.script_run.proofs.TakenLemmas.{lines_more, taken_none, taken_then, lost_then}
use Rattle.script_run.proofs.trial_taking.take_below.Goals as goal

pub loop-n-init : goal.loop-n-init
loop-n-init g c = record {
  takes = λ limits named state h holds.
      taken_none (g.S.Store.keeping g.places g.S.Store.all) limits state c.args.records.now c.args.store.now h _ holds;
  along = along_none;
  completes = λ known limits named keeps. completes_none keeps;
  few = omega arith;
}

pub returns-in_err-take_one-clause-takes : goal.returns-in_err-take_one-clause-takes
returns-in_err-take_one-clause-takes g c = λ limits named state h holds.
    let stop = err_from_is_err_and c.from_residual.result c.from_residual.ensures.1 in
    let was = c.loop-n.invariant in
    let so_far = was.takes limits named state h holds in
    rw stop.1 (lost_then (g.S.Store.keeping g.places g.S.Store.all) limits state (record_lines state.map c.loop-n.n) c.args.records.now
    c.loop-n.records c.args.store.now c.loop-n.store c.take_one.new.store h _ _ _ so_far
    was.along.beside.writes
    (c.in_err-take_one.ensures.takes limits (omega arith) state (adds_all so_far.leaves.added h) so_far.holds))

pub loop-n-preserved : goal.loop-n-preserved
loop-n-preserved g c =
    let k = g.S.Store.keeping g.places g.S.Store.all in
    let new = c.take_one.new in
    record {
      takes = λ limits named state h holds.
          let so_far = c.loop-n.invariant.takes limits named state h holds in
          subst
          (λ (lines : List (List ℕ)).
          AreLinesTaken k limits state lines c.args.records.now c.args.store.now h new.records new.store (g.D.Chip.told c.args.desk.now) (g.D.Chip.told new.desk))
          (sym (lines_more state.map c.loop-n.n))
          (taken_then k limits state (record_lines state.map c.loop-n.n) c.args.records.now c.loop-n.records
          c.args.store.now c.loop-n.store new.store h _ _ _ so_far (row_lines c.loop-n.n (get state.map c.loop-n.n))
          new.records
          (c.in_ok-take_one.ensures.takes limits (omega arith) state (adds_all so_far.leaves.added h) so_far.holds));
      along = along_more (along_then c.loop-n.invariant.along c.in_ok-take_one.ensures.along) (omega arith);
      completes = λ known limits named keeps.
          completes_more (completes_then (c.loop-n.invariant.completes known limits named keeps)
          (further_onward _ _ c.loop-n.invariant.along.beside)
          (λ now. c.in_ok-take_one.ensures.completes known limits (omega arith) now)) (omega arith);
      few = omega (arith, c.loop-n.invariant.few, c.in_ok-take_one.ensures.few);
    }

pub returns-clause-takes : goal.returns-clause-takes
returns-clause-takes g c = λ limits named state h holds.
    let all : c.loop-n.n ≡ c.args.names = omega arith in
    subst
    (λ (n : ℕ). AreLinesTaken (g.S.Store.keeping g.places g.S.Store.all) limits state (record_lines state.map n) c.args.records.now c.args.store.now h
    c.loop-n.records c.loop-n.store (g.D.Chip.told c.args.desk.now) (g.D.Chip.told c.loop-n.desk)) all
    (c.loop-n.invariant.takes limits named state h holds)

pub returns-in_err-take_one-clause-along : goal.returns-in_err-take_one-clause-along
returns-in_err-take_one-clause-along g c =
    along_more (along_then c.loop-n.invariant.along
    (along_stop c.from_residual.result c.from_residual.ensures.1 c.in_err-take_one.ensures.along)) (omega arith)

pub returns-in_err-take_one-clause-completes : goal.returns-in_err-take_one-clause-completes
returns-in_err-take_one-clause-completes g c = λ known limits named keeps.
    completes_more (completes_then (c.loop-n.invariant.completes known limits named keeps)
    (further_onward _ _ c.loop-n.invariant.along.beside)
    (λ now. completes_stop c.from_residual.result c.from_residual.ensures.1
    (c.in_err-take_one.ensures.completes known limits (omega arith) now))) (omega arith)

pub returns-clause-completes : goal.returns-clause-completes
returns-clause-completes g c = λ known limits named keeps.
    completes_more (c.loop-n.invariant.completes known limits named keeps) (omega arith)
