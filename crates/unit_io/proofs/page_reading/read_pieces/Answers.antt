use Rattle.std.proofs.Common.{◌∙◌}
use Rattle.std.proofs.lemmas.Result.{err_from_is_err_and}
use Rattle.unit_io.specs.Faults.{piece_fault_at}
use Rattle.ipl_base.proofs.FirstLemmas.{first_found}
use Rattle.unit_io.proofs.ReadsLemmas.{page_missed}
use Rattle.unit_io.proofs.page_reading.read_pieces.Goals as goal

pub returns-in_err-end-clause-exact : goal.returns-in_err-end-clause-exact
returns-in_err-end-clause-exact g c =
    let e = err_from_is_err_and c.from_residual.result c.from_residual.ensures.1 in
    λ x told. rw (e.1, e.2) (λ other.
    first_found (piece_fault_at x c.args.place c.args.head.now.version c.args.head.now.unit c.args.head.now.generation c.args.page c.args.pieces) c.loop-piece.piece c.args.pieces _ c.loop-piece-test.true
    (c.loop-piece.invariant.sound x told) (c.in_err-end.ensures.exact x (c.loop-piece.invariant.reads.contents ∙ told) other))

pub returns-in_err-end-clause-asks : goal.returns-in_err-end-clause-asks
returns-in_err-end-clause-asks g c =
    let e = err_from_is_err_and c.from_residual.result c.from_residual.ensures.1 in
    rw e.1 (page_missed c.args.place c.args.page c.args.pieces c.loop-piece.piece _ _ _ c.loop-piece-test.true c.loop-piece.invariant.reads c.in_err-end.ensures.asks)
