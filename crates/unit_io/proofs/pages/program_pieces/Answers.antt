use Rattle.std.proofs.Common.{◌≡◌, ◌<◌, ◌≤◌, ◌+◌, ℕ, Ok, Err, refl, subst, ap, ◌∙◌, arith}
use Rattle.std.proofs.lemmas.Result.{err_from_is_err_and}
use Rattle.unit_io.proofs.PageLemmas.{piled_none, piled_more, piled_fails, piled_all, charts_none, charts_more, IsOpenFor, PieceSays, Piled}
use Rattle.chip_trait.proofs.CountsLemmas.{counts_none, counts_then}
use Rattle.unit_io.proofs.PlainLemmas.{plain_none, plain_then}
use Rattle.unit_io.specs.Costs.{ProgramsAt}
use Rattle.unit_io.proofs.CostLemmas.{spends_none, spends_at_most, nothing_at, one_piece_more}
use Rattle.unit_io.proofs.SparesLemmas.{spares_none, spares_then}
use Rattle.std.proofs.Common.{true, false}
use Rattle.unit_io.specs.Spots.{Programs, IsPieceSpot}
use Rattle.unit_io.proofs.SpotLemmas.{programs_none}
use Rattle.unit_io.proofs.TidyLemmas.{tidy_piece_more, tidy_pieces}
use Rattle.unit_io.proofs.UnreadLemmas.{unread_none, unread_then}
use Rattle.unit_io.proofs.pages.program_pieces.Goals as goal

pub loop-piece-init : goal.loop-piece-init
loop-piece-init g c = record {
  keeps = λ m h steady ready. piled_none _ c.args.place c.args.head.now.unit c.args.head.now.generation c.args.page c.args.text.now m h (g.C.Chip.told c.args.chip.now) steady ready;
  tells = charts_none c.args.place c.args.head.now.unit c.args.head.now.generation c.args.page c.args.text.now (g.C.Chip.told c.args.chip.now);
  plain = plain_none (g.C.Chip.told c.args.chip.now);
  spares = spares_none c.args.place (g.C.Chip.told c.args.chip.now) (g.C.Chip.told c.args.chip.now) refl;
  costs = spends_none (ProgramsAt c.args.place 0 0 4) (g.C.Chip.told c.args.chip.now) (nothing_at c.args.place 0 0 4);
  tidy = spends_none (Programs c.args.place (IsPieceSpot c.args.page 0) true) (g.C.Chip.told c.args.chip.now) (programs_none c.args.place (IsPieceSpot c.args.page 0) true);
  unread = unread_none (g.C.Chip.told c.args.chip.now);
  counts = counts_none (g.C.Chip.told c.args.chip.now);
}

pub loop-piece-preserved : goal.loop-piece-preserved
loop-piece-preserved g c =
    let so_far = c.loop-piece.invariant in
    let few : c.loop-piece.piece < 16 = omega (arith, c.piece_count-count.ensures.few) in record {
      keeps = λ m h steady ready. piled_more _ c.args.place c.args.head.now.unit c.args.head.now.generation c.args.page c.args.text.now m h (g.C.Chip.told c.args.chip.now) ready c.loop-piece.piece few (g.C.Chip.told c.loop-piece.chip) _
          (so_far.keeps m h steady ready)
          (subst (λ (q : ℕ). PieceSays q c.args.place c.args.head.now.unit c.args.head.now.generation c.args.page c.args.text.now c.loop-piece.piece (g.C.Chip.told c.loop-piece.chip) (Ok tt) (g.C.Chip.told c.program_piece.new.chip))
          so_far.counts.places c.in_ok-program_piece.ensures.aside);
      tells = charts_more c.args.place c.args.head.now.unit c.args.head.now.generation c.args.page c.args.text.now c.loop-piece.piece (g.C.Chip.told c.args.chip.now) (g.C.Chip.told c.loop-piece.chip) (g.C.Chip.told c.program_piece.new.chip) so_far.tells c.in_ok-program_piece.ensures.tells;
      plain = plain_then (g.C.Chip.told c.args.chip.now) (g.C.Chip.told c.loop-piece.chip) (g.C.Chip.told c.program_piece.new.chip) so_far.plain c.in_ok-program_piece.ensures.plain;
      spares = spares_then c.args.place (g.C.Chip.told c.args.chip.now) (g.C.Chip.told c.loop-piece.chip) (g.C.Chip.told c.program_piece.new.chip) so_far.spares c.in_ok-program_piece.ensures.spares;
      costs = one_piece_more c.args.place c.loop-piece.piece (g.C.Chip.told c.args.chip.now) (g.C.Chip.told c.loop-piece.chip) (g.C.Chip.told c.program_piece.new.chip) so_far.costs c.in_ok-program_piece.ensures.writes.costs;
      tidy = tidy_piece_more c.args.place c.args.page c.loop-piece.piece true (g.C.Chip.told c.args.chip.now) (g.C.Chip.told c.loop-piece.chip) (g.C.Chip.told c.program_piece.new.chip) so_far.tidy c.in_ok-program_piece.ensures.writes.tidy;
      unread = unread_then (g.C.Chip.told c.args.chip.now) (g.C.Chip.told c.loop-piece.chip) (g.C.Chip.told c.program_piece.new.chip) so_far.unread c.in_ok-program_piece.ensures.writes.unread;
      counts = counts_then (g.C.Chip.told c.args.chip.now) (g.C.Chip.told c.loop-piece.chip) (g.C.Chip.told c.program_piece.new.chip) so_far.counts c.in_ok-program_piece.ensures.writes.accounts.counts;
    }

pub returns-in_err-program_piece-clause-keeps : goal.returns-in_err-program_piece-clause-keeps
returns-in_err-program_piece-clause-keeps g c = λ m h steady rests bare clean.
    let so_far = c.loop-piece.invariant in
    let few : c.loop-piece.piece < 16 = omega (arith, c.piece_count-count.ensures.few) in
    let ready : IsOpenFor _ c.args.place c.args.page m h = record { rests = rests; bare = bare; clean = clean } in
    let e = err_from_is_err_and c.from_residual.result c.from_residual.ensures.1 in
    rw e.1 (piled_fails _ c.args.place c.args.head.now.unit c.args.head.now.generation c.args.page c.args.text.now m h (g.C.Chip.told c.args.chip.now) ready c.loop-piece.piece few (g.C.Chip.told c.loop-piece.chip) _ c.in_err-program_piece.field-0.0 e.0 _
    (so_far.keeps m h steady ready)
    (subst (λ (q : ℕ). PieceSays q c.args.place c.args.head.now.unit c.args.head.now.generation c.args.page c.args.text.now c.loop-piece.piece (g.C.Chip.told c.loop-piece.chip) (Err c.in_err-program_piece.field-0.0) (g.C.Chip.told c.program_piece.new.chip))
    so_far.counts.places c.in_err-program_piece.ensures.aside))

pub returns-clause-keeps : goal.returns-clause-keeps
returns-clause-keeps g c = λ m h steady rests bare clean.
    let done : c.loop-piece.piece ≡ c.piece_count-count.result = omega arith in
    piled_all _ c.args.place c.args.head.now.unit c.args.head.now.generation c.args.page c.args.text.now m h (g.C.Chip.told c.args.chip.now) c.piece_count-count.result c.piece_count-count.ensures.few (g.C.Chip.told c.loop-piece.chip)
    (subst (λ (n : ℕ). Piled (g.C.Chip.told c.args.chip.now).places c.args.place c.args.head.now.unit c.args.head.now.generation c.args.page c.args.text.now m h (g.C.Chip.told c.args.chip.now) n (g.C.Chip.told c.loop-piece.chip)) done
    (c.loop-piece.invariant.keeps m h steady (record { rests = rests; bare = bare; clean = clean })))

pub returns-in_err-program_piece-clause-adds : goal.returns-in_err-program_piece-clause-adds
returns-in_err-program_piece-clause-adds g c =
    let e = err_from_is_err_and c.from_residual.result c.from_residual.ensures.1 in
    rw e.1 (record {
      tells = tt;
      few = tt;
      plain = plain_then (g.C.Chip.told c.args.chip.now) (g.C.Chip.told c.loop-piece.chip) (g.C.Chip.told c.program_piece.new.chip)
          c.loop-piece.invariant.plain c.in_err-program_piece.ensures.plain;
      spares = tt;
    })

pub returns-in_err-program_piece-clause-writes : goal.returns-in_err-program_piece-clause-writes
returns-in_err-program_piece-clause-writes g c =
    let so_far = c.loop-piece.invariant in
    let w = c.in_err-program_piece.ensures.writes in
    let place = c.args.place in
    let piece = c.loop-piece.piece in
    let old = g.C.Chip.told c.args.chip.now in
    let mid = g.C.Chip.told c.loop-piece.chip in
    let new = g.C.Chip.told c.program_piece.new.chip in
    let few : piece < 16 = omega (arith, c.piece_count-count.ensures.few) in
    let e = err_from_is_err_and c.from_residual.result c.from_residual.ensures.1 in
    rw (e.1 ∙ ap Err e.2) (record {
      costs = spends_at_most place (piece + 1) 16 0 0 4 old new (omega (arith, few)) (omega arith)
          (one_piece_more place piece old mid new so_far.costs w.costs);
      tidy = tidy_pieces place c.args.page (piece + 1) false false old new (omega (arith, few))
          (tidy_piece_more place c.args.page piece false old mid new so_far.tidy w.tidy);
      unread = unread_then old mid new so_far.unread w.unread;
      accounts = record {
        counts = counts_then old mid new so_far.counts w.accounts.counts;
        cause = (w.accounts.cause.0, omega (arith, so_far.counts.writes, w.accounts.cause.1));
      };
    })

pub returns-clause-writes : goal.returns-clause-writes
returns-clause-writes g c =
    let so_far = c.loop-piece.invariant in
    let piece = c.loop-piece.piece in
    let few : piece ≤ 16 = omega (arith, c.piece_count-count.ensures.few) in record {
      costs = spends_at_most c.args.place piece 16 0 0 4 _ _ few (omega arith) so_far.costs;
      tidy = tidy_pieces c.args.place c.args.page piece true true _ _ few so_far.tidy;
      unread = so_far.unread;
      accounts = record { counts = so_far.counts; cause = tt };
    }
