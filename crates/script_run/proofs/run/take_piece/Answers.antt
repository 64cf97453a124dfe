use Rattle.std.proofs.Common.{ℕ, [], ◌∷◌, ◌++◌, ◌+◌, List, take, sym, ◌∙◌, ap, subst, arith}
use Rattle.std.proofs.lemmas.List.{take_more}
use Rattle.std.proofs.lemmas.Result.{err_from_is_err_and}
use Rattle.store_trait.proofs.OnwardLemmas.{further_onward}
use Rattle.script_run.specs.Goes.{Goes, StaysAt}
use Rattle.script_run.proofs.FeedLemmas.{feed_at}
use Rattle.script_run.proofs.AlongLemmas.{along_none, along_more, along_then, along_stop}
use Rattle.script_run.proofs.GoesLemmas.{goes_none, goes_then, goes_before, goes_behind, stops_in_piece, stays_later}
use Rattle.script_run.proofs.RunLemmas.{run_weaker}
use Rattle.script_run.proofs.CompleteLemmas.{completes_none, completes_more, completes_then, completes_stop}
use Rattle.script_run.proofs.ReplyLemmas.{replied_none, replied_then, failed_replies}
use Rattle.script_run.proofs.run.take_piece.Goals as goal

pub loop-count-init : goal.loop-count-init
loop-count-init g c = record {
  goes = λ known limits state h holds. goes_none (g.S.Store.keeping g.places known) limits state c.args.line.now c.args.store.now h (g.D.Chip.told c.args.desk.now) holds;
  along = λ known. along_none;
  completes = λ known limits keeps. completes_none keeps;
  last = replied_none (g.D.Chip.told c.args.desk.now);
  inside = omega arith;
}

pub loop-count-preserved : goal.loop-count-preserved
loop-count-preserved g c =
    let was = c.loop-count.invariant in
    let t = c.end_line in
    let told_of = g.D.Chip.told in
    let place = c.loop-count.at + c.in-Some.count in
    let there = feed_at c.args.piece.now c.loop-count.at c.in-Some.count c.in-Some.ensures in record {
      goes = λ known limits state h holds.
          let k = g.S.Store.keeping g.places known in
          subst (λ (l : List ℕ). Goes k limits state c.args.line.now l c.args.store.now h t.new.store t.new.line (told_of c.args.desk.now) (told_of t.new.desk))
          (ap (λ (b : ℕ). take place c.args.piece.now ++ b ∷ []) (sym there.1) ∙ sym (take_more c.args.piece.now place 0 there.0) ∙ ap (λ (m : ℕ). take m c.args.piece.now) (omega arith))
          (goes_then k limits state c.args.line.now (take place c.args.piece.now) (10 ∷ []) c.args.store.now c.loop-count.store t.new.store h
          c.extend.new.self t.new.line (told_of c.args.desk.now) (told_of c.loop-count.desk) (told_of t.new.desk)
          (goes_before k limits state c.args.line.now c.args.piece.now c.loop-count.at c.in-Some.count c.args.store.now c.loop-count.store h c.loop-count.line c.extend.new.self (told_of c.args.desk.now) (told_of c.loop-count.desk)
          c.in-Some.ensures c.extend.ensures (was.goes known limits state h holds)) (λ s g' now. (c.in_ok-end_line.ensures known).takes limits s g' now));
      along = λ known. along_more (along_then (was.along known) (c.in_ok-end_line.ensures known).along) (omega arith);
      completes = λ known limits keeps.
          completes_more (completes_then (was.completes known limits keeps) (further_onward _ _ (was.along known).beside) (λ now. (c.in_ok-end_line.ensures known).completes limits now)) (omega arith);
      last = replied_then (told_of c.args.desk.now) (told_of c.loop-count.desk) (told_of t.new.desk) was.last
          (c.in_ok-end_line.ensures g.S.Store.all).last;
      inside = omega (arith, there.0);
    }

pub returns-in_err-end_line : goal.returns-in_err-end_line
returns-in_err-end_line g c = λ known.
    let told_of = g.D.Chip.told in
    let there = feed_at c.args.piece.now c.loop-count.at c.in-Some.count c.in-Some.ensures in record {
      takes = λ limits state h holds.
          let k = g.S.Store.keeping g.places known in
          let t = c.end_line in
          let place = c.loop-count.at + c.in-Some.count in
          let stop = err_from_is_err_and c.from_residual.result c.from_residual.ensures.1 in
          rw stop.1 (rw stop.2 (stops_in_piece k limits state c.args.line.now c.args.piece.now place c.args.store.now c.loop-count.store t.new.store h (StaysAt k limits t.new.store (told_of c.args.desk.now) (told_of t.new.desk) _)
          c.extend.new.self (told_of c.args.desk.now) (told_of c.loop-count.desk) (told_of t.new.desk) _ there.0
          (goes_before k limits state c.args.line.now c.args.piece.now c.loop-count.at c.in-Some.count c.args.store.now c.loop-count.store h c.loop-count.line c.extend.new.self (told_of c.args.desk.now) (told_of c.loop-count.desk)
          c.in-Some.ensures c.extend.ensures (c.loop-count.invariant.goes known limits state h holds))
          (λ s g' now tail. rw there.1 (run_weaker k limits s _ c.loop-count.store t.new.store g' _ _ (told_of c.loop-count.desk) (told_of t.new.desk) _
          (λ a n. stays_later k limits t.new.store (told_of c.args.desk.now) (told_of c.loop-count.desk) (told_of t.new.desk) _ a n (c.loop-count.invariant.along known).beside.writes) ((c.in_err-end_line.ensures known).takes limits s g' now tail)))));
      along = along_more (along_then (c.loop-count.invariant.along known) (along_stop c.from_residual.result c.from_residual.ensures.1 (c.in_err-end_line.ensures known).along)) (omega (arith, there.0));
      completes = λ limits keeps.
          completes_more (completes_then (c.loop-count.invariant.completes known limits keeps) (further_onward _ _ (c.loop-count.invariant.along known).beside)
          (λ now. completes_stop c.from_residual.result c.from_residual.ensures.1 ((c.in_err-end_line.ensures known).completes limits now))) (omega (arith, there.0));
      last = failed_replies _ _ c.from_residual.result c.from_residual.ensures.1;
    }

pub returns : goal.returns
returns g c = λ known.
    let was = c.loop-count.invariant in record {
      takes = λ limits state h holds.
          let told_of = g.D.Chip.told in
          goes_behind (g.S.Store.keeping g.places known) limits state c.args.line.now c.args.piece.now c.loop-count.at c.args.store.now c.loop-count.store h c.loop-count.line c.extend-2.new.self (told_of c.args.desk.now) (told_of c.loop-count.desk)
          (λ n is. c.in_default.not-Some n (c.line_feed.ensures ∙ is)) c.extend-2.ensures (was.goes known limits state h holds);
      along = along_more (was.along known) (omega (arith, was.inside));
      completes = λ limits keeps. completes_more (was.completes known limits keeps) (omega (arith, was.inside));
      last = was.last;
    }
