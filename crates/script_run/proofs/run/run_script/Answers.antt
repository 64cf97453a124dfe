use Rattle.std.proofs.Common.{◌≡◌, ℕ, List, true, false, is_ok, refl, sym, subst, arith}
use Rattle.std.proofs.lemmas.List.{length-take}
use Rattle.std.proofs.lemmas.Result.{err_from_is_err_and, on_ok_weaker}
use Rattle.ipl_model.specs.Grammar.{line_of, commands_in}
use Rattle.script_run.specs.Goes.{Answers, StaysAt}
use Rattle.store_trait.proofs.TidyLemmas.{tidy_same, tidy_part, tidy_then}
use Rattle.store_trait.proofs.OnwardLemmas.{further_none, further_then}
use Rattle.script_run.proofs.ReadLemmas.{grew_none, grew_then, read_none, read_then, too_many, all_answered}
use Rattle.script_run.proofs.CauseLemmas.{cause_earlier, causes_earlier}
use Rattle.script_run.proofs.GoesLemmas.{Running, running_none, running_more, running_stopped, running_failed, running_last, stays_later, stops_weaker, ends_later}
use Rattle.script_run.proofs.CompleteLemmas.{completes_none, completes_more, completes_then, completes_stop, completes_ok, completes_long}
use Rattle.script_run.proofs.ReplyLemmas.{replied_none, replied_then}
use Rattle.script_run.proofs.run.run_script.Goals as goal

pub loop-total-init : goal.loop-total-init
loop-total-init g c =
    let t = g.D.Chip.told c.args.desk.now in
    record {
      running = λ known limits state h holds source left.
          let k = g.S.Store.keeping g.places known in
          subst (λ (l : List ℕ). Running k limits state source c.args.store.now h c.args.store.now l t t) (sym c.new-line.ensures) (running_none k limits state source c.args.store.now h t holds left);
      tidy = λ known. tidy_same (g.S.Store.keeping g.places known) c.args.store.now t t true refl;
      suited = λ known suits. suits;
      learns = λ known entry knows. knows;
      further = further_none t;
      bytes = grew_none t.beside.script_bytes;
      read = read_none t;
      drew = λ known. omega arith;
      completes = λ known limits keeps. completes_none keeps;
      last = replied_none t;
      few = omega arith;
    }

pub loop-total-preserved : goal.loop-total-preserved
loop-total-preserved g c =
    let was = c.loop-total.invariant in
    let t = c.take_next in
    let at = g.D.Chip.told in
    let o = c.in_ok-count.ensures in
    record {
      running = λ known limits state h holds source left.
          let k = g.S.Store.keeping g.places known in
          running_more k limits state source c.args.store.now c.loop-total.store t.new.store h c.loop-total.line t.new.line (at c.args.desk.now) (at c.loop-total.desk) (at t.new.desk) c.in_ok-count.count (was.running known limits state h holds source left) (λ s g' now. o.takes known limits s g' now);
      tidy = λ known. tidy_then (g.S.Store.keeping g.places known) c.args.store.now c.loop-total.store t.new.store (at c.args.desk.now) (at c.loop-total.desk) (at t.new.desk) true (was.tidy known) (o.along known).tidy;
      suited = λ known suits. (o.along known).suited ((was.suited known) suits);
      learns = λ known entry knows. (o.along known).learns entry ((was.learns known) entry knows);
      further = further_then (at c.args.desk.now) (at c.loop-total.desk) (at t.new.desk) was.further (t.ensures.along g.S.Store.all).beside;
      bytes = grew_then (at c.args.desk.now).beside.script_bytes (at c.loop-total.desk).beside.script_bytes (at t.new.desk).beside.script_bytes c.loop-total.total c.in_ok-count.count was.bytes o.read.bytes;
      read = read_then (at c.args.desk.now) (at c.loop-total.desk) (at t.new.desk) c.loop-total.total c.in_ok-count.count was.read o.read.read;
      drew = λ known. let d = (o.draws known).drew in omega (arith, (was.drew known), d);
      completes = λ known limits keeps.
          completes_more (completes_then (was.completes known limits keeps) was.further (λ now. completes_ok tt ((o.draws known).completed limits now))) (omega arith);
      last = replied_then (at c.args.desk.now) (at c.loop-total.desk) (at t.new.desk) was.last o.last;
      few = let count = o.read.few in omega (arith, count, length-take c.min-most.result c.loop-total.piece, c.loop-total-test.true);
    }

pub returns-clause-run : goal.returns-clause-run
returns-clause-run g c = λ known limits state h holds source left.
    stops_weaker (g.S.Store.keeping g.places known) limits state _ source c.args.store.now c.loop-total.store h _ _ _ _ _ (λ a s kept quiet. (kept, tt))
    (running_stopped (g.S.Store.keeping g.places known) limits state source c.args.store.now c.loop-total.store h c.loop-total.line (g.D.Chip.told c.args.desk.now) (g.D.Chip.told c.loop-total.desk) (c.loop-total.invariant.running known limits state h holds source left))

pub returns-in_err-count-clause-run : goal.returns-in_err-count-clause-run
returns-in_err-count-clause-run g c = λ known limits state h holds source left.
    let k = g.S.Store.keeping g.places known in
    let at = g.D.Chip.told in
    let t = c.take_next in
    let stop = err_from_is_err_and c.from_residual.result c.from_residual.ensures.1 in
    rw stop.1 (rw stop.2 (running_failed k limits state source c.args.store.now c.loop-total.store t.new.store h (StaysAt k limits t.new.store (at c.args.desk.now) (at t.new.desk) _) c.loop-total.line (at c.args.desk.now) (at c.loop-total.desk) (at t.new.desk) _
    (c.loop-total.invariant.running known limits state h holds source left)
    (λ s g' now rest more. stops_weaker k limits s _ rest c.loop-total.store t.new.store g' _ _ (at c.loop-total.desk) (at t.new.desk) _
    (λ a n. stays_later k limits t.new.store (at c.args.desk.now) (at c.loop-total.desk) (at t.new.desk) _ a n c.loop-total.invariant.further.writes) (c.in_err-count.ensures.takes known limits s g' now rest more))))

pub returns-in_err-count-clause-ends : goal.returns-in_err-count-clause-ends
returns-in_err-count-clause-ends g c = λ known.
    let at = g.D.Chip.told in
    let failed = (c.in_err-count.ensures.along known) in
    let stop = err_from_is_err_and c.from_residual.result c.from_residual.ensures.1 in
    rw stop.1 (rw stop.2 (record {
      cause = cause_earlier (g.S.Store.keeping g.places known) (at c.args.desk.now) (at c.loop-total.desk) (at c.take_next.new.desk) _ c.loop-total.invariant.further failed.cause;
      long = λ is. absurd (failed.never cc);
      all = tt;
      last = tt;
    }))

pub returns-then-count-eq0-clause-run : goal.returns-then-count-eq0-clause-run
returns-then-count-eq0-clause-run g c = λ known limits state h holds source left.
    let k = g.S.Store.keeping g.places known in
    let at = g.D.Chip.told in
    let t = c.take_next in
    let a = c.answer_line in
    let answers = subst (λ (l : List ℕ). Answers k (commands_in (line_of l)) t.new.store (at t.new.desk) a.result a.new.store (at a.new.desk)) c.bytes.ensures (a.ensures known).answers in
    ends_later k limits state source c.args.store.now a.new.store h a.result (at c.args.desk.now) (at t.new.desk) (at a.new.desk) (omega (arith, c.loop-total.invariant.further.writes, (c.in_ok-count.ensures.along known).beside.writes))
    (running_last k limits state source c.args.store.now c.loop-total.store t.new.store a.new.store h c.loop-total.line t.new.line (at c.args.desk.now) (at c.loop-total.desk) (at t.new.desk) (at a.new.desk) c.in_ok-count.count a.result
    (c.loop-total.invariant.running known limits state h holds source left) (λ s g' now. c.in_ok-count.ensures.takes known limits s g' now) c.if-count-eq0.true answers (a.ensures known).along.beside)

pub returns-clause-ends : goal.returns-clause-ends
returns-clause-ends g c = λ known.
    let was = c.loop-total.invariant in
    let total : c.loop-total.total ≡ 4294967295 = omega (arith, was.few, c.loop-total-test.false) in record {
      cause = omega (arith, was.bytes.at_least, total);
      long = λ is. too_many (g.D.Chip.told c.args.desk.now) (g.D.Chip.told c.loop-total.desk) c.loop-total.total total was.bytes was.read;
      all = tt;
      last = tt;
    }

pub returns-then-count-eq0-clause-suited : goal.returns-then-count-eq0-clause-suited
returns-then-count-eq0-clause-suited g c = on_ok_weaker c.answer_line.result
    (λ suited. suited ((c.in_ok-count.ensures.along g.S.Store.all).suited ((c.loop-total.invariant.suited g.S.Store.all) c.requires.1.1.suits))) (c.answer_line.ensures g.S.Store.all).along.suited

pub returns-then-count-eq0-clause-ends : goal.returns-then-count-eq0-clause-ends
returns-then-count-eq0-clause-ends g c = λ known.
    let at = g.D.Chip.told in
    let k = g.S.Store.keeping g.places known in
    let old = at c.args.desk.now in
    let mid = at c.take_next.new.desk in
    let last = c.answer_line in
    let new = at last.new.desk in
    let took = c.in_ok-count.ensures in
    let further = further_then old (at c.loop-total.desk) mid c.loop-total.invariant.further (took.along known).beside in record {
      cause = causes_earlier k old mid new last.result further (last.ensures known).along.cause;
      long = λ is. absurd ((last.ensures known).along.never is);
      all = all_answered last.result old (at c.loop-total.desk) mid new c.loop-total.total c.loop-total.invariant.read (took.read.ended c.if-count-eq0.true) (last.ensures known).along.beside;
      last = on_ok_weaker last.result (λ replied. replied_then old mid new (replied_then old (at c.loop-total.desk) mid c.loop-total.invariant.last took.last) replied)
          (last.ensures known).last;
    }

pub returns-clause-completes : goal.returns-clause-completes
returns-clause-completes g c = λ known limits keeps. completes_long (c.loop-total.invariant.completes known limits keeps) (omega (arith, c.loop-total.invariant.few))

pub returns-in_err-count-clause-completes : goal.returns-in_err-count-clause-completes
returns-in_err-count-clause-completes g c = λ known limits keeps.
    completes_more (completes_then (c.loop-total.invariant.completes known limits keeps) c.loop-total.invariant.further
    (λ now. completes_stop c.from_residual.result c.from_residual.ensures.1 (c.in_err-count.ensures.completes known limits now)))
    (omega (arith, c.loop-total.invariant.few, length-take c.min-most.result c.loop-total.piece, c.loop-total-test.true))

pub returns-then-count-eq0-clause-completes : goal.returns-then-count-eq0-clause-completes
returns-then-count-eq0-clause-completes g c = λ known limits keeps.
    let a = c.in_ok-count.ensures in
    completes_more (completes_then (completes_then (c.loop-total.invariant.completes known limits keeps) c.loop-total.invariant.further (λ now. completes_ok tt ((a.draws known).completed limits now)))
    (further_then _ _ _ c.loop-total.invariant.further (a.along known).beside) (λ now. (c.answer_line.ensures known).completes limits now)) (omega (arith, c.loop-total-test.true, c.if-count-eq0.true))

pub returns-clause-tidy : goal.returns-clause-tidy
returns-clause-tidy g c = λ known.
    tidy_part (g.S.Store.keeping g.places known) c.args.store.now c.loop-total.store (g.D.Chip.told c.args.desk.now) (g.D.Chip.told c.loop-total.desk) true (c.loop-total.invariant.tidy known)

pub returns-in_err-count-clause-tidy : goal.returns-in_err-count-clause-tidy
returns-in_err-count-clause-tidy g c = λ known.
    let at = g.D.Chip.told in
    let stop = err_from_is_err_and c.from_residual.result c.from_residual.ensures.1 in
    rw stop.1 (tidy_then (g.S.Store.keeping g.places known) c.args.store.now c.loop-total.store c.take_next.new.store (at c.args.desk.now) (at c.loop-total.desk) (at c.take_next.new.desk) false
    (c.loop-total.invariant.tidy known) (c.in_err-count.ensures.along known).tidy)

pub returns-then-count-eq0-clause-tidy : goal.returns-then-count-eq0-clause-tidy
returns-then-count-eq0-clause-tidy g c = λ known.
    let at = g.D.Chip.told in
    let k = g.S.Store.keeping g.places known in
    let t = c.take_next.new in
    let a = c.answer_line in
    tidy_then k c.args.store.now t.store a.new.store (at c.args.desk.now) (at t.desk) (at a.new.desk) (is_ok a.result)
    (tidy_then k c.args.store.now c.loop-total.store t.store (at c.args.desk.now) (at c.loop-total.desk) (at t.desk) true (c.loop-total.invariant.tidy known) (c.in_ok-count.ensures.along known).tidy)
    (a.ensures known).along.tidy

pub returns-clause-learns : goal.returns-clause-learns
returns-clause-learns g c = λ known entry knows. tt

pub returns-in_err-count-clause-learns : goal.returns-in_err-count-clause-learns
returns-in_err-count-clause-learns g c = λ known.
    let stop = err_from_is_err_and c.from_residual.result c.from_residual.ensures.1 in
    rw stop.1 (rw stop.2 (λ entry knows. (c.in_err-count.ensures.along known).learns entry ((c.loop-total.invariant.learns known) entry knows)))

pub returns-then-count-eq0-clause-learns : goal.returns-then-count-eq0-clause-learns
returns-then-count-eq0-clause-learns g c = λ known entry knows.
    (c.answer_line.ensures known).along.learns entry ((c.in_ok-count.ensures.along known).learns entry ((c.loop-total.invariant.learns known) entry knows))
