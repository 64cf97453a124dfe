use Rattle.std.proofs.Common.{sym, ◌∙◌, arith, ◌<◌, length}
use Rattle.ipl_store.proofs.NumberLemmas.{number_joins, no_number_joins, all_numbers, few_below}
use Rattle.ipl_store.proofs.numbers.active_numbers.Goals as goal
use Rattle.ipl_store.proofs.numbers.active_numbers.Goals.{in-Some, in_default}

pub loop-s-init : goal.loop-s-init
loop-s-init c = (c.none-active.ensures, omega arith)

pub add-requires : goal.add-requires
add-requires c =
    few_below c.args.sessions.now c.loop-s.s c.loop-s.active c.facts.ensures.all
    (omega (arith, c.loop-s-test.true, c.count-s-end.ensures.count)) c.loop-s.invariant.0

pub loop-s-preserved : goal.loop-s-preserved
loop-s-preserved c =
    let slots = c.args.sessions.now in
    let l = c.loop-s in
    let low : l.s < length slots = omega (arith, c.loop-s-test.true, c.count-s-end.ensures.count) in (
      elim c.match-number.branch [
        | in-Some w ↦
            w.active-is ∙ w.add.ensures
            ∙ number_joins slots l.s l.active low l.invariant.0
            w.in-Some.number (sym c.number.ensures ∙ w.in-Some.is)
        | in_default w ↦
            w.active-is
            ∙ no_number_joins slots l.s l.active low
            l.invariant.0 (sym c.number.ensures ∙ w.in_default.is)
      ],
      omega (arith, low),
    )

pub returns : goal.returns
returns c =
    c.loop-s.invariant.0
    ∙ all_numbers c.args.sessions.now c.loop-s.s
    (omega (arith, c.count-s-end.ensures.count, c.loop-s-test.false))
