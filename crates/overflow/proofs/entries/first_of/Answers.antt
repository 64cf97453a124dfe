use Rattle.std.proofs.Common.{arith, add-one}
use Rattle.overflow.proofs.PartLemmas.{total_part, total_next}
use Rattle.overflow.proofs.entries.first_of.Goals as goal

pub overflow_add-first : goal.overflow_add-first
overflow_add-first c =
    let part = total_part c.args.counts.now c.loop-unit.unit in
    omega (arith, part, c.loop-unit.invariant, c.from-first.ensures, c.requires.small)

pub loop-unit-preserved : goal.loop-unit-preserved
loop-unit-preserved c =
    let next = total_next c.args.counts.now c.loop-unit.unit (omega (arith, c.loop-unit-test.true, c.requires.units)) in
    rw add-one (omega (arith, next, c.loop-unit.invariant, c.from-first.ensures))
