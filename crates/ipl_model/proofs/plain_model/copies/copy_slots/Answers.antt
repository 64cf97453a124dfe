use Rattle.std.proofs.Common.{◌∙◌, arith}
use Rattle.std.proofs.lemmas.List.{length-set}
use Rattle.ipl_model.proofs.SlotLemmas.{copied_more, all_copied}
use Rattle.ipl_model.proofs.plain_model.copies.copy_slots.Goals as goal

pub loop-i-preserved : goal.loop-i-preserved
loop-i-preserved c =
    let before = c.loop-i.invariant in
    record {
      long = length-set c.loop-i.into c.loop-i.i c.in_ok-into.field-0 ∙ before.long;
      same = copied_more c.loop-i.into c.args.slots.now c.loop-i.i c.index-slots-i.result c.in_ok-into.field-0 before.long
          (omega (arith, c.loop-i-test.true)) c.index-slots-i.is c.in_ok-into.ensures before.same;
    }

pub returns : goal.returns
returns c = all_copied c.loop-i.into c.args.slots.now c.loop-i.i c.loop-i.invariant.long (omega (arith, c.loop-i-test.false)) c.loop-i.invariant.same
