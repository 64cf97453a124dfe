use Rattle.std.proofs.Common.{refl, arith}
use Rattle.ipl_format.specs.Page.{value_in}
use Rattle.selective_merge.specs.Packs.{among}
use Rattle.page_ops.proofs.RebuildLemmas.{making_first}
use Rattle.selective_merge.proofs.PageLemmas.{made_all}
use Rattle.selective_merge.proofs.pages.apply_coming.Goals as goal

pub loop-i-init : goal.loop-i-init
loop-i-init c = record {
  making = making_first (among c.args.status.now.numbers) c.args.page c.args.log.now
      (value_in c.args.slots.now) c.args.coming c.args.slots.now _
      c.requires.coming (λ slot low. refl) c.clear.ensures.cleared;
}

pub returns-clause-rebased : goal.returns-clause-rebased
returns-clause-rebased c =
    made_all (among c.args.status.now.numbers) c.args.page c.args.log.now
    c.loop-i.i _ c.loop-i.coming c.loop-i.slots
    (omega arith) c.loop-i.invariant.making
