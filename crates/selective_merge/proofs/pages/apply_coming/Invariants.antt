use Rattle.std.proofs.Common.{drop}
use Rattle.ipl_format.specs.Page.{value_in}
use Rattle.selective_merge.specs.Packs.{among}
use Rattle.page_ops.specs.Rebuilt.{IsMaking}
use Rattle.selective_merge.proofs.pages.apply_coming.Given as goal

abbrev pub invariant-loop-i : goal.invariant-loop-i
invariant-loop-i l = record {
  making : IsMaking (among l.status.numbers) l.page l.log (drop l.i l.log)
      (value_in l.fn.slots) l.coming l.slots;
}
