use Rattle.std.proofs.Common.{take}
use Rattle.selective_merge.specs.Packs.{among}
use Rattle.page_ops.specs.Rebuilt.{AreComing}
use Rattle.selective_merge.proofs.pages.count_coming.Given as goal

abbrev pub invariant-loop-i : goal.invariant-loop-i
invariant-loop-i l = record {
  counted : AreComing (among l.status.numbers) l.page (take l.i l.log) l.coming;
}
