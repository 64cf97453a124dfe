use Rattle.std.proofs.Common.{drop}
use Rattle.number_set.specs.Numbers.{among}
use Rattle.unit_log.specs.Kept.{records_kept}
use Rattle.page_ops.specs.Rebuilt.{IsMaking}
use Rattle.page_rebuild.proofs.PartLemmas.{GoesOn}
use Rattle.page_rebuild.proofs.making.pass_sectors.Given as goal

abbrev pub invariant-loop-sector : goal.invariant-loop-sector
invariant-loop-sector l = GoesOn (IsMaking (among l.status.numbers) l.page) (records_kept l.sectors)
    (records_kept (drop l.sector-index l.sectors)) l.fn.coming l.fn.map l.coming l.map
