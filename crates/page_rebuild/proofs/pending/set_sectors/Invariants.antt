use Rattle.std.proofs.Common.{drop}
use Rattle.number_set.specs.Numbers.{among}
use Rattle.unit_log.specs.Kept.{records_kept}
use Rattle.page_rebuild.specs.Pended.{IsSetting}
use Rattle.page_rebuild.proofs.PartLemmas.{GoesOn}
use Rattle.page_rebuild.proofs.pending.set_sectors.Given as goal

abbrev pub invariant-loop-sector : goal.invariant-loop-sector
invariant-loop-sector l = GoesOn (IsSetting (among l.active) l.page) (records_kept l.sectors)
    (records_kept (drop l.sector-index l.sectors)) l.fn.coming l.fn.frame l.coming l.frame
