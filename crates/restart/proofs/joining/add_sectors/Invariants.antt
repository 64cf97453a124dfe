use Rattle.std.proofs.Common.{drop}
use Rattle.unit_log.specs.Kept.{records_kept}
use Rattle.restart.proofs.JoinLemmas.{AreLeft}
use Rattle.restart.proofs.joining.add_sectors.Given as goal

abbrev pub invariant-loop-sector : goal.invariant-loop-sector
invariant-loop-sector l = AreLeft l.status.numbers
    (records_kept (drop l.sector-index l.sectors)) (records_kept l.sectors) l.kept l.fn.kept
