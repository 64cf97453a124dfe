use Rattle.std.proofs.Common.{◌≡◌, ◌+◌, drop}
use Rattle.unit_log.specs.Kept.{rank_of}
use Rattle.unit_log.proofs.scratch.rank_of.Given as goal

abbrev pub invariant-loop-sector : goal.invariant-loop-sector
invariant-loop-sector l =
    record {
      so_far : l.rank ≡ l.sector-index;
      rest : rank_of l.serial
          l.sectors ≡ l.sector-index + rank_of l.serial (drop l.sector-index l.sectors);
    }
