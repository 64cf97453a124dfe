use Rattle.std.proofs.Common.{◌≤◌, ◌+◌, length, map}
use Rattle.overflow.specs.Lists.{pair_of}
use Rattle.unit_log.specs.Looks.{IsListed}
use Rattle.unit_log.specs.Paged.{AddsAtMost}
use Rattle.unit_log.proofs.GatherLemmas.{AreRead, rest_of}
use Rattle.unit_log.proofs.reading.read_listed.Given as goal

abbrev pub invariant-loop-spot : goal.invariant-loop-spot
invariant-loop-spot g l = record {
  read : AreRead (IsListed (map pair_of l.spots)) l.owner.unit l.owner.generation
      (map pair_of l.spots) (rest_of l.spots l.spot-index)
      l.initial.scratch l.scratch (g.C.Chip.told l.fn.chip) (g.C.Chip.told l.chip);
  added : AddsAtMost l.spot-index (g.C.Chip.told l.fn.chip) (g.C.Chip.told l.chip);
  count : length l.scratch ≤ length l.initial.scratch + l.spot-index;
}
