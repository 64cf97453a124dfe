use Rattle.std.proofs.Common.{drop}
use Rattle.selective_merge.specs.Packs.{among}
use Rattle.selective_merge.specs.Packing.{IsPacking}
use Rattle.selective_merge.proofs.carry.pack_carried.Given as goal

abbrev pub invariant-loop-i : goal.invariant-loop-i
invariant-loop-i l = IsPacking (among l.active) l.log (drop l.i l.log) l.packs.closed.items
    l.packs.last
