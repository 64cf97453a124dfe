use Rattle.std.proofs.Common.{◌≡◌, take}
use Rattle.overflow.specs.Parted.{total}
use Rattle.overflow.proofs.entries.first_of.Given as goal

-- those so far are counted
abbrev pub invariant-loop-unit : goal.invariant-loop-unit
invariant-loop-unit l = l.first ≡ total (take l.unit l.counts)
