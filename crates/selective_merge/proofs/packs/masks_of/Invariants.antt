use Rattle.std.proofs.Common.{◌≡◌, take}
use Rattle.selective_merge.specs.Packing.{masks_of_payloads}
use Rattle.selective_merge.proofs.packs.masks_of.Given as goal

-- the first ones have their masks
abbrev pub invariant-loop-i : goal.invariant-loop-i
invariant-loop-i l = record { done : l.masks ≡ masks_of_payloads 15 (take l.i l.payloads) }
