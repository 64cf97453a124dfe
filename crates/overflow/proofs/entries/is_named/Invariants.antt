use Rattle.std.proofs.Common.{◌≡◌, map, drop}
use Rattle.overflow.specs.Lists.{names_place}
use Rattle.overflow.specs.Parted.{spot_of}
use Rattle.overflow.proofs.entries.is_named.Given as goal

-- one stands there where one of the rest does
abbrev pub invariant-loop-entry : goal.invariant-loop-entry
invariant-loop-entry l =
    names_place l.place (map spot_of l.entries)
    ≡ names_place l.place (map spot_of (drop l.entry-index l.entries))
