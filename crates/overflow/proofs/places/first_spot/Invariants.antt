use Rattle.std.proofs.Common.{◌≡◌, map, drop, None}
use Rattle.std.specs.Option.{option_map}
use Rattle.overflow.specs.Lists.{pair_of, first_of, first_spot}
use Rattle.overflow.proofs.places.first_spot.Given as goal

-- with the best so far, the rest has the first spot of all
abbrev pub invariant-loop-place : goal.invariant-loop-place
invariant-loop-place l =
    first_spot None (map first_of l.places)
    ≡ first_spot (option_map pair_of l.best) (map first_of (drop l.place-index l.places))
