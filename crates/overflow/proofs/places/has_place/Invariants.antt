use Rattle.std.proofs.Common.{◌≡◌, map, drop}
use Rattle.overflow.specs.Lists.{first_of, names_place}
use Rattle.overflow.proofs.places.has_place.Given as goal

-- it is one of them where it is one of the rest
abbrev pub invariant-loop-it : goal.invariant-loop-it
invariant-loop-it l =
    names_place l.place (map first_of l.places)
    ≡ names_place l.place (map first_of (drop l.it-index l.places))
