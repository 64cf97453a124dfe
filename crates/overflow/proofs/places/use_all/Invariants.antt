use Rattle.std.proofs.Common.{◌≡◌, map, drop, take, length}
use Rattle.overflow.specs.Lists.{first_of, as_used}
use Rattle.overflow.proofs.places.use_all.Given as goal

-- those before are done, and the others are as they were
abbrev pub invariant-loop-place : goal.invariant-loop-place
invariant-loop-place l = record {
  long : length l.places ≡ length l.initial.places;
  done : map first_of (take l.place-index l.places)
      ≡ map as_used (map first_of (take l.place-index l.initial.places));
  others : drop l.place-index l.places ≡ drop l.place-index l.initial.places;
}
