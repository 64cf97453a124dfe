use Rattle.std.proofs.Common.{◌≡◌, ◌≤◌, map, take, length}
use Rattle.std.specs.List.{filter}
use Rattle.overflow.specs.Lists.{first_of}
use Rattle.overflow.specs.Parted.{spot_of, keeps}
use Rattle.overflow.proofs.places.keep_named.Given as goal

-- of those before, the named ones are kept
abbrev pub invariant-loop-place : goal.invariant-loop-place
invariant-loop-place l = record {
  named : map first_of l.kept.items
      ≡ filter (keeps (map spot_of l.entries)) (map first_of (take l.place-index l.place-items));
  few : length l.kept.items ≤ l.place-index;
}
