use Rattle.std.proofs.Common.{◌≡◌, ◌+◌, ◌*◌, ◌++◌, take}
use Rattle.std.specs.List.{flat_map}
use Rattle.ipl_format.specs.Numbers.{word}
use Rattle.unit_layout.proofs.status.write_places.Given as goal

-- the places so far stand behind the first nine bytes
abbrev pub invariant-loop-i : goal.invariant-loop-i
invariant-loop-i l =
    take (9 + 4 * l.i) l.out ≡ take 9 l.fn.out ++ flat_map word (take l.i l.fn.places)
