use Rattle.std.proofs.Common.{◌≡◌, ◌*◌, ◌/◌, ◌-◌, length, drop}
use Rattle.unit_layout.specs.Retired.{rise_within, words_in, words_within}
use Rattle.unit_layout.proofs.status.rise_within.Given as goal

-- the places that are left decide
abbrev pub invariant-loop-i : goal.invariant-loop-i
invariant-loop-i l =
    rise_within l.fn.places 0 (words_in l.fn.bytes)
    ≡ rise_within l.fn.places l.least (words_within (length l.fn.bytes / 4 - l.i) (drop (4 * l.i) l.fn.bytes))
