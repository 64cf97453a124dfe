use Rattle.std.proofs.Common.{◌≡◌, ◌-◌}
use Rattle.std.specs.List.{find, range_with_len}
use Rattle.ipl_model.specs.Refusals.{is_twice}
use Rattle.ipl_model.proofs.numbers.least_twice.Given as goal

-- no number below this one stands twice
abbrev pub invariant-loop-s : goal.invariant-loop-s
invariant-loop-s l = find (is_twice l.numbers) (range_with_len 0 32) ≡ find (is_twice l.numbers) (range_with_len l.s (32 - l.s))
