use Rattle.std.proofs.Common.{◌≡◌, ◌≤◌, ◌+◌, length, drop}
use Rattle.number_set.specs.Numbers.{with_numbers}
use Rattle.number_set.proofs.number_set.NumberSet.add_all.Given as goal

-- the rest are still to be added
abbrev pub invariant-loop-number : goal.invariant-loop-number
invariant-loop-number l = record {
  rest : with_numbers l.numbers l.initial.self.list ≡ with_numbers (drop l.number-index l.numbers) l.self.list;
  few : length l.self.list ≤ length l.initial.self.list + l.number-index;
  most : l.self.most ≡ l.initial.self.most;
}
