use Rattle.std.proofs.Common.{◌≡◌, ◌≤◌, ◌+◌, length}
use Rattle.ipl_meaning.specs.Payloads.{numbers_within}
use Rattle.number_set.specs.Numbers.{with_list, with_numbers}
use Rattle.txn_status.proofs.payloads.add_numbers.Given as goal

abbrev pub invariant-loop-i : goal.invariant-loop-i
invariant-loop-i l = record {
  numbers : l.numbers
      ≡ with_list l.fn.numbers (with_numbers (numbers_within l.i l.payload) l.fn.numbers.list);
  few : length l.numbers.list ≤ length l.fn.numbers.list + l.i;
  most : l.numbers.most ≡ l.fn.numbers.most;
}
