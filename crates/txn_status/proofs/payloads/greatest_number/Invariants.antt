use Rattle.std.proofs.Common.{◌≡◌}
use Rattle.ipl_meaning.specs.First.{greatest_of}
use Rattle.ipl_meaning.specs.Payloads.{numbers_within}
use Rattle.txn_status.proofs.payloads.greatest_number.Given as goal

abbrev pub invariant-loop-i : goal.invariant-loop-i
invariant-loop-i l = l.greatest ≡ greatest_of l.least (numbers_within l.i l.payload)
