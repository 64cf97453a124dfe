use Rattle.std.proofs.Common.{◌≡◌, ◌*◌, length, take}
use Rattle.txn_status.specs.Commits.{commit_bytes}
use Rattle.txn_status.proofs.commits.payload_of.Given as goal

abbrev pub invariant-loop-number : goal.invariant-loop-number
invariant-loop-number l = record {
  so_far : l.bytes.items ≡ commit_bytes (take l.number-index l.numbers);
  long : length l.bytes.items ≡ 8 * l.number-index;
}
