use Rattle.std.proofs.Common.{length}
use Rattle.log_records.proofs.ListLemmas.{Begins}
use Rattle.log_records.proofs.reading.is_list.Given as goal

abbrev pub invariant-loop-rest : goal.invariant-loop-rest
invariant-loop-rest l = Begins l.version l.bytes l.rest

abbrev pub decreases-loop-rest : goal.decreases-loop-rest
decreases-loop-rest l = length l.rest
