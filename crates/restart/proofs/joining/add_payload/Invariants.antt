use Rattle.log_records.specs.Reading.{records_of}
use Rattle.restart.proofs.JoinLemmas.{AreLeft}
use Rattle.restart.proofs.joining.add_payload.Given as goal

abbrev pub invariant-loop-logged : goal.invariant-loop-logged
invariant-loop-logged l = AreLeft l.status.numbers (records_of l.logged-iterator.version l.logged-iterator.bytes)
    (records_of l.payload.version l.payload.bytes) l.kept l.fn.kept
