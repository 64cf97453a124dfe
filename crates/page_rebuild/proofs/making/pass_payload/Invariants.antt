use Rattle.std.specs.List.{All}
use Rattle.ipl_base.specs.declared.limits.TheConstants.{VERSION}
use Rattle.ipl_format.specs.Record.{IsRecord}
use Rattle.log_records.specs.Reading.{records_of}
use Rattle.number_set.specs.Numbers.{among}
use Rattle.page_ops.specs.Rebuilt.{IsMaking}
use Rattle.page_rebuild.proofs.PartLemmas.{GoesOn}
use Rattle.page_rebuild.proofs.making.pass_payload.Given as goal

abbrev pub invariant-loop-logged : goal.invariant-loop-logged
invariant-loop-logged l = record {
  left : GoesOn (IsMaking (among l.status.numbers) l.page)
      (records_of l.payload.version l.payload.bytes)
      (records_of l.logged-iterator.version l.logged-iterator.bytes) l.fn.coming l.fn.map l.coming
      l.map;
  valid : All (IsRecord VERSION) (records_of l.logged-iterator.version l.logged-iterator.bytes);
}
