use Rattle.std.proofs.Common.{◌≤◌, length}
use Rattle.std.specs.List.{All}
use Rattle.ipl_base.specs.declared.limits.TheConstants.{VERSION}
use Rattle.ipl_format.specs.Record.{IsRecord}
use Rattle.log_records.specs.Reading.{records_of}
use Rattle.number_set.specs.Numbers.{among}
use Rattle.page_rebuild.proofs.CountLemmas.{AreLeft}
use Rattle.page_rebuild.proofs.counting.count_payload.Given as goal

abbrev pub invariant-loop-logged : goal.invariant-loop-logged
invariant-loop-logged l = record {
  values : AreLeft (among l.status.numbers) l.page
      (records_of l.logged-iterator.version l.logged-iterator.bytes)
      (records_of l.payload.version l.payload.bytes) l.values l.fn.values;
  changes : AreLeft (among l.active) l.page
      (records_of l.logged-iterator.version l.logged-iterator.bytes)
      (records_of l.payload.version l.payload.bytes) l.changes l.fn.changes;
  valid : All (IsRecord VERSION) (records_of l.logged-iterator.version l.logged-iterator.bytes);
  few : length (records_of l.payload.version l.payload.bytes) ≤ 40;
}
