use Rattle.unit_io.proofs.MapLemmas.{nothing_keeps, reads_keep, reads_of_place_keep_tables, calls_keep, failures_keep, writes_keep}
use Rattle.unit_io.proofs.steps.step_laws.Goals as goal

pub returns : goal.returns
returns c = record {
  none = nothing_keeps;
  reads = reads_keep;
  tables = reads_of_place_keep_tables;
  both = calls_keep;
  failed = failures_keep;
  written = writes_keep;
}
