use Rattle.store_laws.proofs.ChipFitLemmas.{log_sectors_fit, merges_fit, other_steps_fit, renewals_fit}
use Rattle.store_laws.proofs.BatchFitLemmas.{batches_fit}
use Rattle.store_laws.proofs.pending.chip_laws.Goals as goal

pub returns : goal.returns
returns c = record {
  log_sectors = log_sectors_fit;
  merges = merges_fit;
  others = other_steps_fit;
  renewals = renewals_fit;
  batches = batches_fit;
}
