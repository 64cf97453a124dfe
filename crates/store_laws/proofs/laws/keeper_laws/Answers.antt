use Rattle.store_laws.proofs.KeeperLemmas.{nothing_keeps_states, keepers_are_joined, failed_keepers_keep, look_ups_are_alike, reads_anywhere_keep_states, loads_anywhere_keep_states, evictions_keep_states, log_sectors_keep_states, table_calls_keep_states}
use Rattle.store_laws.proofs.laws.keeper_laws.Goals as goal

pub returns : goal.returns
returns c = record {
  none = nothing_keeps_states;
  joined = keepers_are_joined;
  failed = failed_keepers_keep;
  answers = look_ups_are_alike;
  reads = reads_anywhere_keep_states;
  loads = loads_anywhere_keep_states;
  evictions = evictions_keep_states;
  log_sectors = log_sectors_keep_states;
  tables = table_calls_keep_states;
}
