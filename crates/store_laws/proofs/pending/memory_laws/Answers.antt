use Rattle.store_laws.proofs.MemoryFitLemmas.{begins_fit, shares_fit, writes_fit, loads_fit, evictions_fit, openings_fit}
use Rattle.store_laws.proofs.EndFitLemmas.{aborts_fit}
use Rattle.store_laws.proofs.ListedLemmas.{session_numbers_fit}
use Rattle.store_laws.proofs.pending.memory_laws.Goals as goal

pub returns : goal.returns
returns c = record {
  begins = begins_fit;
  shares = shares_fit;
  writes = writes_fit;
  aborts = aborts_fit;
  numbers = session_numbers_fit;
  loads = loads_fit;
  evictions = evictions_fit;
  openings = openings_fit;
}
