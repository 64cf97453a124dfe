use Rattle.buffer_pool.proofs.HoldingLemmas.{nothing_keeps, both_keep, as_many, rest_stays, pins_given_back, brings_keep, evictions_keep, changes_keep, loans_keep}
use Rattle.buffer_pool.proofs.laws.holding_laws.Goals as goal

pub returns : goal.returns
returns c = record {
  nothing = nothing_keeps;
  both = both_keep;
  as_many = as_many;
  rest = rest_stays;
  pins = pins_given_back;
  brings = brings_keep;
  evicts = evictions_keep;
  changes = changes_keep;
  loans = loans_keep;
}
