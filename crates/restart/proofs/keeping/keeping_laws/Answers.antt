use Rattle.restart.proofs.KeepsLemmas.{none_are_kept, units_join, joined_numbers_join, merged_units_add_nothing, kept_numbers_keep, kept_numbers_are_exact}
use Rattle.restart.proofs.keeping.keeping_laws.Goals as goal

pub returns : goal.returns
returns c = record {
  first = none_are_kept;
  joins = units_join;
  numbers = joined_numbers_join;
  merges = merged_units_add_nothing;
  keeps = kept_numbers_keep;
  exact = kept_numbers_are_exact;
}
