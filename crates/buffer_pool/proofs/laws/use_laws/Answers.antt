use Rattle.buffer_pool.proofs.UseLemmas.{changes_keep_uses, loans_keep_uses, brings_count_no_other, changes_count_no_other, evictions_count_no_use, kept_uses_are_last, victims_are_used_first}
use Rattle.buffer_pool.proofs.laws.use_laws.Goals as goal

pub returns : goal.returns
returns c = record {
  changes = changes_keep_uses;
  loans = loans_keep_uses;
  brings = brings_count_no_other;
  touches = changes_count_no_other;
  evicts = evictions_count_no_use;
  last = kept_uses_are_last;
  victims = victims_are_used_first;
}
