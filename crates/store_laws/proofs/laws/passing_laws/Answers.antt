use Rattle.store_laws.proofs.RefusalLemmas.{passed_begins, passed_gets, passed_shares, passed_puts, passed_dels, passed_ends, passed_batches, passed_lists, passed_merges}
use Rattle.store_laws.proofs.laws.passing_laws.Goals as goal

pub returns : goal.returns
returns c = record {
  begins = passed_begins;
  gets = passed_gets;
  shares = passed_shares;
  puts = passed_puts;
  dels = passed_dels;
  ends = passed_ends;
  batches = passed_batches;
  lists = passed_lists;
  merges = passed_merges;
}
