use Rattle.ipl_keys.proofs.StateLemmas.{keys_are_one, sessions_see_keys, resting_states_have_keys, begins_keep_keys, writes_keep_keys, commits_keep_keys, batches_keep_keys, aborts_keep_keys}
use Rattle.ipl_keys.proofs.ServeLemmas.{kept_keys_last}
use Rattle.ipl_keys.proofs.laws.key_laws.Goals as goal

pub returns : goal.returns
returns c = record {
  one = keys_are_one;
  seen = sessions_see_keys;
  at_rest = resting_states_have_keys;
  begins = begins_keep_keys;
  writes = writes_keep_keys;
  commits = commits_keep_keys;
  batches = batches_keep_keys;
  aborts = aborts_keep_keys;
  kept = kept_keys_last;
}
