use Rattle.ipl_meaning.proofs.CounterLemmas.{new_generations_wake_nothing, new_serials_are_greatest, new_numbers_wait, new_serials_pass_the_status, log_sectors_keep_the_counter, commit_sectors_keep_the_counter, headers_keep_the_counter, bare_places_keep_the_counter}
use Rattle.ipl_meaning.proofs.laws.counter_laws.Goals as goal

pub returns : goal.returns
returns c = record {
  wakes_nothing = new_generations_wake_nothing;
  greatest = new_serials_are_greatest;
  waits = new_numbers_wait;
  passes = new_serials_pass_the_status;
  log_sectors = log_sectors_keep_the_counter;
  commit_sectors = commit_sectors_keep_the_counter;
  headers = headers_keep_the_counter;
  bare_places = bare_places_keep_the_counter;
}
