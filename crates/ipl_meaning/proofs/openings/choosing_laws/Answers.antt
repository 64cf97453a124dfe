use Rattle.ipl_meaning.proofs.HeaderLemmas.{currents_are_chosen, chosen_are_current, none_is_current, statuses_are_chosen, chosen_are_status, none_is_status}
use Rattle.ipl_meaning.proofs.openings.choosing_laws.Goals as goal

pub returns : goal.returns
returns c = record {
  current = currents_are_chosen;
  only = chosen_are_current;
  none = none_is_current;
  status = statuses_are_chosen;
  only_status = chosen_are_status;
  no_status = none_is_status;
}
