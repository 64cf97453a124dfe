use Rattle.store_laws.proofs.LeadLemmas.{keepers_lead, memory_leads, keepers_then_lead, failed_keepers_lead, next_states_are_alike, answers_are_alike, restarts_lead}
use Rattle.store_laws.proofs.CommitLemmas.{names_out_suffice, numbers_lead, failed_numbers_lead}
use Rattle.store_laws.proofs.laws.leading_laws.Goals as goal

pub returns : goal.returns
returns c = record {
  keepers = keepers_lead;
  memory = memory_leads;
  joined = keepers_then_lead;
  failed = failed_keepers_lead;
  alike = next_states_are_alike;
  answers = answers_are_alike;
  restarts = restarts_lead;
  out = names_out_suffice;
  numbers = numbers_lead;
  failed_numbers = failed_numbers_lead;
}
