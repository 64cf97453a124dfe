use Rattle.store_laws.proofs.PutLemmas.{puts_answer, full_puts_are_work, written_puts_are_work, failed_puts_leave_the_map}
use Rattle.store_laws.proofs.RefusalLemmas.{refused_in_two_parts, slots_refuse, refusals_answer, accepted_are_done, refusals_lead}
use Rattle.store_laws.proofs.laws.refusal_laws.Goals as goal

pub returns : goal.returns
returns c = record {
  parts = refused_in_two_parts;
  refuse = slots_refuse;
  answer = refusals_answer;
  done = accepted_are_done;
  refused_lead = refusals_lead;
  puts = puts_answer;
  full_puts = full_puts_are_work;
  written_puts = written_puts_are_work;
  failed_puts = failed_puts_leave_the_map;
}
