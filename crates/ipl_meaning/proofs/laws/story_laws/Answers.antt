use Rattle.ipl_meaning.proofs.StoryLemmas.{barriers_keep_either, reads_keep, says_keep, worns_keep, erases_keep, log_sectors_keep, asides_keep, programs_lead, one_is_either, either_is_kept}
use Rattle.ipl_meaning.proofs.laws.story_laws.Goals as goal

pub returns : goal.returns
returns c = record {
  barriers = barriers_keep_either;
  reads = reads_keep;
  says = says_keep;
  worns = worns_keep;
  erases = erases_keep;
  log_sectors = log_sectors_keep;
  asides = asides_keep;
  leads = programs_lead;
  one = one_is_either;
  either = either_is_kept;
}
