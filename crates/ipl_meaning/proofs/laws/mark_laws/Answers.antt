use Rattle.ipl_meaning.proofs.MarkStoryLemmas.{idle_events_keep_marks, erases_keep_marks, worns_keep_marks}
use Rattle.ipl_meaning.proofs.MarkProgramLemmas.{asides_keep_marks, log_sectors_keep_marks, programs_keep_marks}
use Rattle.ipl_meaning.proofs.CloseLemmas.{closes_keep_marks, closes_mark_what_is_clean}
use Rattle.ipl_meaning.proofs.laws.mark_laws.Goals as goal

pub returns : goal.returns
returns c = record {
  idle_events = idle_events_keep_marks;
  erases = erases_keep_marks;
  worns = worns_keep_marks;
  asides = asides_keep_marks;
  log_sectors = log_sectors_keep_marks;
  programs = programs_keep_marks;
  closes = closes_keep_marks;
  marks_clean = closes_mark_what_is_clean;
}
