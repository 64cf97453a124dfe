use Rattle.ipl_meaning.proofs.AgreeLemmas.{tidy_after_programs, tidy_after_moves, tidy_after_barriers, tidy_after_erases, tidy_after_worns}
use Rattle.ipl_meaning.proofs.CarriedLemmas.{tidy_is_carried, unused_is_carried}
use Rattle.ipl_meaning.proofs.laws.clean_laws.Goals as goal

pub returns : goal.returns
returns c = record {
  programs = tidy_after_programs;
  moves = tidy_after_moves;
  barriers = tidy_after_barriers;
  erases = tidy_after_erases;
  worns = tidy_after_worns;
  carried = tidy_is_carried;
  unused = unused_is_carried;
}
