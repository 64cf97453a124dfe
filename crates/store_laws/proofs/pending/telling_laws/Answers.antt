use Rattle.store_laws.proofs.FitLemmas.{resting_pages_say, resting_pages_keep, fitting_frames_tell, fitting_contents_tell}
use Rattle.store_laws.proofs.pending.telling_laws.Goals as goal

pub returns : goal.returns
returns c = record {
  says = resting_pages_say;
  keeps = resting_pages_keep;
  tells = fitting_frames_tell;
  contents_tell = fitting_contents_tell;
}
