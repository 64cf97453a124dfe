use Rattle.page_frames.proofs.KeepLemmas.{writings_keep_states}
use Rattle.page_frames.proofs.record_laws.writing_laws.Goals as goal

pub returns : goal.returns
returns c = writings_keep_states
