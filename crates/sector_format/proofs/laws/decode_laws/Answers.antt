use Rattle.sector_format.proofs.DecodeLemmas.{reads_back}
use Rattle.sector_format.proofs.laws.decode_laws.Goals as goal

pub returns : goal.returns
returns c = reads_back
