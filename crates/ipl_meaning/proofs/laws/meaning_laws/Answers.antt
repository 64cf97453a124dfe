use Rattle.ipl_meaning.proofs.OnceLemmas.{stands_once, laid_once}
use Rattle.ipl_meaning.proofs.StandsLemmas.{kept_pages_keep_the_map}
use Rattle.ipl_meaning.proofs.AllowedLemmas.{allowed_sectors_suffice}
use Rattle.ipl_meaning.proofs.laws.meaning_laws.Goals as goal

pub returns : goal.returns
returns c = record { once = stands_once; laid_once = laid_once; kept = kept_pages_keep_the_map; allowed = allowed_sectors_suffice }
