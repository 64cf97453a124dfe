use Rattle.std.proofs.Common.{sym, ◌∙◌, ap}
use Rattle.ipl_format.specs.Sector.{sector_in}
use Rattle.ipl_format.proofs.SectorLemmas.{blank_says_nothing}
use Rattle.unit_io.proofs.reading.found_in.Goals as goal

pub returns-in-Sector-clause-erased : goal.returns-in-Sector-clause-erased
returns-in-Sector-clause-erased c = (
  λ same. absurd (cc same),
  λ is. absurd (let no = sym (ap sector_in is ∙ blank_says_nothing) ∙ c.in-Sector.ensures.sector in cc no),
)
