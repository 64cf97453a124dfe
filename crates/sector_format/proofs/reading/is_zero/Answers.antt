use Rattle.std.proofs.Common.{ap, ◌∙◌}
use Rattle.ipl_format.specs.Sector.{is_zero}
use Rattle.sector_format.proofs.JoinLemmas.{joined-zero}
use Rattle.sector_format.proofs.reading.is_zero.Goals as goal

pub returns : goal.returns
returns c = ap is_zero c.joined.ensures ∙ joined-zero c.args.bytes.now
