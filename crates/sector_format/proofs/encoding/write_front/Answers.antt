use Rattle.std.proofs.Common.{arith}
use Rattle.sector_format.proofs.encoding.write_front.Goals as goal

pub returns-clause-fits : goal.returns-clause-fits
returns-clause-fits c = record { unit = omega arith; generation = omega arith; serial = omega arith }
