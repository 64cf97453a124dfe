use Rattle.std.proofs.Common.{length}
use Rattle.ipl_meaning.specs.First.{at}
use Rattle.restart.proofs.HeaderLemmas.{units_there}
use Rattle.restart.proofs.headers.check_headers.Goals as goal

pub returns-clause-there : goal.returns-clause-there
returns-clause-there c = units_there (at c.args.current.now) (length c.args.current.now) c.in_ok-check_units.ensures.fault
