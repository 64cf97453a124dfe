use Rattle.std.proofs.Common.{ℕ, List, subst}
use Rattle.ipl_format.specs.Whole.{IsWhole}
use Rattle.unit_io.proofs.reading.read_found.Goals as goal

pub returns-clause-whole : goal.returns-clause-whole
returns-clause-whole g c = λ x told. subst (λ (bytes : List ℕ). IsWhole bytes) (c.in_ok-read.ensures.bytes x told) c.found_in.ensures.whole
