use Rattle.std.proofs.Common.{◌*◌, ℕ, ap, arith}
use Rattle.record_reader.proofs.reader.Reader.names.Goals as goal

pub overflow_mul-result : goal.overflow_mul-result
overflow_mul-result c = omega (arith, c.facts.ensures.places, c.facts.ensures.units, c.units.ensures)

pub returns : goal.returns
returns c = ap (λ (n : ℕ). n * 960) c.units.ensures
