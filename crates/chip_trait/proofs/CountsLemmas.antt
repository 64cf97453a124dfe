-- The places and the counts of a chip, over one call after another.
use Rattle.std.proofs.Common.{◌∙◌, refl, arith}
use Rattle.chip_trait.specs.Told.{Told, Counts}

-- with no call
pub counts_none : (t : Told) → Counts t t
counts_none t = record { places = refl; reads = omega arith; writes = omega arith; worn = omega arith; beside = refl }

-- after two calls
pub counts_then : (old mid new : Told) → Counts old mid → Counts mid new → Counts old new
counts_then old mid new first second = record {
  places = second.places ∙ first.places;
  reads = omega (arith, first.reads, second.reads);
  writes = omega (arith, first.writes, second.writes);
  worn = omega (arith, first.worn, second.worn);
  beside = second.beside ∙ first.beside;
}
