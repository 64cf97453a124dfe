-- The head of what is written.
use Rattle.std.specs.Prelude.{ℕ}
use Rattle.ipl_base.specs.declared.limits.TheConstants.{VERSION}
use Rattle.sector_format.specs.declared.sector.Head.{Head}

-- it has the version of all that is written
abbrev pub written_head : ℕ → ℕ → ℕ → ℕ → Head
written_head kind unit generation serial = record {
  kind = kind;
  version = VERSION;
  unit = unit;
  generation = generation;
  serial = serial;
}
