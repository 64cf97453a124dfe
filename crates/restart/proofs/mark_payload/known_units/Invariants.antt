use Rattle.std.proofs.Common.{◌≡◌, ◌+◌, ◌&&◌, ℕ, nat_lt, take}
use Rattle.ipl_format.specs.Mark.{SpellsMark, bits_length, has_unit}
use Rattle.unit_directory.specs.Directory.{is_known}
use Rattle.restart.proofs.mark_payload.known_units.Given as goal

-- it has the known ones of the units that were seen
abbrev pub invariant-loop-unit : goal.invariant-loop-unit
invariant-loop-unit l = record {
  spelled : SpellsMark l.units (take (4 + bits_length l.units) l.payload);
  known : (u : ℕ) → has_unit (take (4 + bits_length l.units) l.payload) u ≡ (nat_lt u l.unit && is_known l.directory u);
}
