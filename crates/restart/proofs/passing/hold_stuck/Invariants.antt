use Rattle.std.proofs.Common.{◌≡◌, ℕ, Ok}
use Rattle.chip_trait.specs.Story.{Contents}
use Rattle.ipl_meaning.specs.Layout.{Layout}
use Rattle.ipl_meaning.specs.Tables.{Tables}
use Rattle.number_set.specs.Flags.{flagged}
use Rattle.selective_merge.specs.Moving.{tables_of}
use Rattle.restart.specs.Joins.{kept_of, IsExact}
use Rattle.restart.specs.Passing.{HasHeld, Walks}
use Rattle.restart.proofs.passing.hold_stuck.Given as goal

abbrev pub invariant-loop-unit : goal.invariant-loop-unit
invariant-loop-unit g l = record {
  holds : (places : ℕ) (x : Contents) (it : Layout) (t : Tables)
      → HasHeld 0 places x it t l.turns (flagged l.fn.kept l.fn.parts.status.numbers) (g.C.Chip.told l.fn.chip) (tables_of l.fn.parts)
      → HasHeld l.unit places x it t l.turns (flagged l.kept l.parts.status.numbers) (g.C.Chip.told l.chip) (tables_of l.parts);
  walks : Walks {T = Unit {0}} l.turns l.turns (tables_of l.fn.parts) (tables_of l.parts) (Ok tt)
      (g.C.Chip.told l.fn.chip) (g.C.Chip.told l.chip);
  exact : IsExact (kept_of l.parts.status.numbers l.kept);
  room : l.kept.room ≡ l.fn.kept.room;
}
