use Rattle.std.proofs.Common.{◌≡◌, ◌-◌, ℕ, Some, Ok, length}
use Rattle.chip_trait.specs.Story.{Contents}
use Rattle.ipl_meaning.specs.Chart.{chart_of}
use Rattle.ipl_meaning.specs.Layout.{Layout}
use Rattle.ipl_meaning.specs.Mirrors.{Mirrors}
use Rattle.selective_merge.specs.Moving.{tables_of}
use Rattle.restart.specs.Passing.{AreLeft, Begins, Walks}
use Rattle.restart.specs.Turns.{ended_below}
use Rattle.restart.proofs.passing.find_numbers.Given as goal

abbrev pub decreases-passes : goal.decreases-passes
decreases-passes g l =
    length l.parts.directory.current - ended_below l.turns (length l.parts.directory.current)

abbrev pub invariant-passes : goal.invariant-passes
invariant-passes g l = record {
  begins : (places : ℕ) (x : Contents) (it : Layout) → (g.C.Chip.told l.fn.chip).places ≡ places
      → (g.C.Chip.told l.fn.chip).contents ≡ Some x
      → Mirrors places (chart_of x) it (tables_of l.fn.parts)
      → Begins places x it (tables_of l.fn.parts) l.turns (g.C.Chip.told l.chip) (tables_of l.parts);
  walks : Walks {T = Unit {0}} l.initial.turns l.turns (tables_of l.fn.parts) (tables_of l.parts) (Ok tt)
      (g.C.Chip.told l.fn.chip) (g.C.Chip.told l.chip);
  left : AreLeft l.parts.counter l.parts.directory l.turns;
  room : l.kept.room ≡ l.fn.kept.room;
}
