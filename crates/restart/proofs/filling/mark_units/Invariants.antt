use Rattle.std.proofs.Common.{◌≡◌, length}
use Rattle.ipl_meaning.specs.First.{at}
use Rattle.txn_status.specs.Marks.{counting}
use Rattle.restart.specs.Counted.{SameHomes, AreUnitsMarked}
use Rattle.restart.proofs.CountedLogLemmas.{AreLater}
use Rattle.restart.proofs.filling.mark_units.Given as goal

abbrev pub invariant-loop-unit : goal.invariant-loop-unit
invariant-loop-unit l = record {
  marked : AreUnitsMarked (counting l.mark) (at l.current) l.unit l.directory;
  later : AreLater l.unit (length l.current) l.directory;
  homes : SameHomes l.fn.directory l.directory;
  masks : l.directory.masks ≡ l.fn.directory.masks;
}
