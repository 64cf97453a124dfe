use Rattle.lab.specs.Suits.{SuitsDesk}
use Rattle.lab.proofs.keys.keys.Given as goal

abbrev pub invariant-loop-line : goal.invariant-loop-line
invariant-loop-line l = record { suits : SuitsDesk l.desk l.keys.store }
