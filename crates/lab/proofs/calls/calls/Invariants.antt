use Rattle.lab.specs.Suits.{SuitsDesk}
use Rattle.lab.proofs.calls.calls.Given as goal

abbrev pub invariant-loop-line : goal.invariant-loop-line
invariant-loop-line l = record { suits : SuitsDesk l.desk l.store }
