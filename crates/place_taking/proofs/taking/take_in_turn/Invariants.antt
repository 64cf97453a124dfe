use Rattle.place_taking.proofs.TurnLemmas.{AreTried}
use Rattle.place_taking.proofs.taking.take_in_turn.Given as goal

-- so many are retired, and what is done then is all that is done
abbrev pub invariant-loop : goal.invariant-loop
invariant-loop g l =
    AreTried l.fn.directory l.directory (g.C.Chip.told l.fn.chip) (g.C.Chip.told l.chip) l.counter
    l.end
