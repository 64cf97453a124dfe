use Rattle.ipl_store.specs.Calls.{IsSound}
use Rattle.keys_example.proofs.serving.serve.Given as goal

abbrev pub invariant-loop-line : goal.invariant-loop-line
invariant-loop-line g l = record { sound : IsSound (g.C.Chip.told l.chip).places l.keys.store }
