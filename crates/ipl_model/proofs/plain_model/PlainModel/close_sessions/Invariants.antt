use Rattle.std.proofs.Common.{◌≡◌, drop}
use Rattle.ipl_model.specs.Plain.{state_of, with_closed}
use Rattle.ipl_model.proofs.plain_model.PlainModel.close_sessions.Given as goal

abbrev pub invariant-loop-s : goal.invariant-loop-s
invariant-loop-s l = record {
  state : with_closed (state_of l.self) (drop l.s-index l.sessions) ≡ with_closed (state_of l.fn.self) l.sessions;
  units : l.self.units ≡ l.fn.self.units;
}
