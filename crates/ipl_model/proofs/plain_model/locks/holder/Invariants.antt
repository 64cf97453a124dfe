use Rattle.std.proofs.Common.{◌≡◌, ◌==◌, ◌&&◌, not, map, drop}
use Rattle.std.specs.Prelude.{find}
use Rattle.ipl_model.specs.Slots.{open_from}
use Rattle.ipl_model.specs.Plain.{slot_of, keeps_from}
use Rattle.ipl_model.proofs.plain_model.locks.holder.Given as goal

-- no session before this one keeps it
abbrev pub invariant-loop-i : goal.invariant-loop-i
invariant-loop-i l = find (λ e. not (e.0 == l.s) && keeps_from l.lock l.name e.1) (open_from 0 (map slot_of l.sessions)) ≡ find (λ e. not (e.0 == l.s) && keeps_from l.lock l.name e.1) (open_from l.i (drop l.i (map slot_of l.sessions)))
