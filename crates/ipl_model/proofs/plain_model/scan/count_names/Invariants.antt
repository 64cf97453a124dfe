use Rattle.std.proofs.Common.{◌≡◌, ◌≤◌, length, take}
use Rattle.ipl_model.specs.State.{written_names}
use Rattle.ipl_model.specs.Plain.{newest_first}
use Rattle.ipl_model.proofs.plain_model.scan.count_names.Given as goal

abbrev pub invariant-loop-i : goal.invariant-loop-i
invariant-loop-i l = record { names : l.count ≡ length (written_names (newest_first (take l.i l.log))); few : l.count ≤ l.i }
