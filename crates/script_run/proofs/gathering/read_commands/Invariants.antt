use Rattle.std.proofs.Common.{◌≡◌, ◌≤◌, ◌-◌, List, ℕ, Some}
use Rattle.chip_trait.specs.Told.{Grew}
use Rattle.script_run.specs.Goes.{HasRead}
use Rattle.script_run.specs.View.{ReadsScript, IsReading}
use Rattle.script_run.proofs.gathering.read_commands.Given as goal

-- the commands so far, and those still to come
abbrev pub invariant-loop-total : goal.invariant-loop-total
invariant-loop-total g l =
    let told = g.D.Chip.told in
    record {
      reads : ReadsScript (told l.fn.desk) (told l.desk);
      goes : (script : List ℕ) → (told l.fn.desk).beside.left ≡ Some script
          → IsReading script l.commands.items l.line (told l.desk);
      bytes : Grew (told l.fn.desk).beside.script_bytes l.total (told l.desk).beside.script_bytes;
      read : HasRead l.total (told l.fn.desk) (told l.desk);
      few : l.total ≤ 4294967295;
    }

abbrev pub decreases-loop-total : goal.decreases-loop-total
decreases-loop-total g l = 4294967295 - l.total
