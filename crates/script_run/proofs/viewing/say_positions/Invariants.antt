use Rattle.std.proofs.Common.{◌≡◌, true, take, map}
use Rattle.script_run.specs.View.{SaysOnly, position_line}
use Rattle.script_run.proofs.viewing.say_positions.Given as goal

-- the lines so far were said
abbrev pub invariant-loop-position : goal.invariant-loop-position
invariant-loop-position g l =
    let told = g.D.Chip.told in
    record {
      says : SaysOnly (map position_line (take l.position-index l.positions)) (told l.fn.desk) (told l.desk) true;
      left : (told l.desk).beside.left ≡ (told l.fn.desk).beside.left;
    }
