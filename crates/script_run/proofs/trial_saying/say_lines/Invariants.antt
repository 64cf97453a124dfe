use Rattle.std.proofs.Common.{take}
use Rattle.store_trait.specs.Onward.{Onward}
use Rattle.script_run.specs.Trial.{HasSaid}
use Rattle.script_run.proofs.trial_saying.say_lines.Given as goal

-- the lines so far were said
abbrev pub invariant-loop-line : goal.invariant-loop-line
invariant-loop-line g l =
    let told = g.D.Chip.told in
    record {
      says : HasSaid (take l.line-index l.lines) (told l.fn.desk) (told l.desk);
      onward : Onward (told l.fn.desk) (told l.desk);
    }
