use Rattle.std.proofs.Common.{◌<◌, length, refl, ◌∙◌, arith}
use Rattle.std.proofs.Math.ListN.{length-set}
use Rattle.script_run.proofs.WordLemmas.{bytes_more}
use Rattle.script_run.proofs.trial_commands.bytes.Goals as goal

pub loop-i-preserved : goal.loop-i-preserved
loop-i-preserved c =
    let was = c.loop-i.invariant in
    let lt : c.loop-i.i < length c.loop-i.bytes = omega (arith, was.0) in (
      length-set c.loop-i.bytes c.loop-i.i _ ∙ was.0,
      bytes_more c.args.word c.loop-i.bytes c.loop-i.i _ lt refl was.1,
    )
