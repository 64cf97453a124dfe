use Rattle.std.proofs.Common.{◌∙◌, ap}
use Rattle.chip_trait.specs.Told.{Beside}
use Rattle.script_run.specs.View.{position_line}
use Rattle.script_run.proofs.SayLemmas.{says_position, stops_at}
use Rattle.script_run.proofs.viewing.say_positions.Goals as goal

pub returns-in-Err-clause-says : goal.returns-in-Err-clause-says
returns-in-Err-clause-says g c =
    let told = g.D.Chip.told in
    stops_at position_line c.args.positions.now c.loop-position.position-index c.loop-position-test.true
    (told c.args.desk.now) (told c.loop-position.desk) (told c.say_position.new.desk) c.loop-position.invariant.says
    c.in-Err.ensures.counts c.in-Err.ensures.says

pub loop-position-preserved : goal.loop-position-preserved
loop-position-preserved g c =
    let told = g.D.Chip.told in
    record {
      says = says_position position_line c.args.positions.now c.loop-position.position-index
          c.loop-position-test.true (told c.args.desk.now) (told c.loop-position.desk)
          (told c.say_position.new.desk) c.loop-position.invariant.says c.in-Ok.ensures.counts c.in-Ok.ensures.says;
      left = ap (λ (d : Beside). d.left) c.in-Ok.ensures.counts.beside ∙ c.loop-position.invariant.left;
    }
