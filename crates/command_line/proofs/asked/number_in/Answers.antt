use Rattle.command_line.proofs.OptionLemmas.{number_let, number_refused}
use Rattle.command_line.proofs.asked.number_in.Goals as goal

pub returns-then-number-high : goal.returns-then-number-high
returns-then-number-high c =
    let read = c.in-Ok.ensures.value.0 in
    number_let c.args.low c.args.high c.in-Ok.number c.args.text.now read.0 read.1 c.if-low-number.true c.if-number-high.true

pub returns-in-Err : goal.returns-in-Err
returns-in-Err c = number_refused c.args.low c.args.high c.args.text.now c.in-Err.ensures.value.0 c.ranges.high.fits
