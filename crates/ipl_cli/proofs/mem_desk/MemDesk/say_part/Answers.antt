use Rattle.ipl_cli.proofs.SayLemmas.{fails_part}
use Rattle.ipl_cli.proofs.mem_desk.MemDesk.say_part.Goals as goal

pub returns-then-count-gt0-clause-err : goal.returns-then-count-gt0-clause-err
returns-then-count-gt0-clause-err c =
    let fails = fails_part c.args.piece.now c.min-count.result c.args.self.now.chip c.append_said.new.self c.append_said.result c.append_said.ensures.told c.append_said.ensures.unchanged in
    record { places = fails.places; settled = fails.settled; history = fails.history; contents = fails.contents }
