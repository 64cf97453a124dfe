use Rattle.std.proofs.lemmas.Bool.{ne_eqb}
use Rattle.script_run.proofs.GatherLemmas.{gathers_kept}
use Rattle.script_run.proofs.gathering.take_byte.Goals as goal

pub returns : goal.returns
returns c =
    gathers_kept c.args.byte c.args.commands.now.items c.args.line.now c.push.new.self
    (ne_eqb c.args.byte 10 c.if-byte-eq10.false) c.push.ensures
