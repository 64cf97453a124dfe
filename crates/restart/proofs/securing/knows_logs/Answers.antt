use Rattle.std.proofs.Common.{◌∙◌, length, sym, arith}
use Rattle.restart.proofs.SecuringLemmas.{known_within}
use Rattle.restart.proofs.securing.knows_logs.Goals as goal

pub returns-then-is_known : goal.returns-then-is_known
returns-then-is_known c =
    let it = c.args.directory.now in
    sym (known_within it (length it.current) c.loop-unit.unit (omega arith)
    (sym c.is_known.ensures ∙ c.if-is_known.true))
