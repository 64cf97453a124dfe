use Rattle.std.proofs.Common.{ℕ, List, Option, subst, sym}
use Rattle.ipl_cli.specs.Lists.{SaysName}
use Rattle.ipl_cli.proofs.LineLemmas.{said_name}
use Rattle.ipl_cli.proofs.listing.say_name.Goals as goal

pub returns-in-Some-clause-says : goal.returns-in-Some-clause-says
returns-in-Some-clause-says g c =
    let old = g.D.Chip.told c.args.desk.now in
    let new = g.D.Chip.told c.say_line.new.desk in
    subst (λ (value : Option (List ℕ)). SaysName c.args.name value c.say_line.result old new) (sym c.in-Some.is)
    (said_name c.args.name c.in-Some.value c.say_line.result old new
    c.say_line.ensures.said c.say_line.ensures.unsaid c.say_line.ensures.counts)
