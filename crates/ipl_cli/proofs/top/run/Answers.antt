use Rattle.std.proofs.Common.{map}
use Rattle.std.specs.String.{string_bytes}
use Rattle.command_line.specs.Choice.{requested}
use Rattle.store_trait.proofs.OnwardLemmas.{further_none}
use Rattle.ipl_cli.proofs.TopLemmas.{no_memory}
use Rattle.ipl_cli.proofs.LawfulLemmas.{nothing_as_asked}
use Rattle.ipl_cli.proofs.top.run.Goals as goal

pub returns-in_default-clause-leaves : goal.returns-in_default-clause-leaves
returns-in_default-clause-leaves g c = no_memory (requested (map string_bytes c.args.words.now))
    (g.D.Chip.told c.args.desk.now)

pub returns-in_default-clause-further : goal.returns-in_default-clause-further
returns-in_default-clause-further g c = further_none (g.D.Chip.told c.args.desk.now)

pub returns-in_default-clause-lawful : goal.returns-in_default-clause-lawful
returns-in_default-clause-lawful g c = nothing_as_asked (requested (map string_bytes c.args.words.now))
    (g.D.Chip.told c.args.desk.now)

pub returns-in-None-clause-lawful : goal.returns-in-None-clause-lawful
returns-in-None-clause-lawful g c = nothing_as_asked (requested (map string_bytes c.args.words.now))
    (g.D.Chip.told c.args.desk.now)
