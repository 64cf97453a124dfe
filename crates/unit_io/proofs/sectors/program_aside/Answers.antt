use Rattle.unit_io.proofs.SectorLemmas.{aside_leads}
use Rattle.unit_io.proofs.PlainLemmas.{plain_did}
use Rattle.unit_io.proofs.CostLemmas.{spends_programmed}
use Rattle.unit_io.proofs.SparesLemmas.{spares_programmed}
use Rattle.unit_io.proofs.TidyLemmas.{tidy_programmed}
use Rattle.std.specs.Prelude.{is_ok}
use Rattle.unit_io.proofs.UnreadLemmas.{unread_programmed}
use Rattle.unit_io.proofs.sectors.program_aside.Goals as goal

pub returns-clause-aside : goal.returns-clause-aside
returns-clause-aside g c = λ said says m h steady rests bare other fresh.
    aside_leads c.args.spot.place c.args.spot.sector c.args.bytes.now said says m h _ _ _ steady c.program.ensures.did rests fresh bare other

pub returns-clause-plain : goal.returns-clause-plain
returns-clause-plain g c = λ plain. plain_did _ (g.C.Chip.told c.args.chip.now) (g.C.Chip.told c.program.new.chip) plain c.program.result c.program.ensures.did

pub returns-clause-costs : goal.returns-clause-costs
returns-clause-costs g c = λ said says. spends_programmed c.args.spot.place c.args.spot.sector _ said _ _ _ says c.program.ensures.did

pub returns-clause-spares : goal.returns-clause-spares
returns-clause-spares g c =
    spares_programmed c.args.spot.place c.args.spot.sector c.args.bytes.now (g.C.Chip.told c.args.chip.now)
    (g.C.Chip.told c.program.new.chip) c.program.result c.program.ensures.did

pub returns-clause-tidy : goal.returns-clause-tidy
returns-clause-tidy g c = tidy_programmed c.args.spot.place c.args.spot.sector c.args.bytes.now (is_ok c.program.result) _ _ _ c.program.ensures.did

pub returns-clause-unread : goal.returns-clause-unread
returns-clause-unread g c =
    unread_programmed c.args.spot.place c.args.spot.sector c.args.bytes.now c.program.result (g.C.Chip.told c.args.chip.now)
    (g.C.Chip.told c.program.new.chip) c.program.ensures.did
