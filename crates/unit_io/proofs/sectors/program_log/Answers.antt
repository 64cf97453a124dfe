use Rattle.unit_io.proofs.SectorLemmas.{aside_leads, log_leads}
use Rattle.unit_io.proofs.WritingLemmas.{only_programmed, only_of_kind}
use Rattle.unit_io.proofs.SparesLemmas.{spares_programmed}
use Rattle.unit_io.specs.Spots.{IsSpot}
use Rattle.unit_io.proofs.sectors.program_log.Goals as goal

pub returns-clause-keeps : goal.returns-clause-keeps
returns-clause-keeps g c = λ m it h u records steady rests laid may fresh.
    log_leads c.args.spot.place c.args.spot.sector _ _ (rw c.bytes.ensures.value at c.encode.ensures.said) m h _ _ _ steady c.program.ensures.did rests fresh it u records laid may

pub returns-clause-aside : goal.returns-clause-aside
returns-clause-aside g c = λ m h steady rests bare other fresh.
    aside_leads c.args.spot.place c.args.spot.sector _ _ (rw c.bytes.ensures.value at c.encode.ensures.said) m h _ _ _ steady c.program.ensures.did rests fresh bare other

pub returns-clause-spares : goal.returns-clause-spares
returns-clause-spares g c =
    spares_programmed c.args.spot.place c.args.spot.sector _ (g.C.Chip.told c.args.chip.now)
    (g.C.Chip.told c.program.new.chip) c.program.result c.program.ensures.did

pub returns-clause-writes : goal.returns-clause-writes
returns-clause-writes g c =
    only_of_kind c.args.spot.place 1 0 _ 5 (IsSpot c.args.spot.sector) _ _ _ c.requires.kind
    (only_programmed c.args.spot.place c.args.spot.sector _ _ _ _ _ c.encode.ensures.said c.program.ensures.did c.program.ensures.accounts)
