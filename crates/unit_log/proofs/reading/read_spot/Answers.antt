use Rattle.std.proofs.lemmas.Result.{err_from_is_err_and}
use Rattle.unit_log.proofs.LooksLemmas.{looks_read, looks_missed}
use Rattle.unit_log.proofs.CountLemmas.{most_read, most_missed}
use Rattle.std.proofs.Common.{Ok, Err}
use Rattle.unit_log.proofs.OftenLemmas.{often_asked}
use Rattle.unit_log.proofs.GatherLemmas.{spot_gathers, spot_missed}
use Rattle.unit_log.proofs.reading.read_spot.Goals as goal

pub returns-in_err-found-clause-gathers : goal.returns-in_err-found-clause-gathers
returns-in_err-found-clause-gathers g c =
    let e = err_from_is_err_and c.from_residual.result c.from_residual.ensures.1 in
    spot_missed (g.C.Chip.told c.args.chip.now) c.args.owner.unit c.args.owner.generation c.args.spot.place
    c.args.spot.sector c.args.scratch.now c.args.scratch.now _ e.0 _ e.1 e.2
    c.in_err-found.ensures.reads.accounts.cause.0

pub returns-in_err-found-clause-looks : goal.returns-in_err-found-clause-looks
returns-in_err-found-clause-looks g c =
    let e = err_from_is_err_and c.from_residual.result c.from_residual.ensures.1 in
    looks_missed c.args.spot.place c.args.spot.sector _ e.0 _ (g.C.Chip.told c.args.chip.now)
    (g.C.Chip.told c.read_log.new.chip) e.1 e.2 c.in_err-found.ensures.reads.asks
    c.in_err-found.ensures.reads.accounts

pub returns-clause-gathers : goal.returns-clause-gathers
returns-clause-gathers g c =
    spot_gathers (g.C.Chip.told c.args.chip.now) c.args.owner.unit c.args.owner.generation c.args.spot.place
    c.args.spot.sector c.args.scratch.now c.take_found.new.scratch _ c.take_found.result
    c.in_ok-found.ensures.reads.exact c.take_found.ensures.kept c.take_found.ensures.unfit

pub returns-clause-looks : goal.returns-clause-looks
returns-clause-looks g c =
    looks_read c.args.spot.place c.args.spot.sector _ c.take_found.result
    (g.C.Chip.told c.args.chip.now) (g.C.Chip.told c.read_log.new.chip)
    c.in_ok-found.ensures.reads.asks c.in_ok-found.ensures.reads.accounts c.take_found.ensures.fault

pub returns-in_err-found-clause-one : goal.returns-in_err-found-clause-one
returns-in_err-found-clause-one g c =
    most_missed c.args.spot.place c.args.spot.sector (g.C.Chip.told c.args.chip.now)
    (g.C.Chip.told c.read_log.new.chip) c.in_err-found.ensures.reads.asks

pub returns-clause-one : goal.returns-clause-one
returns-clause-one g c =
    most_read c.args.spot.place c.args.spot.sector (g.C.Chip.told c.args.chip.now)
    (g.C.Chip.told c.read_log.new.chip) c.in_ok-found.ensures.reads.asks

pub returns-in_err-found-clause-often : goal.returns-in_err-found-clause-often
returns-in_err-found-clause-often g c =
    often_asked {T = Unit {0}} c.args.spot.place c.args.spot.sector (Err c.in_err-found.field-0.0) (g.C.Chip.told c.args.chip.now)
    (g.C.Chip.told c.read_log.new.chip) c.in_err-found.ensures.reads.asks

pub returns-clause-often : goal.returns-clause-often
returns-clause-often g c =
    often_asked c.args.spot.place c.args.spot.sector (Ok c.in_ok-found.found) (g.C.Chip.told c.args.chip.now)
    (g.C.Chip.told c.read_log.new.chip) c.in_ok-found.ensures.reads.asks
