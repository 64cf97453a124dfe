use Rattle.std.proofs.Common.{refl, ap, ◌∙◌, ℕ, List, Option, Ok, Err, subst}
use Rattle.std.proofs.lemmas.Result.{err_from_is_err_and}
use Rattle.ipl_base.specs.declared.fault.ChipFault.TheVariants.{Malformed}
use Rattle.ipl_format.specs.Sector.{Sector}
use Rattle.ipl_format.specs.Whole.{IsWhole}
use Rattle.ipl_meaning.specs.Chart.{chart_of}
use Rattle.unit_io.specs.Kinds.{sector_named}
use Rattle.unit_io.specs.ReadsAt.{IsAt}
use Rattle.txn_status.specs.TakingIn.{TakesIn}
use Rattle.txn_status.proofs.ReadLemmas.{looks_asked, noted_found, commits_full, read_failed, if_read, if_full}
use Rattle.txn_status.proofs.reading.read_spot.Goals as goal

pub returns-in_err-found-clause-looks : goal.returns-in_err-found-clause-looks
returns-in_err-found-clause-looks g c =
    let place = c.args.from.place in
    let s = c.args.sector in
    let old = g.C.Chip.told c.args.chip.now in
    let new = g.C.Chip.told c.read_noted.new.chip in
    let e = err_from_is_err_and c.from_residual.result c.from_residual.ensures.1 in
    rw (e.1 ∙ ap Err e.2) (looks_asked place s c.read_noted.result (Err c.in_err-found.field-0.0) old new
    c.read_noted.ensures.reads.asks c.read_noted.ensures.reads.accounts.counts
    (read_failed (IsAt place s) c.in_err-found.field-0.0 old new c.in_err-found.ensures.reads.accounts.cause))

pub returns-in_err-noted-clause-looks : goal.returns-in_err-noted-clause-looks
returns-in_err-noted-clause-looks g c =
    let place = c.args.from.place in
    let s = c.args.sector in
    let e = err_from_is_err_and c.from_residual-in_err-noted.result
    c.from_residual-in_err-noted.ensures.1 in
    rw (e.1 ∙ ap Err (e.2 ∙ c.in_err-noted.ensures.cause))
    (looks_asked place s c.read_noted.result (Err (Malformed place s)) (g.C.Chip.told c.args.chip.now)
    (g.C.Chip.told c.read_noted.new.chip) c.read_noted.ensures.reads.asks
    c.read_noted.ensures.reads.accounts.counts (refl, refl))

pub returns-clause-looks : goal.returns-clause-looks
returns-clause-looks g c =
    looks_asked c.args.from.place c.args.sector c.read_noted.result
    (Ok c.in_ok-noted.noted) (g.C.Chip.told c.args.chip.now) (g.C.Chip.told c.read_noted.new.chip)
    c.read_noted.ensures.reads.asks c.read_noted.ensures.reads.accounts.counts tt

pub returns-clause-takes : goal.returns-clause-takes
returns-clause-takes g c = if_read (Ok c.in_ok-noted.noted) _ _ (λ n takes x told.
    subst (λ (o : Option Sector). TakesIn o n c.args.numbers.now.list
    c.take_found.new.numbers.list c.args.mark.now c.take_found.new.mark)
    (noted_found (chart_of x) c.args.from.place c.args.from.generation c.args.sector
    (sector_named c.read_noted.new.into c.in_ok-found.found) c.requires.first
    (c.in_ok-found.ensures.reads.exact x told)) takes) c.in_ok-noted.ensures.takes

pub returns-clause-many : goal.returns-clause-many
returns-clause-many g c = if_full (Ok c.in_ok-noted.noted) _ _ (λ full x told.
    commits_full (chart_of x) c.args.from.place c.args.from.generation c.args.sector
    (sector_named c.read_noted.new.into c.in_ok-found.found) c.args.numbers.now c.requires.first
    (c.in_ok-found.ensures.reads.exact x told) full.many) c.in_ok-noted.ensures.full

pub returns-clause-near : goal.returns-clause-near
returns-clause-near g c = if_full (Ok c.in_ok-noted.noted) _ _ (λ full. full.near) c.in_ok-noted.ensures.full

pub returns-clause-whole : goal.returns-clause-whole
returns-clause-whole g c = if_read (Ok c.in_ok-noted.noted) _ _ (λ n takes x told.
    subst (λ (xs : List ℕ). IsWhole xs) (c.in_ok-found.ensures.bytes x told)
    c.take_found.ensures.whole) c.in_ok-noted.ensures.takes
