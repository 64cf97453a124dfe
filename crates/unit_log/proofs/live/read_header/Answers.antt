use Rattle.std.proofs.Common.{Ok, Err, refl, sym, ◌∙◌}
use Rattle.std.proofs.lemmas.Result.{err_from_is_err_and}
use Rattle.ipl_meaning.specs.Chart.{chart_of}
use Rattle.unit_log.proofs.HeadLemmas.{head_named, head_stands}
use Rattle.unit_log.proofs.LooksLemmas.{looks_read, looks_missed}
use Rattle.unit_log.proofs.CountLemmas.{most_read, most_missed}
use Rattle.unit_log.proofs.OftenLemmas.{often_asked}
use Rattle.unit_log.proofs.live.read_header.Goals as goal

pub returns-in_err-found-clause-looks : goal.returns-in_err-found-clause-looks
returns-in_err-found-clause-looks g c =
    let e = err_from_is_err_and c.from_residual.result c.from_residual.ensures.1 in
    looks_missed c.args.place 0 _ e.0 _ (g.C.Chip.told c.args.chip.now)
    (g.C.Chip.told c.read_head.new.chip) e.1 e.2 c.in_err-found.ensures.reads.asks
    c.in_err-found.ensures.reads.accounts

pub returns-in-Some-clause-looks : goal.returns-in-Some-clause-looks
returns-in-Some-clause-looks g c =
    looks_read c.args.place 0 _ _ (g.C.Chip.told c.args.chip.now)
    (g.C.Chip.told c.read_head.new.chip) c.in_ok-found.ensures.reads.asks
    c.in_ok-found.ensures.reads.accounts tt

pub returns-in-None-clause-looks : goal.returns-in-None-clause-looks
returns-in-None-clause-looks g c =
    looks_read c.args.place 0 _ _ (g.C.Chip.told c.args.chip.now)
    (g.C.Chip.told c.read_head.new.chip) c.in_ok-found.ensures.reads.asks
    c.in_ok-found.ensures.reads.accounts refl

pub returns-in-Some-clause-exact : goal.returns-in-Some-clause-exact
returns-in-Some-clause-exact g c = λ x told head pieces has.
    c.in-Some.ensures.some head has.units (c.in_ok-found.ensures.reads.exact x told
    ∙ head_named (chart_of x) c.args.place c.args.unit head pieces has) has.kind has.unit pieces
    has.spelled

pub returns-in-None-clause-exact : goal.returns-in-None-clause-exact
returns-in-None-clause-exact g c = λ x told head pieces has.
    absurd (c.in-None.ensures.some head has.units (c.in_ok-found.ensures.reads.exact x told
    ∙ head_named (chart_of x) c.args.place c.args.unit head pieces has) has.kind has.unit pieces
    has.spelled)

pub returns-in-Some-clause-header : goal.returns-in-Some-clause-header
returns-in-Some-clause-header g c = λ x told.
    let found = c.in-Some.ensures.found in
    record {
      sector = found.0;
      here = head_stands (chart_of x c.args.place 0) found.0
          (sym (c.in_ok-found.ensures.reads.exact x told) ∙ found.1);
      says = found.2;
    }

pub returns-in_err-found-clause-one : goal.returns-in_err-found-clause-one
returns-in_err-found-clause-one g c =
    most_missed c.args.place 0 (g.C.Chip.told c.args.chip.now)
    (g.C.Chip.told c.read_head.new.chip) c.in_err-found.ensures.reads.asks

pub returns-in-Some-clause-one : goal.returns-in-Some-clause-one
returns-in-Some-clause-one g c =
    most_read c.args.place 0 (g.C.Chip.told c.args.chip.now)
    (g.C.Chip.told c.read_head.new.chip) c.in_ok-found.ensures.reads.asks

pub returns-in-None-clause-one : goal.returns-in-None-clause-one
returns-in-None-clause-one g c =
    most_read c.args.place 0 (g.C.Chip.told c.args.chip.now)
    (g.C.Chip.told c.read_head.new.chip) c.in_ok-found.ensures.reads.asks

pub returns-in_err-found-clause-often : goal.returns-in_err-found-clause-often
returns-in_err-found-clause-often g c =
    often_asked {T = Unit {0}} c.args.place 0 (Err c.in_err-found.field-0.0) (g.C.Chip.told c.args.chip.now)
    (g.C.Chip.told c.read_head.new.chip) c.in_err-found.ensures.reads.asks

pub returns-in-Some-clause-often : goal.returns-in-Some-clause-often
returns-in-Some-clause-often g c =
    often_asked c.args.place 0 (Ok c.in_ok-found.found) (g.C.Chip.told c.args.chip.now)
    (g.C.Chip.told c.read_head.new.chip) c.in_ok-found.ensures.reads.asks

pub returns-in-None-clause-often : goal.returns-in-None-clause-often
returns-in-None-clause-often g c =
    often_asked c.args.place 0 (Ok c.in_ok-found.found) (g.C.Chip.told c.args.chip.now)
    (g.C.Chip.told c.read_head.new.chip) c.in_ok-found.ensures.reads.asks
