use Rattle.std.proofs.Common.{◌*◌, arith, sym, ◌∙◌, Err}
use Rattle.std.proofs.lemmas.Result.{err_from_is_err_and}
use Rattle.record_locks.specs.Held.{written_by}
use Rattle.page_frames.proofs.OutAllLemmas.{none_out, passed_out, written_out, unwritten_upholds, unwritten_asks, framed_unit, framed_low, names_out, names_ask}
use Rattle.page_frames.proofs.CompleteLemmas.{completes_then}
use Rattle.page_frames.proofs.pages.Pages.write_sessions_out.Goals.{then-has_page+in_ok-write_out, else-has_page}
use Rattle.page_frames.specs.Faulty.{StandsThen}
use Rattle.page_frames.specs.Pages.{tables_in}
use Rattle.page_frames.proofs.TellLemmas.{tells_then}
use Rattle.page_frames.proofs.pages.Pages.write_sessions_out.Goals as goal

pub loop-i-init : goal.loop-i-init
loop-i-init g c =
    none_out (written_by c.args.sessions.now c.args.numbers.now) c.args.self.now
    (g.C.Chip.told c.args.chip.now) c.requires.ready

pub write_out-requires-clause-page : goal.write_out-requires-clause-page
write_out-requires-clause-page g c = record {
  unit = framed_unit (14 * c.loop-i.i) c.args.self.now c.loop-i.self (g.C.Chip.told c.args.chip.now)
      (g.C.Chip.told c.loop-i.chip) c.page_at-unit.result.0 c.page_at-unit.result.1
      c.loop-i.invariant.upholds c.facts.ensures.once c.page_at-unit.ensures.there;
  few = c.page_at-unit.ensures.page;
}

pub returns-in_err-write_out-clause-upholds : goal.returns-in_err-write_out-clause-upholds
returns-in_err-write_out-clause-upholds g c =
    let e = err_from_is_err_and c.from_residual.result c.from_residual.ensures.1 in
    rw (e.1, e.2) (unwritten_upholds c.loop-i.i c.len-i-end.result
    (written_by c.args.sessions.now c.args.numbers.now) c.args.self.now (g.C.Chip.told c.args.chip.now)
    c.loop-i.self (g.C.Chip.told c.loop-i.chip) c.write_out.new.self (g.C.Chip.told c.write_out.new.chip)
    c.in_err-write_out.field-0.0 c.loop-i-test.true c.len-i-end.ensures.few c.loop-i.invariant
    c.in_err-write_out.ensures.works.upholds)

pub returns-in_err-write_out-clause-complete : goal.returns-in_err-write_out-clause-complete
returns-in_err-write_out-clause-complete g c =
    let done = c.loop-i.invariant.upholds in
    let e = err_from_is_err_and c.from_residual.result c.from_residual.ensures.1 in
    rw (e.1, e.2) (completes_then {T = Unit {0}} c.args.self.now c.loop-i.self
    (Err c.in_err-write_out.field-0.0) (g.C.Chip.told c.args.chip.now) (g.C.Chip.told c.loop-i.chip)
    done.accounts.counts.places done.keeps c.in_err-write_out.ensures.works.complete)

pub returns-in_err-write_out-clause-faults : goal.returns-in_err-write_out-clause-faults
returns-in_err-write_out-clause-faults g c =
    let new = c.write_out.new.self in
    let is = c.in_err-write_out.ensures.works in
    let done = c.loop-i.invariant.upholds in
    let e = err_from_is_err_and c.from_residual.result c.from_residual.ensures.1 in
    rw (e.1, e.2) (tells_then {T = Unit {0}} (StandsThen (tables_in new) (g.C.Chip.told c.write_out.new.chip))
    c.args.self.now c.loop-i.self new (Err c.in_err-write_out.field-0.0) (g.C.Chip.told c.args.chip.now)
    (g.C.Chip.told c.loop-i.chip) done.accounts.counts.places is.upholds.active done.keeps is.faults)

pub loop-i-preserved : goal.loop-i-preserved
loop-i-preserved g c = elim c.if-has_page.branch [
  | then-has_page+in_ok-write_out w ↦
      let is = w.in_ok-write_out.ensures in
      rw (w.self-is, w.chip-is) (written_out c.loop-i.i c.page_at-unit.result.0
      c.page_at-unit.result.1 (written_by c.args.sessions.now c.args.numbers.now) c.args.self.now
      (g.C.Chip.told c.args.chip.now) c.loop-i.self (g.C.Chip.told c.loop-i.chip)
      w.write_out.new.self (g.C.Chip.told w.write_out.new.chip)
      (omega (arith, c.loop-i-test.true, c.len-i-end.ensures.all))
      (sym c.has_page.ensures ∙ w.if-has_page.true)
      (framed_low (14 * c.loop-i.i) c.args.self.now c.loop-i.self (g.C.Chip.told c.args.chip.now)
      (g.C.Chip.told c.loop-i.chip) c.page_at-unit.result.0 c.page_at-unit.result.1
      c.loop-i.invariant.upholds c.facts.ensures.once c.page_at-unit.ensures.there c.requires.ready)
      c.page_at-unit.ensures.page c.page_at-unit.ensures.number c.loop-i.invariant is.works.upholds
      is.frames is.pool.order is.status is.asks)
  | else-has_page w ↦
      rw (w.self-is, w.chip-is) (passed_out c.loop-i.i c.page_at-unit.result.0
      c.page_at-unit.result.1 (written_by c.args.sessions.now c.args.numbers.now) c.args.self.now
      (g.C.Chip.told c.args.chip.now) c.loop-i.self (g.C.Chip.told c.loop-i.chip)
      (omega (arith, c.loop-i-test.true, c.len-i-end.ensures.all)) c.page_at-unit.ensures.page
      c.page_at-unit.ensures.number
      (sym c.has_page.ensures ∙ w.if-has_page.false) c.loop-i.invariant)
]

pub returns-clause-out : goal.returns-clause-out
returns-clause-out g c =
    names_out c.loop-i.i (written_by c.args.sessions.now c.args.numbers.now) c.args.self.now
    (g.C.Chip.told c.args.chip.now) c.loop-i.self (g.C.Chip.told c.loop-i.chip)
    (omega (arith, c.loop-i-test.false, c.loop-i.auto.i-end, c.len-i-end.ensures.all))
    c.facts-2.ensures.once (λ u page few. (c.facts-2.ensures.listed u page few).1)
    c.loop-i.invariant

pub returns-in_err-write_out-clause-framed : goal.returns-in_err-write_out-clause-framed
returns-in_err-write_out-clause-framed g c = λ u page is.
    c.in_err-write_out.ensures.framed u page (c.loop-i.invariant.framed u page is)

pub returns-clause-framed : goal.returns-clause-framed
returns-clause-framed g c = c.loop-i.invariant.framed

pub returns-in_err-write_out-clause-asks : goal.returns-in_err-write_out-clause-asks
returns-in_err-write_out-clause-asks g c =
    let e = err_from_is_err_and c.from_residual.result c.from_residual.ensures.1 in
    rw (e.1, e.2) (unwritten_asks c.loop-i.i c.page_at-unit.result.0 c.page_at-unit.result.1
    (written_by c.args.sessions.now c.args.numbers.now) c.in_err-write_out.field-0.0 c.args.self.now
    (g.C.Chip.told c.args.chip.now) c.loop-i.self (g.C.Chip.told c.loop-i.chip)
    c.write_out.new.self (g.C.Chip.told c.write_out.new.chip)
    (omega (arith, c.loop-i-test.true, c.len-i-end.ensures.all))
    (sym c.has_page.ensures ∙ c.if-has_page.true) c.page_at-unit.ensures.page
    c.page_at-unit.ensures.number c.loop-i.invariant c.in_err-write_out.ensures.asks
    (framed_low (14 * c.loop-i.i) c.args.self.now c.loop-i.self (g.C.Chip.told c.args.chip.now)
    (g.C.Chip.told c.loop-i.chip) c.page_at-unit.result.0 c.page_at-unit.result.1
    c.loop-i.invariant.upholds c.facts.ensures.once c.page_at-unit.ensures.there c.requires.ready))

pub returns-clause-asks : goal.returns-clause-asks
returns-clause-asks g c =
    names_ask c.loop-i.i (written_by c.args.sessions.now c.args.numbers.now) c.args.self.now
    (g.C.Chip.told c.args.chip.now) c.loop-i.self (g.C.Chip.told c.loop-i.chip) c.loop-i.invariant
