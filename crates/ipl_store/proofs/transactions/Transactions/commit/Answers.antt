use Rattle.std.proofs.Common.{◌^◌, false, refl, ◌∙◌, ap}
use Rattle.std.proofs.lemmas.Result.{err_from_is_err_and}
use Rattle.ipl_meaning.specs.Tables.{Places}
use Rattle.place_taking.specs.Spending.{is_worn_out, tells_worn}
use Rattle.page_frames.proofs.FramedLemmas.{pool_framed}
use Rattle.page_frames.proofs.TellLemmas.{alone_tells, tells_ever}
use Rattle.ipl_store.proofs.CommitLemmas.{empty_committed, committed, not_committed}
use Rattle.ipl_store.proofs.CostLemmas.{empty_asks, unwritten_asks, commit_asks}
use Rattle.ipl_store.proofs.WriterLemmas.{wrote_nothing, wrote_some}
use Rattle.ipl_store.proofs.transactions.Transactions.commit.Goals as goal

pub writer_numbers-tids-requires-clause-low : goal.writer_numbers-tids-requires-clause-low
writer_numbers-tids-requires-clause-low g c = λ s at. (c.requires.open.opens s at).low

pub returns-then-is_empty-clause-turns : goal.returns-then-is_empty-clause-turns
returns-then-is_empty-clause-turns g c =
    let old = c.args.self.now in
    let ended = c.end_all.ensures in
    empty_committed c.args.numbers.now (2 ^ 15) old c.end_all.new.self
    (g.C.Chip.told c.args.chip.now) c.requires.order c.requires.open
    (wrote_nothing old.sessions c.args.numbers.now c.as_slice.result.now
    (c.as_slice.ensures.numbers ∙ c.writer_numbers-tids.ensures) c.is_empty.result c.is_empty.ensures c.requires.open.opens
    c.if-is_empty.true)
    ended.rest ended.sessions ended.active ended.locks

pub returns-in_err-write_sessions_out-clause-turns :
    goal.returns-in_err-write_sessions_out-clause-turns
returns-in_err-write_sessions_out-clause-turns g c =
    let says = c.in_err-write_sessions_out.ensures in
    let e = err_from_is_err_and c.from_residual.result c.from_residual.ensures.1 in
    rw (e.1, e.2)
    (not_committed c.args.numbers.now c.args.self.now c.write_sessions_out.new.self
    c.in_err-write_sessions_out.field-0.0 (g.C.Chip.told c.args.chip.now)
    (g.C.Chip.told c.write_sessions_out.new.chip) c.requires.order says.upholds says.sessions)

pub returns-clause-turns : goal.returns-clause-turns
returns-clause-turns g c =
    let says = c.in_ok-write_sessions_out.ensures in
    committed c.args.numbers.now c.args.self.now c.write_sessions_out.new.self
    c.commit_numbers.new.self c.commit_numbers.result (g.C.Chip.told c.args.chip.now)
    (g.C.Chip.told c.write_sessions_out.new.chip) (g.C.Chip.told c.commit_numbers.new.chip)
    says.upholds says.sessions c.commit_numbers.ensures.turns

pub returns-in_err-write_sessions_out-clause-complete :
    goal.returns-in_err-write_sessions_out-clause-complete
returns-in_err-write_sessions_out-clause-complete g c =
    let e = err_from_is_err_and c.from_residual.result c.from_residual.ensures.1 in
    rw (e.1, e.2) c.in_err-write_sessions_out.ensures.complete

pub returns-clause-complete : goal.returns-clause-complete
returns-clause-complete g c =
    λ x there slots it state fits says. c.commit_numbers.ensures.complete

pub returns-then-is_empty-clause-framed : goal.returns-then-is_empty-clause-framed
returns-then-is_empty-clause-framed g c =
    pool_framed c.args.self.now.pages c.end_all.new.self.pages c.end_all.ensures.rest.pool

pub returns-in_err-write_sessions_out-clause-framed :
    goal.returns-in_err-write_sessions_out-clause-framed
returns-in_err-write_sessions_out-clause-framed g c = c.in_err-write_sessions_out.ensures.framed

pub returns-clause-framed : goal.returns-clause-framed
returns-clause-framed g c = λ u page is.
    c.commit_numbers.ensures.framed u page (c.in_ok-write_sessions_out.ensures.framed u page is)

pub returns-in_err-write_sessions_out-clause-faults :
    goal.returns-in_err-write_sessions_out-clause-faults
returns-in_err-write_sessions_out-clause-faults g c =
    let e = err_from_is_err_and c.from_residual.result c.from_residual.ensures.1 in
    rw (e.1, e.2) c.in_err-write_sessions_out.ensures.faults

pub returns-clause-faults : goal.returns-clause-faults
returns-clause-faults g c =
    let before = g.C.Chip.told c.args.chip.now in
    let after = g.C.Chip.told c.commit_numbers.new.chip in
    tells_ever c.args.self.now.pages c.commit_numbers.new.self.pages c.commit_numbers.result before after
    (alone_tells c.args.self.now.pages c.commit_numbers.new.self.pages c.commit_numbers.result before after
    c.commit_numbers.ensures.complete)

pub returns-then-is_empty-clause-asks : goal.returns-then-is_empty-clause-asks
returns-then-is_empty-clause-asks g c =
    empty_asks c.args.self.now c.args.numbers.now c.end_all.new.self.pages
    (g.C.Chip.told c.args.chip.now) c.end_all.ensures.rest.directory

pub returns-in_err-write_sessions_out-clause-asks :
    goal.returns-in_err-write_sessions_out-clause-asks
returns-in_err-write_sessions_out-clause-asks g c =
    let e = err_from_is_err_and c.from_residual.result c.from_residual.ensures.1 in
    rw (e.1, e.2) (unwritten_asks c.args.self.now c.args.numbers.now
    (tells_worn c.in_err-write_sessions_out.field-0.0) c.write_sessions_out.new.self.pages
    (g.C.Chip.told c.args.chip.now) (g.C.Chip.told c.write_sessions_out.new.chip)
    (wrote_some c.args.self.now.sessions c.args.numbers.now c.as_slice.result.now
    (c.as_slice.ensures.numbers ∙ c.writer_numbers-tids.ensures) c.is_empty.result c.is_empty.ensures c.if-is_empty.false)
    c.in_err-write_sessions_out.ensures.asks)

pub returns-clause-asks : goal.returns-clause-asks
returns-clause-asks g c =
    commit_asks c.args.self.now c.args.numbers.now false c.write_sessions_out.new.self.pages
    (g.C.Chip.told c.args.chip.now) (g.C.Chip.told c.write_sessions_out.new.chip)
    (wrote_some c.args.self.now.sessions c.args.numbers.now c.as_slice.result.now
    (c.as_slice.ensures.numbers ∙ c.writer_numbers-tids.ensures) c.is_empty.result c.is_empty.ensures c.if-is_empty.false)
    c.in_ok-write_sessions_out.ensures.asks refl c.write_sessions_out.new.self.pages.parts.status.place
    (is_worn_out c.commit_numbers.result) c.commit_numbers.new.self.pages (g.C.Chip.told c.commit_numbers.new.chip)
    (ap (λ (it : Places). it.retired) c.commit_numbers.ensures.asks.directory)
    c.commit_numbers.ensures.asks.unworn c.commit_numbers.ensures.asks.costs
