use Rattle.std.proofs.Common.{◌+◌, ◌*◌, ◌^◌, Err, arith}
use Rattle.std.proofs.lemmas.Bool.{false≢true}
use Rattle.std.proofs.lemmas.Result.{err_from_is_err_and}
use Rattle.place_taking.specs.Spending.{is_worn_out}
use Rattle.record_locks.specs.Held.{written_by}
use Rattle.page_frames.proofs.UpholdLemmas.{upholds_then, upholds_weaker}
use Rattle.page_frames.proofs.CompleteLemmas.{completes_then}
use Rattle.page_frames.specs.Faulty.{StandsThen}
use Rattle.page_frames.specs.Pages.{tables_in}
use Rattle.page_frames.proofs.TellLemmas.{tells_ever, tells_then}
use Rattle.ipl_store.proofs.CommitLemmas.{may_add}
use Rattle.ipl_store.proofs.CostLemmas.{names_out_asks}
use Rattle.ipl_store.proofs.transactions.Transactions.write_sessions_out.Goals as goal

pub write_sessions_out-requires-clause-low : goal.write_sessions_out-requires-clause-low
write_sessions_out-requires-clause-low g c = λ s at. (c.requires.open.opens s at).low

pub returns-in_err-ready_status-clause-upholds : goal.returns-in_err-ready_status-clause-upholds
returns-in_err-ready_status-clause-upholds g c =
    let e = err_from_is_err_and c.from_residual.result c.from_residual.ensures.1 in
    rw (e.1, e.2)
    (upholds_weaker (2 ^ 14) (2 ^ 14 + 14 * 64) c.args.self.now.pages c.ready_status.new.self
    (Err c.in_err-ready_status.field-0.0) (g.C.Chip.told c.args.chip.now)
    (g.C.Chip.told c.ready_status.new.chip) (omega arith) c.in_err-ready_status.ensures.upholds)

pub returns-clause-upholds : goal.returns-clause-upholds
returns-clause-upholds g c =
    upholds_then (2 ^ 14) (14 * 64) c.args.self.now.pages c.ready_status.new.self
    c.write_sessions_out.new.self c.write_sessions_out.result (g.C.Chip.told c.args.chip.now)
    (g.C.Chip.told c.ready_status.new.chip) (g.C.Chip.told c.write_sessions_out.new.chip)
    c.in_ok-ready_status.ensures.upholds c.write_sessions_out.ensures.upholds

pub returns-clause-may_add : goal.returns-clause-may_add
returns-clause-may_add g c =
    may_add c.args.numbers.now c.ready_status.new.self
    (record { pages = c.write_sessions_out.new.self; sessions = c.args.self.now.sessions })
    c.write_sessions_out.result c.write_sessions_out.ensures.out c.in_ok-ready_status.ensures.room
    c.write_sessions_out.ensures.status

pub returns-in_err-ready_status-clause-complete : goal.returns-in_err-ready_status-clause-complete
returns-in_err-ready_status-clause-complete g c =
    let e = err_from_is_err_and c.from_residual.result c.from_residual.ensures.1 in
    rw (e.1, e.2) c.in_err-ready_status.ensures.complete

pub returns-clause-complete : goal.returns-clause-complete
returns-clause-complete g c =
    let did = c.in_ok-ready_status.ensures.upholds in
    completes_then c.args.self.now.pages c.ready_status.new.self c.write_sessions_out.result
    (g.C.Chip.told c.args.chip.now) (g.C.Chip.told c.ready_status.new.chip)
    did.accounts.counts.places did.keeps c.write_sessions_out.ensures.complete

pub returns-in_err-ready_status-clause-framed : goal.returns-in_err-ready_status-clause-framed
returns-in_err-ready_status-clause-framed g c = c.in_err-ready_status.ensures.framed

pub returns-clause-framed : goal.returns-clause-framed
returns-clause-framed g c = λ u page is.
    c.write_sessions_out.ensures.framed u page (c.in_ok-ready_status.ensures.framed u page is)

pub returns-in_err-ready_status-clause-asks : goal.returns-in_err-ready_status-clause-asks
returns-in_err-ready_status-clause-asks g c = λ room.
    absurd (false≢true (c.in_err-ready_status.ensures.idle room).0)

pub returns-clause-asks : goal.returns-clause-asks
returns-clause-asks g c = λ room.
    let (done, same, idle) = c.in_ok-ready_status.ensures.idle room in
    names_out_asks (written_by c.args.self.now.sessions c.args.numbers.now)
    (is_worn_out c.write_sessions_out.result) c.args.self.now.pages c.ready_status.new.self c.write_sessions_out.new.self (g.C.Chip.told c.args.chip.now) (g.C.Chip.told c.ready_status.new.chip)
    (g.C.Chip.told c.write_sessions_out.new.chip) same idle c.write_sessions_out.ensures.asks

pub returns-in_err-ready_status-clause-faults : goal.returns-in_err-ready_status-clause-faults
returns-in_err-ready_status-clause-faults g c =
    let e = err_from_is_err_and c.from_residual.result c.from_residual.ensures.1 in
    rw (e.1, e.2) c.in_err-ready_status.ensures.faults

pub returns-clause-faults : goal.returns-clause-faults
returns-clause-faults g c =
    let did = c.in_ok-ready_status.ensures.upholds in
    let old = g.C.Chip.told c.args.chip.now in
    let new = g.C.Chip.told c.write_sessions_out.new.chip in
    tells_ever c.args.self.now.pages c.write_sessions_out.new.self c.write_sessions_out.result old new
    (tells_then (StandsThen (tables_in c.write_sessions_out.new.self) new) c.args.self.now.pages
    c.ready_status.new.self c.write_sessions_out.new.self c.write_sessions_out.result old
    (g.C.Chip.told c.ready_status.new.chip) did.accounts.counts.places
    c.write_sessions_out.ensures.upholds.active did.keeps c.write_sessions_out.ensures.faults)
