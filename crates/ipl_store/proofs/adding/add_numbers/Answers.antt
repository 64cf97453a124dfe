use Rattle.std.proofs.Common.{refl, arith}
use Rattle.std.proofs.lemmas.Result.{err_from_is_err_and}
use Rattle.store_laws.proofs.NumberLemmas.{header_stays, numbers_add, numbers_in_steps, no_numbers_in_steps}
use Rattle.ipl_store.proofs.AddingLemmas.{added_so, written_behind, written_nothing}
use Rattle.ipl_store.proofs.adding.add_numbers.Goals as goal

pub returns-in_err-barrier-clause-steps : goal.returns-in_err-barrier-clause-steps
returns-in_err-barrier-clause-steps g c =
    let old = g.C.Chip.told c.args.chip.now in
    let new = g.C.Chip.told c.barrier.new.chip in
    let says = c.in_err-barrier.ensures in
    let e = err_from_is_err_and c.from_residual.result c.from_residual.ensures.1 in
    rw e.1
    (no_numbers_in_steps old.places c.args.status.now c.args.counter.now c.args.tids.now
    c.in_err-barrier.field-0.0 old new says.did says.accounts.cause)

pub returns-clause-adds : goal.returns-clause-adds
returns-clause-adds g c =
    let old = g.C.Chip.told c.args.chip.now in
    let mid = g.C.Chip.told c.barrier.new.chip in
    let waited = c.in_ok-barrier.ensures in
    numbers_add old.places mid.places c.args.status.now c.args.counter.now c.args.tids.now
    c.add.result old mid (g.C.Chip.told c.add.new.chip) waited.accounts.counts.places waited.did
    c.add.ensures.adds

pub returns-clause-header : goal.returns-clause-header
returns-clause-header g c =
    header_stays c.args.status.now.place c.add.result (g.C.Chip.told c.args.chip.now)
    (g.C.Chip.told c.barrier.new.chip) (g.C.Chip.told c.add.new.chip) c.in_ok-barrier.ensures.did
    c.add.ensures.header

pub returns-clause-steps : goal.returns-clause-steps
returns-clause-steps g c =
    let old = g.C.Chip.told c.args.chip.now in
    let mid = g.C.Chip.told c.barrier.new.chip in
    let waited = c.in_ok-barrier.ensures in
    numbers_in_steps old.places mid.places c.args.status.now c.args.counter.now c.args.tids.now
    c.add.result old mid (g.C.Chip.told c.add.new.chip) waited.accounts.counts.places
    waited.accounts.counts waited.did c.add.ensures.steps

pub returns-in_err-barrier-clause-added : goal.returns-in_err-barrier-clause-added
returns-in_err-barrier-clause-added g c =
    let e = err_from_is_err_and c.from_residual.result c.from_residual.ensures.1 in
    rw e.1 (record { added = tt; same = refl; drawn = tt; draws = (omega arith, omega arith) })

pub returns-clause-added : goal.returns-clause-added
returns-clause-added g c =
    added_so c.args.tids.now c.add.result c.args.status.now c.add.new.self c.args.counter.now
    c.add.new.counter c.add.ensures.added

pub returns-in_err-barrier-clause-writes : goal.returns-in_err-barrier-clause-writes
returns-in_err-barrier-clause-writes g c =
    let status = c.args.status.now in
    let says = c.in_err-barrier.ensures in
    let e = err_from_is_err_and c.from_residual.result c.from_residual.ensures.1 in
    rw (e.1, e.2) (written_nothing status.place status.first c.in_err-barrier.field-0.0
    (g.C.Chip.told c.args.chip.now) (g.C.Chip.told c.barrier.new.chip) says.did says.accounts)

pub returns-clause-writes : goal.returns-clause-writes
returns-clause-writes g c =
    let status = c.args.status.now in
    let waited = c.in_ok-barrier.ensures in
    written_behind status.place status.first c.add.result (g.C.Chip.told c.args.chip.now)
    (g.C.Chip.told c.barrier.new.chip) (g.C.Chip.told c.add.new.chip) waited.accounts.counts waited.did
    c.add.ensures.writes
