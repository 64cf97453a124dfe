use Rattle.std.proofs.Common.{◌≡◌, None, Err, Ok, sym, ◌∙◌, ap}
use Rattle.std.proofs.lemmas.Result.{err_from_is_err_and}
use Rattle.record_locks.specs.Locks.{refuses_close}
use Rattle.ipl_store.specs.Calls.{early_fault, entry_fault}
use Rattle.ipl_store.proofs.CallLemmas.{let_in}
use Rattle.ipl_store.proofs.ClosingLemmas.{readies, closes_unready, closes_marked}
use Rattle.ipl_store.proofs.store.Store.close.Goals as goal

pub returns-in_err-end : goal.returns-in_err-end
returns-in_err-end g c =
    let store = c.args.self.now in
    let old = g.C.Chip.told c.args.chip.now in
    let told = g.C.Chip.told c.ready_status-ready.new.chip in
    let ready = c.ready_status-ready.ensures in
    let refusal = refuses_close store.transactions.sessions in
    let early = early_fault (entry_fault store) refusal in
    let none : early ≡ None =
    ap (early_fault (entry_fault store)) (sym c.refuses_close.ensures) ∙ sym c.in_ok-admit.ensures in
    let e = err_from_is_err_and c.from_residual-in_err-end.result
    c.from_residual-in_err-end.ensures.1 in
    rw (e.1 ∙ ap Err e.2) (record {
      closes = closes_unready early store c.end.new.self old told c.in_err-end.field-0.0 none
          (readies store c.ready_status-ready.new.self c.ready_status-ready.new.kept ready.numbers old told
          c.ready_status-ready.result (Err c.in_err-end.field-0.0) c.end.new.self
          (let_in store refusal none).0 c.requires.sound ready.upholds ready.complete ready.faults
          c.in_err-end.ensures.rest c.in_err-end.ensures.ends early none)
          (λ room. (ready.idle room).2);
    })

pub returns : goal.returns
returns g c =
    let store = c.args.self.now in
    let old = g.C.Chip.told c.args.chip.now in
    let told = g.C.Chip.told c.ready_status-ready.new.chip in
    let ready = c.ready_status-ready.ensures in
    let refusal = refuses_close store.transactions.sessions in
    let early = early_fault (entry_fault store) refusal in
    let none : early ≡ None =
    ap (early_fault (entry_fault store)) (sym c.refuses_close.ensures) ∙ sym c.in_ok-admit.ensures in
    record {
      closes = closes_marked early store c.end.new.self c.write_mark.new.self old told
          (g.C.Chip.told c.write_mark.new.chip) c.write_mark.result none
          (readies store c.ready_status-ready.new.self c.ready_status-ready.new.kept ready.numbers old told
          c.ready_status-ready.result (Ok tt) c.end.new.self
          (let_in store refusal none).0 c.requires.sound ready.upholds ready.complete ready.faults
          c.in_ok-end.ensures.rest c.in_ok-end.ensures.ends early none)
          (λ room. (ready.idle room).2)
          c.write_mark.ensures.marks c.write_mark.ensures.made;
    }
