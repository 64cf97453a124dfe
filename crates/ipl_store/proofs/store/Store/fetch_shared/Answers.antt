use Rattle.std.proofs.Common.{◌≡◌, ◌∙◌, None, Some, Ok, Err, sym, ap}
use Rattle.std.proofs.lemmas.Result.{err_from_is_err_and}
use Rattle.ipl_model.specs.Operations.{after_share}
use Rattle.ipl_model.specs.Refusals.{refuses_share}
use Rattle.record_locks.specs.Held.{SessionSlots, number_of}
use Rattle.record_locks.specs.Locks as locks
use Rattle.record_locks.specs.Standing.{state_of}
use Rattle.ipl_base.specs.Places.{home_of}
use Rattle.ipl_store.specs.Calls.{early_fault, entry_fault, limits_of_store}
use Rattle.store_laws.proofs.RefusalLemmas.{passed_shares}
use Rattle.ipl_store.proofs.CallLemmas.{early_unworn, let_in}
use Rattle.ipl_store.proofs.ShownLemmas.{looks_answered, refused_fetches, failed_fetches, shared_fetches, asks_nothing}
use Rattle.ipl_store.proofs.store.Store.fetch_shared.Goals as goal

pub returns-in_err-admit-clause-fetches : goal.returns-in_err-admit-clause-fetches
returns-in_err-admit-clause-fetches g c =
    let store = c.args.self.now in
    let old = g.C.Chip.told c.args.chip.now in
    let refusal = refuses_share (limits_of_store store) (state_of store.transactions.sessions)
    c.args.s c.args.n in
    let early = early_fault (entry_fault store) refusal in
    let fault = c.in_err-admit.field-0.0 in
    let is : early ≡ Some fault =
    ap (early_fault (entry_fault store)) (sym c.refuses_share.ensures)
    ∙ sym c.in_err-admit.ensures in
    let e = err_from_is_err_and c.from_residual.result c.from_residual.ensures.1 in
    rw (e.1 ∙ ap Err e.2)
    (refused_fetches early (λ state. after_share state c.args.s c.args.n) c.args.n store old
    fault is
    (early_unworn store refusal fault is) c.requires.sound)

pub returns-in_err-admit-clause-looks : goal.returns-in_err-admit-clause-looks
returns-in_err-admit-clause-looks g c = λ found.
    let store = c.args.self.now in
    let old = g.C.Chip.told c.args.chip.now in
    let refusal = refuses_share (limits_of_store store) (state_of store.transactions.sessions)
    c.args.s c.args.n in
    let early = early_fault (entry_fault store) refusal in
    let fault = c.in_err-admit.field-0.0 in
    let is : early ≡ Some fault =
    ap (early_fault (entry_fault store)) (sym c.refuses_share.ensures)
    ∙ sym c.in_err-admit.ensures in
    let e = err_from_is_err_and c.from_residual.result c.from_residual.ensures.1 in
    rw (e.1 ∙ ap Err e.2) (looks_answered early (λ state. after_share state c.args.s c.args.n)
    c.args.n store old (Err fault) store old
    (refused_fetches early (λ state. after_share state c.args.s c.args.n) c.args.n store old
    fault is
    (early_unworn store refusal fault is) c.requires.sound) found)

pub returns-in_err-admit-clause-asks : goal.returns-in_err-admit-clause-asks
returns-in_err-admit-clause-asks g c =
    asks_nothing (home_of c.args.n).unit (home_of c.args.n).page c.args.self.now (g.C.Chip.told c.args.chip.now)

pub returns-in_err-bring-clause-fetches : goal.returns-in_err-bring-clause-fetches
returns-in_err-bring-clause-fetches g c =
    let store = c.args.self.now in
    let old = g.C.Chip.told c.args.chip.now in
    let refusal = refuses_share (limits_of_store store) (state_of store.transactions.sessions)
    c.args.s c.args.n in
    let early = early_fault (entry_fault store) refusal in
    let none : early ≡ None =
    ap (early_fault (entry_fault store)) (sym c.refuses_share.ensures)
    ∙ sym c.in_ok-admit.ensures in
    let after = g.C.Chip.told c.bring.new.chip in
    let e = err_from_is_err_and c.from_residual-in_err-bring.result
    c.from_residual-in_err-bring.ensures.1 in
    rw (e.1 ∙ ap Err e.2) (failed_fetches early (λ state. after_share state c.args.s c.args.n)
    c.args.n store old
    c.in_err-bring.field-0.0 c.bring.new.self after none c.in_err-bring.ensures.fetches)

pub returns-in_err-bring-clause-looks : goal.returns-in_err-bring-clause-looks
returns-in_err-bring-clause-looks g c = λ found.
    let store = c.args.self.now in
    let old = g.C.Chip.told c.args.chip.now in
    let refusal = refuses_share (limits_of_store store) (state_of store.transactions.sessions)
    c.args.s c.args.n in
    let early = early_fault (entry_fault store) refusal in
    let none : early ≡ None =
    ap (early_fault (entry_fault store)) (sym c.refuses_share.ensures)
    ∙ sym c.in_ok-admit.ensures in
    let after = g.C.Chip.told c.bring.new.chip in
    let e = err_from_is_err_and c.from_residual-in_err-bring.result
    c.from_residual-in_err-bring.ensures.1 in
    rw (e.1 ∙ ap Err e.2) (looks_answered early (λ state. after_share state c.args.s c.args.n)
    c.args.n store old (Err c.in_err-bring.field-0.0) c.bring.new.self after
    (failed_fetches early (λ state. after_share state c.args.s c.args.n) c.args.n store old
    c.in_err-bring.field-0.0 c.bring.new.self after none c.in_err-bring.ensures.fetches) found)

pub share-requires-clause-unrefused : goal.share-requires-clause-unrefused
share-requires-clause-unrefused g c =
    let store = c.args.self.now in
    let old = g.C.Chip.told c.args.chip.now in
    let refusal = refuses_share (limits_of_store store) (state_of store.transactions.sessions)
    c.args.s c.args.n in
    let early = early_fault (entry_fault store) refusal in
    let none : early ≡ None =
    ap (early_fault (entry_fault store)) (sym c.refuses_share.ensures)
    ∙ sym c.in_ok-admit.ensures in
    ap (λ (slots : SessionSlots). locks.refuses_share slots c.args.s c.args.n) c.bring.ensures.sessions
    ∙ (passed_shares store.units store.transactions.sessions c.args.s c.args.n
    (let_in store refusal none).2).1

pub returns-clause-fetches : goal.returns-clause-fetches
returns-clause-fetches g c =
    let store = c.args.self.now in
    let old = g.C.Chip.told c.args.chip.now in
    let refusal = refuses_share (limits_of_store store) (state_of store.transactions.sessions)
    c.args.s c.args.n in
    let early = early_fault (entry_fault store) refusal in
    let none : early ≡ None =
    ap (early_fault (entry_fault store)) (sym c.refuses_share.ensures)
    ∙ sym c.in_ok-admit.ensures in
    let after = g.C.Chip.told c.bring.new.chip in
    shared_fetches early (λ state. after_share state c.args.s c.args.n) c.args.n store
    c.bring.new.self c.share.new.self old after none c.in_ok-bring.ensures.fetches
    c.share.ensures.turns c.share.ensures.pages

pub returns-clause-looks : goal.returns-clause-looks
returns-clause-looks g c = λ found.
    let store = c.args.self.now in
    let old = g.C.Chip.told c.args.chip.now in
    let refusal = refuses_share (limits_of_store store) (state_of store.transactions.sessions)
    c.args.s c.args.n in
    let early = early_fault (entry_fault store) refusal in
    let none : early ≡ None =
    ap (early_fault (entry_fault store)) (sym c.refuses_share.ensures)
    ∙ sym c.in_ok-admit.ensures in
    let after = g.C.Chip.told c.bring.new.chip in
    looks_answered early (λ state. after_share state c.args.s c.args.n) c.args.n store old (Ok tt)
    (record c.bring.new.self { transactions = c.share.new.self }) after
    (shared_fetches early (λ state. after_share state c.args.s c.args.n) c.args.n store
    c.bring.new.self c.share.new.self old after none c.in_ok-bring.ensures.fetches
    c.share.ensures.turns c.share.ensures.pages) found

pub returns-clause-session : goal.returns-clause-session
returns-clause-session g c =
    let store = c.args.self.now in
    let old = g.C.Chip.told c.args.chip.now in
    let refusal = refuses_share (limits_of_store store) (state_of store.transactions.sessions)
    c.args.s c.args.n in
    let early = early_fault (entry_fault store) refusal in
    let none : early ≡ None =
    ap (early_fault (entry_fault store)) (sym c.refuses_share.ensures)
    ∙ sym c.in_ok-admit.ensures in
    record {
      session = (passed_shares store.units store.transactions.sessions c.args.s c.args.n
          (let_in store refusal none).2).0.session;
      number = c.share.ensures.same
          ∙ ap (λ (slots : SessionSlots). number_of slots c.args.s) c.bring.ensures.sessions;
    }
