use Rattle.std.proofs.Common.{◌≡◌, ◌∙◌, None, sym, ap, arith, Some, Err, refl}
use Rattle.std.proofs.lemmas.Result.{err_from_is_err_and}
use Rattle.ipl_model.specs.Operations.{after_abort}
use Rattle.ipl_model.specs.Refusals.{refuses_end}
use Rattle.record_locks.specs.Standing.{state_of}
use Rattle.ipl_store.specs.Calls.{early_fault, down_fault, limits_of_store}
use Rattle.ipl_store.proofs.CallLemmas.{let_in_down, memory_calls, calls_refused, ended_unworn}
use Rattle.ipl_store.proofs.store.Store.abort.Goals as goal

pub returns-clause-calls : goal.returns-clause-calls
returns-clause-calls g c =
    let store = c.args.self.now in
    let slots = store.transactions.sessions in
    let refusal = refuses_end (limits_of_store store) (state_of slots) c.args.s in
    let none : early_fault (down_fault store) refusal ≡ None =
    ap (early_fault (down_fault store)) (sym c.refuses_end.ensures)
    ∙ sym c.in_ok-admit_end.ensures in
    let (up, free) = let_in_down store refusal none in
    memory_calls (λ state. after_abort state c.args.s) 0 store c.abort.new.self
    (g.C.Chip.told c.args._chip.now) (early_fault (down_fault store) refusal) c.requires.sound up
    c.abort.ensures.turns (omega (arith, c.abort.ensures.drawn))
    (omega (arith, c.abort.ensures.drawn)) none

pub returns-in_err-admit_end-clause-memory : goal.returns-in_err-admit_end-clause-memory
returns-in_err-admit_end-clause-memory g c =
    record { holds = search; framed = λ u page is. is; idle = refl }

pub returns-clause-memory : goal.returns-clause-memory
returns-clause-memory g c =
    record { holds = search; framed = c.abort.ensures.framed; idle = refl }

pub returns-in_err-admit_end-clause-calls : goal.returns-in_err-admit_end-clause-calls
returns-in_err-admit_end-clause-calls g c =
    let store = c.args.self.now in
    let refusal = refuses_end (limits_of_store store) (state_of store.transactions.sessions) c.args.s in
    let early = early_fault (down_fault store) refusal in
    let fault = c.in_err-admit_end.field-0.0 in
    let is : early ≡ Some fault =
    ap (early_fault (down_fault store)) (sym c.refuses_end.ensures) ∙ sym c.in_err-admit_end.ensures in
    let e = err_from_is_err_and c.from_residual.result c.from_residual.ensures.1 in
    rw (e.1 ∙ ap Err e.2) (calls_refused early (λ state. after_abort state c.args.s) 0 store
    (g.C.Chip.told c.args._chip.now) (Err fault) fault is (ended_unworn store refusal fault is) refl
    c.requires.sound)

pub returns-in_err-admit_end-clause-early : goal.returns-in_err-admit_end-clause-early
returns-in_err-admit_end-clause-early g c =
    let store = c.args.self.now in
    let refusal = refuses_end (limits_of_store store) (state_of store.transactions.sessions) c.args.s in
    let e = err_from_is_err_and c.from_residual.result c.from_residual.ensures.1 in
    rw (e.1 ∙ ap Err e.2)
    (ap (early_fault (down_fault store)) (sym c.refuses_end.ensures) ∙ sym c.in_err-admit_end.ensures)

pub returns-in_err-admit_end-clause-ended : goal.returns-in_err-admit_end-clause-ended
returns-in_err-admit_end-clause-ended g c =
    let e = err_from_is_err_and c.from_residual.result c.from_residual.ensures.1 in rw e.1 tt

pub returns-clause-ended : goal.returns-clause-ended
returns-clause-ended g c = c.abort.ensures.ended
