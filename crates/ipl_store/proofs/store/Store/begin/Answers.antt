use Rattle.std.proofs.Common.{◌≡◌, ◌∙◌, None, sym, ap, arith, Some, Err, refl}
use Rattle.std.proofs.lemmas.Result.{err_from_is_err_and}
use Rattle.ipl_model.specs.Operations.{after_begin}
use Rattle.ipl_model.specs.Refusals.{refuses_begin}
use Rattle.record_locks.specs.Standing.{state_of}
use Rattle.ipl_store.specs.Calls.{early_fault, entry_fault, limits_of_store}
use Rattle.ipl_store.proofs.CallLemmas.{let_in, memory_calls, calls_refused, early_unworn}
use Rattle.ipl_store.proofs.store.Store.begin.Goals as goal

pub returns-clause-calls : goal.returns-clause-calls
returns-clause-calls g c =
    let store = c.args.self.now in
    let slots = store.transactions.sessions in
    let refusal = refuses_begin (limits_of_store store) (state_of slots) c.args.s in
    let none : early_fault (entry_fault store) refusal ≡ None =
    ap (early_fault (entry_fault store)) (sym c.refuses_begin.ensures)
    ∙ sym c.in_ok-admit.ensures in
    let (up, few, free) = let_in store refusal none in
    memory_calls (λ state. after_begin state c.args.s) 1 store c.begin.new.self
    (g.C.Chip.told c.args._chip.now) (early_fault (entry_fault store) refusal) c.requires.sound up
    c.begin.ensures.turns (omega (arith, c.begin.ensures.drawn))
    (omega (arith, c.begin.ensures.drawn)) none

pub returns-in_err-admit-clause-memory : goal.returns-in_err-admit-clause-memory
returns-in_err-admit-clause-memory g c =
    record { holds = search; framed = λ u page is. is; idle = refl }

pub returns-clause-memory : goal.returns-clause-memory
returns-clause-memory g c =
    record { holds = search; framed = c.begin.ensures.framed; idle = refl }

pub returns-clause-drawn : goal.returns-clause-drawn
returns-clause-drawn g c = c.begin.ensures.drawn

pub returns-in_err-admit-clause-calls : goal.returns-in_err-admit-clause-calls
returns-in_err-admit-clause-calls g c =
    let store = c.args.self.now in
    let refusal = refuses_begin (limits_of_store store) (state_of store.transactions.sessions) c.args.s in
    let early = early_fault (entry_fault store) refusal in
    let fault = c.in_err-admit.field-0.0 in
    let is : early ≡ Some fault =
    ap (early_fault (entry_fault store)) (sym c.refuses_begin.ensures) ∙ sym c.in_err-admit.ensures in
    let e = err_from_is_err_and c.from_residual.result c.from_residual.ensures.1 in
    rw (e.1 ∙ ap Err e.2) (calls_refused early (λ state. after_begin state c.args.s) 1 store
    (g.C.Chip.told c.args._chip.now) (Err fault) fault is (early_unworn store refusal fault is) refl
    c.requires.sound)
