use Rattle.std.proofs.Common.{◌≡◌, ◌∙◌, ◌^◌, [], ◌∷◌, Bool, Some, None, Err, refl, sym, ap, subst}
use Rattle.std.proofs.lemmas.Result.{err_from_is_err_and}
use Rattle.ipl_model.specs.Operations.{after_commit}
use Rattle.ipl_model.specs.Refusals.{refuses_end}
use Rattle.record_locks.specs.Standing.{state_of}
use Rattle.store_laws.proofs.RefusalLemmas.{one_is_open}
use Rattle.ipl_store.specs.Calls.{early_fault, entry_fault, limits_of_store}
use Rattle.ipl_store.proofs.CallLemmas.{early_unworn, let_in, turns_move, moved_calls, kept_holds, kept_framed, ended_asks, calls_refused}
use Rattle.ipl_store.specs.Costs.{CommitAsks}
use Rattle.ipl_store.proofs.CostLemmas.{empty_asks}
use Rattle.ipl_store.proofs.store.Store.commit.Goals as goal

pub commit-done-requires-clause-open : goal.commit-done-requires-clause-open
commit-done-requires-clause-open g c =
    let store = c.args.self.now in
    let slots = store.transactions.sessions in
    let refusal = refuses_end (limits_of_store store) (state_of slots) c.args.s in
    let none : early_fault (entry_fault store) refusal ≡ None =
    ap (early_fault (entry_fault store)) (sym c.refuses_end.ensures) ∙ sym c.in_ok-admit.ensures in
    let (up, few, free) = let_in store refusal none in
    one_is_open slots c.args.s (c.passing_laws.ensures.ends store.units slots c.args.s free)

pub returns-clause-calls : goal.returns-clause-calls
returns-clause-calls g c =
    let store = c.args.self.now in
    let old = g.C.Chip.told c.args.chip.now in
    let after = g.C.Chip.told c.commit-done.new.chip in
    let refusal = refuses_end (limits_of_store store) (state_of store.transactions.sessions)
    c.args.s
    in
    let early = early_fault (entry_fault store) refusal in
    let none : early ≡ None =
    ap (early_fault (entry_fault store)) (sym c.refuses_end.ensures) ∙ sym c.in_ok-admit.ensures in
    let (up, few, free) = let_in store refusal none in
    moved_calls (λ state. after_commit state c.args.s) (2 ^ 15) store c.commit-done.new.self
    c.commit-done.new.kept c.commit-done.ensures.numbers old after c.commit-done.result c.end.result c.end.new.self up
    c.requires.sound (turns_move (λ state. after_commit state c.args.s) (2 ^ 15)
    store.transactions c.commit-done.new.self old after c.commit-done.result
    c.commit-done.ensures.turns c.commit-done.ensures.complete
    c.commit-done.ensures.faults) c.end.ensures.rest
    c.end.ensures.ends early none

pub returns-clause-holds : goal.returns-clause-holds
returns-clause-holds g c = kept_holds c.args.self.now c.end.new.self c.commit-done.new.self
    c.commit-done.new.kept c.end.ensures.rest c.commit-done.ensures.turns.pins

pub returns-in_err-admit-clause-framed : goal.returns-in_err-admit-clause-framed
returns-in_err-admit-clause-framed g c = λ u page is. is

pub returns-clause-framed : goal.returns-clause-framed
returns-clause-framed g c = kept_framed c.args.self.now c.end.new.self c.commit-done.new.self
    c.commit-done.new.kept c.end.ensures.rest c.commit-done.ensures.framed

pub returns-in_err-admit-clause-asks : goal.returns-in_err-admit-clause-asks
returns-in_err-admit-clause-asks g c =
    let store = c.args.self.now in
    let told = g.C.Chip.told c.args.chip.now in
    let refusal = refuses_end (limits_of_store store) (state_of store.transactions.sessions)
    c.args.s in
    let fault = c.in_err-admit.field-0.0 in
    let is : early_fault (entry_fault store) refusal ≡ Some fault =
    ap (early_fault (entry_fault store)) (sym c.refuses_end.ensures) ∙ sym c.in_err-admit.ensures in
    let e = err_from_is_err_and c.from_residual.result c.from_residual.ensures.1 in
    rw (e.1 ∙ ap Err e.2) (subst (λ (b : Bool).
    CommitAsks store.transactions (c.args.s ∷ []) b store.transactions.pages told told)
    (sym (early_unworn store refusal fault is))
    (empty_asks store.transactions (c.args.s ∷ []) store.transactions.pages told refl))

pub returns-clause-asks : goal.returns-clause-asks
returns-clause-asks g c =
    let store = c.args.self.now in
    let old = g.C.Chip.told c.args.chip.now in
    let after = g.C.Chip.told c.commit-done.new.chip in
    ended_asks (λ worn_out pages.
    CommitAsks store.transactions (c.args.s ∷ []) worn_out pages old after) store c.end.new.self
    c.commit-done.new.self c.commit-done.new.kept c.commit-done.result c.end.result c.end.ensures.rest
    c.end.ensures.ends c.commit-done.ensures.asks

pub returns-in_err-admit-clause-calls : goal.returns-in_err-admit-clause-calls
returns-in_err-admit-clause-calls g c =
    let store = c.args.self.now in
    let refusal = refuses_end (limits_of_store store) (state_of store.transactions.sessions) c.args.s in
    let early = early_fault (entry_fault store) refusal in
    let fault = c.in_err-admit.field-0.0 in
    let is : early ≡ Some fault =
    ap (early_fault (entry_fault store)) (sym c.refuses_end.ensures) ∙ sym c.in_err-admit.ensures in
    let e = err_from_is_err_and c.from_residual.result c.from_residual.ensures.1 in
    rw (e.1 ∙ ap Err e.2) (calls_refused early (λ state. after_commit state c.args.s) (2 ^ 15) store
    (g.C.Chip.told c.args.chip.now) (Err fault) fault is (early_unworn store refusal fault is) refl
    c.requires.sound)
