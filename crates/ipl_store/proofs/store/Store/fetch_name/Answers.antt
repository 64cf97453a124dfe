use Rattle.std.proofs.Common.{◌≡◌, ◌∙◌, None, Some, Err, sym, ap}
use Rattle.std.proofs.lemmas.Result.{err_from_is_err_and}
use Rattle.ipl_base.specs.Places.{home_of}
use Rattle.ipl_store.specs.Calls.{early_fault, entry_fault, refuses_name, limits_of_store}
use Rattle.ipl_store.proofs.CallLemmas.{early_unworn}
use Rattle.ipl_store.proofs.ShownLemmas.{looks_answered, let_in_fetches, refused_fetches, asks_nothing}
use Rattle.ipl_store.proofs.store.Store.fetch_name.Goals as goal

pub returns-in_err-admit-clause-fetches : goal.returns-in_err-admit-clause-fetches
returns-in_err-admit-clause-fetches g c =
    let store = c.args.self.now in
    let old = g.C.Chip.told c.args.chip.now in
    let refusal = refuses_name (limits_of_store store) c.args.n in
    let early = early_fault (entry_fault store) refusal in
    let fault = c.in_err-admit.field-0.0 in
    let is : early ≡ Some fault =
    ap (early_fault (entry_fault store)) (sym c.refuses_name.ensures)
    ∙ sym c.in_err-admit.ensures in
    let e = err_from_is_err_and c.from_residual.result c.from_residual.ensures.1 in
    rw (e.1 ∙ ap Err e.2)
    (refused_fetches early (λ state. state) c.args.n store old fault is
    (early_unworn store refusal fault is) c.requires.sound)

pub returns-in_err-admit-clause-looks : goal.returns-in_err-admit-clause-looks
returns-in_err-admit-clause-looks g c = λ found.
    let store = c.args.self.now in
    let old = g.C.Chip.told c.args.chip.now in
    let refusal = refuses_name (limits_of_store store) c.args.n in
    let early = early_fault (entry_fault store) refusal in
    let fault = c.in_err-admit.field-0.0 in
    let is : early ≡ Some fault =
    ap (early_fault (entry_fault store)) (sym c.refuses_name.ensures)
    ∙ sym c.in_err-admit.ensures in
    let e = err_from_is_err_and c.from_residual.result c.from_residual.ensures.1 in
    rw (e.1 ∙ ap Err e.2) (looks_answered early (λ state. state) c.args.n store old (Err fault)
    store old
    (refused_fetches early (λ state. state) c.args.n store old fault is
    (early_unworn store refusal fault is) c.requires.sound) found)

pub returns-in_err-admit-clause-asks : goal.returns-in_err-admit-clause-asks
returns-in_err-admit-clause-asks g c =
    asks_nothing (home_of c.args.n).unit (home_of c.args.n).page c.args.self.now (g.C.Chip.told c.args.chip.now)

pub returns-clause-fetches : goal.returns-clause-fetches
returns-clause-fetches g c =
    let store = c.args.self.now in
    let old = g.C.Chip.told c.args.chip.now in
    let refusal = refuses_name (limits_of_store store) c.args.n in
    let early = early_fault (entry_fault store) refusal in
    let none : early ≡ None =
    ap (early_fault (entry_fault store)) (sym c.refuses_name.ensures) ∙ sym c.in_ok-admit.ensures in
    let_in_fetches early (λ state. state) c.args.n store old c.bring.result c.bring.new.self
    (g.C.Chip.told c.bring.new.chip) none c.bring.ensures.fetches

pub returns-clause-looks : goal.returns-clause-looks
returns-clause-looks g c = λ found.
    let store = c.args.self.now in
    let old = g.C.Chip.told c.args.chip.now in
    let refusal = refuses_name (limits_of_store store) c.args.n in
    let early = early_fault (entry_fault store) refusal in
    let none : early ≡ None =
    ap (early_fault (entry_fault store)) (sym c.refuses_name.ensures) ∙ sym c.in_ok-admit.ensures in
    let after = g.C.Chip.told c.bring.new.chip in
    looks_answered early (λ state. state) c.args.n store old c.bring.result c.bring.new.self after
    (let_in_fetches early (λ state. state) c.args.n store old c.bring.result c.bring.new.self after
    none c.bring.ensures.fetches) found
