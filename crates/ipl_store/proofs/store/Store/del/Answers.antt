use Rattle.std.proofs.Common.{◌≡◌, ◌∙◌, None, sym, ap, Some, Err, refl}
use Rattle.std.proofs.lemmas.Result.{err_from_is_err_and}
use Rattle.ipl_base.specs.Places.{home_of}
use Rattle.ipl_model.specs.Operations.{after_write}
use Rattle.store_laws.specs.Refusals.{sessions_refuse_del}
use Rattle.page_frames.proofs.UseLemmas.{none_leaves}
use Rattle.ipl_store.specs.Costs.{AsksToWrite}
use Rattle.ipl_store.specs.Calls.{early_fault, entry_fault, tells_wear, limits_of_store}
use Rattle.ipl_store.proofs.CallLemmas.{blamed_surely, calls_refused, early_unworn, let_in, writes_move, moved_calls, kept_holds, kept_for, ended_asks, ended_framed, ended_used}
use Rattle.ipl_store.proofs.ShownLemmas.{write_asks_nothing}
use Rattle.ipl_store.proofs.TurnLemmas.{ever_for}
use Rattle.ipl_store.proofs.store.Store.del.Goals as goal

pub returns-clause-calls : goal.returns-clause-calls
returns-clause-calls g c =
    let store = c.args.self.now in
    let old = g.C.Chip.told c.args.chip.now in
    let after = g.C.Chip.told c.write-done.new.chip in
    let refusal = sessions_refuse_del (limits_of_store store) store.transactions.sessions
    c.args.s c.args.n in
    let early = early_fault (entry_fault store) refusal in
    let none : early ≡ None =
    ap (early_fault (entry_fault store)) (sym c.refuses_del.ensures) ∙ sym c.in_ok-admit.ensures in
    let (up, few, free) = let_in store refusal none in
    moved_calls (λ state. after_write state c.args.s (c.args.n, None)) 14 store
    c.write-done.new.self store.kept refl old after c.write-done.result c.end.result c.end.new.self up
    c.requires.sound
    (writes_move (λ state. after_write state c.args.s (c.args.n, None)) 14 store.transactions
    c.write-done.new.self old after c.write-done.result c.write-done.ensures.turns
    c.write-done.ensures.fails.complete
    (ever_for store.transactions c.write-done.result old after c.write-done.new.self.pages
    c.write-done.ensures.fails.faults))
    c.end.ensures.rest c.end.ensures.ends early none

pub returns-clause-holds : goal.returns-clause-holds
returns-clause-holds g c = kept_holds c.args.self.now c.end.new.self c.write-done.new.self
    c.args.self.now.kept c.end.ensures.rest c.write-done.ensures.turns.pins

pub returns-clause-framed : goal.returns-clause-framed
returns-clause-framed g c = ended_framed (home_of c.args.n).unit (home_of c.args.n).page
    c.args.self.now c.end.new.self c.write-done.new.self c.args.self.now.kept c.write-done.result
    c.end.result c.end.ensures.rest c.end.ensures.ends c.write-done.ensures.frames.framed

pub returns-in_err-admit-clause-stays : goal.returns-in_err-admit-clause-stays
returns-in_err-admit-clause-stays g c =
    none_leaves (home_of c.args.n).unit (home_of c.args.n).page c.args.self.now.transactions.pages

pub returns-clause-stays : goal.returns-clause-stays
returns-clause-stays g c = kept_for (home_of c.args.n).unit (home_of c.args.n).page
    c.args.self.now c.end.new.self c.write-done.new.self c.args.self.now.kept c.end.ensures.rest
    c.write-done.ensures.frames.stays

pub returns-clause-used : goal.returns-clause-used
returns-clause-used g c = ended_used (home_of c.args.n).unit (home_of c.args.n).page
    c.args.self.now c.end.new.self c.write-done.new.self c.args.self.now.kept c.write-done.result
    c.end.result c.end.ensures.rest c.end.ensures.ends c.write-done.ensures.frames.used

pub returns-in_err-admit-clause-calls : goal.returns-in_err-admit-clause-calls
returns-in_err-admit-clause-calls g c =
    let store = c.args.self.now in
    let refusal = sessions_refuse_del (limits_of_store store) store.transactions.sessions
    c.args.s c.args.n in
    let early = early_fault (entry_fault store) refusal in
    let fault = c.in_err-admit.field-0.0 in
    let is : early ≡ Some fault =
    ap (early_fault (entry_fault store)) (sym c.refuses_del.ensures) ∙ sym c.in_err-admit.ensures in
    let e = err_from_is_err_and c.from_residual.result c.from_residual.ensures.1 in
    rw (e.1 ∙ ap Err e.2) (calls_refused early (λ state. after_write state c.args.s (c.args.n, None)) 14 store
    (g.C.Chip.told c.args.chip.now) (Err fault) fault is (early_unworn store refusal fault is) refl
    c.requires.sound)

pub returns-in_err-admit-clause-asks : goal.returns-in_err-admit-clause-asks
returns-in_err-admit-clause-asks g c =
    let store = c.args.self.now in
    let refusal = sessions_refuse_del (limits_of_store store) store.transactions.sessions
    c.args.s c.args.n in
    let fault = c.in_err-admit.field-0.0 in
    let is : early_fault (entry_fault store) refusal ≡ Some fault =
    ap (early_fault (entry_fault store)) (sym c.refuses_del.ensures) ∙ sym c.in_err-admit.ensures in
    let e = err_from_is_err_and c.from_residual.result c.from_residual.ensures.1 in
    rw (e.1 ∙ ap Err e.2) (write_asks_nothing c.args.n None (tells_wear fault)
    store.transactions.pages (g.C.Chip.told c.args.chip.now) (early_unworn store refusal fault is))

pub returns-clause-asks : goal.returns-clause-asks
returns-clause-asks g c =
    let store = c.args.self.now in
    let old = g.C.Chip.told c.args.chip.now in
    let after = g.C.Chip.told c.write-done.new.chip in
    ended_asks (λ worn_out pages.
    AsksToWrite c.args.n None worn_out store.transactions.pages pages old after) store c.end.new.self
    c.write-done.new.self store.kept c.write-done.result c.end.result c.end.ensures.rest
    c.end.ensures.ends c.write-done.ensures.asks

pub returns-in_err-admit-clause-surely : goal.returns-in_err-admit-clause-surely
returns-in_err-admit-clause-surely g c = λ none.
    let is = ap (early_fault (entry_fault c.args.self.now)) (sym c.refuses_del.ensures)
    ∙ sym c.in_err-admit.ensures in
    let no : None ≡ Some c.in_err-admit.field-0.0 = sym none ∙ is in absurd (cc no)

pub returns-clause-surely : goal.returns-clause-surely
returns-clause-surely g c = λ none.
    blamed_surely c.args.self.now c.end.new.self c.write-done.new.self c.args.self.now.kept
    (g.C.Chip.told c.args.chip.now) (g.C.Chip.told c.write-done.new.chip) c.write-done.result c.end.result
    c.end.ensures.rest c.end.ensures.ends c.write-done.ensures.fails.surely
