use Rattle.std.proofs.Common.{◌≡◌, ◌∙◌, None, sym, ap, subst, IsSome, Some, Err, refl}
use Rattle.std.proofs.lemmas.Result.{err_from_is_err_and}
use Rattle.store_laws.specs.Frames.{Frames}
use Rattle.ipl_store.specs.Calls.{early_fault, down_fault, refuses_release}
use Rattle.ipl_store.proofs.CallLemmas.{let_in_down, idle_calls, calls_refused, ended_unworn}
use Rattle.ipl_store.proofs.HoldLemmas.{repooled_calls}
use Rattle.ipl_store.proofs.store.Store.release.Goals as goal

pub returns-clause-calls : goal.returns-clause-calls
returns-clause-calls g c =
    let store = c.args.self.now in
    let pool = store.transactions.pages.pool in
    let refusal = refuses_release store.units pool c.args.unit c.args.page in
    let early = early_fault (down_fault store) refusal in
    let none : early ≡ None =
    ap (early_fault (down_fault store)) (sym c.refuses_release.ensures.test)
    ∙ sym c.in_ok-admit_end.ensures in
    let told = g.C.Chip.told c.args._chip.now in
    let (up, free) = let_in_down store refusal none in
    repooled_calls early (λ state. state) 0 store told store c.let_go.new.self told none
    c.let_go.ensures.pool (idle_calls 0 store told early c.requires.sound up none)

pub returns-in_err-admit_end-clause-framed : goal.returns-in_err-admit_end-clause-framed
returns-in_err-admit_end-clause-framed g c = λ u page is. is

pub returns-clause-framed : goal.returns-clause-framed
returns-clause-framed g c = λ u page is.
    subst (λ (f : Frames). IsSome (f u page)) (sym c.let_go.ensures.pool.frames) is

pub returns-in_err-admit_end-clause-calls : goal.returns-in_err-admit_end-clause-calls
returns-in_err-admit_end-clause-calls g c =
    let store = c.args.self.now in
    let refusal = refuses_release store.units store.transactions.pages.pool c.args.unit c.args.page in
    let early = early_fault (down_fault store) refusal in
    let fault = c.in_err-admit_end.field-0.0 in
    let is : early ≡ Some fault =
    ap (early_fault (down_fault store)) (sym c.refuses_release.ensures.test) ∙ sym c.in_err-admit_end.ensures in
    let e = err_from_is_err_and c.from_residual.result c.from_residual.ensures.1 in
    rw (e.1 ∙ ap Err e.2) (calls_refused early (λ state. state) 0 store
    (g.C.Chip.told c.args._chip.now) (Err fault) fault is (ended_unworn store refusal fault is) refl
    c.requires.sound)
