use Rattle.std.proofs.Common.{◌≡◌, ◌∙◌, None, Ok, Err, sym, ap, subst, arith, IsSome, Some, false, refl}
use Rattle.std.proofs.lemmas.Bool.{false≢true}
use Rattle.std.proofs.lemmas.Result.{err_from_is_err_and}
use Rattle.buffer_pool.proofs.HoldingLemmas.{as_many}
use Rattle.store_laws.specs.Frames.{Frames}
use Rattle.ipl_store.specs.declared.store.Store.{Store}
use Rattle.ipl_store.specs.Calls.{early_fault, entry_fault, refuses_hold, tells_wear}
use Rattle.ipl_store.specs.Shown.{CostsOnePage}
use Rattle.ipl_store.proofs.CallLemmas.{calls_refused, early_unworn, let_in, let_in_calls, idle_calls}
use Rattle.page_frames.proofs.UseLemmas.{none_leaves, stays_for, framed_then}
use Rattle.ipl_store.proofs.HoldLemmas.{holds_then, holds_again, held_on, held_before, held_framed, passed_hold, repooled_calls, repooled_framed}
use Rattle.ipl_store.proofs.ShownLemmas.{asks_nothing, costs_nothing}
use Rattle.ipl_store.proofs.store.Store.hold.Goals as goal

pub returns-then-is_held-clause-calls : goal.returns-then-is_held-clause-calls
returns-then-is_held-clause-calls g c =
    let store = c.args.self.now in
    let pool = store.transactions.pages.pool in
    let refusal = refuses_hold store.units pool c.args.unit c.args.page in
    let early = early_fault (entry_fault store) refusal in
    let none : early ≡ None =
    ap (early_fault (entry_fault store)) (sym c.refuses_hold.ensures) ∙ sym c.in_ok-admit.ensures in
    let (up, few, free) = let_in store refusal none in
    let told = g.C.Chip.told c.args.chip.now in
    repooled_calls early (λ state. state) 14 store told store c.use_held.new.self told none
    c.use_held.ensures.pool (idle_calls 14 store told early c.requires.sound up none)

pub use_held-requires-clause-rest : goal.use_held-requires-clause-rest
use_held-requires-clause-rest g c =
    let store = c.args.self.now in
    let refusal = refuses_hold store.units store.transactions.pages.pool c.args.unit
    c.args.page in
    let none : early_fault (entry_fault store) refusal ≡ None =
    ap (early_fault (entry_fault store)) (sym c.refuses_hold.ensures) ∙ sym c.in_ok-admit.ensures in
    (c.requires.sound.order (let_in store refusal none).0).ready.rest

pub use_held-requires-clause-held : goal.use_held-requires-clause-held
use_held-requires-clause-held g c = c.if-is_held.ensures.held.0 refl

pub returns-then-is_held-clause-holds : goal.returns-then-is_held-clause-holds
returns-then-is_held-clause-holds g c =
    let store = c.args.self.now in
    let new = c.use_held.new.self in
    let keeps = c.use_held.ensures.holds in
    holds_then store new new c.args.unit c.args.page keeps
    (holds_again new c.args.unit c.args.page (held_on store.transactions.pages.pool
    new.transactions.pages.pool keeps c.args.unit c.args.page (c.if-is_held.ensures.held.0 refl)))

pub returns-in_err-admit-clause-again : goal.returns-in_err-admit-clause-again
returns-in_err-admit-clause-again g c = λ held.
    let e = err_from_is_err_and c.from_residual.result c.from_residual.ensures.1 in
    rw e.1 (refl, refl)

pub returns-then-is_held-clause-again : goal.returns-then-is_held-clause-again
returns-then-is_held-clause-again g c = λ held.
    ((c.use_held.ensures.pool.rest, c.use_held.ensures.uses), refl)

pub returns-in_err-bring_page-clause-again : goal.returns-in_err-bring_page-clause-again
returns-in_err-bring_page-clause-again g c = λ held.
    absurd (false≢true (c.if-is_held.ensures.test ∙ held))

pub returns-clause-again : goal.returns-clause-again
returns-clause-again g c = λ held. absurd (false≢true (c.if-is_held.ensures.test ∙ held))

pub returns-in_err-bring_page-clause-calls : goal.returns-in_err-bring_page-clause-calls
returns-in_err-bring_page-clause-calls g c =
    let store = c.args.self.now in
    let pool = store.transactions.pages.pool in
    let refusal = refuses_hold store.units pool c.args.unit c.args.page in
    let early = early_fault (entry_fault store) refusal in
    let none : early ≡ None =
    ap (early_fault (entry_fault store)) (sym c.refuses_hold.ensures) ∙ sym c.in_ok-admit.ensures in
    let e = err_from_is_err_and c.from_residual-in_err-bring_page.result
    c.from_residual-in_err-bring_page.ensures.1 in
    rw (e.1 ∙ ap Err e.2) (let_in_calls early (λ state. state) 14 store
    (g.C.Chip.told c.args.chip.now) (Err c.in_err-bring_page.field-0.0) c.bring_page.new.self
    (g.C.Chip.told c.bring_page.new.chip) none c.in_err-bring_page.ensures.calls)

pub returns-clause-calls : goal.returns-clause-calls
returns-clause-calls g c =
    let store = c.args.self.now in
    let pool = store.transactions.pages.pool in
    let refusal = refuses_hold store.units pool c.args.unit c.args.page in
    let early = early_fault (entry_fault store) refusal in
    let none : early ≡ None =
    ap (early_fault (entry_fault store)) (sym c.refuses_hold.ensures) ∙ sym c.in_ok-admit.ensures in
    repooled_calls early (λ state. state) 14 store (g.C.Chip.told c.args.chip.now)
    c.bring_page.new.self c.keep.new.self (g.C.Chip.told c.bring_page.new.chip) none
    c.keep.ensures.pool (let_in_calls early (λ state. state) 14 store
    (g.C.Chip.told c.args.chip.now) (Ok tt) c.bring_page.new.self
    (g.C.Chip.told c.bring_page.new.chip) none c.in_ok-bring_page.ensures.calls)

pub returns-clause-holds : goal.returns-clause-holds
returns-clause-holds g c = holds_then c.args.self.now c.bring_page.new.self c.keep.new.self
    c.args.unit c.args.page c.bring_page.ensures.holds c.keep.ensures.holds

pub keep-requires-clause-free : goal.keep-requires-clause-free
keep-requires-clause-free g c = λ held. absurd (false≢true (c.if-is_held.ensures.held.1
    (held_before c.args.self.now.transactions.pages.pool
    c.bring_page.new.self.transactions.pages.pool c.bring_page.ensures.holds c.args.unit
    c.args.page held)))

pub keep-requires-clause-few : goal.keep-requires-clause-few
keep-requires-clause-few g c =
    let store = c.args.self.now in
    let pool = store.transactions.pages.pool in
    let made = c.requires.sound.made in
    let refusal = refuses_hold store.units pool c.args.unit c.args.page in
    let none : early_fault (entry_fault store) refusal ≡ None =
    ap (early_fault (entry_fault store)) (sym c.refuses_hold.ensures) ∙ sym c.in_ok-admit.ensures in
    let room = passed_hold store.units pool c.args.unit c.args.page
    (omega (arith, made.frames, made.two)) (let_in store refusal none).2
    (sym c.if-is_held.ensures.test) in
    omega (
      arith,
      room,
      c.bring_page.ensures.holds.limit,
      as_many pool c.bring_page.new.self.transactions.pages.pool c.bring_page.ensures.holds,
    )

pub returns-in_err-admit-clause-brings : goal.returns-in_err-admit-clause-brings
returns-in_err-admit-clause-brings g c =
    let e = err_from_is_err_and c.from_residual.result c.from_residual.ensures.1 in
    rw (e.1 ∙ ap Err e.2) (record {
      framed = tt;
      used = tt;
      stays = none_leaves c.args.unit c.args.page c.args.self.now.transactions.pages;
    })

pub returns-then-is_held-clause-brings : goal.returns-then-is_held-clause-brings
returns-then-is_held-clause-brings g c =
    let store = c.args.self.now in
    let is = c.use_held.ensures in
    let framed = repooled_framed store c.use_held.new.self is.pool in record {
      framed = framed c.args.unit c.args.page (held_framed store.transactions.pages.pool c.args.unit
          c.args.page (sym c.if-is_held.ensures.test));
      used = is.used;
      stays = stays_for c.args.unit c.args.page store.transactions.pages
          c.use_held.new.self.transactions.pages framed is.others;
    }

pub returns-in_err-bring_page-clause-brings : goal.returns-in_err-bring_page-clause-brings
returns-in_err-bring_page-clause-brings g c =
    let e = err_from_is_err_and c.from_residual-in_err-bring_page.result
    c.from_residual-in_err-bring_page.ensures.1 in
    rw (e.1 ∙ ap Err e.2) c.in_err-bring_page.ensures.brings

pub returns-clause-brings : goal.returns-clause-brings
returns-clause-brings g c =
    let brought = c.in_ok-bring_page.ensures.brings in record {
      framed = subst (λ (f : Frames). IsSome (f c.args.unit c.args.page)) (sym c.keep.ensures.pool.frames)
          brought.framed;
      used = c.keep.ensures.used;
      stays = framed_then c.args.unit c.args.page c.args.self.now.transactions.pages
          c.bring_page.new.self.transactions.pages c.keep.new.self.transactions.pages brought.stays
          (repooled_framed c.bring_page.new.self c.keep.new.self c.keep.ensures.pool)
          c.keep.ensures.others;
    }

pub returns-in_err-admit-clause-calls : goal.returns-in_err-admit-clause-calls
returns-in_err-admit-clause-calls g c =
    let store = c.args.self.now in
    let refusal = refuses_hold store.units store.transactions.pages.pool c.args.unit
    c.args.page in
    let early = early_fault (entry_fault store) refusal in
    let fault = c.in_err-admit.field-0.0 in
    let is : early ≡ Some fault =
    ap (early_fault (entry_fault store)) (sym c.refuses_hold.ensures) ∙ sym c.in_err-admit.ensures in
    let e = err_from_is_err_and c.from_residual.result c.from_residual.ensures.1 in
    rw (e.1 ∙ ap Err e.2) (calls_refused early (λ state. state) 14 store
    (g.C.Chip.told c.args.chip.now) (Err fault) fault is (early_unworn store refusal fault is) refl
    c.requires.sound)

pub returns-in_err-admit-clause-asks : goal.returns-in_err-admit-clause-asks
returns-in_err-admit-clause-asks g c =
    asks_nothing c.args.unit c.args.page c.args.self.now (g.C.Chip.told c.args.chip.now)

pub returns-then-is_held-clause-asks : goal.returns-then-is_held-clause-asks
returns-then-is_held-clause-asks g c =
    asks_nothing c.args.unit c.args.page c.args.self.now (g.C.Chip.told c.args.chip.now)

pub returns-in_err-bring_page-clause-asks : goal.returns-in_err-bring_page-clause-asks
returns-in_err-bring_page-clause-asks g c = c.in_err-bring_page.ensures.asks

pub returns-clause-asks : goal.returns-clause-asks
returns-clause-asks g c = c.in_ok-bring_page.ensures.asks

pub returns-in_err-admit-clause-costs : goal.returns-in_err-admit-clause-costs
returns-in_err-admit-clause-costs g c =
    let store = c.args.self.now in
    let refusal = refuses_hold store.units store.transactions.pages.pool c.args.unit c.args.page in
    let fault = c.in_err-admit.field-0.0 in
    let is : early_fault (entry_fault store) refusal ≡ Some fault =
    ap (early_fault (entry_fault store)) (sym c.refuses_hold.ensures) ∙ sym c.in_err-admit.ensures in
    let e = err_from_is_err_and c.from_residual.result c.from_residual.ensures.1 in
    rw (e.1 ∙ ap Err e.2) (costs_nothing store (tells_wear fault) (g.C.Chip.told c.args.chip.now)
    (early_unworn store refusal fault is))

pub returns-then-is_held-clause-costs : goal.returns-then-is_held-clause-costs
returns-then-is_held-clause-costs g c =
    let store = c.args.self.now in
    let told = g.C.Chip.told c.args.chip.now in
    subst (λ (s : Store). CostsOnePage false store s told told)
    (sym c.use_held.ensures.pool.rest) (costs_nothing store false told refl)

pub returns-in_err-bring_page-clause-costs : goal.returns-in_err-bring_page-clause-costs
returns-in_err-bring_page-clause-costs g c =
    let e = err_from_is_err_and c.from_residual-in_err-bring_page.result
    c.from_residual-in_err-bring_page.ensures.1 in
    rw (e.1 ∙ ap Err e.2) c.in_err-bring_page.ensures.costs

pub returns-clause-costs : goal.returns-clause-costs
returns-clause-costs g c =
    let store = c.args.self.now in
    let old = g.C.Chip.told c.args.chip.now in
    let after = g.C.Chip.told c.bring_page.new.chip in
    subst (λ (s : Store). CostsOnePage false store s old after) (sym c.keep.ensures.pool.rest)
    c.in_ok-bring_page.ensures.costs
