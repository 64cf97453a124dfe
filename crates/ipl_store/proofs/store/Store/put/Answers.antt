use Rattle.std.proofs.Common.{◌≡◌, ◌∙◌, List, ℕ, Some, None, Ok, false, sym, ap, subst, Err}
use Rattle.std.proofs.lemmas.Result.{err_from_is_err_and}
use Rattle.record_locks.specs.Held.{SessionSlots, peaks_in}
use Rattle.store_laws.specs.Room.{overfills_at}
use Rattle.store_laws.specs.Refusals.{sessions_refuse_put}
use Rattle.ipl_store.specs.Calls.{early_fault, entry_fault, limits_of_store}
use Rattle.ipl_store.specs.Puts.{found_room, put_fault}
use Rattle.ipl_store.proofs.CallLemmas.{let_in}
use Rattle.ipl_store.proofs.PutLemmas.{Puts, HasWritten, refused_put, unbrought_put, full_put, written_put}
use Rattle.ipl_store.proofs.store.Store.put.Given.{Over}
use Rattle.ipl_store.proofs.store.Store.put.Goals as goal

-- ---- it is refused early

refused : (g : Over) (c : goal.After-from_residual g)
    → Puts c.args.s c.args.n c.args.value.now c.args.self.now (g.C.Chip.told c.args.chip.now)
    (found_room c.from_residual.result) c.args.self.now (g.C.Chip.told c.args.chip.now)
refused g c =
    let store = c.args.self.now in
    let fault = c.in_err-admit.field-0.0 in
    let is : put_fault store c.args.s c.args.n c.args.value.now ≡ Some fault =
    ap (early_fault (entry_fault store)) (sym c.refuses_put.ensures) ∙ sym c.in_err-admit.ensures in
    let e = err_from_is_err_and c.from_residual.result c.from_residual.ensures.1 in
    rw (e.1 ∙ ap Err e.2) (refused_put c.args.s c.args.n c.args.value.now store
    (g.C.Chip.told c.args.chip.now) fault is c.requires.sound)

pub returns-in_err-admit-clause-calls : goal.returns-in_err-admit-clause-calls
returns-in_err-admit-clause-calls g c = (refused g c).calls

pub returns-in_err-admit-clause-steps : goal.returns-in_err-admit-clause-steps
returns-in_err-admit-clause-steps g c = (refused g c).steps

pub returns-in_err-admit-clause-full : goal.returns-in_err-admit-clause-full
returns-in_err-admit-clause-full g c = (refused g c).full

pub returns-in_err-admit-clause-holds : goal.returns-in_err-admit-clause-holds
returns-in_err-admit-clause-holds g c = (refused g c).holds

pub returns-in_err-admit-clause-framed : goal.returns-in_err-admit-clause-framed
returns-in_err-admit-clause-framed g c = (refused g c).framed

pub returns-in_err-admit-clause-used : goal.returns-in_err-admit-clause-used
returns-in_err-admit-clause-used g c = (refused g c).used

pub returns-in_err-admit-clause-stays : goal.returns-in_err-admit-clause-stays
returns-in_err-admit-clause-stays g c = (refused g c).stays

pub returns-in_err-admit-clause-asks : goal.returns-in_err-admit-clause-asks
returns-in_err-admit-clause-asks g c = (refused g c).asks

-- ---- its page isn't brought

unbrought : (g : Over) (c : goal.After-from_residual-in_err-bring g)
    → Puts c.args.s c.args.n c.args.value.now c.args.self.now (g.C.Chip.told c.args.chip.now)
    (found_room c.from_residual-in_err-bring.result) c.bring.new.self
    (g.C.Chip.told c.bring.new.chip)
unbrought g c =
    let store = c.args.self.now in
    let none : put_fault store c.args.s c.args.n c.args.value.now ≡ None =
    ap (early_fault (entry_fault store)) (sym c.refuses_put.ensures) ∙ sym c.in_ok-admit.ensures in
    let e = err_from_is_err_and c.from_residual-in_err-bring.result
    c.from_residual-in_err-bring.ensures.1 in
    rw (e.1 ∙ ap Err e.2) (unbrought_put c.args.s c.args.n c.args.value.now store
    (g.C.Chip.told c.args.chip.now) c.in_err-bring.field-0.0 c.bring.new.self
    (g.C.Chip.told c.bring.new.chip) none c.in_err-bring.ensures.fetches
    c.in_err-bring.ensures.asks)

pub returns-in_err-bring-clause-calls : goal.returns-in_err-bring-clause-calls
returns-in_err-bring-clause-calls g c = (unbrought g c).calls

pub returns-in_err-bring-clause-steps : goal.returns-in_err-bring-clause-steps
returns-in_err-bring-clause-steps g c = (unbrought g c).steps

pub returns-in_err-bring-clause-full : goal.returns-in_err-bring-clause-full
returns-in_err-bring-clause-full g c = (unbrought g c).full

pub returns-in_err-bring-clause-holds : goal.returns-in_err-bring-clause-holds
returns-in_err-bring-clause-holds g c = (unbrought g c).holds

pub returns-in_err-bring-clause-framed : goal.returns-in_err-bring-clause-framed
returns-in_err-bring-clause-framed g c = (unbrought g c).framed

pub returns-in_err-bring-clause-used : goal.returns-in_err-bring-clause-used
returns-in_err-bring-clause-used g c = (unbrought g c).used

pub returns-in_err-bring-clause-stays : goal.returns-in_err-bring-clause-stays
returns-in_err-bring-clause-stays g c = (unbrought g c).stays

pub returns-in_err-bring-clause-asks : goal.returns-in_err-bring-clause-asks
returns-in_err-bring-clause-asks g c = (unbrought g c).asks

-- ---- its page is full

full : (g : Over) (c : goal.Then-overfills g)
    → Puts c.args.s c.args.n c.args.value.now c.args.self.now (g.C.Chip.told c.args.chip.now)
    (Ok false) c.bring.new.self (g.C.Chip.told c.bring.new.chip)
full g c =
    let store = c.args.self.now in
    let none : put_fault store c.args.s c.args.n c.args.value.now ≡ None =
    ap (early_fault (entry_fault store)) (sym c.refuses_put.ensures) ∙ sym c.in_ok-admit.ensures in
    let brought = c.in_ok-bring.ensures.brought in
    full_put c.args.s c.args.n c.args.value.now store (g.C.Chip.told c.args.chip.now)
    c.bring.new.self (g.C.Chip.told c.bring.new.chip) none c.requires.sound
    c.in_ok-bring.ensures.fetches c.in_ok-bring.ensures.asks brought
    (ap (λ (slots : SessionSlots). overfills_at (peaks_in slots) c.args.n c.args.value.now
    brought.frame.values) (sym c.bring.ensures.sessions)
    ∙ sym (c.overfills.ensures.exact brought.frame brought.there) ∙ c.if-overfills.true)

pub returns-then-overfills-clause-calls : goal.returns-then-overfills-clause-calls
returns-then-overfills-clause-calls g c = (full g c).calls

pub returns-then-overfills-clause-steps : goal.returns-then-overfills-clause-steps
returns-then-overfills-clause-steps g c = (full g c).steps

pub returns-then-overfills-clause-full : goal.returns-then-overfills-clause-full
returns-then-overfills-clause-full g c = (full g c).full

pub returns-then-overfills-clause-holds : goal.returns-then-overfills-clause-holds
returns-then-overfills-clause-holds g c = (full g c).holds

pub returns-then-overfills-clause-framed : goal.returns-then-overfills-clause-framed
returns-then-overfills-clause-framed g c = (full g c).framed

pub returns-then-overfills-clause-used : goal.returns-then-overfills-clause-used
returns-then-overfills-clause-used g c = (full g c).used

pub returns-then-overfills-clause-stays : goal.returns-then-overfills-clause-stays
returns-then-overfills-clause-stays g c = (full g c).stays

pub returns-then-overfills-clause-asks : goal.returns-then-overfills-clause-asks
returns-then-overfills-clause-asks g c = (full g c).asks

-- ---- it is written

written : (g : Over) (c : goal.After-end g)
    → Puts c.args.s c.args.n c.args.value.now c.args.self.now (g.C.Chip.told c.args.chip.now)
    (found_room c.end.result) c.end.new.self (g.C.Chip.told c.write-done.new.chip)
written g c =
    let store = c.args.self.now in
    let slots = store.transactions.sessions in
    let bytes = c.args.value.now in
    let none : put_fault store c.args.s c.args.n bytes ≡ None =
    ap (early_fault (entry_fault store)) (sym c.refuses_put.ensures) ∙ sym c.in_ok-admit.ensures in
    let (up, few, free) = let_in store
    (sessions_refuse_put (limits_of_store store) slots c.args.s c.args.n bytes) none in
    let brought = c.in_ok-bring.ensures.brought in
    let between = g.C.Chip.told c.bring.new.chip in
    let after = g.C.Chip.told c.write-done.new.chip in
    let wrote = c.write-done.ensures in
    written_put c.args.s c.args.n bytes store (g.C.Chip.told c.args.chip.now) c.bring.new.self
    between c.write-done.result c.write-done.new.self after c.end.result c.end.new.self none up
    c.requires.sound c.in_ok-bring.ensures.fetches brought
    (ap (λ (k : SessionSlots). overfills_at (peaks_in k) c.args.n bytes brought.frame.values)
    (sym c.bring.ensures.sessions)
    ∙ sym (c.overfills.ensures.exact brought.frame brought.there) ∙ c.if-overfills.false)
    c.in-Some.ensures.some.1
    (subst (λ (b : List ℕ). HasWritten c.args.s c.args.n b c.bring.new.self.transactions between
    c.write-done.result c.write-done.new.self after) c.in-Some.ensures.some.0 (record {
      turns = wrote.turns;
      complete = wrote.fails.complete;
      faults = wrote.fails.faults;
      framed = wrote.frames.framed;
      used = wrote.frames.used;
      stays = wrote.frames.stays;
      asks = wrote.asks;
      sessions = wrote.sessions;
      idle = wrote.idle;
    })) c.end.ensures.rest c.end.ensures.ends

pub returns-clause-calls : goal.returns-clause-calls
returns-clause-calls g c = (written g c).calls

pub returns-clause-steps : goal.returns-clause-steps
returns-clause-steps g c = (written g c).steps

pub returns-clause-full : goal.returns-clause-full
returns-clause-full g c = (written g c).full

pub returns-clause-holds : goal.returns-clause-holds
returns-clause-holds g c = (written g c).holds

pub returns-clause-framed : goal.returns-clause-framed
returns-clause-framed g c = (written g c).framed

pub returns-clause-used : goal.returns-clause-used
returns-clause-used g c = (written g c).used

pub returns-clause-stays : goal.returns-clause-stays
returns-clause-stays g c = (written g c).stays

pub returns-clause-asks : goal.returns-clause-asks
returns-clause-asks g c = (written g c).asks
