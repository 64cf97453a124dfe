use Rattle.std.proofs.Common.{◌≡◌, ◌∙◌, Bool, Some, None, Err, OnOk, is_ok, slice_index, sym, ap, subst, refl}
use Rattle.std.proofs.lemmas.Result.{err_from_is_err_and}
use Rattle.ipl_model.specs.Refusals.{refuses_merge}
use Rattle.unit_io.specs.Charts.{Charts}
use Rattle.unit_io.specs.Costs.{Spends}
use Rattle.place_taking.specs.Spending.{ErasesFor}
use Rattle.selective_merge.specs.Merging.{Merges, StaysMirrored}
use Rattle.page_frames.specs.declared.pages.Pages.{Pages}
use Rattle.page_frames.specs.Faulty.{StandsSurely}
use Rattle.page_frames.specs.Pages.{tables_in}
use Rattle.ipl_store.proofs.TurnLemmas.{tells_for}
use Rattle.ipl_store.specs.declared.store.Store.{Store}
use Rattle.ipl_store.specs.Calls.{early_fault, ends_worn_out, entry_fault, tells_wear, limits_of_store}
use Rattle.ipl_store.proofs.CallLemmas.{blamed_surely, early_unworn, let_in, pages_move, moved_calls, kept_holds, kept_framed, done_ends, ended_asks, same_answer, throughout_done, calls_refused}
use Rattle.ipl_store.proofs.MergeLemmas.{refused_merges}
use Rattle.page_frames.proofs.TellLemmas.{tells_ever}
use Rattle.ipl_store.proofs.store.Store.merge.Goals as goal

pub returns-clause-calls : goal.returns-clause-calls
returns-clause-calls g c =
    let store = c.args.self.now in
    let old = g.C.Chip.told c.args.chip.now in
    let after = g.C.Chip.told c.merge-done.new.chip in
    let refusal = refuses_merge (limits_of_store store) c.args.unit in
    let none : early_fault (entry_fault store) refusal ≡ None =
    ap (early_fault (entry_fault store)) (sym c.refuses_merge.ensures) ∙ sym c.in_ok-admit.ensures
    in
    let (up, few, free) = let_in store refusal none in
    moved_calls (λ state. state) 13 store
    (record store.transactions { pages = c.merge-done.new.self }) store.kept refl old after
    c.merge-done.result
    c.end.result c.end.new.self up c.requires.sound
    (pages_move 13 store.transactions c.merge-done.new.self old after c.merge-done.result
    (c.requires.sound.order up) c.merge-done.ensures.works.upholds c.merge-done.ensures.works.complete
    (tells_ever store.transactions.pages c.merge-done.new.self c.merge-done.result old after
    c.merge-done.ensures.works.faults))
    c.end.ensures.rest c.end.ensures.ends (early_fault (entry_fault store) refusal) none

pub returns-clause-holds : goal.returns-clause-holds
returns-clause-holds g c =
    let store = c.args.self.now in
    kept_holds store c.end.new.self (record store.transactions { pages = c.merge-done.new.self })
    store.kept c.end.ensures.rest c.merge-done.ensures.works.upholds.pins

pub returns-in_err-admit-clause-framed : goal.returns-in_err-admit-clause-framed
returns-in_err-admit-clause-framed g c = λ u page is. is

pub returns-clause-framed : goal.returns-clause-framed
returns-clause-framed g c =
    let store = c.args.self.now in
    kept_framed store c.end.new.self (record store.transactions { pages = c.merge-done.new.self })
    store.kept c.end.ensures.rest c.merge-done.ensures.framed

pub returns-clause-merges : goal.returns-clause-merges
returns-clause-merges g c =
    let store = c.args.self.now in
    let old = g.C.Chip.told c.args.chip.now in
    let after = g.C.Chip.told c.merge-done.new.chip in
    let t = tables_in store.transactions.pages in
    let pages = c.merge-done.new.self in
    done_ends
    (Charts (Merges old.places c.args.unit t (tables_in c.end.new.self.transactions.pages)) old after)
    c.merge-done.result store.down c.end.new.self.down c.end.result c.end.ensures.ends
    (subst (λ (p : Pages). OnOk c.merge-done.result
    (Charts (Merges old.places c.args.unit t (tables_in p)) old after))
    (sym (ap (λ (s : Store). s.transactions.pages) c.end.ensures.rest))
    (throughout_done (Merges old.places c.args.unit t (tables_in pages))
    (StaysMirrored old.places t (tables_in pages)) c.merge-done.result old after
    c.merge-done.ensures.tells))

pub returns-in_err-admit-clause-costs : goal.returns-in_err-admit-clause-costs
returns-in_err-admit-clause-costs g c =
    let store = c.args.self.now in
    let d = store.transactions.pages.parts.directory in
    let refusal = refuses_merge (limits_of_store store) c.args.unit in
    let fault = c.in_err-admit.field-0.0 in
    let is : early_fault (entry_fault store) refusal ≡ Some fault =
    ap (early_fault (entry_fault store)) (sym c.refuses_merge.ensures) ∙ sym c.in_err-admit.ensures in
    let e = err_from_is_err_and c.from_residual.result c.from_residual.ensures.1 in
    rw (e.1 ∙ ap Err e.2) (refused_merges d (slice_index d.current c.args.unit) (tells_wear fault)
    (g.C.Chip.told c.args.chip.now) (early_unworn store refusal fault is))

pub returns-clause-costs : goal.returns-clause-costs
returns-clause-costs g c =
    let store = c.args.self.now in
    let old = g.C.Chip.told c.args.chip.now in
    let after = g.C.Chip.told c.merge-done.new.chip in
    let d = store.transactions.pages.parts.directory in
    let new = c.end.new.self.transactions.pages.parts.directory in
    subst (λ (b : Bool). Spends (ErasesFor d new 3 (slice_index new.current c.args.unit) b
    (ends_worn_out c.end.result)) old after)
    (same_answer c.merge-done.result store.down c.end.new.self.down c.end.result c.end.ensures.ends)
    (ended_asks (λ worn_out pages. Spends (ErasesFor d pages.parts.directory 3
    (slice_index pages.parts.directory.current c.args.unit) (is_ok c.merge-done.result) worn_out) old
    after) store c.end.new.self (record store.transactions { pages = c.merge-done.new.self })
    store.kept c.merge-done.result c.end.result c.end.ensures.rest c.end.ensures.ends
    c.merge-done.ensures.costs)

pub returns-in_err-admit-clause-calls : goal.returns-in_err-admit-clause-calls
returns-in_err-admit-clause-calls g c =
    let store = c.args.self.now in
    let refusal = refuses_merge (limits_of_store store) c.args.unit in
    let early = early_fault (entry_fault store) refusal in
    let fault = c.in_err-admit.field-0.0 in
    let is : early ≡ Some fault =
    ap (early_fault (entry_fault store)) (sym c.refuses_merge.ensures) ∙ sym c.in_err-admit.ensures in
    let e = err_from_is_err_and c.from_residual.result c.from_residual.ensures.1 in
    rw (e.1 ∙ ap Err e.2) (calls_refused early (λ state. state) 13 store
    (g.C.Chip.told c.args.chip.now) (Err fault) fault is (early_unworn store refusal fault is) refl
    c.requires.sound)

pub returns-in_err-admit-clause-surely : goal.returns-in_err-admit-clause-surely
returns-in_err-admit-clause-surely g c = λ none.
    let is = ap (early_fault (entry_fault c.args.self.now)) (sym c.refuses_merge.ensures)
    ∙ sym c.in_err-admit.ensures in
    let no : None ≡ Some c.in_err-admit.field-0.0 = sym none ∙ is in absurd (cc no)

pub returns-clause-surely : goal.returns-clause-surely
returns-clause-surely g c = λ none.
    let store = c.args.self.now in
    let old = g.C.Chip.told c.args.chip.now in
    let after = g.C.Chip.told c.merge-done.new.chip in
    let pages = c.merge-done.new.self in
    blamed_surely store c.end.new.self (record store.transactions { pages = pages }) store.kept old after
    c.merge-done.result c.end.result c.end.ensures.rest c.end.ensures.ends
    (tells_for (λ x it. StandsSurely x it (tables_in pages) after) store.transactions c.merge-done.result old
    pages c.merge-done.ensures.works.surely)
