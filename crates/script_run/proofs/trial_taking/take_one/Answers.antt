use Rattle.std.proofs.Common.{ℕ, List, Option, Ok, subst}
use Rattle.std.proofs.lemmas.Result.{err_from_is_err_and}
use Rattle.store_trait.specs.Keeping.{LooksUpFor}
use Rattle.script_run.proofs.CompleteLemmas.{completes_look}
use Rattle.script_run.proofs.TakenLemmas.{taken_one, taken_absent, lost_one}
use Rattle.script_run.proofs.trial_taking.take_one.Goals as goal

pub returns-in_err-value-clause-takes : goal.returns-in_err-value-clause-takes
returns-in_err-value-clause-takes g c = rw (← c.requires.1.1.1.places) (λ limits named state h holds.
    let stop = err_from_is_err_and c.from_residual.result c.from_residual.ensures.1 in
    rw stop.1 (lost_one (g.S.Store.keeping (g.D.Chip.told c.args.desk.now).places g.S.Store.all) limits state c.args.n c.args.store.now c.look_up.new.self h _ _ _
    (c.in_err-value.ensures.looks_up g.S.Store.all limits state h holds named)))

pub returns-in-Some-clause-takes : goal.returns-in-Some-clause-takes
returns-in-Some-clause-takes g c = rw (← c.requires.1.1.1.places) (λ limits named state h holds.
    let k = g.S.Store.keeping (g.D.Chip.told c.args.desk.now).places g.S.Store.all in
    let old = g.D.Chip.told c.args.desk.now in
    let new = g.D.Chip.told c.look_up.new.chip in
    let found = subst
    (λ (o : Option (List ℕ)). LooksUpFor k limits state c.args.n c.args.store.now h (Ok o) c.look_up.new.self old new)
    c.in-Some.is (c.in_ok-value.ensures.looks_up g.S.Store.all limits state h holds named) in
    taken_one k limits state c.args.n c.in-Some.value c.args.records.now c.take.new.self c.args.store.now
    c.look_up.new.self h old new found c.take.ensures.takes)

pub returns-in_default-clause-takes : goal.returns-in_default-clause-takes
returns-in_default-clause-takes g c = rw (← c.requires.1.1.1.places) (λ limits named state h holds.
    let k = g.S.Store.keeping (g.D.Chip.told c.args.desk.now).places g.S.Store.all in
    let old = g.D.Chip.told c.args.desk.now in
    let new = g.D.Chip.told c.look_up.new.chip in
    let found = subst
    (λ (o : Option (List ℕ)). LooksUpFor k limits state c.args.n c.args.store.now h (Ok o) c.look_up.new.self old new)
    c.in_default.is (c.in_ok-value.ensures.looks_up g.S.Store.all limits state h holds named) in
    taken_absent k limits state c.args.n c.args.records.now c.args.store.now c.look_up.new.self h old new found)

pub returns-in-Some-clause-completes : goal.returns-in-Some-clause-completes
returns-in-Some-clause-completes g c = rw (← c.requires.1.1.1.places) (λ known limits named keeps.
    completes_look (c.in_ok-value.ensures.looks_up known limits keeps.state keeps.history keeps.holds named))

pub returns-in_default-clause-completes : goal.returns-in_default-clause-completes
returns-in_default-clause-completes g c = rw (← c.requires.1.1.1.places) (λ known limits named keeps.
    completes_look (c.in_ok-value.ensures.looks_up known limits keeps.state keeps.history keeps.holds named))
