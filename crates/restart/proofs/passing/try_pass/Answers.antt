use Rattle.std.proofs.Common.{◌∙◌, ℕ, List, length, Err, sym, ap, subst}
use Rattle.std.proofs.lemmas.Result.{err_from_is_err_and}
use Rattle.selective_merge.specs.Moving.{tables_of}
use Rattle.restart.specs.Passing.{HasHeld}
use Rattle.restart.proofs.WalkLemmas.{walks_failed, walks_then}
use Rattle.restart.proofs.passing.try_pass.Goals as goal

pub returns-in_err-hold_stuck-clause-tries : goal.returns-in_err-hold_stuck-clause-tries
returns-in_err-hold_stuck-clause-tries g c = λ places x it t was.
    let e = err_from_is_err_and c.from_residual.result c.from_residual.ensures.1 in
    rw (e.1 ∙ ap Err e.2) (c.in_err-hold_stuck.ensures.holds places x it t
    (subst (λ (k : List ℕ). HasHeld 0 places x it t c.args.turns.now k (g.C.Chip.told c.args.chip.now)
    (tables_of c.args.parts.now)) (sym (c.clear.ensures.none c.args.parts.now.status.numbers)) was))

pub returns-in_err-hold_stuck-clause-walks : goal.returns-in_err-hold_stuck-clause-walks
returns-in_err-hold_stuck-clause-walks g c =
    let e = err_from_is_err_and c.from_residual.result c.from_residual.ensures.1 in
    rw (e.1 ∙ ap Err e.2) (walks_failed {S = Unit {0}} c.in_err-hold_stuck.field-0.0 c.args.turns.now
    c.args.turns.now (tables_of c.args.parts.now) (tables_of c.hold_stuck.new.parts)
    (g.C.Chip.told c.args.chip.now) (g.C.Chip.told c.hold_stuck.new.chip) c.in_err-hold_stuck.ensures.walks)

pub returns-clause-tries : goal.returns-clause-tries
returns-clause-tries g c = λ places x it t was.
    c.take_units.ensures.takes places x it t (c.in_ok-hold_stuck.ensures.holds places x it t
    (subst (λ (k : List ℕ). HasHeld 0 places x it t c.args.turns.now k (g.C.Chip.told c.args.chip.now)
    (tables_of c.args.parts.now)) (sym (c.clear.ensures.none c.args.parts.now.status.numbers)) was))

pub returns-clause-walks : goal.returns-clause-walks
returns-clause-walks g c =
    walks_then {S = Unit {0}} tt c.args.turns.now c.args.turns.now c.take_units.new.turns
    (tables_of c.args.parts.now) (tables_of c.hold_stuck.new.parts) (tables_of c.take_units.new.parts)
    (g.C.Chip.told c.args.chip.now) (g.C.Chip.told c.hold_stuck.new.chip) (g.C.Chip.told c.take_units.new.chip)
    c.take_units.result c.in_ok-hold_stuck.ensures.walks c.take_units.ensures.walks

pub hold_stuck-requires-clause-exact : goal.hold_stuck-requires-clause-exact
hold_stuck-requires-clause-exact g c =
    c.clear.ensures.count
    ∙ ap (λ (l : List ℕ). length l) (sym (c.clear.ensures.none c.args.parts.now.status.numbers))
