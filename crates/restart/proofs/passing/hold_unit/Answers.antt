use Rattle.std.proofs.Common.{◌<◌, ◌+◌, ◌∙◌, Bool, true, false, Ok, Err, sym, ap, subst, arith}
use Rattle.std.proofs.lemmas.Result.{err_from_is_err_and}
use Rattle.ipl_meaning.specs.Tables.{Tables}
use Rattle.number_set.specs.Flags.{flagged}
use Rattle.selective_merge.specs.Moving.{tables_of}
use Rattle.restart.specs.Passing.{HasHeld, IsStuckBelow, JoinsUnit, StepEnds}
use Rattle.restart.specs.Turns.{turn_of}
use Rattle.restart.proofs.PassingLemmas.{held_ends, held_joined, held_skipped, join_failed, joins_at, never_fits}
use Rattle.restart.proofs.PassLemmas.{passing_read}
use Rattle.restart.proofs.TurnLemmas.{stuck_unmerged}
use Rattle.restart.proofs.WalkLemmas.{walks_answered, walks_failed, walks_held, walks_none}
use Rattle.restart.proofs.passing.hold_unit.Goals as goal

pub returns-then-not-is_stuck-clause-holds : goal.returns-then-not-is_stuck-clause-holds
returns-then-not-is_stuck-clause-holds g c = λ places x it t was.
    let low : c.args.unit < it.count =
    omega (arith, c.requires.unit, was.state.mirrors.directory.units, was.state.count) in
    held_skipped places x it t c.args.unit low c.args.turns.now (flagged c.args.kept.now c.args.parts.now.status.numbers)
    (g.C.Chip.told c.args.chip.now) (tables_of c.args.parts.now) was
    (sym c.is_stuck.ensures ∙ c.if-not-is_stuck.true)

pub returns-then-not-is_stuck-clause-walks : goal.returns-then-not-is_stuck-clause-walks
returns-then-not-is_stuck-clause-walks g c =
    walks_none tt c.args.turns.now (tables_of c.args.parts.now) (g.C.Chip.told c.args.chip.now)
    c.requires.known

pub returns-in_err-join_unit-clause-holds : goal.returns-in_err-join_unit-clause-holds
returns-in_err-join_unit-clause-holds g c = λ places x it t was.
    let old = g.C.Chip.told c.args.chip.now in
    let mid = g.C.Chip.told c.join_unit.new.chip in
    let before = tables_of c.args.parts.now in
    let after = tables_of c.join_unit.new.parts in
    let turns = c.args.turns.now in
    let e = err_from_is_err_and c.from_residual.result c.from_residual.ensures.1 in
    rw (e.1 ∙ ap Err e.2) (join_failed places x it t (IsStuckBelow turns c.args.unit) 0 turns (flagged c.args.kept.now c.args.parts.now.status.numbers)
    old before was c.args.unit (flagged c.join_unit.new.kept c.join_unit.new.parts.status.numbers) c.in_err-join_unit.field-0.0 mid after
    (λ (v : Unit {0}). HasHeld (c.args.unit + 1) places x it t turns (flagged c.join_unit.new.kept c.join_unit.new.parts.status.numbers) mid after)
    c.in_err-join_unit.ensures.joins c.join_unit.ensures.still.0 c.join_unit.ensures.still.1
    c.join_unit.ensures.same)

pub returns-in_err-join_unit-clause-walks : goal.returns-in_err-join_unit-clause-walks
returns-in_err-join_unit-clause-walks g c =
    let turns = c.args.turns.now in
    let e = err_from_is_err_and c.from_residual.result c.from_residual.ensures.1 in
    rw (e.1 ∙ ap Err e.2) (walks_failed {S = Bool} c.in_err-join_unit.field-0.0 turns turns (tables_of c.args.parts.now)
    (tables_of c.join_unit.new.parts) (g.C.Chip.told c.args.chip.now) (g.C.Chip.told c.join_unit.new.chip)
    (c.in_err-join_unit.ensures.walks turns))

pub returns-then-branch-clause-holds : goal.returns-then-branch-clause-holds
returns-then-branch-clause-holds g c = λ places x it t was.
    let unit = c.args.unit in
    let old = g.C.Chip.told c.args.chip.now in
    let mid = g.C.Chip.told c.join_unit.new.chip in
    let before = tables_of c.args.parts.now in
    let turns = c.args.turns.now in
    let kept = flagged c.args.kept.now c.args.parts.now.status.numbers in
    let next = flagged c.join_unit.new.kept c.join_unit.new.parts.status.numbers in
    let low : unit < it.count =
    omega (arith, c.requires.unit, was.state.mirrors.directory.units, was.state.count) in
    let joined = joins_at places x it t (IsStuckBelow turns unit) 0 turns kept old before was unit next
    (Ok true) (subst (λ (b : Bool). JoinsUnit old.places unit before kept next (Ok b) old) c.if-branch.true
    c.in_ok-join_unit.ensures.joins) in
    subst (λ (s : Tables). HasHeld (unit + 1) places x it t turns next mid s) (sym c.join_unit.ensures.same)
    (passing_read places x it t (IsStuckBelow turns (unit + 1)) 0 turns next old before
    (held_joined places x it t unit low turns kept old before was
    (sym c.is_stuck.ensures ∙ c.if-not-is_stuck.false) next joined) mid c.join_unit.ensures.still.0
    c.join_unit.ensures.still.1)

pub returns-then-branch-clause-walks : goal.returns-then-branch-clause-walks
returns-then-branch-clause-walks g c =
    let turns = c.args.turns.now in
    walks_answered c.in_ok-join_unit.field-0 tt turns turns (tables_of c.args.parts.now) (tables_of c.join_unit.new.parts)
    (g.C.Chip.told c.args.chip.now) (g.C.Chip.told c.join_unit.new.chip) (c.in_ok-join_unit.ensures.walks turns)

pub returns-clause-holds : goal.returns-clause-holds
returns-clause-holds g c = λ places x it t was.
    let unit = c.args.unit in
    let old = g.C.Chip.told c.args.chip.now in
    let mid = g.C.Chip.told c.join_unit.new.chip in
    let before = tables_of c.args.parts.now in
    let turns = c.args.turns.now in
    let kept = flagged c.args.kept.now c.args.parts.now.status.numbers in
    let next = flagged c.join_unit.new.kept c.join_unit.new.parts.status.numbers in
    let stuck = sym c.is_stuck.ensures ∙ c.if-not-is_stuck.false in
    let low : unit < it.count =
    omega (arith, c.requires.unit, was.state.mirrors.directory.units, was.state.count) in
    let joined = joins_at places x it t (IsStuckBelow turns unit) 0 turns kept old before was unit next
    (Ok false) (subst (λ (b : Bool). JoinsUnit old.places unit before kept next (Ok b) old) c.if-branch.false
    c.in_ok-join_unit.ensures.joins) in
    let full = never_fits places x it t (IsStuckBelow turns unit) 0 turns kept old before was unit next
    (stuck_unmerged (turn_of turns unit) stuck) low joined in
    let after = tables_of c.join_unit.new.parts in
    subst (λ (s : Tables). StepEnds {T = Unit {0}} places x it t (Err turns.fault) mid s
    (λ done. HasHeld (unit + 1) places x it t turns next mid after)) (sym c.join_unit.ensures.same)
    (held_ends places x it t unit low turns kept old before was stuck mid
    (λ (done : Unit {0}). HasHeld (unit + 1) places x it t turns next mid after) c.join_unit.ensures.rising full
    c.join_unit.ensures.still.0 c.join_unit.ensures.still.1)

pub returns-clause-walks : goal.returns-clause-walks
returns-clause-walks g c =
    let turns = c.args.turns.now in
    walks_held c.in_ok-join_unit.field-0 turns.fault turns turns (tables_of c.args.parts.now)
    (tables_of c.join_unit.new.parts) (g.C.Chip.told c.args.chip.now) (g.C.Chip.told c.join_unit.new.chip)
    c.requires.held (c.in_ok-join_unit.ensures.walks turns)
