use Rattle.std.proofs.Common.{◌≡◌, ◌<◌, ◌+◌, ◌∙◌, ℕ, List, Bool, true, false, Ok, Err, sym, ap, subst, arith}
use Rattle.std.proofs.lemmas.Result.{err_from_is_err_and}
use Rattle.ipl_meaning.specs.Tables.{StatusTable, Tables}
use Rattle.number_set.specs.Flags.{flagged}
use Rattle.selective_merge.specs.Moving.{tables_of}
use Rattle.restart.specs.Joins.{kept_of, IsExact}
use Rattle.restart.specs.Passing.{Begins, HasPassed, IsPassedBelow, JoinsUnit, OnAnswer, StepEnds}
use Rattle.restart.proofs.PassingLemmas.{join_failed, joins_at, never_fits, passed_joined, passed_skipped, unmerged_here}
use Rattle.restart.proofs.PassLemmas.{passing_read}
use Rattle.restart.proofs.WalkLemmas.{walks_answered, walks_failed, walks_none, walks_then}
use Rattle.restart.proofs.passing.take_unit.Goals as goal

pub returns-then-is_ended-clause-takes : goal.returns-then-is_ended-clause-takes
returns-then-is_ended-clause-takes g c = λ places x it t was.
    let low : c.args.unit < it.count =
    omega (arith, c.requires.unit, was.state.mirrors.directory.units, was.state.count) in
    passed_skipped places x it t c.args.unit low c.args.turns.now (flagged c.args.kept.now c.args.parts.now.status.numbers)
    (g.C.Chip.told c.args.chip.now) (tables_of c.args.parts.now) was
    (sym c.is_ended.ensures ∙ c.if-is_ended.true)

pub returns-then-is_ended-clause-walks : goal.returns-then-is_ended-clause-walks
returns-then-is_ended-clause-walks g c =
    walks_none true c.args.turns.now (tables_of c.args.parts.now) (g.C.Chip.told c.args.chip.now)
    c.requires.known

pub returns-in_err-join_unit-clause-takes : goal.returns-in_err-join_unit-clause-takes
returns-in_err-join_unit-clause-takes g c = λ places x it t was.
    let old = g.C.Chip.told c.args.chip.now in
    let mid = g.C.Chip.told c.join_unit.new.chip in
    let before = tables_of c.args.parts.now in
    let after = tables_of c.join_unit.new.parts in
    let turns = c.args.turns.now in
    let e = err_from_is_err_and c.from_residual.result c.from_residual.ensures.1 in
    rw (e.1 ∙ ap Err e.2) (join_failed places x it t (IsPassedBelow turns it.count c.args.unit) c.args.unit turns
    (flagged c.args.kept.now c.args.parts.now.status.numbers) old before was c.args.unit (flagged c.join_unit.new.kept c.join_unit.new.parts.status.numbers) c.in_err-join_unit.field-0.0 mid after
    (λ (v : Bool). OnAnswer v (HasPassed (c.args.unit + 1) places x it t turns (flagged c.join_unit.new.kept c.join_unit.new.parts.status.numbers) mid after)
    (Begins places x it t turns mid after))
    c.in_err-join_unit.ensures.joins c.join_unit.ensures.still.0 c.join_unit.ensures.still.1
    c.join_unit.ensures.same)

pub returns-in_err-join_unit-clause-walks : goal.returns-in_err-join_unit-clause-walks
returns-in_err-join_unit-clause-walks g c =
    let turns = c.args.turns.now in
    let e = err_from_is_err_and c.from_residual.result c.from_residual.ensures.1 in
    rw (e.1 ∙ ap Err e.2) (walks_failed {S = Bool} c.in_err-join_unit.field-0.0 turns turns (tables_of c.args.parts.now)
    (tables_of c.join_unit.new.parts) (g.C.Chip.told c.args.chip.now) (g.C.Chip.told c.join_unit.new.chip)
    (c.in_err-join_unit.ensures.walks turns))

pub returns-then-branch-clause-takes : goal.returns-then-branch-clause-takes
returns-then-branch-clause-takes g c = λ places x it t was.
    let unit = c.args.unit in
    let old = g.C.Chip.told c.args.chip.now in
    let mid = g.C.Chip.told c.join_unit.new.chip in
    let before = tables_of c.args.parts.now in
    let turns = c.args.turns.now in
    let kept = flagged c.args.kept.now c.args.parts.now.status.numbers in
    let next = flagged c.join_unit.new.kept c.join_unit.new.parts.status.numbers in
    let low : unit < it.count =
    omega (arith, c.requires.unit, was.state.mirrors.directory.units, was.state.count) in
    let joined = joins_at places x it t (IsPassedBelow turns it.count unit) unit turns kept old before was unit next
    (Ok true) (subst (λ (b : Bool). JoinsUnit old.places unit before kept next (Ok b) old) c.if-branch.true
    c.in_ok-join_unit.ensures.joins) in
    subst (λ (s : Tables). HasPassed (unit + 1) places x it t turns next mid s) (sym c.join_unit.ensures.same)
    (passing_read places x it t (IsPassedBelow turns it.count (unit + 1)) (unit + 1) turns next old before
    (passed_joined places x it t unit low turns kept old before was
    (sym c.is_ended.ensures ∙ c.if-is_ended.false) next joined) mid c.join_unit.ensures.still.0
    c.join_unit.ensures.still.1)

pub returns-then-branch-clause-walks : goal.returns-then-branch-clause-walks
returns-then-branch-clause-walks g c =
    let turns = c.args.turns.now in
    walks_answered c.in_ok-join_unit.field-0 true turns turns (tables_of c.args.parts.now) (tables_of c.join_unit.new.parts)
    (g.C.Chip.told c.args.chip.now) (g.C.Chip.told c.join_unit.new.chip) (c.in_ok-join_unit.ensures.walks turns)

pub returns-clause-takes : goal.returns-clause-takes
returns-clause-takes g c = λ places x it t was.
    let unit = c.args.unit in
    let old = g.C.Chip.told c.args.chip.now in
    let mid = g.C.Chip.told c.join_unit.new.chip in
    let before = tables_of c.args.parts.now in
    let turns = c.args.turns.now in
    let kept = flagged c.args.kept.now c.args.parts.now.status.numbers in
    let next = flagged c.join_unit.new.kept c.join_unit.new.parts.status.numbers in
    let idle = sym c.is_ended.ensures ∙ c.if-is_ended.false in
    let low : unit < it.count =
    omega (arith, c.requires.unit, was.state.mirrors.directory.units, was.state.count) in
    let joined = joins_at places x it t (IsPassedBelow turns it.count unit) unit turns kept old before was unit next
    (Ok false) (subst (λ (b : Bool). JoinsUnit old.places unit before kept next (Ok b) old) c.if-branch.false
    c.in_ok-join_unit.ensures.joins) in
    let full = never_fits places x it t (IsPassedBelow turns it.count unit) unit turns kept old before was unit next
    (unmerged_here places x it t unit low turns kept old before was idle) low joined in
    let there = subst (λ (s : Tables). HasPassed unit places x it t turns kept mid s) (sym c.join_unit.ensures.same)
    (passing_read places x it t (IsPassedBelow turns it.count unit) unit turns kept old before was mid
    c.join_unit.ensures.still.0 c.join_unit.ensures.still.1) in
    let new = g.C.Chip.told c.make_room.new.chip in
    let after = tables_of c.make_room.new.parts in
    let ended = c.make_room.new.turns in
    let still : flagged c.join_unit.new.kept after.status.numbers ≡ kept =
    ap (λ (s : StatusTable). flagged c.join_unit.new.kept s.numbers) c.make_room.ensures.walks.leaves.holds.status
    ∙ joined.1 in
    subst (λ (k : List ℕ). StepEnds places x it t c.make_room.result new after
    (λ done. OnAnswer done (HasPassed (unit + 1) places x it t ended k new after)
    (Begins places x it t ended new after))) (sym still)
    (c.make_room.ensures.makes places x it t kept full there idle)

pub returns-clause-walks : goal.returns-clause-walks
returns-clause-walks g c =
    let turns = c.args.turns.now in
    walks_then c.in_ok-join_unit.field-0 turns turns c.make_room.new.turns (tables_of c.args.parts.now)
    (tables_of c.join_unit.new.parts) (tables_of c.make_room.new.parts) (g.C.Chip.told c.args.chip.now)
    (g.C.Chip.told c.join_unit.new.chip) (g.C.Chip.told c.make_room.new.chip) c.make_room.result
    (c.in_ok-join_unit.ensures.walks turns) c.make_room.ensures.walks

pub returns-clause-exact : goal.returns-clause-exact
returns-clause-exact g c =
    subst (λ (s : StatusTable). IsExact (kept_of s.numbers c.join_unit.new.kept))
    (sym c.make_room.ensures.walks.leaves.holds.status) c.join_unit.ensures.exact
