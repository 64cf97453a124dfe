use Rattle.std.proofs.Common.{◌≡◌, ◌+◌, ◌∙◌, ℕ, Bool, false, Ok, Err, refl, sym, ap, subst, arith}
use Rattle.std.proofs.lemmas.Result.{err_from_is_err_and}
use Rattle.number_set.specs.Flags.{flagged}
use Rattle.ipl_meaning.specs.Tables.{StatusTable}
use Rattle.selective_merge.specs.Known.{KnowsPlaces}
use Rattle.selective_merge.specs.Moving.{tables_of}
use Rattle.restart.specs.Passing.{Begins, HasPassed, OnAnswer}
use Rattle.restart.proofs.PassingLemmas.{passed_found}
use Rattle.restart.proofs.WalkLemmas.{left_then, walks_answered, walks_none, walks_then}
use Rattle.restart.proofs.passing.take_units.Goals as goal

pub loop-unit-init : goal.loop-unit-init
loop-unit-init g c = record {
  takes = λ places x it t was. was;
  walks = walks_none tt c.args.turns.now (tables_of c.args.parts.now) (g.C.Chip.told c.args.chip.now)
      c.requires.known;
  exact = c.requires.exact;
  room = refl;
}

pub take_unit-requires-clause-known : goal.take_unit-requires-clause-known
take_unit-requires-clause-known g c =
    let so = c.loop-unit.invariant.walks.leaves in
    subst (λ (q : ℕ). KnowsPlaces q (tables_of c.loop-unit.parts)) (sym so.accounts.counts.places) so.holds.known

pub take_unit-requires-clause-unit : goal.take_unit-requires-clause-unit
take_unit-requires-clause-unit g c =
    omega (
      arith,
      c.loop-unit-test.true,
      c.loop-unit.auto.unit-end,
      c.units-unit-end.ensures,
      c.loop-unit.invariant.walks.leaves.holds.units,
    )

pub take_unit-requires-clause-left : goal.take_unit-requires-clause-left
take_unit-requires-clause-left g c =
    left_then {T = Unit {0}} c.args.turns.now c.loop-unit.turns (tables_of c.args.parts.now)
    (tables_of c.loop-unit.parts) (Ok tt) (g.C.Chip.told c.args.chip.now) (g.C.Chip.told c.loop-unit.chip)
    c.loop-unit.invariant.walks c.requires.left

pub returns-in_err-take_unit-clause-takes : goal.returns-in_err-take_unit-clause-takes
returns-in_err-take_unit-clause-takes g c = λ places x it t was.
    let e = err_from_is_err_and c.from_residual.result c.from_residual.ensures.1 in
    rw (e.1 ∙ ap Err e.2) (c.in_err-take_unit.ensures.takes places x it t (c.loop-unit.invariant.takes places x it t was))

pub returns-in_err-take_unit-clause-walks : goal.returns-in_err-take_unit-clause-walks
returns-in_err-take_unit-clause-walks g c =
    let e = err_from_is_err_and c.from_residual.result c.from_residual.ensures.1 in
    rw (e.1 ∙ ap Err e.2) (walks_then {S = Unit {0}} tt c.args.turns.now c.loop-unit.turns
    c.take_unit.new.turns (tables_of c.args.parts.now) (tables_of c.loop-unit.parts) (tables_of c.take_unit.new.parts)
    (g.C.Chip.told c.args.chip.now) (g.C.Chip.told c.loop-unit.chip) (g.C.Chip.told c.take_unit.new.chip)
    (Err c.in_err-take_unit.field-0.0) c.loop-unit.invariant.walks c.in_err-take_unit.ensures.walks)

pub returns-then-not-branch-clause-takes : goal.returns-then-not-branch-clause-takes
returns-then-not-branch-clause-takes g c = λ places x it t was.
    let new = g.C.Chip.told c.take_unit.new.chip in
    let after = tables_of c.take_unit.new.parts in
    let ended = c.take_unit.new.turns in
    subst (λ (b : Bool). OnAnswer b (HasPassed (c.loop-unit.unit + 1) places x it t ended (flagged c.take_unit.new.kept c.take_unit.new.parts.status.numbers) new
    after) (Begins places x it t ended new after)) c.if-not-branch.true
    (c.in_ok-take_unit.ensures.takes places x it t (c.loop-unit.invariant.takes places x it t was))

pub returns-then-not-branch-clause-walks : goal.returns-then-not-branch-clause-walks
returns-then-not-branch-clause-walks g c =
    let mid = g.C.Chip.told c.loop-unit.chip in
    let new = g.C.Chip.told c.take_unit.new.chip in
    let between = tables_of c.loop-unit.parts in
    let after = tables_of c.take_unit.new.parts in
    walks_then {S = Unit {0}} tt c.args.turns.now c.loop-unit.turns c.take_unit.new.turns
    (tables_of c.args.parts.now) between after (g.C.Chip.told c.args.chip.now) mid new (Ok false)
    c.loop-unit.invariant.walks (walks_answered c.in_ok-take_unit.field-0 false c.loop-unit.turns
    c.take_unit.new.turns between after mid new c.in_ok-take_unit.ensures.walks)

pub loop-unit-preserved : goal.loop-unit-preserved
loop-unit-preserved g c =
    let so = c.loop-unit.invariant in
    let mid = g.C.Chip.told c.loop-unit.chip in
    let new = g.C.Chip.told c.take_unit.new.chip in
    let between = tables_of c.loop-unit.parts in
    let after = tables_of c.take_unit.new.parts in
    let ended = c.take_unit.new.turns in record {
      takes = λ places x it t was.
          subst (λ (b : Bool). OnAnswer b (HasPassed (c.loop-unit.unit + 1) places x it t ended
          (flagged c.take_unit.new.kept c.take_unit.new.parts.status.numbers) new after) (Begins places x it t ended new after)) c.if-not-branch.false
          (c.in_ok-take_unit.ensures.takes places x it t (so.takes places x it t was));
      walks = walks_then {S = Unit {0}} tt c.args.turns.now c.loop-unit.turns ended
          (tables_of c.args.parts.now) between after (g.C.Chip.told c.args.chip.now) mid new (Ok tt) so.walks
          (walks_answered c.in_ok-take_unit.field-0 tt c.loop-unit.turns ended between after mid new
          c.in_ok-take_unit.ensures.walks);
      exact = c.take_unit.ensures.exact;
      room = c.take_unit.ensures.room ∙ so.room;
    }

pub returns-clause-takes : goal.returns-clause-takes
returns-clause-takes g c = λ places x it t was.
    let so = c.loop-unit.invariant.takes places x it t was in
    let all : c.loop-unit.unit ≡ it.count = omega (
      arith,
      c.loop-unit-test.false,
      c.loop-unit.auto.unit-end,
      c.units-unit-end.ensures,
      c.loop-unit.invariant.walks.leaves.holds.units,
      so.state.mirrors.directory.units,
      so.state.count,
    ) in
    passed_found places x it t c.loop-unit.turns (flagged c.loop-unit.kept c.loop-unit.parts.status.numbers) (g.C.Chip.told c.loop-unit.chip)
    (tables_of c.loop-unit.parts) (subst (λ (n : ℕ). HasPassed n places x it t c.loop-unit.turns
    (flagged c.loop-unit.kept c.loop-unit.parts.status.numbers) (g.C.Chip.told c.loop-unit.chip) (tables_of c.loop-unit.parts)) all so)

pub take_unit-requires-clause-room : goal.take_unit-requires-clause-room
take_unit-requires-clause-room g c = c.loop-unit.invariant.room ∙ c.requires.room
    ∙ sym (ap (λ (s : StatusTable). s.most) c.loop-unit.invariant.walks.leaves.holds.status)

pub returns-in_err-take_unit-clause-room : goal.returns-in_err-take_unit-clause-room
returns-in_err-take_unit-clause-room g c = c.take_unit.ensures.room ∙ c.loop-unit.invariant.room

pub returns-clause-room : goal.returns-clause-room
returns-clause-room g c = c.loop-unit.invariant.room

pub returns-then-not-branch-clause-room : goal.returns-then-not-branch-clause-room
returns-then-not-branch-clause-room g c = c.take_unit.ensures.room ∙ c.loop-unit.invariant.room
