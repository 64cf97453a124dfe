use Rattle.std.proofs.Common.{◌≡◌, ◌∙◌, ℕ, Ok, Err, refl, sym, ap, subst, arith}
use Rattle.std.proofs.lemmas.Result.{err_from_is_err_and}
use Rattle.number_set.specs.Flags.{flagged}
use Rattle.ipl_meaning.specs.Tables.{StatusTable}
use Rattle.selective_merge.specs.Known.{KnowsPlaces}
use Rattle.selective_merge.specs.Moving.{tables_of}
use Rattle.restart.specs.Passing.{HasHeld}
use Rattle.restart.proofs.PassingLemmas.{held_all}
use Rattle.restart.proofs.WalkLemmas.{walks_none, walks_then}
use Rattle.restart.proofs.passing.hold_stuck.Goals as goal

pub loop-unit-init : goal.loop-unit-init
loop-unit-init g c = record {
  holds = λ places x it t was. was;
  walks = walks_none tt c.args.turns.now (tables_of c.args.parts.now) (g.C.Chip.told c.args.chip.now)
      c.requires.known;
  exact = c.requires.exact;
  room = refl;
}

pub hold_unit-requires-clause-known : goal.hold_unit-requires-clause-known
hold_unit-requires-clause-known g c =
    let so = c.loop-unit.invariant.walks.leaves in
    subst (λ (q : ℕ). KnowsPlaces q (tables_of c.loop-unit.parts)) (sym so.accounts.counts.places) so.holds.known

pub hold_unit-requires-clause-unit : goal.hold_unit-requires-clause-unit
hold_unit-requires-clause-unit g c =
    omega (
      arith,
      c.loop-unit-test.true,
      c.loop-unit.auto.unit-end,
      c.units-unit-end.ensures,
      c.loop-unit.invariant.walks.leaves.holds.units,
    )

pub returns-in_err-hold_unit-clause-holds : goal.returns-in_err-hold_unit-clause-holds
returns-in_err-hold_unit-clause-holds g c = λ places x it t was.
    let e = err_from_is_err_and c.from_residual.result c.from_residual.ensures.1 in
    rw (e.1 ∙ ap Err e.2) (c.in_err-hold_unit.ensures.holds places x it t (c.loop-unit.invariant.holds places x it t was))

pub returns-in_err-hold_unit-clause-walks : goal.returns-in_err-hold_unit-clause-walks
returns-in_err-hold_unit-clause-walks g c =
    let e = err_from_is_err_and c.from_residual.result c.from_residual.ensures.1 in
    rw (e.1 ∙ ap Err e.2) (walks_then {S = Unit {0}} tt c.args.turns.now c.args.turns.now
    c.args.turns.now (tables_of c.args.parts.now) (tables_of c.loop-unit.parts) (tables_of c.hold_unit.new.parts)
    (g.C.Chip.told c.args.chip.now) (g.C.Chip.told c.loop-unit.chip) (g.C.Chip.told c.hold_unit.new.chip)
    (Err c.in_err-hold_unit.field-0.0) c.loop-unit.invariant.walks c.in_err-hold_unit.ensures.walks)

pub loop-unit-preserved : goal.loop-unit-preserved
loop-unit-preserved g c =
    let so = c.loop-unit.invariant in record {
      holds = λ places x it t was. c.in_ok-hold_unit.ensures.holds places x it t (so.holds places x it t was);
      walks = walks_then {S = Unit {0}} tt c.args.turns.now c.args.turns.now
          c.args.turns.now (tables_of c.args.parts.now) (tables_of c.loop-unit.parts)
          (tables_of c.hold_unit.new.parts) (g.C.Chip.told c.args.chip.now) (g.C.Chip.told c.loop-unit.chip)
          (g.C.Chip.told c.hold_unit.new.chip) (Ok tt) so.walks c.in_ok-hold_unit.ensures.walks;
      exact = c.hold_unit.ensures.exact;
      room = c.hold_unit.ensures.room ∙ so.room;
    }

pub returns-clause-holds : goal.returns-clause-holds
returns-clause-holds g c = λ places x it t was.
    let so = c.loop-unit.invariant.holds places x it t was in
    let all : c.loop-unit.unit ≡ it.count = omega (
      arith,
      c.loop-unit-test.false,
      c.loop-unit.auto.unit-end,
      c.units-unit-end.ensures,
      c.loop-unit.invariant.walks.leaves.holds.units,
      so.state.mirrors.directory.units,
      so.state.count,
    ) in
    held_all places x it t c.args.turns.now (flagged c.loop-unit.kept c.loop-unit.parts.status.numbers) (g.C.Chip.told c.loop-unit.chip)
    (tables_of c.loop-unit.parts) (subst (λ (n : ℕ). HasHeld n places x it t c.args.turns.now
    (flagged c.loop-unit.kept c.loop-unit.parts.status.numbers) (g.C.Chip.told c.loop-unit.chip) (tables_of c.loop-unit.parts)) all so)

pub hold_unit-requires-clause-room : goal.hold_unit-requires-clause-room
hold_unit-requires-clause-room g c = c.loop-unit.invariant.room ∙ c.requires.room
    ∙ sym (ap (λ (s : StatusTable). s.most) c.loop-unit.invariant.walks.leaves.holds.status)

pub returns-in_err-hold_unit-clause-room : goal.returns-in_err-hold_unit-clause-room
returns-in_err-hold_unit-clause-room g c = c.hold_unit.ensures.room ∙ c.loop-unit.invariant.room

pub returns-clause-room : goal.returns-clause-room
returns-clause-room g c = c.loop-unit.invariant.room
