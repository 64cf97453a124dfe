use Rattle.std.proofs.Common.{◌<◌, ◌+◌, Bool, true, false, Ok, Err, length, refl, arith}
use Rattle.selective_merge.specs.Moving.{tables_of}
use Rattle.restart.specs.Passing.{Begins, HasPassed, OnAnswer}
use Rattle.restart.specs.declared.turns.Turn.TheVariants.{Merged, Stuck}
use Rattle.restart.proofs.PassingLemmas.{room_failed, room_made, room_stuck}
use Rattle.restart.proofs.TurnLemmas.{ended_but, ended_more, set_again}
use Rattle.restart.proofs.WalkLemmas.{walks_answered, walks_failed, walks_merged, walks_stuck}
use Rattle.restart.proofs.passing.make_room.Goals as goal

pub merge-requires-2 : goal.merge-requires-2
merge-requires-2 g c =
    let few = ended_but c.args.turns.now (length c.args.parts.now.directory.current) c.args.unit
    c.requires.unit c.requires.idle in record {
      known = c.requires.known;
      unit = c.requires.unit;
      left = omega (arith, few, c.requires.left);
    }

-- ---- it was merged

pub returns-in-Ok-clause-makes : goal.returns-in-Ok-clause-makes
returns-in-Ok-clause-makes g c = λ places x it t kept full was idle.
    let low : c.args.unit < it.count =
    omega (arith, c.requires.unit, was.state.mirrors.directory.units, was.state.count) in
    room_made places x it t c.args.unit low c.args.turns.now kept (g.C.Chip.told c.args.chip.now)
    (tables_of c.args.parts.now) was idle full c.requires.known _ (g.C.Chip.told c.merge-2.new.chip)
    (tables_of c.merge-2.new.parts) c.merge.new.self c.merge.ensures c.in-Ok.ensures

pub returns-in-Ok-clause-walks : goal.returns-in-Ok-clause-walks
returns-in-Ok-clause-walks g c =
    let turns = c.args.turns.now in
    let ended = c.merge.new.self in
    let t = tables_of c.args.parts.now in
    let after = tables_of c.merge-2.new.parts in
    walks_answered tt true turns ended t after (g.C.Chip.told c.args.chip.now) (g.C.Chip.told c.merge-2.new.chip)
    (walks_merged _ c.args.unit turns ended t after (g.C.Chip.told c.args.chip.now)
    (g.C.Chip.told c.merge-2.new.chip) (Ok tt) c.requires.known
    (ended_more turns ended c.args.unit Merged turns.fault c.merge.ensures refl c.requires.idle _ c.requires.unit)
    c.merge.ensures.fault_is c.in-Ok.ensures)

-- ---- a call of the chip failed

pub returns-then-is_failed_call-clause-makes : goal.returns-then-is_failed_call-clause-makes
returns-then-is_failed_call-clause-makes g c = λ places x it t kept full was idle.
    let unit = c.args.unit in
    let low : unit < it.count =
    omega (arith, c.requires.unit, was.state.mirrors.directory.units, was.state.count) in
    let new = g.C.Chip.told c.merge-2.new.chip in
    let after = tables_of c.merge-2.new.parts in
    let ended = c.merge.new.self in
    room_failed places x it t unit low c.args.turns.now kept (g.C.Chip.told c.args.chip.now)
    (tables_of c.args.parts.now) was idle full c.requires.known _ new after c.in-Err.fault c.in-Err.ensures
    (λ (v : Bool). OnAnswer v (HasPassed (unit + 1) places x it t ended kept new after)
    (Begins places x it t ended new after)) c.if-is_failed_call.ensures.failed

pub returns-then-is_failed_call-clause-walks : goal.returns-then-is_failed_call-clause-walks
returns-then-is_failed_call-clause-walks g c =
    let turns = c.args.turns.now in
    let ended = c.merge.new.self in
    let t = tables_of c.args.parts.now in
    let after = tables_of c.merge-2.new.parts in
    let fault = c.in-Err.fault in
    walks_failed {S = Unit {0}} fault turns ended t after (g.C.Chip.told c.args.chip.now)
    (g.C.Chip.told c.merge-2.new.chip)
    (walks_merged _ c.args.unit turns ended t after (g.C.Chip.told c.args.chip.now)
    (g.C.Chip.told c.merge-2.new.chip) (Err fault) c.requires.known
    (ended_more turns ended c.args.unit Merged turns.fault c.merge.ensures refl c.requires.idle _ c.requires.unit)
    c.merge.ensures.fault_is c.in-Err.ensures)

-- ---- it is stuck

pub returns-else-is_failed_call-clause-makes : goal.returns-else-is_failed_call-clause-makes
returns-else-is_failed_call-clause-makes g c = λ places x it t kept full was idle.
    let low : c.args.unit < it.count =
    omega (arith, c.requires.unit, was.state.mirrors.directory.units, was.state.count) in
    room_stuck places x it t c.args.unit low c.args.turns.now kept (g.C.Chip.told c.args.chip.now)
    (tables_of c.args.parts.now) was idle full c.requires.known _ (g.C.Chip.told c.merge-2.new.chip)
    (tables_of c.merge-2.new.parts) c.in-Err.fault c.in-Err.ensures c.stick.new.self
    (set_again _ _ _ c.args.unit Merged Stuck _ c.in-Err.fault c.merge.ensures c.stick.ensures)
    c.if-is_failed_call.ensures.held

pub returns-else-is_failed_call-clause-walks : goal.returns-else-is_failed_call-clause-walks
returns-else-is_failed_call-clause-walks g c =
    let turns = c.args.turns.now in
    let set = set_again turns c.merge.new.self c.stick.new.self c.args.unit Merged Stuck _ c.in-Err.fault
    c.merge.ensures c.stick.ensures in
    walks_stuck false _ c.args.unit turns c.stick.new.self (tables_of c.args.parts.now)
    (tables_of c.merge-2.new.parts) (g.C.Chip.told c.args.chip.now) (g.C.Chip.told c.merge-2.new.chip)
    c.in-Err.fault c.requires.known
    (ended_more turns c.stick.new.self c.args.unit Stuck c.in-Err.fault set refl c.requires.idle _ c.requires.unit)
    set.fault_is c.if-is_failed_call.ensures.held c.in-Err.ensures

pub returns-else-is_failed_call-clause-grows : goal.returns-else-is_failed_call-clause-grows
returns-else-is_failed_call-clause-grows g c = λ no.
    let set = set_again c.args.turns.now c.merge.new.self c.stick.new.self c.args.unit Merged Stuck _ c.in-Err.fault
    c.merge.ensures c.stick.ensures in
    let one = ended_more c.args.turns.now c.stick.new.self c.args.unit Stuck c.in-Err.fault set refl
    c.requires.idle (length c.args.parts.now.directory.current) c.requires.unit in omega (arith, one)
