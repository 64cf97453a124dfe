use Rattle.std.proofs.Common.{◌<◌, ℕ, Ok, Err, sym, subst, ap, ◌∙◌, arith}
use Rattle.std.proofs.lemmas.Result.{err_from_is_err_and}
use Rattle.ipl_meaning.specs.Tables.{StatusTable}
use Rattle.unit_io.specs.Charts.{Charts, Gains}
use Rattle.unit_io.specs.Costs.{Spends}
use Rattle.unit_io.specs.Spots.{AddsSector}
use Rattle.txn_status.specs.Marking.{mark_sector, MarksInSteps}
use Rattle.unit_io.specs.Writing.{LeadsMark}
use Rattle.txn_status.specs.Writing.{WritesOneSector}
use Rattle.txn_status.proofs.MarkingLemmas.{marked_in_steps}
use Rattle.txn_status.proofs.RoomLemmas.{room_left}
use Rattle.txn_status.proofs.status.Status.mark.Goals as goal

pub returns-in_err-write_mark-clause-steps : goal.returns-in_err-write_mark-clause-steps
returns-in_err-write_mark-clause-steps g c =
    let place_is = c.first_clean-spot.ensures.place ∙ sym (ap (λ (s : StatusTable). s.place) c.self.view_is) in
    let first_is = c.first_clean-spot.ensures.sector ∙ sym (ap (λ (s : StatusTable). s.first) c.self.view_is) in
    let inside = c.self.inside in
    let st : StatusTable = record {
      place = inside.place;
      generation = inside.generation;
      numbers = inside.numbers.list;
      most = inside.numbers.most;
      first = inside.first;
    } in
    let payload = c.args.payload.now in
    let room : inside.first < 256 =
    omega (arith, (room_left c.args.self.now c.requires.room).0, ap (λ (s : StatusTable). s.first) c.self.view_is) in
    let fault = c.in_err-write_mark.field-0.0 in
    let old = g.C.Chip.told c.args.chip.now in
    let new = g.C.Chip.told c.write_mark.new.chip in
    let e = err_from_is_err_and c.from_residual.result c.from_residual.ensures.1 in
    rw e.1
    (subst (λ (s : StatusTable). MarksInSteps old.places s c.args.counter.now payload (Err fault) old new)
    c.self.view_is
    (marked_in_steps old.places st c.args.counter.now payload (Err fault) old new
    c.self.invariant.least room
    (subst (λ (k : ℕ). LeadsMark old.places inside.place inside.first
    (mark_sector inside.generation k payload) old (Err fault) new) c.draw-serial.ensures.drawn
    (rw (place_is, first_is) at c.in_err-write_mark.ensures.leads)) c.in_err-write_mark.ensures.writes.accounts.cause))

pub invariant_of-self : goal.invariant_of-self
invariant_of-self g c =
    let was = c.self.invariant in
    let room : c.self.inside.first < 256 =
    omega (arith, (room_left c.args.self.now c.requires.room).0, ap (λ (s : StatusTable). s.first) c.self.view_is) in record {
      rising = was.rising;
      least = omega (arith, was.least);
      most = omega (arith, room);
      few = omega (arith, was.few);
      within = was.within;
      roomy = was.roomy;
      bounded = was.bounded;
    }

pub returns-clause-tells : goal.returns-clause-tells
returns-clause-tells g c =
    let place_is = c.first_clean-spot.ensures.place ∙ sym (ap (λ (s : StatusTable). s.place) c.self.view_is) in
    let first_is = c.first_clean-spot.ensures.sector ∙ sym (ap (λ (s : StatusTable). s.first) c.self.view_is) in
    let inside = c.self.inside in
    let payload = c.args.payload.now in
    let old = g.C.Chip.told c.args.chip.now in
    let new = g.C.Chip.told c.write_mark.new.chip in
    subst (λ (s : StatusTable). Charts (Gains s.place s.first
    (mark_sector s.generation c.args.counter.now payload)) old new) c.self.view_is
    (subst (λ (k : ℕ). Charts (Gains inside.place inside.first
    (mark_sector inside.generation k payload)) old new) c.draw-serial.ensures.drawn
    (rw (place_is, first_is) at c.in_ok-write_mark.ensures.tells))

pub returns-clause-steps : goal.returns-clause-steps
returns-clause-steps g c =
    let place_is = c.first_clean-spot.ensures.place ∙ sym (ap (λ (s : StatusTable). s.place) c.self.view_is) in
    let first_is = c.first_clean-spot.ensures.sector ∙ sym (ap (λ (s : StatusTable). s.first) c.self.view_is) in
    let inside = c.self.inside in
    let st : StatusTable = record {
      place = inside.place;
      generation = inside.generation;
      numbers = inside.numbers.list;
      most = inside.numbers.most;
      first = inside.first;
    } in
    let payload = c.args.payload.now in
    let room : inside.first < 256 =
    omega (arith, (room_left c.args.self.now c.requires.room).0, ap (λ (s : StatusTable). s.first) c.self.view_is) in
    let old = g.C.Chip.told c.args.chip.now in
    let new = g.C.Chip.told c.write_mark.new.chip in
    subst (λ (s : StatusTable). MarksInSteps old.places s c.args.counter.now payload (Ok tt) old new)
    c.self.view_is
    (marked_in_steps old.places st c.args.counter.now payload (Ok tt) old new
    c.self.invariant.least room
    (subst (λ (k : ℕ). LeadsMark old.places inside.place inside.first
    (mark_sector inside.generation k payload) old (Ok tt) new) c.draw-serial.ensures.drawn
    (rw (place_is, first_is) at c.in_ok-write_mark.ensures.leads)) tt)

pub returns-clause-adds : goal.returns-clause-adds
returns-clause-adds g c =
    let place_is = c.first_clean-spot.ensures.place ∙ sym (ap (λ (s : StatusTable). s.place) c.self.view_is) in
    let first_is = c.first_clean-spot.ensures.sector ∙ sym (ap (λ (s : StatusTable). s.first) c.self.view_is) in
    let inside = c.self.inside in
    let payload = c.args.payload.now in
    let old = g.C.Chip.told c.args.chip.now in
    let new = g.C.Chip.told c.write_mark.new.chip in
    subst (λ (s : StatusTable). Spends (AddsSector s.place s.first
    (mark_sector s.generation c.args.counter.now payload)) old new) c.self.view_is
    (subst (λ (k : ℕ). Spends (AddsSector inside.place inside.first
    (mark_sector inside.generation k payload)) old new) c.draw-serial.ensures.drawn
    (rw (place_is, first_is) at c.in_ok-write_mark.ensures.adds))

pub returns-in_err-write_mark-clause-writes : goal.returns-in_err-write_mark-clause-writes
returns-in_err-write_mark-clause-writes g c =
    let place_is = c.first_clean-spot.ensures.place ∙ sym (ap (λ (s : StatusTable). s.place) c.self.view_is) in
    let first_is = c.first_clean-spot.ensures.sector ∙ sym (ap (λ (s : StatusTable). s.first) c.self.view_is) in
    let e = err_from_is_err_and c.from_residual.result c.from_residual.ensures.1 in
    rw (e.1 ∙ ap Err e.2) (subst (λ (s : StatusTable). WritesOneSector s.place s.first 7
    (Err c.in_err-write_mark.field-0.0) (g.C.Chip.told c.args.chip.now)
    (g.C.Chip.told c.write_mark.new.chip)) c.self.view_is
    (rw (place_is, first_is) at c.in_err-write_mark.ensures.writes))

pub returns-clause-writes : goal.returns-clause-writes
returns-clause-writes g c =
    let place_is = c.first_clean-spot.ensures.place ∙ sym (ap (λ (s : StatusTable). s.place) c.self.view_is) in
    let first_is = c.first_clean-spot.ensures.sector ∙ sym (ap (λ (s : StatusTable). s.first) c.self.view_is) in
    subst (λ (s : StatusTable). WritesOneSector s.place s.first 7 (Ok tt)
    (g.C.Chip.told c.args.chip.now) (g.C.Chip.told c.write_mark.new.chip)) c.self.view_is
    (rw (place_is, first_is) at c.in_ok-write_mark.ensures.writes)
