use Rattle.std.proofs.Common.{◌<◌, ℕ, List, Ok, Err, length, sym, ap, ◌∙◌, subst, arith}
use Rattle.std.proofs.lemmas.Result.{err_from_is_err_and}
use Rattle.ipl_meaning.specs.Tables.{StatusTable}
use Rattle.unit_io.specs.Charts.{Charts, Gains}
use Rattle.number_set.specs.Numbers.{Numbers, AreRising}
use Rattle.number_set.proofs.NumberLemmas.{length_with_numbers, rising_with_numbers}
use Rattle.txn_status.specs.Commits.{commit_sector}
use Rattle.txn_status.specs.Adding.{Adds, AddsInSteps, KeepsFirstAt}
use Rattle.unit_io.specs.Writing.{LeadsCommit}
use Rattle.txn_status.specs.Writing.{WritesOneSector}
use Rattle.txn_status.proofs.AddLemmas.{AreSpelled, one_sector, spelled_from, added_in_steps, adds_told}
use Rattle.txn_status.proofs.FirstLemmas.{firsts_stay}
use Rattle.txn_status.proofs.RoomLemmas.{room_left}
use Rattle.txn_status.proofs.status.Status.add.Goals as goal

pub returns-in_err-add_commit-clause-steps : goal.returns-in_err-add_commit-clause-steps
returns-in_err-add_commit-clause-steps g c =
    let place_is = c.first_clean-spot.ensures.place ∙ sym (ap (λ (s : StatusTable). s.place) c.self.view_is) in
    let first_is = c.first_clean-spot.ensures.sector ∙ sym (ap (λ (s : StatusTable). s.first) c.self.view_is) in
    let same = c.noted.ensures.same ∙ c.of-commit.ensures in
    let inside = c.self.inside in
    let st : StatusTable = record {
      place = inside.place;
      generation = inside.generation;
      numbers = inside.numbers.list;
      most = inside.numbers.most;
      first = inside.first;
    } in
    let tids = c.args.tids.now in
    let are : AreSpelled tids = spelled_from tids c.requires.some c.requires.few
    (λ i. omega (arith, c.type_inv.tids i)) in
    let room : inside.first < 256 =
    omega (arith, (room_left c.args.self.now c.requires.room).0, ap (λ (s : StatusTable). s.first) c.self.view_is) in
    let fault = c.in_err-add_commit.field-0.0 in
    let old = g.C.Chip.told c.args.chip.now in
    let new = g.C.Chip.told c.add_commit.new.chip in
    let e = err_from_is_err_and c.from_residual.result c.from_residual.ensures.1 in
    rw e.1
    (subst (λ (s : StatusTable). AddsInSteps old.places s c.args.counter.now tids (Err fault) old new)
    c.self.view_is
    (added_in_steps old.places st c.args.counter.now tids (Err fault) old new are
    c.self.invariant.least room
    (subst (λ (k : ℕ). LeadsCommit old.places inside.place inside.first
    (commit_sector inside.generation k tids) old (Err fault) new) c.draw-serial.ensures.drawn
    (rw (place_is, first_is, same) at c.in_err-add_commit.ensures.leads)) c.in_err-add_commit.ensures.writes.accounts.cause))

pub invariant_of-self : goal.invariant_of-self
invariant_of-self g c =
    let was = c.self.invariant in
    let numbers = c.self.inside.numbers.list in
    let tids = c.args.tids.now in
    let list = ap (λ (n : Numbers). n.list) c.add_all.ensures in
    let left = room_left c.args.self.now c.requires.room in
    let most = ap (λ (n : Numbers). n.most) c.add_all.ensures in record {
      rising = subst AreRising (sym list) (rising_with_numbers tids numbers was.rising);
      least = omega (arith, was.least);
      most = omega (arith, left.0, ap (λ (s : StatusTable). s.first) c.self.view_is);
      few = omega (
        arith,
        was.few,
        c.requires.few,
        ap (λ (l : List ℕ). length l) list,
        length_with_numbers tids numbers,
      );
      within = omega (
        arith,
        left.1,
        ap (λ (s : StatusTable). length s.numbers) c.self.view_is,
        ap (λ (s : StatusTable). s.most) c.self.view_is,
        c.requires.few,
        ap (λ (l : List ℕ). length l) list,
        length_with_numbers tids numbers,
        most,
      );
      roomy = omega (arith, was.roomy, most);
      bounded = omega (arith, was.bounded, most);
    }

pub add_all-requires : goal.add_all-requires
add_all-requires g c =
    let left = room_left c.args.self.now c.requires.room in
    omega (
      arith,
      left.1,
      ap (λ (s : StatusTable). length s.numbers) c.self.view_is,
      ap (λ (s : StatusTable). s.most) c.self.view_is,
      c.requires.few,
    )

pub returns-clause-adds : goal.returns-clause-adds
returns-clause-adds g c =
    let place_is = c.first_clean-spot.ensures.place ∙ sym (ap (λ (s : StatusTable). s.place) c.self.view_is) in
    let first_is = c.first_clean-spot.ensures.sector ∙ sym (ap (λ (s : StatusTable). s.first) c.self.view_is) in
    let same = c.noted.ensures.same ∙ c.of-commit.ensures in
    let inside = c.self.inside in
    let st : StatusTable = record {
      place = inside.place;
      generation = inside.generation;
      numbers = inside.numbers.list;
      most = inside.numbers.most;
      first = inside.first;
    } in
    let tids = c.args.tids.now in
    let are : AreSpelled tids = spelled_from tids c.requires.some c.requires.few
    (λ i. omega (arith, c.type_inv.tids i)) in
    let room : inside.first < 256 =
    omega (arith, (room_left c.args.self.now c.requires.room).0, ap (λ (s : StatusTable). s.first) c.self.view_is) in
    let old = g.C.Chip.told c.args.chip.now in
    let new = g.C.Chip.told c.add_commit.new.chip in
    subst (λ (s : StatusTable). Charts (Adds old.places s c.args.counter.now tids) old new)
    c.self.view_is
    (adds_told old.places st c.args.counter.now tids (Ok tt) old new are
    c.self.invariant.least room
    (subst (λ (k : ℕ). Charts (Gains inside.place inside.first
    (commit_sector inside.generation k tids)) old new) c.draw-serial.ensures.drawn
    (rw (place_is, first_is, same) at c.in_ok-add_commit.ensures.tells)))

pub returns-clause-steps : goal.returns-clause-steps
returns-clause-steps g c =
    let place_is = c.first_clean-spot.ensures.place ∙ sym (ap (λ (s : StatusTable). s.place) c.self.view_is) in
    let first_is = c.first_clean-spot.ensures.sector ∙ sym (ap (λ (s : StatusTable). s.first) c.self.view_is) in
    let same = c.noted.ensures.same ∙ c.of-commit.ensures in
    let inside = c.self.inside in
    let st : StatusTable = record {
      place = inside.place;
      generation = inside.generation;
      numbers = inside.numbers.list;
      most = inside.numbers.most;
      first = inside.first;
    } in
    let tids = c.args.tids.now in
    let are : AreSpelled tids = spelled_from tids c.requires.some c.requires.few
    (λ i. omega (arith, c.type_inv.tids i)) in
    let room : inside.first < 256 =
    omega (arith, (room_left c.args.self.now c.requires.room).0, ap (λ (s : StatusTable). s.first) c.self.view_is) in
    let old = g.C.Chip.told c.args.chip.now in
    let new = g.C.Chip.told c.add_commit.new.chip in
    subst (λ (s : StatusTable). AddsInSteps old.places s c.args.counter.now tids (Ok tt) old new)
    c.self.view_is
    (added_in_steps old.places st c.args.counter.now tids (Ok tt) old new are
    c.self.invariant.least room
    (subst (λ (k : ℕ). LeadsCommit old.places inside.place inside.first
    (commit_sector inside.generation k tids) old (Ok tt) new) c.draw-serial.ensures.drawn
    (rw (place_is, first_is, same) at c.in_ok-add_commit.ensures.leads)) tt)

pub returns-clause-header : goal.returns-clause-header
returns-clause-header g c =
    let place_is = c.first_clean-spot.ensures.place ∙ sym (ap (λ (s : StatusTable). s.place) c.self.view_is) in
    let first_is = c.first_clean-spot.ensures.sector ∙ sym (ap (λ (s : StatusTable). s.first) c.self.view_is) in
    let same = c.noted.ensures.same ∙ c.of-commit.ensures in
    let inside = c.self.inside in
    let old = g.C.Chip.told c.args.chip.now in
    let new = g.C.Chip.told c.add_commit.new.chip in
    subst (λ (s : StatusTable). Charts (KeepsFirstAt s.place) old new) c.self.view_is
    (firsts_stay inside.place inside.first (commit_sector inside.generation c.draw-serial.result c.args.tids.now) old
    new c.self.invariant.least (rw (place_is, first_is, same) at c.in_ok-add_commit.ensures.tells))

pub returns-in_err-add_commit-clause-writes : goal.returns-in_err-add_commit-clause-writes
returns-in_err-add_commit-clause-writes g c =
    let place_is = c.first_clean-spot.ensures.place ∙ sym (ap (λ (s : StatusTable). s.place) c.self.view_is) in
    let first_is = c.first_clean-spot.ensures.sector ∙ sym (ap (λ (s : StatusTable). s.first) c.self.view_is) in
    let e = err_from_is_err_and c.from_residual.result c.from_residual.ensures.1 in
    rw (e.1 ∙ ap Err e.2) (subst (λ (s : StatusTable). WritesOneSector s.place s.first 6
    (Err c.in_err-add_commit.field-0.0) (g.C.Chip.told c.args.chip.now)
    (g.C.Chip.told c.add_commit.new.chip)) c.self.view_is
    (rw (place_is, first_is) at (one_sector _ _ 6 _ _ _ c.in_err-add_commit.ensures.writes)))

pub returns-clause-writes : goal.returns-clause-writes
returns-clause-writes g c =
    let place_is = c.first_clean-spot.ensures.place ∙ sym (ap (λ (s : StatusTable). s.place) c.self.view_is) in
    let first_is = c.first_clean-spot.ensures.sector ∙ sym (ap (λ (s : StatusTable). s.first) c.self.view_is) in
    subst (λ (s : StatusTable). WritesOneSector s.place s.first 6 (Ok tt)
    (g.C.Chip.told c.args.chip.now) (g.C.Chip.told c.add_commit.new.chip)) c.self.view_is
    (rw (place_is, first_is) at (one_sector _ _ 6 _ _ _ c.in_ok-add_commit.ensures.writes))
