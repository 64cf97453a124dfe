use Rattle.std.proofs.Common.{◌≡◌, ◌∙◌, ◌≤◌, ◌<◌, ℕ, ◌+◌, [], None, ap, subst, arith}
use Rattle.ipl_meaning.specs.Chart.{chart_of}
use Rattle.ipl_base.specs.First.{first_below}
use Rattle.ipl_meaning.specs.First.{joined_below}
use Rattle.ipl_meaning.specs.LaidOut.{numbers_of}
use Rattle.ipl_meaning.specs.Live.{sectors, commit_at}
use Rattle.ipl_meaning.specs.Faults.{noted_fault, greatest_of_notes}
use Rattle.ipl_base.proofs.FirstLemmas.{first_more, first_found}
use Rattle.ipl_meaning.proofs.LiveLemmas.{sectors_are}
use Rattle.number_set.specs.Numbers.{with_numbers}
use Rattle.txn_status.specs.ReadingIn.{under}
use Rattle.txn_status.specs.Marks.{marks_below}
use Rattle.txn_status.proofs.ReadLemmas.{read_some, read_none, fine_some, numbers_full, number_more, numbers_more, marks_more, whole_more, looks_failed, once_more, once_in_place, reads_more}
use Rattle.txn_status.proofs.reading.read_commits.Goals as goal

pub loop-sector-preserved : goal.loop-sector-preserved
loop-sector-preserved g c =
    let so = c.loop-sector.invariant in
    let r = c.read_spot.ensures in
    let found = c.in-Ok-Some in
    let place = c.args.from.place in
    let generation = c.args.from.generation in
    let s = c.loop-sector.sector in
    let least : 1 ≤ s = c.loop-sector.auto.sector in
    let most : s < 256 = omega (arith, c.loop-sector-test.true) in
    let takes = read_some _ _ _ _ found.is found.field-0-is r.takes in record {
      reads = reads_more place s (g.C.Chip.told c.args.chip.now) (g.C.Chip.told c.loop-sector.chip)
          (g.C.Chip.told c.read_spot.new.chip) least most so.reads r.looks.reads;
      once = once_more place s (g.C.Chip.told c.args.chip.now) (g.C.Chip.told c.loop-sector.chip)
          (g.C.Chip.told c.read_spot.new.chip) least most so.once r.looks.once;
      number = λ x told. number_more (chart_of x) place generation s c.loop-sector.greatest
          found.noted c.max-greatest.result (so.number x told)
          (takes x (so.reads.contents ∙ told)).number c.max-greatest.ensures;
      fine = λ x told. first_more (noted_fault c.args.from.units (chart_of x) (under place generation)) s
          (so.fine x told) (fine_some _ _ _ _ found.is found.field-0-is (r.fault x (so.reads.contents ∙ told)));
      has = λ x told. numbers_more (chart_of x) place generation s c.loop-sector.numbers.list
          c.read_spot.new.numbers.list (so.has x told)
          (takes x (so.reads.contents ∙ told)).numbers;
      marks = λ x told. marks_more (chart_of x) place generation s c.loop-sector.mark
          c.read_spot.new.mark (so.marks x told)
          (takes x (so.reads.contents ∙ told)).marks;
      few = omega (arith, r.grows.few, so.few);
      most = r.grows.most ∙ so.most;
      whole = λ x told. whole_more x place s (so.whole x told)
          (read_some _ _ _ _ found.is found.field-0-is r.whole x (so.reads.contents ∙ told));
    }

pub returns-in-Err-clause-fault : goal.returns-in-Err-clause-fault
returns-in-Err-clause-fault g c = λ x told image.
    let so = c.loop-sector.invariant in
    first_found
    (noted_fault c.args.from.units (chart_of x) (under c.args.from.place c.args.from.generation)) c.loop-sector.sector sectors _
    (omega (arith, sectors_are, c.loop-sector-test.true)) (so.fine x told)
    (c.in-Err.ensures.fault x (so.reads.contents ∙ told) image)

pub returns-in-Ok-None-clause-many : goal.returns-in-Ok-None-clause-many
returns-in-Ok-None-clause-many g c = λ x told.
    let so = c.loop-sector.invariant in
    let full = c.in-Ok-None in
    numbers_full (chart_of x) c.args.from.place c.args.from.generation c.loop-sector.sector c.args.numbers.now.most
    c.loop-sector.numbers.list (omega (arith, sectors_are, c.loop-sector-test.true)) (so.has x told)
    (omega (arith, so.most, read_none _ _ _ full.is full.field-0-is c.read_spot.ensures.many x (so.reads.contents ∙ told)))

pub returns-in-Ok-None-clause-never : goal.returns-in-Ok-None-clause-never
returns-in-Ok-None-clause-never g c =
    let so = c.loop-sector.invariant in
    let full = c.in-Ok-None in
    omega (arith, so.few, so.most, read_none _ _ _ full.is full.field-0-is c.read_spot.ensures.near, c.loop-sector-test.true)

pub returns-in-Ok-None-clause-looks : goal.returns-in-Ok-None-clause-looks
returns-in-Ok-None-clause-looks g c =
    let so = c.loop-sector.invariant in
    let place = c.args.from.place in
    let s = c.loop-sector.sector in
    let least : 1 ≤ s = c.loop-sector.auto.sector in
    let most : s < 256 = omega (arith, c.loop-sector-test.true) in record {
      reads = reads_more place s (g.C.Chip.told c.args.chip.now) (g.C.Chip.told c.loop-sector.chip)
          (g.C.Chip.told c.read_spot.new.chip) least most so.reads c.read_spot.ensures.looks.reads;
      once = once_in_place place (s + 1) (g.C.Chip.told c.args.chip.now) (g.C.Chip.told c.read_spot.new.chip)
          (once_more place s (g.C.Chip.told c.args.chip.now) (g.C.Chip.told c.loop-sector.chip)
          (g.C.Chip.told c.read_spot.new.chip) least most so.once c.read_spot.ensures.looks.once);
      cause = tt;
    }

pub returns-clause-fault : goal.returns-clause-fault
returns-clause-fault g c = λ x told.
    let all : c.loop-sector.sector ≡ sectors = omega (arith, sectors_are) in
    subst (λ (n : ℕ). first_below (noted_fault c.args.from.units (chart_of x) (under c.args.from.place c.args.from.generation))
    n ≡ None) all (c.loop-sector.invariant.fine x told)

pub returns-clause-takes : goal.returns-clause-takes
returns-clause-takes g c = λ x told.
    let so = c.loop-sector.invariant in
    let all : c.loop-sector.sector ≡ sectors = omega (arith, sectors_are) in
    let place = c.args.from.place in
    let generation = c.args.from.generation in record {
      numbers = so.has x told ∙ ap (λ (n : ℕ). with_numbers (joined_below (λ s. numbers_of
          (commit_at (chart_of x) (under place generation) s)) n) []) all;
      marks = so.marks x told ∙ ap (marks_below (chart_of x) place generation) all;
      number = so.number x told
          ∙ ap (greatest_of_notes 0 (chart_of x) (under place generation)) all;
    }

pub returns-in-Err-clause-looks : goal.returns-in-Err-clause-looks
returns-in-Err-clause-looks g c =
    let so = c.loop-sector.invariant in
    let most : c.loop-sector.sector < 256 = omega (arith, c.loop-sector-test.true) in
    looks_failed c.args.from.place c.loop-sector.sector c.in-Err.fault
    (g.C.Chip.told c.args.chip.now) (g.C.Chip.told c.loop-sector.chip)
    (g.C.Chip.told c.read_spot.new.chip) c.loop-sector.auto.sector most so.reads so.once
    c.in-Err.ensures.looks

pub returns-clause-looks : goal.returns-clause-looks
returns-clause-looks g c = record {
  reads = c.loop-sector.invariant.reads;
  once = once_in_place c.args.from.place c.loop-sector.sector (g.C.Chip.told c.args.chip.now)
      (g.C.Chip.told c.loop-sector.chip) c.loop-sector.invariant.once;
  cause = tt;
}
