use Rattle.std.proofs.Common.{◌<◌, ◌≤◌, ◌+◌, ◌-◌, ℕ, refl, arith}
use Rattle.std.proofs.lemmas.Result.{err_from_is_err_and}
use Rattle.unit_log.specs.Live.{spots_from}
use Rattle.unit_log.specs.Looks.{IsFrom}
use Rattle.chip_trait.specs.Told.{Told}
use Rattle.unit_io.specs.Costs.{Spends}
use Rattle.unit_log.specs.Often.{ReadsListed}
use Rattle.unit_log.proofs.OftenLemmas.{but_all, from_fewer, often_wider}
use Rattle.unit_log.proofs.GatherLemmas.{read_none, read_more, read_fails, looks_fails, often_fails, home_step}
use Rattle.unit_log.proofs.reading.read_home.Goals as goal

pub loop-sector-init : goal.loop-sector-init
loop-sector-init g c = record {
  read =
      read_none (IsFrom c.args.place 241) c.args.owner.unit c.args.owner.generation
      (spots_from c.args.place 241 (c.args.end - 241)) c.args.scratch.now
      (g.C.Chip.told c.args.chip.now);
  count = omega arith;
}

-- the sector is one of the place's last
in_place : (place s end : ℕ) → 241 ≤ s → s < end → end ≤ 256 → IsFrom place 241 place s
in_place place s end least less most = (refl, least, omega (arith, less, most))

pub loop-sector-preserved : goal.loop-sector-preserved
loop-sector-preserved g c =
    let so_far = c.loop-sector.invariant in
    let p = c.args.place in
    let s = c.loop-sector.sector in
    let end = c.args.end in
    record {
      read =
          read_more (IsFrom p 241) c.args.owner.unit c.args.owner.generation (spots_from p 241 (end - 241))
          (spots_from p s (end - s)) (spots_from p (s + 1) (end - (s + 1))) p s
          c.args.scratch.now c.loop-sector.scratch c.read_spot.new.scratch
          (g.C.Chip.told c.args.chip.now) (g.C.Chip.told c.loop-sector.chip)
          (g.C.Chip.told c.read_spot.new.chip)
          (home_step p s end c.loop-sector-test.true)
          (in_place p s end c.loop-sector.auto.sector c.loop-sector-test.true c.requires.end.most)
          so_far.read
          c.in_ok-read_spot.ensures.gathers c.in_ok-read_spot.ensures.looks.reads
          c.read_spot.ensures.often;
      count = omega (arith, so_far.count, c.read_spot.ensures.count);
    }

pub read_spot-requires-clause-place : goal.read_spot-requires-clause-place
read_spot-requires-clause-place g c =
    omega (arith, c.requires.end.place, c.loop-sector.invariant.read.reads.counts.places)

pub read_spot-requires-clause-room : goal.read_spot-requires-clause-room
read_spot-requires-clause-room g c =
    omega (
      arith,
      c.loop-sector.invariant.count,
      c.requires.room,
      c.requires.end.most,
      c.loop-sector-test.true,
    )

pub returns-in_err-read_spot-clause-gathers : goal.returns-in_err-read_spot-clause-gathers
returns-in_err-read_spot-clause-gathers g c =
    let e = err_from_is_err_and c.from_residual.result c.from_residual.ensures.1 in
    let p = c.args.place in
    let s = c.loop-sector.sector in
    let end = c.args.end in
    read_fails (IsFrom p 241) c.args.owner.unit c.args.owner.generation (spots_from p 241 (end - 241))
    (spots_from p s (end - s)) (spots_from p (s + 1) (end - (s + 1))) p s
    c.args.scratch.now c.loop-sector.scratch c.read_spot.new.scratch (g.C.Chip.told c.args.chip.now)
    (g.C.Chip.told c.loop-sector.chip) (g.C.Chip.told c.read_spot.new.chip)
    (home_step p s end c.loop-sector-test.true)
    (in_place p s end c.loop-sector.auto.sector c.loop-sector-test.true c.requires.end.most)
    c.loop-sector.invariant.read
    _ e.0 _ e.1 e.2 c.in_err-read_spot.ensures.gathers

pub returns-in_err-read_spot-clause-looks : goal.returns-in_err-read_spot-clause-looks
returns-in_err-read_spot-clause-looks g c =
    let e = err_from_is_err_and c.from_residual.result c.from_residual.ensures.1 in
    let p = c.args.place in
    let s = c.loop-sector.sector in
    let end = c.args.end in
    looks_fails (IsFrom p 241) c.args.owner.unit c.args.owner.generation (spots_from p 241 (end - 241))
    (spots_from p s (end - s)) (spots_from p (s + 1) (end - (s + 1))) p s
    c.args.scratch.now c.loop-sector.scratch c.read_spot.new.scratch (g.C.Chip.told c.args.chip.now)
    (g.C.Chip.told c.loop-sector.chip) (g.C.Chip.told c.read_spot.new.chip)
    (home_step p s end c.loop-sector-test.true)
    (in_place p s end c.loop-sector.auto.sector c.loop-sector-test.true c.requires.end.most)
    c.loop-sector.invariant.read
    _ e.0 _ e.1 e.2 c.in_err-read_spot.ensures.looks

-- the last 15 sectors at most
in_log : (place end : ℕ) (old new : Told) → end ≤ 256
    → Spends (ReadsListed (spots_from place 241 (end - 241))) old new
    → Spends (ReadsListed (spots_from place 241 15)) old new
in_log place end old new most =
    often_wider (spots_from place 241 (end - 241)) (spots_from place 241 15) old new
    (λ q t. from_fewer place 241 (end - 241) 15 q t (omega (arith, most)))

pub returns-in_err-read_spot-clause-often : goal.returns-in_err-read_spot-clause-often
returns-in_err-read_spot-clause-often g c =
    let p = c.args.place in
    let s = c.loop-sector.sector in
    let end = c.args.end in
    let old = g.C.Chip.told c.args.chip.now in
    let new = g.C.Chip.told c.read_spot.new.chip in
    in_log p end old new c.requires.end.most
    (often_fails (IsFrom p 241) c.args.owner.unit c.args.owner.generation (spots_from p 241 (end - 241))
    (spots_from p s (end - s)) (spots_from p (s + 1) (end - (s + 1))) p s
    c.args.scratch.now c.loop-sector.scratch c.read_spot.new.scratch old (g.C.Chip.told c.loop-sector.chip) new
    (home_step p s end c.loop-sector-test.true)
    (in_place p s end c.loop-sector.auto.sector c.loop-sector-test.true c.requires.end.most)
    c.loop-sector.invariant.read c.read_spot.ensures.often)

pub returns-clause-often : goal.returns-clause-often
returns-clause-often g c =
    let p = c.args.place in
    let s = c.loop-sector.sector in
    let end = c.args.end in
    let old = g.C.Chip.told c.args.chip.now in
    let new = g.C.Chip.told c.loop-sector.chip in
    in_log p end old new c.requires.end.most
    (but_all (spots_from p 241 (end - 241)) (spots_from p s (end - s)) old new c.loop-sector.invariant.read.often)
