use Rattle.std.proofs.Common.{◌+◌, length, map, get_or, arith}
use Rattle.std.proofs.lemmas.Result.{err_from_is_err_and}
use Rattle.ipl_base.specs.declared.spot.Spot.{Spot}
use Rattle.overflow.specs.Lists.{pair_of}
use Rattle.unit_log.specs.Looks.{IsListed}
use Rattle.unit_log.proofs.CountLemmas.{most_none, most_then, most_wider}
use Rattle.unit_log.proofs.OftenLemmas.{but_all}
use Rattle.unit_log.proofs.GatherLemmas.{read_none, read_more, read_fails, looks_fails, often_fails, rest_of, listed_step, is_listed, listed_within}
use Rattle.unit_log.proofs.reading.read_listed.Goals as goal

pub loop-spot-init : goal.loop-spot-init
loop-spot-init g c = record {
  read =
      read_none (IsListed (map pair_of c.args.spots.now)) c.args.owner.unit c.args.owner.generation
      (map pair_of c.args.spots.now) c.args.scratch.now (g.C.Chip.told c.args.chip.now);
  added = most_none (g.C.Chip.told c.args.chip.now);
  count = omega arith;
}

pub loop-spot-preserved : goal.loop-spot-preserved
loop-spot-preserved g c =
    let so_far = c.loop-spot.invariant in
    let spots = c.args.spots.now in
    let i = c.loop-spot.spot-index in
    let spot : Spot = get_or spots i (record { place = 0; sector = 0 }) in
    record {
      read =
          read_more (IsListed (map pair_of spots)) c.args.owner.unit c.args.owner.generation (map pair_of spots)
          (rest_of spots i) (rest_of spots (i + 1)) spot.place spot.sector
          c.args.scratch.now c.loop-spot.scratch c.read_spot.new.scratch
          (g.C.Chip.told c.args.chip.now) (g.C.Chip.told c.loop-spot.chip)
          (g.C.Chip.told c.read_spot.new.chip)
          (listed_step spots i (record { place = 0; sector = 0 }) c.loop-spot-test.true)
          (is_listed spots i (record { place = 0; sector = 0 }) c.loop-spot-test.true)
          so_far.read
          c.in_ok-read_spot.ensures.gathers c.in_ok-read_spot.ensures.looks.reads
          c.read_spot.ensures.often;
      added = most_then i 1 (g.C.Chip.told c.args.chip.now) (g.C.Chip.told c.loop-spot.chip)
          (g.C.Chip.told c.read_spot.new.chip) so_far.added c.read_spot.ensures.one;
      count = omega (arith, so_far.count, c.read_spot.ensures.count);
    }

pub read_spot-requires-clause-place : goal.read_spot-requires-clause-place
read_spot-requires-clause-place g c =
    let within =
    listed_within (g.C.Chip.told c.args.chip.now).places c.args.spots.now c.loop-spot.spot-index
    (record { place = 0; sector = 0 }) c.loop-spot-test.true c.requires.within in
    omega (arith, within.0, c.loop-spot.invariant.read.reads.counts.places)

pub read_spot-requires-clause-sector : goal.read_spot-requires-clause-sector
read_spot-requires-clause-sector g c =
    (listed_within (g.C.Chip.told c.args.chip.now).places c.args.spots.now c.loop-spot.spot-index
    (record { place = 0; sector = 0 }) c.loop-spot-test.true c.requires.within).1

pub read_spot-requires-clause-room : goal.read_spot-requires-clause-room
read_spot-requires-clause-room g c =
    omega (
      arith,
      c.loop-spot.invariant.count,
      c.requires.room,
      c.loop-spot-test.true,
    )

pub returns-in_err-read_spot-clause-gathers : goal.returns-in_err-read_spot-clause-gathers
returns-in_err-read_spot-clause-gathers g c =
    let e = err_from_is_err_and c.from_residual.result c.from_residual.ensures.1 in
    let spots = c.args.spots.now in
    let i = c.loop-spot.spot-index in
    let spot : Spot = get_or spots i (record { place = 0; sector = 0 }) in
    read_fails (IsListed (map pair_of spots)) c.args.owner.unit c.args.owner.generation (map pair_of spots)
    (rest_of spots i) (rest_of spots (i + 1)) spot.place spot.sector
    c.args.scratch.now c.loop-spot.scratch c.read_spot.new.scratch (g.C.Chip.told c.args.chip.now)
    (g.C.Chip.told c.loop-spot.chip) (g.C.Chip.told c.read_spot.new.chip)
    (listed_step spots i (record { place = 0; sector = 0 }) c.loop-spot-test.true)
    (is_listed spots i (record { place = 0; sector = 0 }) c.loop-spot-test.true)
    c.loop-spot.invariant.read
    _ e.0 _ e.1 e.2 c.in_err-read_spot.ensures.gathers

pub returns-in_err-read_spot-clause-looks : goal.returns-in_err-read_spot-clause-looks
returns-in_err-read_spot-clause-looks g c =
    let e = err_from_is_err_and c.from_residual.result c.from_residual.ensures.1 in
    let spots = c.args.spots.now in
    let i = c.loop-spot.spot-index in
    let spot : Spot = get_or spots i (record { place = 0; sector = 0 }) in
    looks_fails (IsListed (map pair_of spots)) c.args.owner.unit c.args.owner.generation (map pair_of spots)
    (rest_of spots i) (rest_of spots (i + 1)) spot.place spot.sector
    c.args.scratch.now c.loop-spot.scratch c.read_spot.new.scratch (g.C.Chip.told c.args.chip.now)
    (g.C.Chip.told c.loop-spot.chip) (g.C.Chip.told c.read_spot.new.chip)
    (listed_step spots i (record { place = 0; sector = 0 }) c.loop-spot-test.true)
    (is_listed spots i (record { place = 0; sector = 0 }) c.loop-spot-test.true)
    c.loop-spot.invariant.read
    _ e.0 _ e.1 e.2 c.in_err-read_spot.ensures.looks

pub returns-in_err-read_spot-clause-each : goal.returns-in_err-read_spot-clause-each
returns-in_err-read_spot-clause-each g c =
    let i = c.loop-spot.spot-index in
    most_wider (i + 1) (length c.args.spots.now) (g.C.Chip.told c.args.chip.now) (g.C.Chip.told c.read_spot.new.chip)
    (omega (arith, c.loop-spot-test.true))
    (most_then i 1 (g.C.Chip.told c.args.chip.now) (g.C.Chip.told c.loop-spot.chip)
    (g.C.Chip.told c.read_spot.new.chip) c.loop-spot.invariant.added c.read_spot.ensures.one)

pub returns-in_err-read_spot-clause-often : goal.returns-in_err-read_spot-clause-often
returns-in_err-read_spot-clause-often g c =
    let spots = c.args.spots.now in
    let i = c.loop-spot.spot-index in
    let spot : Spot = get_or spots i (record { place = 0; sector = 0 }) in
    often_fails (IsListed (map pair_of spots)) c.args.owner.unit c.args.owner.generation (map pair_of spots)
    (rest_of spots i) (rest_of spots (i + 1)) spot.place spot.sector
    c.args.scratch.now c.loop-spot.scratch c.read_spot.new.scratch (g.C.Chip.told c.args.chip.now)
    (g.C.Chip.told c.loop-spot.chip) (g.C.Chip.told c.read_spot.new.chip)
    (listed_step spots i (record { place = 0; sector = 0 }) c.loop-spot-test.true)
    (is_listed spots i (record { place = 0; sector = 0 }) c.loop-spot-test.true)
    c.loop-spot.invariant.read c.read_spot.ensures.often

pub returns-clause-often : goal.returns-clause-often
returns-clause-often g c =
    let spots = c.args.spots.now in
    but_all (map pair_of spots) (rest_of spots c.loop-spot.spot-index) (g.C.Chip.told c.args.chip.now)
    (g.C.Chip.told c.loop-spot.chip) c.loop-spot.invariant.read.often
