use Rattle.std.proofs.Common.{◌-◌, length, map, refl, ap, arith}
use Rattle.std.proofs.lemmas.Result.{err_from_is_err_and}
use Rattle.overflow.specs.Lists.{pair_of}
use Rattle.unit_io.proofs.ReadsAtLemmas.{at_none, at_wider}
use Rattle.unit_log.specs.Live.{spots_from}
use Rattle.unit_log.specs.Looks.{IsFrom, IsListed, IsLogRead}
use Rattle.unit_log.proofs.OftenLemmas.{often_first, often_then}
use Rattle.unit_log.proofs.LooksLemmas.{at_home, at_listed, looks_failed, looks_then}
use Rattle.unit_log.proofs.GatherLemmas.{gathers_failed, gathers_then}
use Rattle.unit_log.proofs.reading.read_sectors.Goals as goal

pub read_home-requires-clause-room : goal.read_home-requires-clause-room
read_home-requires-clause-room g c = omega (arith, ap length c.requires.none)

pub read_listed-requires-clause-room : goal.read_listed-requires-clause-room
read_listed-requires-clause-room g c =
    omega (arith, ap length c.requires.none, c.read_home.ensures.count, c.requires.few)

pub read_listed-requires-clause-within : goal.read_listed-requires-clause-within
read_listed-requires-clause-within g c =
    let places = c.in_ok-read_home.ensures.looks.reads.counts.places in
    rw places c.requires.within

pub returns-in_err-read_home-clause-gathers : goal.returns-in_err-read_home-clause-gathers
returns-in_err-read_home-clause-gathers g c =
    let e = err_from_is_err_and c.from_residual.result c.from_residual.ensures.1 in
    gathers_failed (g.C.Chip.told c.args.chip.now) c.args.owner.unit c.args.owner.generation
    (spots_from c.args.place 241 (c.args.end - 241)) (map pair_of c.args.spots.now)
    c.args.scratch.now c.read_home.new.scratch _ e.0 _ e.1 e.2 c.in_err-read_home.ensures.gathers

pub returns-in_err-read_home-clause-looks : goal.returns-in_err-read_home-clause-looks
returns-in_err-read_home-clause-looks g c =
    let e = err_from_is_err_and c.from_residual.result c.from_residual.ensures.1 in
    let At = IsLogRead c.args.place (map pair_of c.args.spots.now) in
    looks_failed (IsFrom c.args.place 241) At
    (at_home c.args.place c.args.place (map pair_of c.args.spots.now)
    (map pair_of c.args.spots.now) refl refl)
    _ e.0 _ (g.C.Chip.told c.args.chip.now) (g.C.Chip.told c.args.chip.now)
    (g.C.Chip.told c.read_home.new.chip) e.1 e.2
    (at_none At (g.C.Chip.told c.args.chip.now)) c.in_err-read_home.ensures.looks

pub returns-clause-gathers : goal.returns-clause-gathers
returns-clause-gathers g c =
    gathers_then (g.C.Chip.told c.args.chip.now)
    (g.C.Chip.told c.read_home.new.chip) c.args.owner.unit c.args.owner.generation
    (spots_from c.args.place 241 (c.args.end - 241)) (map pair_of c.args.spots.now)
    c.args.scratch.now c.read_home.new.scratch c.read_listed.new.scratch c.read_listed.result
    c.in_ok-read_home.ensures.looks.reads.contents
    c.in_ok-read_home.ensures.gathers c.read_listed.ensures.gathers

pub returns-clause-looks : goal.returns-clause-looks
returns-clause-looks g c =
    let spots = map pair_of c.args.spots.now in
    let At = IsLogRead c.args.place spots in
    looks_then (IsListed spots) At
    (at_listed c.args.place c.args.place spots spots refl refl) c.read_listed.result
    (g.C.Chip.told c.args.chip.now) (g.C.Chip.told c.read_home.new.chip)
    (g.C.Chip.told c.read_listed.new.chip)
    (at_wider (IsFrom c.args.place 241) At (g.C.Chip.told c.args.chip.now)
    (g.C.Chip.told c.read_home.new.chip)
    (at_home c.args.place c.args.place spots spots refl refl) c.in_ok-read_home.ensures.looks.reads)
    c.read_listed.ensures.looks

pub returns-in_err-read_home-clause-often : goal.returns-in_err-read_home-clause-often
returns-in_err-read_home-clause-often g c =
    often_first (spots_from c.args.place 241 15) (map pair_of c.args.spots.now) (g.C.Chip.told c.args.chip.now)
    (g.C.Chip.told c.read_home.new.chip) c.read_home.ensures.often

pub returns-clause-often : goal.returns-clause-often
returns-clause-often g c =
    often_then (spots_from c.args.place 241 15) (map pair_of c.args.spots.now) (g.C.Chip.told c.args.chip.now)
    (g.C.Chip.told c.read_home.new.chip) (g.C.Chip.told c.read_listed.new.chip) c.read_home.ensures.often
    c.read_listed.ensures.often
