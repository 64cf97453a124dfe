use Rattle.std.proofs.Common.{rules, arith, ◌∙◌, ◌+◌, ◌*◌, ap, sym, subst, length, Option}
use Rattle.ipl_format.specs.Sector.{Sector}
use Rattle.sector_format.specs.Decode.{sector_of}
use Rattle.std.specs.Option.{option_map}
use Rattle.ipl_meaning.specs.First.{at, with_one}
use Rattle.ipl_meaning.specs.Live.{mark_of, is_overflow_place}
use Rattle.ipl_meaning.specs.Faults.{TellsImageFault, log_test}
use Rattle.ipl_meaning.proofs.TellsLemmas.{tells_exit}
use Rattle.ipl_meaning.specs.FoundLogs.{mask_of_sector}
use Rattle.restart.specs.Joins.{joined, kept_of}
use Rattle.restart.specs.Collected.{records_at, AreKept}
use Rattle.overflow.specs.Lists.{has_room_for}
use Rattle.restart.specs.Notes.{IsNoted}
use Rattle.restart.proofs.LogLemmas.{live_low, unit_low, overflow_sector, spot_sector, serial_fits, roomy_more, sized_more, noted_live, none_live, some_live}
use Rattle.restart.proofs.InUseLemmas.{unused_from}
use Rattle.restart.proofs.MaskedLemmas.{masked_none, masked_live}
use Rattle.restart.proofs.logs.take_log.Goals as goal

pub check_log-requires-clause-unit : goal.check_log-requires-clause-unit
check_log-requires-clause-unit c =
    (unit_low (at c.args.heads.now.all.now) c.args.heads.now.current.now c.args.spot.place (length c.args.heads.now.all.now) (sector_of c.args.head.now c.args.payload.now) c.args.findings.now.noted.now c.args.findings.now.overflow.now
    (sym (c.is_live.ensures c.args.payload.now) ∙ c.if-is_live.true) c.requires.room.sized).0

pub add-requires-clause-unit : goal.add-requires-clause-unit
add-requires-clause-unit c =
    (unit_low (at c.args.heads.now.all.now) c.args.heads.now.current.now c.args.spot.place (length c.args.heads.now.all.now) (sector_of c.args.head.now c.args.payload.now) c.args.findings.now.noted.now c.args.findings.now.overflow.now
    (sym (c.is_live.ensures c.args.payload.now) ∙ c.if-is_live.true) c.requires.room.sized).0

pub add-requires-clause-few : goal.add-requires-clause-few
add-requires-clause-few c =
    serial_fits c.args.heads.now.all.now (at c.args.heads.now.current.now) c.args.spot.place c.args.spot.sector c.requires.spot.sector (sector_of c.args.head.now c.args.payload.now) c.requires.spot.spot
    (sym (c.is_live.ensures c.args.payload.now) ∙ c.if-is_live.true) c.args.findings.now.noted.now c.args.findings.now.overflow.now c.requires.room.roomy c.in_ok-check_log.ensures.room

pub list_log-requires-clause-units : goal.list_log-requires-clause-units
list_log-requires-clause-units c =
    let sized = c.requires.room.sized in
    let (noted, listed) = unit_low (at c.args.heads.now.all.now) c.args.heads.now.current.now c.args.spot.place (length c.args.heads.now.all.now) (sector_of c.args.head.now c.args.payload.now) c.args.findings.now.noted.now c.args.findings.now.overflow.now
    (sym (c.is_live.ensures c.args.payload.now) ∙ c.if-is_live.true) sized in record {
      noted = omega (arith, noted, c.add.ensures.units);
      listed = listed;
      units = c.requires.room.units ∙ sym sized.listed_units;
      places_are = sized.listed_places;
    }

pub list_log-requires-clause-elsewhere : goal.list_log-requires-clause-elsewhere
list_log-requires-clause-elsewhere c = λ over.
    let few = c.in_ok-check_log.ensures.room over in
    let roomy = c.requires.room.roomy in
    let fewer = roomy.fewer c.args.head.now.unit in record {
      few = omega (arith, few, c.add.ensures.elsewhere c.args.head.now.unit);
      fewer = omega (arith, few, fewer);
      least = overflow_sector (at c.args.heads.now.all.now) (at c.args.heads.now.current.now) c.args.spot.place c.args.spot.sector c.requires.spot.spot over;
      clean = unused_from c.args.spot.place c.args.spot.sector c.args.findings.now.overflow.now.in_use roomy.firsts;
    }

pub list_log-requires-clause-home : goal.list_log-requires-clause-home
list_log-requires-clause-home c = λ home.
    spot_sector (at c.args.heads.now.all.now) (at c.args.heads.now.current.now) c.args.spot.place c.args.spot.sector (sector_of c.args.head.now c.args.payload.now) c.requires.spot.spot
    (sym (c.is_live.ensures c.args.payload.now) ∙ c.if-is_live.true) home

pub returns-then-is_live-clause-collected : goal.returns-then-is_live-clause-collected
returns-then-is_live-clause-collected c = λ found are.
    subst (λ (o : Option Sector). AreKept (joined c.args.findings.now.status.now.numbers (records_at o) found) c.collect-fits.result (kept_of c.args.findings.now.status.now.numbers c.collect-fits.new.numbers))
    (sym (some_live (at c.args.heads.now.all.now) (at c.args.heads.now.current.now) c.args.spot.place (sector_of c.args.head.now c.args.payload.now) (sym (c.is_live.ensures c.args.payload.now) ∙ c.if-is_live.true)))
    (c.collect-fits.ensures.kept found are)

pub returns-clause-collected : goal.returns-clause-collected
returns-clause-collected c = λ found are.
    subst (λ (o : Option Sector). AreKept (joined c.args.findings.now.status.now.numbers (records_at o) found) c.args.fits (kept_of c.args.findings.now.status.now.numbers c.args.findings.now.numbers.now))
    (sym (none_live (at c.args.heads.now.all.now) (at c.args.heads.now.current.now) c.args.spot.place (sector_of c.args.head.now c.args.payload.now) (sym (c.is_live.ensures c.args.payload.now) ∙ c.if-is_live.false))) are

pub returns-in_err-check_log-clause-takes : goal.returns-in_err-check_log-clause-takes
returns-in_err-check_log-clause-takes c = record {
  fault = λ marks noted.
      subst (λ (o : Option Sector). TellsImageFault (log_test (at c.args.heads.now.all.now) marks (c.args.spot.place * 256 + c.args.spot.sector) o) c.from_residual.result)
      (sym (some_live (at c.args.heads.now.all.now) (at c.args.heads.now.current.now) c.args.spot.place (sector_of c.args.head.now c.args.payload.now) (sym (c.is_live.ensures c.args.payload.now) ∙ c.if-is_live.true)))
      (tells_exit c.from_residual.result _ c.in_err-check_log.field-0.0 c.from_residual.ensures.1 (c.in_err-check_log.ensures.fault marks c.args.findings.now.overflow.now noted));
  image = search rules;
  noted = search rules;
  masked = search rules;
  places = search rules;
  room = search rules;
  still = search rules;
}

pub returns-then-is_live-clause-takes : goal.returns-then-is_live-clause-takes
returns-then-is_live-clause-takes c = record {
  room = record {
    roomy = let sector = sector_of c.args.head.now c.args.payload.now in
        let live = sym (c.is_live.ensures c.args.payload.now) ∙ c.if-is_live.true in
        roomy_more c.args.heads.now.all.now (at c.args.heads.now.current.now) c.args.spot.place c.args.spot.sector c.requires.spot.sector sector c.requires.spot.spot live
        c.args.findings.now.noted.now c.args.findings.now.overflow.now c.requires.room.roomy c.in_ok-check_log.ensures.room
        c.add.new.self c.list_log.new.noted c.list_log.new.overflow c.args.head.now.serial c.pages_of-mask.result c.requires.spot.place c.add.ensures
        c.list_log.ensures.counted
        (unit_low (at c.args.heads.now.all.now) c.args.heads.now.current.now c.args.spot.place (length c.args.heads.now.all.now) sector c.args.findings.now.noted.now c.args.findings.now.overflow.now live c.requires.room.sized).1 c.list_log.ensures.listed;
    sized = sized_more _ _ c.args.head.now.unit c.args.head.now.serial c.args.spot.place c.args.spot.place c.args.spot.sector c.pages_of-mask.result (is_overflow_place (at c.args.heads.now.all.now c.args.spot.place))
        (has_room_for c.args.findings.now.overflow.now c.args.spot.place)
        c.args.findings.now.noted.now c.add.new.self c.list_log.new.noted c.args.findings.now.overflow.now c.list_log.new.overflow c.add.ensures c.list_log.ensures.counted c.list_log.ensures.listed c.requires.room.sized;
  };
  image = search rules;
  places = search rules;
  still = search rules;
  fault = λ marks noted.
      ap (log_test (at c.args.heads.now.all.now) marks (c.args.spot.place * 256 + c.args.spot.sector))
      (some_live (at c.args.heads.now.all.now) (at c.args.heads.now.current.now) c.args.spot.place (sector_of c.args.head.now c.args.payload.now) (sym (c.is_live.ensures c.args.payload.now) ∙ c.if-is_live.true))
      ∙ c.in_ok-check_log.ensures.fault marks c.args.findings.now.overflow.now noted;
  noted = λ marks noted.
      let sector = sector_of c.args.head.now c.args.payload.now in
      let live = sym (c.is_live.ensures c.args.payload.now) ∙ c.if-is_live.true in
      noted_live (at c.args.heads.now.all.now) (at c.args.heads.now.current.now) c.args.spot.place c.args.spot.sector c.pages_of-mask.result c.requires.spot.sector sector
      c.args.findings.now.noted.now c.add.new.self c.list_log.new.noted c.args.findings.now.overflow.now c.list_log.new.overflow marks live
      (unit_low (at c.args.heads.now.all.now) c.args.heads.now.current.now c.args.spot.place (length c.args.heads.now.all.now) sector c.args.findings.now.noted.now c.args.findings.now.overflow.now live c.requires.room.sized).1
      c.add.ensures c.list_log.ensures.counted c.list_log.ensures.listed noted;
  masked = λ found is so_far.
      let sector = sector_of c.args.head.now c.args.payload.now in
      let live = sym (c.is_live.ensures c.args.payload.now) ∙ c.if-is_live.true in
      masked_live (at c.args.heads.now.all.now) (at c.args.heads.now.current.now) found c.args.spot.place c.args.spot.sector c.requires.spot.sector sector c.requires.spot.spot live
      c.args.findings.now.directory.now c.args.findings.now.overflow.now (length c.args.heads.now.current.now) c.pages_of-mask.result c.facts.ensures c.facts-then-is_live.ensures c.requires.room.units
      c.requires.room.sized.listed_units (live_low (at c.args.heads.now.all.now) c.args.heads.now.current.now c.args.spot.place sector live) c.pages_of-mask.ensures is so_far
      c.list_log.new.directory c.list_log.new.overflow c.list_log.ensures.masked c.list_log.ensures.listed;
}

pub returns-clause-takes : goal.returns-clause-takes
returns-clause-takes c = record {
  image = search rules;
  places = search rules;
  room = search rules;
  still = search rules;
  fault = λ marks noted.
      ap (log_test (at c.args.heads.now.all.now) marks (c.args.spot.place * 256 + c.args.spot.sector))
      (none_live (at c.args.heads.now.all.now) (at c.args.heads.now.current.now) c.args.spot.place (sector_of c.args.head.now c.args.payload.now) (sym (c.is_live.ensures c.args.payload.now) ∙ c.if-is_live.false));
  noted = λ marks noted.
      subst (λ (o : Option Sector). IsNoted c.args.findings.now.noted.now c.args.findings.now.overflow.now (with_one marks (option_map (mark_of (at c.args.heads.now.all.now) (c.args.spot.place * 256 + c.args.spot.sector)) o)))
      (sym (none_live (at c.args.heads.now.all.now) (at c.args.heads.now.current.now) c.args.spot.place (sector_of c.args.head.now c.args.payload.now) (sym (c.is_live.ensures c.args.payload.now) ∙ c.if-is_live.false))) noted;
  masked = λ found is so_far.
      let none = none_live (at c.args.heads.now.all.now) (at c.args.heads.now.current.now) c.args.spot.place (sector_of c.args.head.now c.args.payload.now) (sym (c.is_live.ensures c.args.payload.now) ∙ c.if-is_live.false) in
      masked_none (at c.args.heads.now.all.now) (at c.args.heads.now.current.now) found (c.args.spot.place * 256 + c.args.spot.sector) c.args.findings.now.directory.now c.args.findings.now.overflow.now
      (λ u. is u ∙ ap (mask_of_sector u) none) so_far;
}
