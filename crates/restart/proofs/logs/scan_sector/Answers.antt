use Rattle.std.proofs.Common.{rules, ◌∙◌, ◌+◌, ◌*◌, false, None, sym, arith, refl, length, subst, ap, ℕ, List, get_or}
use Rattle.std.proofs.lemmas.Result.{err_from_is_err_and}
use Rattle.ipl_meaning.specs.Chart.{chart_of}
use Rattle.ipl_meaning.specs.First.{at}
use Rattle.ipl_meaning.specs.Live.{kept, is_log}
use Rattle.unit_io.specs.Kinds.{sector_named}
use Rattle.restart.proofs.LookLemmas.{reads_none, asked_reads, looks_missed, looks_weaker, looks_found, looks_done}
use Rattle.restart.proofs.LogLemmas.{scanned_more, fault_found, none_seen, read_seen}
use Rattle.unit_io.proofs.OnceLemmas.{once_none, once_asked}
use Rattle.restart.proofs.OnceLemmas.{InSector}
use Rattle.restart.specs.Masked.{mask_by}
use Rattle.restart.proofs.MaskedLemmas.{masked_none}
use Rattle.ipl_meaning.specs.Tables.{Places, StatusTable}
use Rattle.restart.specs.Scanned.{IsScanned}
use Rattle.restart.specs.Counted.{SameHomes, StaysUnknown, IsReadLog, does_check, is_erased}
use Rattle.restart.proofs.CountedLogLemmas.{homes_then, homes_from, unknown_then, unknown_from, unknown_seen, seen_homes, seen_masks, masked_alike, check_found, erased_found, unchecked_found, unerased_found, logs_past, logs_seen}
use Rattle.restart.specs.Joins.{kept_of}
use Rattle.restart.proofs.logs.scan_sector.Goals as goal

pub returns-then-not-may_hold_log-clause-scans : goal.returns-then-not-may_hold_log-clause-scans
returns-then-not-may_hold_log-clause-scans g c = record {
  scanned = λ x told least so_far.
      let none = sym c.may_hold_log.ensures ∙ c.if-not-may_hold_log.true in
      scanned_more x (at c.args.heads.now.all.now) (at c.args.heads.now.current.now) c.args.findings.now.status.now.numbers least c.args.spot.place c.args.spot.sector c.requires.sector None
      (none_seen x (at c.args.heads.now.all.now) (at c.args.heads.now.current.now) c.args.spot.place c.args.spot.sector none)
      c.args.findings.now.noted.now c.args.findings.now.directory.now c.args.findings.now.overflow.now (kept_of c.args.findings.now.status.now.numbers c.args.findings.now.numbers.now) c.args.gathered.fits c.args.gathered.greatest so_far
      c.args.findings.now.noted.now c.args.findings.now.directory.now c.args.findings.now.overflow.now (kept_of c.args.findings.now.status.now.numbers c.args.findings.now.numbers.now) c.args.gathered.fits c.args.gathered.greatest (λ flags noted. refl) (λ flags noted. noted)
      (λ is masked. masked_none (at c.args.heads.now.all.now) (at c.args.heads.now.current.now) (mask_by (at c.args.heads.now.all.now) (at c.args.heads.now.current.now) (chart_of x)) (c.args.spot.place * 256 + c.args.spot.sector) c.args.findings.now.directory.now c.args.findings.now.overflow.now is masked)
      (λ found are. are) (omega arith) (λ spot. let no = sym spot ∙ none in cc);
  fault = search rules;
  room = search rules;
  logs = record {
    logs = λ x told mark homes so_far.
        logs_past x mark (at c.args.heads.now.all.now) (at c.args.heads.now.current.now) c.args.spot.place c.args.spot.sector c.requires.sector homes
        (length c.args.heads.now.current.now) c.args.findings.now.directory.now (sym c.may_hold_log.ensures ∙ c.if-not-may_hold_log.true) so_far;
    unknown = λ u unknown. unknown;
    places = search rules;
    still = search rules;
  };
}

pub returns-in_err-found-clause-scans : goal.returns-in_err-found-clause-scans
returns-in_err-found-clause-scans g c = record {
  scanned = search rules;
  fault = search rules;
  room = search rules;
  logs = record {
    logs = search rules;
    unknown = λ u unknown. unknown;
    places = search rules;
    still = search rules;
  };
}

pub returns-in_err-gathered-clause-scans : goal.returns-in_err-gathered-clause-scans
returns-in_err-gathered-clause-scans g c = record {
  scanned = search rules;
  fault = let e = err_from_is_err_and c.from_residual-in_err-gathered.result c.from_residual-in_err-gathered.ensures.1 in
      let spot = sym c.may_hold_log.ensures ∙ c.if-not-may_hold_log.false in
      rw (e.1, e.2) (λ x told least so_far image.
      fault_found x (at c.args.heads.now.all.now) (at c.args.heads.now.current.now) c.args.findings.now.status.now.numbers least c.args.spot.place c.args.spot.sector c.requires.sector (kept is_log (sector_named c.read_found.new.into c.checked-sector.result))
      (read_seen x (at c.args.heads.now.all.now) (at c.args.heads.now.current.now) c.args.spot.place c.args.spot.sector _ spot (ap (sector_named c.read_found.new.into) c.checked-sector.ensures ∙ c.in_ok-found.ensures.exact x told))
      c.args.findings.now.noted.now c.args.findings.now.directory.now c.args.findings.now.overflow.now (kept_of c.args.findings.now.status.now.numbers c.args.findings.now.numbers.now) c.args.gathered.fits c.args.gathered.greatest so_far _ c.in_err-gathered.field-0.0 c.requires.place (λ flags noted. c.in_err-gathered.ensures.takes.fault flags noted image));
  room = record {
    roomy = search rules;
    sized = c.take_found.ensures.takes.room.sized;
  };
  logs = record {
    logs = search rules;
    unknown = unknown_from c.take_found.ensures.takes.places;
    places = homes_from c.take_found.ensures.takes.places;
    still = search rules;
  };
}

pub returns-clause-scans : goal.returns-clause-scans
returns-clause-scans g c = record {
  scanned = λ x told least so_far.
      let spot = sym c.may_hold_log.ensures ∙ c.if-not-may_hold_log.false in
      subst (λ (s : StatusTable). IsScanned x (at c.args.heads.now.all.now) (at c.args.heads.now.current.now) s.numbers least (c.args.spot.place * 256 + c.args.spot.sector + 1)
      c.take_found.new.findings.noted.now c.note_seen.new.directory c.take_found.new.findings.overflow.now (kept_of s.numbers c.take_found.new.findings.numbers.now) c.in_ok-gathered.gathered.fits c.in_ok-gathered.gathered.greatest)
      (sym c.take_found.ensures.takes.still.status)
      (scanned_more x (at c.args.heads.now.all.now) (at c.args.heads.now.current.now) c.args.findings.now.status.now.numbers least c.args.spot.place c.args.spot.sector c.requires.sector (kept is_log (sector_named c.read_found.new.into c.checked-sector.result))
      (read_seen x (at c.args.heads.now.all.now) (at c.args.heads.now.current.now) c.args.spot.place c.args.spot.sector _ spot (ap (sector_named c.read_found.new.into) c.checked-sector.ensures ∙ c.in_ok-found.ensures.exact x told))
      c.args.findings.now.noted.now c.args.findings.now.directory.now c.args.findings.now.overflow.now (kept_of c.args.findings.now.status.now.numbers c.args.findings.now.numbers.now) c.args.gathered.fits c.args.gathered.greatest so_far
      c.take_found.new.findings.noted.now c.note_seen.new.directory c.take_found.new.findings.overflow.now (kept_of c.args.findings.now.status.now.numbers c.take_found.new.findings.numbers.now) c.in_ok-gathered.gathered.fits c.in_ok-gathered.gathered.greatest
      c.in_ok-gathered.ensures.takes.fault c.in_ok-gathered.ensures.takes.noted
      (λ is masked. masked_alike (at c.args.heads.now.all.now) (at c.args.heads.now.current.now) (mask_by (at c.args.heads.now.all.now) (at c.args.heads.now.current.now) (chart_of x)) (c.args.spot.place * 256 + c.args.spot.sector + 1)
      c.take_found.new.findings.directory.now c.note_seen.new.directory c.take_found.new.findings.overflow.now
      (ap (λ (d : Places). d.masks) c.note_seen.ensures ∙ seen_masks (at c.args.heads.now.all.now c.args.spot.place) c.take_found.new.findings.directory.now c.args.spot.sector _ _)
      (c.in_ok-gathered.ensures.takes.masked (mask_by (at c.args.heads.now.all.now) (at c.args.heads.now.current.now) (chart_of x)) is masked))
      c.in_ok-gathered.ensures.collected c.in_ok-gathered.ensures.number
      (λ spot_again. c.in_ok-found.ensures.whole x told));
  fault = search rules;
  room = search rules;
  logs = record {
    logs = λ x told mark homes so_far.
        let before = c.take_found.ensures.takes.places in
        let heads = at c.args.heads.now.all.now in
        let current = at c.args.heads.now.current.now in
        let found = c.in_ok-found.found in
        logs_seen x mark heads current c.args.spot.place c.args.spot.sector c.requires.sector homes (sym c.may_hold_log.ensures ∙ c.if-not-may_hold_log.false)
        (does_check found) (is_erased found)
        (check_found found c.read_found.new.into (chart_of x c.args.spot.place c.args.spot.sector) (c.in_ok-found.ensures.exact x told))
        (erased_found found (x c.args.spot.place c.args.spot.sector) (c.in_ok-found.ensures.erased x told))
        (unchecked_found found c.read_found.new.into (chart_of x c.args.spot.place c.args.spot.sector) (c.in_ok-found.ensures.exact x told))
        (unerased_found found (x c.args.spot.place c.args.spot.sector) (c.in_ok-found.ensures.erased x told))
        (length c.args.heads.now.current.now) c.take_found.new.findings.directory.now c.note_seen.new.directory c.note_seen.ensures
        (λ u low. subst (λ (ws : List ℕ). IsReadLog x mark u (current u) (c.args.spot.place * 256 + c.args.spot.sector) (get_or ws u 0)) (sym before.written) (so_far u low));
    unknown = unknown_then c.args.findings.now.directory.now c.take_found.new.findings.directory.now c.note_seen.new.directory (unknown_from c.take_found.ensures.takes.places)
        (subst (StaysUnknown c.take_found.new.findings.directory.now) (sym c.note_seen.ensures) (unknown_seen (at c.args.heads.now.all.now c.args.spot.place) c.take_found.new.findings.directory.now c.args.spot.sector _ _));
    places = homes_then (homes_from c.take_found.ensures.takes.places)
        (subst (SameHomes c.take_found.new.findings.directory.now) (sym c.note_seen.ensures) (seen_homes (at c.args.heads.now.all.now c.args.spot.place) c.take_found.new.findings.directory.now c.args.spot.sector _ _));
    still = search rules;
  };
}

pub returns-in_err-found-clause-looks : goal.returns-in_err-found-clause-looks
returns-in_err-found-clause-looks g c = record {
  only = looks_weaker c.from_residual.result (looks_missed c.args.spot.place c.args.spot.sector c.read_found.result c.from_residual.result (reads_none (g.C.Chip.told c.args.chip.now))
      c.read_found.ensures.asks c.read_found.ensures.accounts c.in_err-found.was c.from_residual.ensures.1);
  once = once_asked (InSector (at c.args.heads.now.all.now) (at c.args.heads.now.current.now) c.args.spot.place c.args.spot.sector)
      c.args.spot.place c.args.spot.sector c.read_found.result (g.C.Chip.told c.args.chip.now)
      (g.C.Chip.told c.read_found.new.chip)
      ((refl, refl), sym c.may_hold_log.ensures ∙ c.if-not-may_hold_log.false) c.read_found.ensures.asks;
}

pub returns-in_err-gathered-clause-looks : goal.returns-in_err-gathered-clause-looks
returns-in_err-gathered-clause-looks g c = record {
  only = looks_found false c.from_residual-in_err-gathered.result _ (asked_reads c.args.spot.place c.args.spot.sector c.read_found.result c.read_found.ensures.asks c.read_found.ensures.accounts.counts)
      c.in_err-gathered.ensures.takes.image c.from_residual-in_err-gathered.ensures.1;
  once = once_asked (InSector (at c.args.heads.now.all.now) (at c.args.heads.now.current.now) c.args.spot.place c.args.spot.sector)
      c.args.spot.place c.args.spot.sector c.read_found.result (g.C.Chip.told c.args.chip.now)
      (g.C.Chip.told c.read_found.new.chip)
      ((refl, refl), sym c.may_hold_log.ensures ∙ c.if-not-may_hold_log.false) c.read_found.ensures.asks;
}

pub returns-clause-looks : goal.returns-clause-looks
returns-clause-looks g c = record {
  only = looks_done _ (asked_reads c.args.spot.place c.args.spot.sector c.read_found.result c.read_found.ensures.asks c.read_found.ensures.accounts.counts);
  once = once_asked (InSector (at c.args.heads.now.all.now) (at c.args.heads.now.current.now) c.args.spot.place c.args.spot.sector)
      c.args.spot.place c.args.spot.sector c.read_found.result (g.C.Chip.told c.args.chip.now)
      (g.C.Chip.told c.read_found.new.chip)
      ((refl, refl), sym c.may_hold_log.ensures ∙ c.if-not-may_hold_log.false) c.read_found.ensures.asks;
}

pub returns-then-not-may_hold_log-clause-looks : goal.returns-then-not-may_hold_log-clause-looks
returns-then-not-may_hold_log-clause-looks g c = record {
  only = looks_done _ (reads_none (g.C.Chip.told c.args.chip.now));
  once = once_none (InSector (at c.args.heads.now.all.now) (at c.args.heads.now.current.now) c.args.spot.place c.args.spot.sector)
      (g.C.Chip.told c.args.chip.now);
}
