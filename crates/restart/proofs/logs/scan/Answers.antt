use Rattle.std.proofs.Common.{rules, refl, ◌≡◌, ◌∙◌, ◌*◌, ℕ, Some, length, subst, arith, ◌+◌}
use Rattle.std.proofs.lemmas.Grind.{common_steps}
use Rattle.std.proofs.lemmas.Result.{err_from_is_err_and}
use Rattle.ipl_meaning.specs.Chart.{chart_of}
use Rattle.ipl_base.specs.First.{first_below}
use Rattle.ipl_meaning.specs.First.{at}
use Rattle.ipl_meaning.specs.Faults.{log_fault}
use Rattle.restart.specs.Notes.{AreSized}
use Rattle.restart.specs.Masked.{mask_by}
use Rattle.restart.proofs.LookLemmas.{reads_none, reads_then, looks_then, looks_done}
use Rattle.restart.specs.Counted.{AreReadLogs}
use Rattle.restart.proofs.CountedLogLemmas.{homes_then, unknown_then}
use Rattle.restart.proofs.FillsLemmas.{still_then}
use Rattle.restart.proofs.LogLemmas.{at_low, respelled, fits_first}
use Rattle.restart.proofs.CollectedLemmas.{kept_first}
use Rattle.restart.proofs.MaskedLemmas.{masked_first}
use Rattle.unit_io.proofs.OnceLemmas.{once_none}
use Rattle.restart.proofs.OnceLemmas.{InPlacesBelow, one_place_more, logs_once}
use Rattle.restart.proofs.logs.scan.Goals as goal

pub loop-place-init : goal.loop-place-init
loop-place-init g c =
    let told = g.C.Chip.told c.args.chip.now in
    let heads = at c.args.heads.now.all.now in
    let current = at c.args.heads.now.current.now in record {
      reads = reads_none told;
      once = once_none (InPlacesBelow heads current 0) told;
      scanned = λ x holds. record {
        noted = grind (arith, common_steps);
        masked = masked_first heads current (mask_by heads current (chart_of x)) c.args.findings.now.overflow.now.places (length c.args.heads.now.current.now) (length c.args.heads.now.current.now) c.args.findings.now.directory.now c.set_units.new.self
            (λ u winner is. at_low c.args.heads.now.current.now u winner is) c.requires.tables.blank c.set_units.ensures;
        collected = kept_first c.args.findings.now.status.now.numbers heads current (chart_of x) c.clear-2.new.self
            (c.clear-2.ensures.none c.args.findings.now.status.now.numbers) c.clear-2.ensures.count;
        number = refl;
        fine = refl;
        whole = λ p s small low spot. absurd (omega (arith, low));
      };
      logs = λ x told mark homes start. start;
      roomy = fits_first c.args.heads.now.all.now current c.clear.new.self c.set_units.new.self _ _ c.clear.ensures.empty c.set_units.ensures;
      sized = grind (arith, common_steps);
      still = search rules;
      unknown = λ u unknown. unknown;
      places = search rules;
    }

pub loop-place-preserved : goal.loop-place-preserved
loop-place-preserved g c =
    let same = c.loop-place.invariant.reads in record {
      reads = reads_then same c.scan_place.ensures.looks.only.reads;
      once = one_place_more (at c.args.heads.now.all.now) (at c.args.heads.now.current.now) c.loop-place.place (g.C.Chip.told c.args.chip.now) (g.C.Chip.told c.loop-place.chip) (g.C.Chip.told c.scan_place.new.chip)
          c.loop-place.invariant.once c.scan_place.ensures.looks.once;
      scanned = λ x told. c.in_ok-gathered.ensures.scans.scanned x (same.contents ∙ told) c.args.least (c.loop-place.invariant.scanned x told);
      logs = λ x told mark homes start.
          c.in_ok-gathered.ensures.scans.logs.logs x (same.contents ∙ told) mark homes (c.loop-place.invariant.logs x told mark homes start);
      roomy = c.in_ok-gathered.ensures.scans.room.roomy;
      sized = subst (λ (n : ℕ). AreSized (length c.args.heads.now.current.now) n c.scan_place.new.findings.noted.now c.scan_place.new.findings.overflow.now) c.requires.heads c.scan_place.ensures.scans.room.sized;
      still = still_then c.loop-place.invariant.still c.scan_place.ensures.scans.logs.still;
      unknown = unknown_then c.args.findings.now.directory.now c.loop-place.findings.directory.now c.scan_place.new.findings.directory.now c.loop-place.invariant.unknown c.scan_place.ensures.scans.logs.unknown;
      places = homes_then c.loop-place.invariant.places c.scan_place.ensures.scans.logs.places;
    }

pub returns-in_err-gathered-clause-fault : goal.returns-in_err-gathered-clause-fault
returns-in_err-gathered-clause-fault g c =
    let e = err_from_is_err_and c.from_residual.result c.from_residual.ensures.1 in
    let same = c.loop-place.invariant.reads in
    let all : length c.args.heads.now.all.now * 256 ≡ c.args.geometry.places * 256 = omega (arith, c.requires.heads) in
    rw (e.1, e.2) (λ x told image.
    subst (λ (n : ℕ). first_below (log_fault (at c.args.heads.now.all.now) (at c.args.heads.now.current.now) (chart_of x)) n ≡ Some c.in_err-gathered.field-0.0) all
    (c.in_err-gathered.ensures.scans.fault x (same.contents ∙ told) c.args.least (c.loop-place.invariant.scanned x told) image))

pub returns-clause-scanned : goal.returns-clause-scanned
returns-clause-scanned g c = λ x told. respelled (c.loop-place.invariant.scanned x told) (omega arith)

pub returns-in_err-gathered-clause-logs : goal.returns-in_err-gathered-clause-logs
returns-in_err-gathered-clause-logs g c = record {
  logs = search rules;
  unknown = unknown_then c.args.findings.now.directory.now c.loop-place.findings.directory.now c.scan_place.new.findings.directory.now c.loop-place.invariant.unknown c.scan_place.ensures.scans.logs.unknown;
  places = homes_then c.loop-place.invariant.places c.scan_place.ensures.scans.logs.places;
  still = search rules;
}

pub returns-clause-logs : goal.returns-clause-logs
returns-clause-logs g c = record {
  logs = λ x told mark homes start.
      let all : c.loop-place.place * 256 ≡ c.args.geometry.places * 256 = omega arith in
      subst (λ (k : ℕ). AreReadLogs x mark (at c.args.heads.now.current.now) (length c.args.heads.now.current.now) k c.loop-place.findings.directory.now) all
      (c.loop-place.invariant.logs x told mark homes start);
  unknown = c.loop-place.invariant.unknown;
  places = c.loop-place.invariant.places;
  still = search rules;
}

pub returns-in_err-gathered-clause-looks : goal.returns-in_err-gathered-clause-looks
returns-in_err-gathered-clause-looks g c = record {
  only = looks_then c.scan_place.result c.from_residual.result c.loop-place.invariant.reads c.scan_place.ensures.looks.only c.in_err-gathered.was c.from_residual.ensures.1;
  once = let heads = at c.args.heads.now.all.now in
      let current = at c.args.heads.now.current.now in
      let old = g.C.Chip.told c.args.chip.now in
      let new = g.C.Chip.told c.scan_place.new.chip in
      logs_once heads current (c.loop-place.place + 1) old new (one_place_more heads current c.loop-place.place
      old (g.C.Chip.told c.loop-place.chip) new c.loop-place.invariant.once c.scan_place.ensures.looks.once);
}

pub returns-clause-looks : goal.returns-clause-looks
returns-clause-looks g c = record {
  only = looks_done _ c.loop-place.invariant.reads;
  once = logs_once (at c.args.heads.now.all.now) (at c.args.heads.now.current.now) c.loop-place.place
      (g.C.Chip.told c.args.chip.now) (g.C.Chip.told c.loop-place.chip) c.loop-place.invariant.once;
}
