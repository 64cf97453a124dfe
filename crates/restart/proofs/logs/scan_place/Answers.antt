use Rattle.std.proofs.Common.{rules, ◌≡◌, ◌∙◌, ◌+◌, ◌*◌, ℕ, subst, arith, length}
use Rattle.ipl_meaning.specs.First.{at}
use Rattle.restart.specs.Notes.{FitsNotes}
use Rattle.restart.proofs.LookLemmas.{reads_then, looks_then, looks_done}
use Rattle.restart.specs.Counted.{AreReadLogs}
use Rattle.restart.proofs.CountedLogLemmas.{homes_then, unknown_then}
use Rattle.restart.proofs.FillsLemmas.{still_then}
use Rattle.restart.proofs.LogLemmas.{respelled}
use Rattle.restart.proofs.OnceLemmas.{one_sector_more, place_once}
use Rattle.restart.proofs.logs.scan_place.Goals as goal

pub loop-sector-preserved : goal.loop-sector-preserved
loop-sector-preserved g c =
    let same = c.loop-sector.invariant.reads in record {
      reads = reads_then same c.scan_sector.ensures.looks.only.reads;
      once = one_sector_more (at c.args.heads.now.all.now) (at c.args.heads.now.current.now) c.args.place c.loop-sector.sector (g.C.Chip.told c.args.chip.now) (g.C.Chip.told c.loop-sector.chip)
          (g.C.Chip.told c.scan_sector.new.chip) c.loop-sector.invariant.once c.scan_sector.ensures.looks.once;
      scanned = λ x told base start. respelled (c.in_ok-gathered.ensures.scans.scanned x (same.contents ∙ told) base (c.loop-sector.invariant.scanned x told base start)) (omega arith);
      logs = λ x told mark homes start.
          let one : c.args.place * 256 + c.loop-sector.sector + 1 ≡ c.args.place * 256 + (c.loop-sector.sector + 1) = omega arith in
          subst (λ (k : ℕ). AreReadLogs x mark (at c.args.heads.now.current.now) (length c.args.heads.now.current.now) k c.scan_sector.new.findings.directory.now) one
          (c.in_ok-gathered.ensures.scans.logs.logs x (same.contents ∙ told) mark homes (c.loop-sector.invariant.logs x told mark homes start));
      roomy = let one : c.args.place * 256 + c.loop-sector.sector + 1 ≡ c.args.place * 256 + (c.loop-sector.sector + 1) = omega arith in
          subst (λ (k : ℕ). FitsNotes c.args.heads.now.all.now (at c.args.heads.now.current.now) k c.scan_sector.new.findings.noted.now c.scan_sector.new.findings.overflow.now) one c.in_ok-gathered.ensures.scans.room.roomy;
      sized = c.scan_sector.ensures.scans.room.sized;
      still = still_then c.loop-sector.invariant.still c.scan_sector.ensures.scans.logs.still;
      unknown = unknown_then c.args.findings.now.directory.now c.loop-sector.findings.directory.now c.scan_sector.new.findings.directory.now c.loop-sector.invariant.unknown c.scan_sector.ensures.scans.logs.unknown;
      places = homes_then c.loop-sector.invariant.places c.scan_sector.ensures.scans.logs.places;
    }

pub returns-in_err-gathered-clause-looks : goal.returns-in_err-gathered-clause-looks
returns-in_err-gathered-clause-looks g c = record {
  only = looks_then c.scan_sector.result c.from_residual.result c.loop-sector.invariant.reads c.scan_sector.ensures.looks.only c.in_err-gathered.was c.from_residual.ensures.1;
  once = let heads = at c.args.heads.now.all.now in
      let current = at c.args.heads.now.current.now in
      let old = g.C.Chip.told c.args.chip.now in
      let new = g.C.Chip.told c.scan_sector.new.chip in
      place_once heads current c.args.place (c.loop-sector.sector + 1) old new
      (one_sector_more heads current c.args.place c.loop-sector.sector old (g.C.Chip.told c.loop-sector.chip)
      new c.loop-sector.invariant.once c.scan_sector.ensures.looks.once);
}

pub returns-clause-looks : goal.returns-clause-looks
returns-clause-looks g c = record {
  only = looks_done _ c.loop-sector.invariant.reads;
  once = place_once (at c.args.heads.now.all.now) (at c.args.heads.now.current.now) c.args.place c.loop-sector.sector
      (g.C.Chip.told c.args.chip.now) (g.C.Chip.told c.loop-sector.chip) c.loop-sector.invariant.once;
}

pub returns-in_err-gathered-clause-scans : goal.returns-in_err-gathered-clause-scans
returns-in_err-gathered-clause-scans g c = record {
  scanned = search rules;
  fault = search rules;
  room = record {
    roomy = search rules;
    sized = c.scan_sector.ensures.scans.room.sized;
  };
  logs = record {
    logs = search rules;
    unknown = unknown_then c.args.findings.now.directory.now c.loop-sector.findings.directory.now c.scan_sector.new.findings.directory.now c.loop-sector.invariant.unknown c.scan_sector.ensures.scans.logs.unknown;
    places = homes_then c.loop-sector.invariant.places c.scan_sector.ensures.scans.logs.places;
    still = search rules;
  };
}

pub returns-clause-scans : goal.returns-clause-scans
returns-clause-scans g c = record {
  scanned = search rules;
  fault = search rules;
  room = let all : c.args.place * 256 + c.loop-sector.sector ≡ (c.args.place + 1) * 256 = omega arith in record {
    roomy = subst (λ (k : ℕ). FitsNotes c.args.heads.now.all.now (at c.args.heads.now.current.now) k c.loop-sector.findings.noted.now c.loop-sector.findings.overflow.now) all c.loop-sector.invariant.roomy;
    sized = c.loop-sector.invariant.sized;
  };
  logs = record {
    logs = λ x told mark homes start.
        let all : c.args.place * 256 + c.loop-sector.sector ≡ (c.args.place + 1) * 256 = omega arith in
        subst (λ (k : ℕ). AreReadLogs x mark (at c.args.heads.now.current.now) (length c.args.heads.now.current.now) k c.loop-sector.findings.directory.now) all
        (c.loop-sector.invariant.logs x told mark homes start);
    unknown = c.loop-sector.invariant.unknown;
    places = c.loop-sector.invariant.places;
    still = search rules;
  };
}
