use Rattle.std.proofs.Common.{◌*◌, length, Option}
use Rattle.unit_io.specs.Reads.{OfContents}
use Rattle.ipl_meaning.specs.First.{at}
use Rattle.restart.specs.Looks.{OnlyReads}
use Rattle.restart.specs.Notes.{AreSized, FitsNotes}
use Rattle.restart.specs.Counted.{SameHomes, StaysUnknown, AreHomes, AreReadLogs}
use Rattle.ipl_format.specs.Sector.{Sector}
use Rattle.restart.specs.LogSpots.{AreScanned, StillFills}
use Rattle.unit_io.specs.ReadsAt.{ReadsOnce}
use Rattle.restart.proofs.OnceLemmas.{InPlacesBelow}
use Rattle.restart.proofs.logs.scan.Given as goal

abbrev pub invariant-loop-place : goal.invariant-loop-place
invariant-loop-place g l =
    let told = g.C.Chip.told in record {
      reads : OnlyReads (told l.fn.chip) (told l.chip);
      once : ReadsOnce (InPlacesBelow (at l.heads.all.now) (at l.heads.current.now) l.place) (told l.fn.chip) (told l.chip);
      scanned : OfContents (told l.fn.chip) (λ x. AreScanned x l.heads l.least (l.place * 256) l.gathered l.findings);
      logs : OfContents (told l.fn.chip) (λ x. (mark : Option Sector) → AreHomes (at l.heads.all.now) (at l.heads.current.now)
          → AreReadLogs x mark (at l.heads.current.now) (length l.heads.current.now) 0 l.fn.findings.directory.now
          → AreReadLogs x mark (at l.heads.current.now) (length l.heads.current.now) (l.place * 256) l.findings.directory.now);
      roomy : FitsNotes l.heads.all.now (at l.heads.current.now) (l.place * 256) l.findings.noted.now l.findings.overflow.now;
      sized : AreSized (length l.heads.current.now) l.fn.geometry.places l.findings.noted.now l.findings.overflow.now;
      still : StillFills l.fn.findings l.findings;
      unknown : StaysUnknown l.fn.findings.directory.now l.findings.directory.now;
      places : SameHomes l.fn.findings.directory.now l.findings.directory.now;
    }
