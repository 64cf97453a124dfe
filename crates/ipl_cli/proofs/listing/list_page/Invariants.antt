use Rattle.std.proofs.Common.{◌≡◌, ◌≤◌, ◌*◌, None}
use Rattle.unit_io.specs.Reads.{OfContents}
use Rattle.record_reader.specs.Reading.{Reads, names_of, page_fault}
use Rattle.ipl_cli.specs.Lists.{AllLines, SaysFrom}
use Rattle.ipl_cli.proofs.listing.list_page.Given as goal

-- the lines so far, and nothing is wrong with the page
abbrev pub invariant-loop-slot : goal.invariant-loop-slot
invariant-loop-slot g l =
    let told = g.D.Chip.told in record {
      says : SaysFrom AllLines (l.page * 64) l.slot (told l.fn.desk) (told l.desk);
      sound : 1 ≤ l.slot → OfContents (told l.fn.desk) (λ x. page_fault x (told l.fn.desk).places l.page ≡ None);
      reads : Reads (told l.desk) l.reader;
      names : names_of l.reader ≡ names_of l.fn.reader;
    }
