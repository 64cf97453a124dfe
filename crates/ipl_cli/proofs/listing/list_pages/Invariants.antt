use Rattle.std.proofs.Common.{◌≡◌, ◌*◌}
use Rattle.std.specs.Prelude.{IfSome}
use Rattle.ipl_base.specs.First.{first_below}
use Rattle.unit_io.specs.Reads.{OfContents}
use Rattle.record_reader.specs.Reading.{Reads, names_of, page_fault}
use Rattle.ipl_cli.specs.Lists.{AllLines, IsFoundFault, SaysFrom}
use Rattle.ipl_cli.proofs.listing.list_pages.Given as goal

-- the lines so far, and what is wrong with the first page of which something is
abbrev pub invariant-loop-page : goal.invariant-loop-page
invariant-loop-page g l =
    let told = g.D.Chip.told in record {
      says : SaysFrom AllLines 0 (l.page * 64) (told l.fn.desk) (told l.desk);
      first : OfContents (told l.fn.desk) (λ x. l.first ≡ first_below (page_fault x (told l.fn.desk).places) l.page);
      found : IfSome l.first (λ f. IsFoundFault f (told l.fn.desk) (told l.desk));
      reads : Reads (told l.desk) l.reader;
      names : names_of l.reader ≡ names_of l.fn.reader;
    }
