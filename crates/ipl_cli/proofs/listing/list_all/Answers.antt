use Rattle.record_reader.specs.Reading.{names_of}
use Rattle.ipl_cli.proofs.LineLemmas.{end_unsaid, looked_cut, none_at_fault, one_at_fault, unsaid_cause}
use Rattle.ipl_cli.proofs.listing.list_all.Goals as goal

-- ---- a line couldn't be said, or a read failed

pub returns-in_err-first : goal.returns-in_err-first
returns-in_err-first g c =
    let old = g.D.Chip.told c.args.desk.now in
    let mid = g.D.Chip.told c.list_pages.new.desk in record {
      leaves = looked_cut old mid mid (names_of c.args.reader.now) _ c.from_residual.result c.from_residual.ensures.1
          c.in_err-first.ensures.says;
    }

pub returns-in_err-say_line : goal.returns-in_err-say_line
returns-in_err-say_line g c =
    let old = g.D.Chip.told c.args.desk.now in
    let mid = g.D.Chip.told c.list_pages.new.desk in
    let new = g.D.Chip.told c.say_line.new.desk in
    let ends = c.in_err-say_line.ensures in record {
      leaves = end_unsaid old mid new (names_of c.args.reader.now) _ c.from_residual-in_err-say_line.result
          c.from_residual-in_err-say_line.ensures.1 c.in_ok-first.ensures.says.0 ends.unsaid c.say_line.ensures.counts
          (unsaid_cause _ mid new ends.end ends.cause);
    }

-- ---- all lines were said

pub returns-in-None : goal.returns-in-None
returns-in-None g c =
    let old = g.D.Chip.told c.args.desk.now in
    let mid = g.D.Chip.told c.list_pages.new.desk in
    let new = g.D.Chip.told c.say_line.new.desk in record {
      leaves = none_at_fault old mid new (names_of c.args.reader.now) c.in_ok-first.first c.in-None.is c.in_ok-first.ensures.says
          c.in_ok-say_line.ensures.said c.say_line.ensures.counts;
    }

pub returns-in-Some : goal.returns-in-Some
returns-in-Some g c =
    let old = g.D.Chip.told c.args.desk.now in
    let mid = g.D.Chip.told c.list_pages.new.desk in
    let new = g.D.Chip.told c.say_line.new.desk in record {
      leaves = one_at_fault old mid new (names_of c.args.reader.now) c.in_ok-first.first c.in-Some.fault c.in-Some.is
          c.in_ok-first.ensures.says c.in_ok-say_line.ensures.said c.say_line.ensures.counts;
    }
