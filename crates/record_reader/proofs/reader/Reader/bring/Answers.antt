use Rattle.std.proofs.Common.{sym}
use Rattle.ipl_meaning.specs.Chart.{chart_of}
use Rattle.ipl_meaning.specs.LaidOut.{layout_in}
use Rattle.unit_io.specs.ReadsAt.{Anywhere}
use Rattle.unit_io.proofs.ReadsAtLemmas.{at_none, at_wider}
use Rattle.chip_trait.proofs.CountsLemmas.{counts_none}
use Rattle.image_check.proofs.CountLemmas.{cause_exit}
use Rattle.record_reader.specs.Reading.{page_fault}
use Rattle.record_reader.proofs.PageLemmas.{fault_exit, is_held, load_reads, none_held, one_held, reads_by, tables_are}
use Rattle.record_reader.proofs.reader.Reader.bring.Goals as goal

-- ---- the page that is held

pub returns-then-is_held-clause-holds : goal.returns-then-is_held-clause-holds
returns-then-is_held-clause-holds g c = c.requires.reads.held c.args.page (is_held _ c.args.page (sym c.if-is_held.ensures))

pub returns-then-is_held-clause-fault : goal.returns-then-is_held-clause-fault
returns-then-is_held-clause-fault g c = λ x told. (c.requires.reads.held c.args.page (is_held _ c.args.page (sym c.if-is_held.ensures)) x told).sound

pub returns-then-is_held-clause-looks : goal.returns-then-is_held-clause-looks
returns-then-is_held-clause-looks g c = at_none Anywhere (g.C.Chip.told c.args.chip.now)

pub returns-then-is_held-clause-reads : goal.returns-then-is_held-clause-reads
returns-then-is_held-clause-reads g c = c.requires.reads

-- ---- another one

pub load-requires-clause-unit : goal.load-requires-clause-unit
load-requires-clause-unit g c = c.requires.page

pub load-requires-clause-suits : goal.load-requires-clause-suits
load-requires-clause-suits g c = c.requires.reads.suits

pub returns-in_err-load-clause-fault : goal.returns-in_err-load-clause-fault
returns-in_err-load-clause-fault g c = λ x told.
    let (counter, mirrors) = c.requires.reads.mirrors x told in
    fault_exit _ (page_fault x (g.C.Chip.told c.args.chip.now).places c.args.page) c.from_residual.result c.from_residual.ensures.1
    (c.in_err-load.ensures.fault x told (layout_in (chart_of x) (g.C.Chip.told c.args.chip.now).places) _ (tables_are (g.C.Chip.told c.args.chip.now) x c.args.self.now counter mirrors))

pub returns-in_err-load-clause-looks : goal.returns-in_err-load-clause-looks
returns-in_err-load-clause-looks g c =
    at_wider _ Anywhere (g.C.Chip.told c.args.chip.now) (g.C.Chip.told c.load.new.chip) (λ p s is. tt) c.load.ensures.looks.reads

pub returns-in_err-load-clause-cause : goal.returns-in_err-load-clause-cause
returns-in_err-load-clause-cause g c =
    let old = g.C.Chip.told c.args.chip.now in
    let new = g.C.Chip.told c.load.new.chip in
    cause_exit old old new _ c.from_residual.result c.from_residual.ensures.1 (counts_none old)
    (load_reads old new _ _ _ _ c.in_err-load.ensures.looks.cause)

pub returns-in_err-load-clause-reads : goal.returns-in_err-load-clause-reads
returns-in_err-load-clause-reads g c =
    let old = g.C.Chip.told c.args.chip.now in
    let reads = c.load.ensures.looks.reads in
    reads_by old (g.C.Chip.told c.load.new.chip) _ _ _ _ reads.counts.places reads.contents (none_held old _) c.requires.reads

pub returns-clause-fault : goal.returns-clause-fault
returns-clause-fault g c = λ x told.
    let (counter, mirrors) = c.requires.reads.mirrors x told in
    c.in_ok-load.ensures.fault x told (layout_in (chart_of x) (g.C.Chip.told c.args.chip.now).places) _ (tables_are (g.C.Chip.told c.args.chip.now) x c.args.self.now counter mirrors)

pub returns-clause-holds : goal.returns-clause-holds
returns-clause-holds g c = λ x told.
    let (counter, mirrors) = c.requires.reads.mirrors x told in record {
      sound = returns-clause-fault g c x told;
      loaded = c.in_ok-load.ensures.loads x told (layout_in (chart_of x) (g.C.Chip.told c.args.chip.now).places) _ (tables_are (g.C.Chip.told c.args.chip.now) x c.args.self.now counter mirrors);
    }

pub returns-clause-looks : goal.returns-clause-looks
returns-clause-looks g c =
    at_wider _ Anywhere (g.C.Chip.told c.args.chip.now) (g.C.Chip.told c.load.new.chip) (λ p s is. tt) c.load.ensures.looks.reads

pub returns-clause-reads : goal.returns-clause-reads
returns-clause-reads g c =
    let old = g.C.Chip.told c.args.chip.now in
    let reads = c.load.ensures.looks.reads in
    reads_by old (g.C.Chip.told c.load.new.chip) _ _ _ _ reads.counts.places reads.contents
    (λ page is. one_held old _ c.args.page page (returns-clause-holds g c) is) c.requires.reads
