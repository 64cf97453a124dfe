use Rattle.std.proofs.Common.{refl}
use Rattle.ipl_meaning.specs.Chart.{chart_of}
use Rattle.unit_io.proofs.ReadsAtLemmas.{at_asked}
use Rattle.unit_io.specs.ReadsAt.{IsAt}
use Rattle.txn_status.proofs.ReadLemmas.{status_there}
use Rattle.txn_status.proofs.reading.read_generation.Goals as goal

pub returns-in_err-found-clause-reads : goal.returns-in_err-found-clause-reads
returns-in_err-found-clause-reads g c =
    at_asked (IsAt c.args.place 0) c.args.place 0 c.read_head.result
    (g.C.Chip.told c.args.chip.now) (g.C.Chip.told c.read_head.new.chip) (refl, refl)
    c.read_head.ensures.reads.asks c.read_head.ensures.reads.accounts.counts

pub returns-in-Some-clause-reads : goal.returns-in-Some-clause-reads
returns-in-Some-clause-reads g c =
    at_asked (IsAt c.args.place 0) c.args.place 0 c.read_head.result
    (g.C.Chip.told c.args.chip.now) (g.C.Chip.told c.read_head.new.chip) (refl, refl)
    c.read_head.ensures.reads.asks c.read_head.ensures.reads.accounts.counts

pub returns-in_default-clause-reads : goal.returns-in_default-clause-reads
returns-in_default-clause-reads g c =
    at_asked (IsAt c.args.place 0) c.args.place 0 c.read_head.result
    (g.C.Chip.told c.args.chip.now) (g.C.Chip.told c.read_head.new.chip) (refl, refl)
    c.read_head.ensures.reads.asks c.read_head.ensures.reads.accounts.counts

pub returns-in_default-2-clause-reads : goal.returns-in_default-2-clause-reads
returns-in_default-2-clause-reads g c =
    at_asked (IsAt c.args.place 0) c.args.place 0 c.read_head.result
    (g.C.Chip.told c.args.chip.now) (g.C.Chip.told c.read_head.new.chip) (refl, refl)
    c.read_head.ensures.reads.asks c.read_head.ensures.reads.accounts.counts

pub returns-in-Some-clause-there : goal.returns-in-Some-clause-there
returns-in-Some-clause-there g c = λ x told.
    status_there (chart_of x) c.args.place c.read_head.new.into c.in_ok-found.found c.in-Some.head
    c.in-Some.field-0-1 c.in-Some.is c.if-head-eq-STATUS_HEADER.true
    (c.in_ok-found.ensures.reads.exact x told)
