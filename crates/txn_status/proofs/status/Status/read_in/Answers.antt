use Rattle.std.proofs.Common.{ℕ, ◌∙◌, subst, arith}
use Rattle.ipl_meaning.specs.Chart.{chart_of}
use Rattle.unit_io.proofs.ReadsAtLemmas.{at_then, at_wider}
use Rattle.unit_io.specs.ReadsAt.{IsAt}
use Rattle.txn_status.specs.ReadingIn.{IsCommitSpot, IsOfPlace, IsReadIn}
use Rattle.txn_status.proofs.status.Status.read_in.Goals as goal

pub returns-clause-exact : goal.returns-clause-exact
returns-clause-exact g c = λ x told head is.
    subst (λ (n : ℕ). IsReadIn c.args.units c.args.self.now.most (chart_of x) c.args.place n c.read_under.result
    c.read_under.new.self) (c.in_ok-generation.ensures.exact x told head is)
    (c.read_under.ensures.exact x (c.read_generation.ensures.reads.contents ∙ told))

pub returns-clause-reads : goal.returns-clause-reads
returns-clause-reads g c =
    let old = g.C.Chip.told c.args.chip.now in
    let mid = g.C.Chip.told c.read_generation.new.chip in
    let new = g.C.Chip.told c.read_under.new.chip in
    at_then (IsOfPlace c.args.place) old mid new
    (at_wider (IsAt c.args.place 0) (IsOfPlace c.args.place) old mid
    (λ p s at. (at.0, omega (arith, at.1))) c.read_generation.ensures.reads)
    (at_wider (IsCommitSpot c.args.place) (IsOfPlace c.args.place) mid new
    (λ p s at. (at.0, at.2)) c.read_under.ensures.looks.reads)
