use Rattle.std.proofs.Common.{◌∙◌, ap, refl, Ok, inr}
use Rattle.ipl_meaning.specs.Chosen.{KeptHeader}
use Rattle.ipl_meaning.specs.Chart.{chart_of}
use Rattle.txn_status.specs.ReadingIn.{IsCommitSpot}
use Rattle.txn_status.proofs.ReadLemmas.{read_some, fine_some, read_none}
use Rattle.restart.proofs.LookLemmas.{looks_done, looks_in}
use Rattle.restart.proofs.CommitLemmas.{at_reads, at_looks, number_told, fault_told, many_told}
use Rattle.restart.proofs.commits.read_commits.Goals as goal

pub returns-in-Some-clause-number : goal.returns-in-Some-clause-number
returns-in-Some-clause-number g c = λ x told.
    let generation = c.generation-generation.ensures ∙ ap (λ (h : KeptHeader). h.generation) c.header.ensures in
    number_told (chart_of x) c.args.winner.now c.place.result c.generation-generation.result c.place.ensures generation
    c.args.least c.max.result c.in-Some.greatest
    (read_some (Ok c.in_ok-found.found) _ _ _ refl c.in-Some.is (c.in_ok-found.ensures.exact x told).greatest) c.max.ensures

pub returns-in-Some-clause-fault : goal.returns-in-Some-clause-fault
returns-in-Some-clause-fault g c = λ x told.
    let generation = c.generation-generation.ensures ∙ ap (λ (h : KeptHeader). h.generation) c.header.ensures in
    fault_told (chart_of x) c.args.winner.now c.place.result c.generation-generation.result c.place.ensures generation
    c.units-units.result _ (Ok c.max.result) c.units-units.ensures
    (fine_some (Ok c.in_ok-found.found) _ _ _ refl c.in-Some.is (c.in_ok-found.ensures.exact x told).fault)

pub returns-in_err-found-clause-looks : goal.returns-in_err-found-clause-looks
returns-in_err-found-clause-looks g c = record {
  only = looks_in _ _ _ c.from_residual.result (at_looks (IsCommitSpot c.place.result) c.from_residual.result _
      (g.C.Chip.told c.args.chip.now) (g.C.Chip.told c.read_under.new.chip)
      c.read_under.ensures.looks.reads c.in_err-found.ensures.looks.cause c.from_residual.ensures.1);
  once = rw c.place.ensures at c.read_under.ensures.looks.once;
}

pub returns-in-None-clause-looks : goal.returns-in-None-clause-looks
returns-in-None-clause-looks g c =
    let generation = c.generation-generation.ensures ∙ ap (λ (h : KeptHeader). h.generation) c.header.ensures in record {
      only = record {
        reads = at_reads (IsCommitSpot c.place.result) (g.C.Chip.told c.args.chip.now) (g.C.Chip.told c.read_under.new.chip) c.read_under.ensures.looks.reads;
        cause = λ none. inr (
          refl,
          record {
            never = read_none (Ok c.in_ok-found.found) _ _ refl c.in-None.is c.in_ok-found.ensures.never;
            many = λ x told. many_told (chart_of x) c.args.winner.now c.place.result c.generation-generation.result c.place.ensures
                generation c.args.status.now.most (read_none (Ok c.in_ok-found.found) _ _ refl c.in-None.is (c.in_ok-found.ensures.exact x told).many);
          },
        );
      };
      once = rw c.place.ensures at c.read_under.ensures.looks.once;
    }

pub returns-in-Some-clause-looks : goal.returns-in-Some-clause-looks
returns-in-Some-clause-looks g c = record {
  only = looks_done _ (at_reads (IsCommitSpot c.place.result) (g.C.Chip.told c.args.chip.now) (g.C.Chip.told c.read_under.new.chip) c.read_under.ensures.looks.reads);
  once = rw c.place.ensures at c.read_under.ensures.looks.once;
}
