use Rattle.std.proofs.Common.{Ok, Err, refl, ap, ◌∙◌, arith, rules}
use Rattle.std.proofs.lemmas.Result.{err_from_is_err_and}
use Rattle.chip_trait.specs.Lawful.{settled}
use Rattle.unit_io.proofs.SealLemmas.{seal_leads, seal_fails, settled_rests, worn_settled, steady_settled}
use Rattle.unit_io.proofs.PlainLemmas.{plain_then, plain_waited, plain_said}
use Rattle.unit_io.proofs.CostLemmas.{spends_at_most, spends_at_then, spends_barred}
use Rattle.unit_io.proofs.SparesLemmas.{spares_behind, spares_waited}
use Rattle.unit_io.proofs.TidyLemmas.{tidy_halted, tidy_waits_then}
use Rattle.std.specs.Prelude.{is_ok}
use Rattle.unit_io.specs.Spots.{IsSpot}
use Rattle.unit_io.proofs.UnreadLemmas.{unread_waited, unread_then}
use Rattle.unit_io.proofs.places.seal.Goals as goal

pub returns-in_err-barrier-clause-leads : goal.returns-in_err-barrier-clause-leads
returns-in_err-barrier-clause-leads g c = λ m n h steady rests clean stands worn no_more.
    let e = err_from_is_err_and c.from_residual.result c.from_residual.ensures.1 in
    rw e.1 (seal_fails _ m n h c.args.place _ rests _ _ steady e.0 c.in_err-barrier.ensures.did)

pub returns-clause-leads : goal.returns-clause-leads
returns-clause-leads g c = λ m n h steady rests clean stands worn no_more.
    let wait = c.in_ok-barrier.ensures.did in
    seal_leads _ m n h c.args.place _ rests _ _ steady _ _ wait
    (rw (wait.places) at (c.add_header.ensures.leads m n _ _ c.encode.ensures.said (steady_settled h _ _ steady wait)
    (rw wait.places (settled_rests _ m h rests)) (λ p s. refl) (ap settled clean) (rw wait.places stands) (rw wait.places (worn_settled _ h.story _ worn)) (rw wait.places no_more)))

pub returns-in_err-barrier-clause-plain : goal.returns-in_err-barrier-clause-plain
returns-in_err-barrier-clause-plain g c = λ plain. plain_waited (g.C.Chip.told c.args.chip.now) (g.C.Chip.told c.barrier.new.chip) c.barrier.result c.barrier.ensures.did

pub returns-clause-plain : goal.returns-clause-plain
returns-clause-plain g c = λ plain.
    plain_then (g.C.Chip.told c.args.chip.now) (g.C.Chip.told c.barrier.new.chip) (g.C.Chip.told c.add_header.new.chip)
    (plain_waited (g.C.Chip.told c.args.chip.now) (g.C.Chip.told c.barrier.new.chip) c.barrier.result c.barrier.ensures.did)
    (c.add_header.ensures.plain (plain_said _ _ c.encode.ensures.said plain))

pub returns-clause-spares : goal.returns-clause-spares
returns-clause-spares g c =
    let old = g.C.Chip.told c.args.chip.now in
    let mid = g.C.Chip.told c.barrier.new.chip in
    spares_behind c.args.place old mid (g.C.Chip.told c.add_header.new.chip) c.add_header.result
    (spares_waited c.args.place old mid (Ok tt) c.in_ok-barrier.ensures.did)
    c.add_header.ensures.spares

pub returns-in_err-barrier-clause-writes : goal.returns-in_err-barrier-clause-writes
returns-in_err-barrier-clause-writes g c =
    let place = c.args.place in
    let old = g.C.Chip.told c.args.chip.now in
    let new = g.C.Chip.told c.barrier.new.chip in
    let e = err_from_is_err_and c.from_residual.result c.from_residual.ensures.1 in
    let fault = c.in_err-barrier.field-0.0 in
    rw (e.1 ∙ ap Err e.2) (record {
      costs = spends_at_most place 0 1 1 2 c.args.head.now.kind old new (omega arith) (omega arith)
          (spends_barred place c.args.head.now.kind old new (Err fault) c.in_err-barrier.ensures.did);
      tidy = tidy_halted place (IsSpot 0) fault old new c.in_err-barrier.ensures.did;
      unread = unread_waited (Err fault) old new c.in_err-barrier.ensures.did;
      accounts = c.in_err-barrier.ensures.accounts;
    })

pub returns-clause-writes : goal.returns-clause-writes
returns-clause-writes g c =
    let place = c.args.place in
    let old = g.C.Chip.told c.args.chip.now in
    let mid = g.C.Chip.told c.barrier.new.chip in
    let new = g.C.Chip.told c.add_header.new.chip in
    record {
      costs = spends_at_then place 0 1 1 1 c.args.head.now.kind old mid new
          (spends_barred place c.args.head.now.kind old mid (Ok tt) c.in_ok-barrier.ensures.did)
          (c.add_header.ensures.costs _ c.encode.ensures.said);
      tidy = tidy_waits_then place (IsSpot 0) (is_ok c.add_header.result) old mid new c.in_ok-barrier.ensures.did c.add_header.ensures.tidy;
      unread = unread_then old mid new (unread_waited (Ok tt) old mid c.in_ok-barrier.ensures.did) c.add_header.ensures.unread;
      accounts = search rules;
    }
