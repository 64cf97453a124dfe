use Rattle.std.proofs.Common.{Ok, Err, true, ap, ◌∙◌, arith, rules}
use Rattle.std.proofs.lemmas.Result.{err_from_is_err_and}
use Rattle.std.specs.Prelude.{is_ok}
use Rattle.unit_io.specs.Spots.{IsSpot}
use Rattle.ipl_meaning.specs.Tables.{IsCountedClean}
use Rattle.ipl_meaning.specs.Marks.{AreUnused}
use Rattle.unit_io.proofs.SealLemmas.{sector_leads, sector_fails, added_events}
use Rattle.unit_io.proofs.CostLemmas.{spends_at_most, spends_at_then, spends_barred}
use Rattle.unit_io.proofs.TidyLemmas.{tidy_then_waits}
use Rattle.unit_io.proofs.UnreadLemmas.{unread_then, unread_waited}
use Rattle.unit_io.proofs.WritingLemmas.{only_programmed}
use Rattle.unit_io.proofs.commits.add_sector.Goals as goal

pub returns-in_err-program-clause-leads : goal.returns-in_err-program-clause-leads
returns-in_err-program-clause-leads g c = λ t m n h steady rests closed fresh stands worn marks.
    let e = err_from_is_err_and c.from_residual.result c.from_residual.ensures.1 in
    rw e.1 (sector_fails (AreUnused (IsCountedClean t) h.story) _ m n h c.args.spot.place c.args.spot.sector _ _ c.encode.ensures rests fresh stands worn (λ sound. marks sound _ c.encode.ensures)
    closed _ e.0 steady c.in_err-program.ensures.did)

pub returns-clause-leads : goal.returns-clause-leads
returns-clause-leads g c = λ t m n h steady rests closed fresh stands worn marks.
    sector_leads (AreUnused (IsCountedClean t) h.story) _ m n h c.args.spot.place c.args.spot.sector _ _ c.encode.ensures rests fresh stands worn (λ sound. marks sound _ c.encode.ensures)
    closed _ _ _ steady c.in_ok-program.ensures.did c.barrier.ensures.did

pub returns-clause-adds : goal.returns-clause-adds
returns-clause-adds g c =
    added_events c.args.spot.place c.args.spot.sector _ _ (g.C.Chip.told c.args.chip.now) (g.C.Chip.told c.program.new.chip) (g.C.Chip.told c.barrier.new.chip)
    c.barrier.result c.encode.ensures c.in_ok-program.ensures.did c.barrier.ensures.did

pub returns-in_err-program-clause-writes : goal.returns-in_err-program-clause-writes
returns-in_err-program-clause-writes g c =
    let e = err_from_is_err_and c.from_residual.result c.from_residual.ensures.1 in
    let only = only_programmed c.args.spot.place c.args.spot.sector _ _ _ _ _ c.encode.ensures c.in_err-program.ensures.did c.in_err-program.ensures.accounts in
    rw (e.1 ∙ ap Err e.2) (record {
      costs = spends_at_most c.args.spot.place 1 1 0 1 c.args.noted.now.kind _ _ (omega arith) (omega arith) only.costs;
      tidy = only.tidy;
      unread = only.unread;
      accounts = only.accounts;
    })

pub returns-clause-writes : goal.returns-clause-writes
returns-clause-writes g c =
    let place = c.args.spot.place in
    let old = g.C.Chip.told c.args.chip.now in
    let mid = g.C.Chip.told c.program.new.chip in
    let new = g.C.Chip.told c.barrier.new.chip in
    let only = only_programmed place c.args.spot.sector _ _ old mid (Ok tt) c.encode.ensures c.in_ok-program.ensures.did c.in_ok-program.ensures.accounts in
    record {
      costs = spends_at_then place 1 0 0 1 c.args.noted.now.kind old mid new only.costs
          (spends_barred place c.args.noted.now.kind mid new c.barrier.result c.barrier.ensures.did);
      tidy = tidy_then_waits place (IsSpot c.args.spot.sector) true (is_ok c.barrier.result) old mid new c.barrier.result only.tidy c.barrier.ensures.did;
      unread = unread_then old mid new only.unread (unread_waited c.barrier.result mid new c.barrier.ensures.did);
      accounts = search rules;
    }
