use Rattle.std.proofs.Common.{OnOk, ◌∙◌, subst}
use Rattle.ipl_format.specs.Sector.{Sector}
use Rattle.unit_io.specs.Costs.{Spends}
use Rattle.unit_io.specs.Spots.{AddsSector}
use Rattle.unit_io.specs.Writing.{LeadsMark}
use Rattle.txn_status.proofs.MarkingLemmas.{same_mark}
use Rattle.txn_status.proofs.commits.write_mark.Goals as goal

pub returns-clause-leads : goal.returns-clause-leads
returns-clause-leads g c =
    let old = g.C.Chip.told c.args.chip.now in
    subst (λ (z : Sector). LeadsMark old.places c.args.spot.place c.args.spot.sector z old
    c.add_mark.result (g.C.Chip.told c.add_mark.new.chip))
    (c.of.ensures ∙ same_mark _ c.args.payload.now c.args.generation c.args.serial c.written-head.ensures)
    c.add_mark.ensures.keeps

pub returns-clause-adds : goal.returns-clause-adds
returns-clause-adds g c =
    let old = g.C.Chip.told c.args.chip.now in
    subst (λ (z : Sector). OnOk c.add_mark.result (Spends (AddsSector c.args.spot.place c.args.spot.sector z) old
    (g.C.Chip.told c.add_mark.new.chip)))
    (c.of.ensures ∙ same_mark _ c.args.payload.now c.args.generation c.args.serial c.written-head.ensures)
    c.add_mark.ensures.adds
