use Rattle.std.proofs.Common.{◌∙◌, ap, is_some}
use Rattle.ipl_format.specs.Page.{Slots, value_in}
use Rattle.ipl_meaning.specs.First.{count_below}
use Rattle.unit_io.specs.ReadsAt.{Anywhere}
use Rattle.unit_io.proofs.ReadsAtLemmas.{at_wider}
use Rattle.chip_trait.proofs.CountsLemmas.{counts_none}
use Rattle.page_rebuild.proofs.LoadedLemmas.{known_as}
use Rattle.image_check.specs.Checked.{fault_of_page, records_on}
use Rattle.image_check.proofs.CountLemmas.{rebuild_reads, cause_exit, tells_exit, loaded_count}
use Rattle.image_check.proofs.counting.count_page.Goals as goal

pub returns-in_err-rebuild-clause-told : goal.returns-in_err-rebuild-clause-told
returns-in_err-rebuild-clause-told g c = λ x told it known.
    tells_exit _ (fault_of_page x it c.args.unit c.args.page) (records_on x it c.args.unit c.args.page)
    c.from_residual.result c.from_residual.ensures.1 (c.in_err-rebuild.ensures.fault x told it (known_as c.sectors.ensures.sectors known))

pub returns-in_err-rebuild-clause-reads : goal.returns-in_err-rebuild-clause-reads
returns-in_err-rebuild-clause-reads g c =
    at_wider _ Anywhere (g.C.Chip.told c.args.chip.now) (g.C.Chip.told c.rebuild.new.chip) (λ p s is. tt) c.rebuild.ensures.looks.reads

pub returns-in_err-rebuild-clause-cause : goal.returns-in_err-rebuild-clause-cause
returns-in_err-rebuild-clause-cause g c =
    let old = g.C.Chip.told c.args.chip.now in
    let new = g.C.Chip.told c.rebuild.new.chip in
    cause_exit old old new _ c.from_residual.result c.from_residual.ensures.1 (counts_none old)
    (rebuild_reads old new c.args.place c.args.page _ c.in_err-rebuild.ensures.looks.cause)

pub returns-clause-told : goal.returns-clause-told
returns-clause-told g c = λ x told it known. (
  c.in_ok-rebuild.ensures.fault x told it (known_as c.sectors.ensures.sectors known),
  c.count_slots.ensures.count
      ∙ ap (λ (p : Slots). count_below (λ slot. is_some (value_in p slot)) 64) c.committed.ensures.page
      ∙ loaded_count x it c.args.unit c.args.page c.rebuild.new.frame (c.in_ok-rebuild.ensures.loads x told it (known_as c.sectors.ensures.sectors known)),
)

pub returns-clause-reads : goal.returns-clause-reads
returns-clause-reads g c =
    at_wider _ Anywhere (g.C.Chip.told c.args.chip.now) (g.C.Chip.told c.rebuild.new.chip) (λ p s is. tt) c.rebuild.ensures.looks.reads
