use Rattle.std.proofs.Common.{◌≡◌, IfOk, subst}
use Rattle.chip_trait.specs.Story.{Contents}
use Rattle.chip_mem.specs.Tells.{starting}
use Rattle.chip_mem.specs.Views.{told_of}
use Rattle.chip_mem.proofs.NewLemmas.{erased_contents}
use Rattle.chip_mem.proofs.mem_chip.MemChip.new.Goals as goal

pub returns-clause-told : goal.returns-clause-told
returns-clause-told c =
    subst (λ (x : Contents). IfOk c.starting.result (λ chip. told_of chip ≡ starting c.args.places x)) (erased_contents c.in_ok-sectors.sectors.items _ c.in_ok-sectors.ensures) c.starting.ensures.told
