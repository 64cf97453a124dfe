use Rattle.std.proofs.Common.{◌≡◌, Some, ◌∙◌, ap}
use Rattle.chip_mem.specs.Sectors.{erased}
use Rattle.nand_2k.specs.declared.part.Status.TheVariants.{Passed}
use Rattle.nand_2k.specs.Tells.{holding}
use Rattle.nand_rising.specs.declared.shape.Shape.{Shape}
use Rattle.nand_rising.specs.Pages.{telling_pages}
use Rattle.nand_rising.specs.Strict.{strict_told_of, telling_strict}
use Rattle.nand_rising.proofs.MemoryLemmas.{part_tagged, sectors_told}
use Rattle.nand_rising.proofs.memory.in_memory.Goals as goal

pub new-requires-in-Some : goal.new-requires-in-Some
new-requires-in-Some c =
    let holds : strict_told_of c.in_ok-pages.pages ≡ holding c.args.shape.blocks (Some erased) = c.in_ok-pages.ensures.told ∙ ap (telling_strict Passed) c.in_ok-new.ensures.told in
    part_tagged c.args.shape _ (strict_told_of c.in_ok-pages.pages)
    (c.in-Some.ensures.told ∙ ap (λ (s : Shape). telling_pages s Passed (strict_told_of c.in_ok-pages.pages)) (c.in_ok-pages.ensures.shape ∙ c.in_ok-new.ensures.shape)) holds

pub returns-in_ok-new-in-Some-clause-told : goal.returns-in_ok-new-in-Some-clause-told
returns-in_ok-new-in-Some-clause-told c =
    let holds : strict_told_of c.in_ok-pages.pages ≡ holding c.args.shape.blocks (Some erased) = c.in_ok-pages.ensures.told ∙ ap (telling_strict Passed) c.in_ok-new.ensures.told in
    c.in_ok-new-in-Some.ensures.told
    ∙ sectors_told c.args.shape _ (strict_told_of c.in_ok-pages.pages)
    (c.in-Some.ensures.told ∙ ap (λ (s : Shape). telling_pages s Passed (strict_told_of c.in_ok-pages.pages)) (c.in_ok-pages.ensures.shape ∙ c.in_ok-new.ensures.shape)) holds
