-- A chip over an erased part in memory.
use Rattle.std.proofs.Common.{◌≡◌, ◌/◌, ℕ, Bool, true, false, cond, ltb, Some, IfSome, ◌∙◌, ap, sym, refl, subst}
use Rattle.std.proofs.Math.Path.{fun_ext}
use Rattle.chip_trait.specs.Story.{blank}
use Rattle.chip_mem.specs.Sectors.{erased}
use Rattle.chip_mem.specs.Tells.{none_yet, telling_contents}
use Rattle.nand_2k.specs.declared.part.Status.TheVariants.{Passed}
use Rattle.nand_2k.specs.Part.{PartTold}
use Rattle.nand_2k.specs.Tells.{holding}
use Rattle.nand_rising.specs.declared.shape.Shape.{Shape}
use Rattle.nand_rising.specs.Slots.{sectors_of, AreWellTagged}
use Rattle.nand_rising.specs.Shapes.{blocks_per_place}
use Rattle.nand_rising.specs.Pages.{slots_in, telling_pages}
use Rattle.nand_rising.specs.Tells.{telling_slots}
use Rattle.nand_rising.proofs.HeaderLemmas.{none_blank}
use Rattle.nand_rising.proofs.StepLemmas.{none_tagged, made_blank}

one_blank : (k : Bool) → cond k blank blank ≡ blank
one_blank true = refl
one_blank false = refl

slots_blank : (shape : Shape) (p t : ℕ) → slots_in shape erased p t ≡ blank
slots_blank shape p t = one_blank (ltb t 256)

erased_tagged : (shape : Shape) → AreWellTagged (slots_in shape erased)
erased_tagged shape = λ p. none_tagged (slots_in shape erased p) (none_blank (slots_in shape erased p) (slots_blank shape p))

erased_sectors : (shape : Shape) → sectors_of (slots_in shape erased) ≡ erased
erased_sectors shape = fun_ext (λ p. fun_ext (λ t. made_blank (slots_in shape erased p) t (slots_blank shape p)))

-- what slots over such a part tell
module _ (shape : Shape) (part pages : PartTold) (is : part ≡ telling_pages shape Passed pages) (holds : pages ≡ holding shape.blocks (Some erased)) where
  erased_part : part ≡ telling_pages shape Passed (holding shape.blocks (Some erased))
  erased_part = is ∙ ap (telling_pages shape Passed) holds

  pub part_tagged : IfSome part.contents AreWellTagged
  part_tagged = subst (λ (t : PartTold). IfSome t.contents AreWellTagged) (sym erased_part) (erased_tagged shape)

  pub sectors_told : telling_slots part none_yet 0 ≡ telling_contents (shape.blocks / blocks_per_place shape) erased
  sectors_told = ap (λ (t : PartTold). telling_slots t none_yet 0) erased_part ∙ ap (telling_contents (shape.blocks / blocks_per_place shape)) (erased_sectors shape)
