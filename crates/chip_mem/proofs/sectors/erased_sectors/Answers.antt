use Rattle.std.proofs.Common.{List, ℕ, [], ◌∷◌, ◌++◌, ◌∙◌, ap, arith}
use Rattle.std.proofs.lemmas.List.{replicate_more}
use Rattle.chip_mem.specs.declared.sectors.TheConstants.{BLANK}
use Rattle.chip_mem.proofs.sectors.erased_sectors.Goals as goal

pub loop-i-preserved : goal.loop-i-preserved
loop-i-preserved c = record {
  items = c.push_reserved.ensures.items ∙ ap (λ (l : List (List ℕ)). l ++ BLANK ∷ []) c.loop-i.invariant.items ∙ replicate_more c.loop-i.i BLANK;
  len = omega arith;
  capacity = omega arith;
}
