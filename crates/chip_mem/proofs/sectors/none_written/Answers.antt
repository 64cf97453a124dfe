use Rattle.std.proofs.Common.{List, Bool, false, [], ◌∷◌, ◌++◌, ◌∙◌, ap, arith}
use Rattle.std.proofs.lemmas.List.{replicate_more}
use Rattle.chip_mem.proofs.sectors.none_written.Goals as goal

pub loop-i-preserved : goal.loop-i-preserved
loop-i-preserved c = record {
  items = c.push_reserved.ensures.items ∙ ap (λ (l : List Bool). l ++ false ∷ []) c.loop-i.invariant.items ∙ replicate_more c.loop-i.i false;
  len = omega arith;
  capacity = omega arith;
}
