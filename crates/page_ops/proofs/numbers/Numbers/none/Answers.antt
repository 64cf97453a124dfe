use Rattle.std.proofs.Common.{refl}
use Rattle.page_ops.proofs.NumberLemmas.{none_given}
use Rattle.page_ops.proofs.numbers.Numbers.none.Goals as goal

pub returns : goal.returns
returns c = none_given 64 _ _ refl
