use Rattle.std.proofs.Common.{ℕ, List, Option, None, slice_set, ◌∙◌, ap}
use Rattle.page_ops.proofs.NumberLemmas.{taken_there}
use Rattle.page_ops.proofs.numbers.Numbers.take.Goals as goal

pub returns : goal.returns
returns c =
    let p = c.self.inside in
    taken_there p.given p.numbers c.args.slot
    ∙ ap (λ (l : List (Option ℕ)). slice_set l c.args.slot None) c.self.view_is
