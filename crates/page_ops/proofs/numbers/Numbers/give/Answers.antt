use Rattle.std.proofs.Common.{ℕ, List, Option, Some, slice_set, ◌∙◌, ap, arith}
use Rattle.page_ops.proofs.NumberLemmas.{given_there}
use Rattle.page_ops.proofs.numbers.Numbers.give.Goals as goal

pub returns : goal.returns
returns c =
    let p = c.self.inside in
    given_there p.given p.numbers c.args.slot c.args.number
    (omega (arith, c.self.told.0, c.requires)) (omega (arith, c.self.told.1, c.requires))
    ∙ ap (λ (l : List (Option ℕ)). slice_set l c.args.slot (Some c.args.number)) c.self.view_is
