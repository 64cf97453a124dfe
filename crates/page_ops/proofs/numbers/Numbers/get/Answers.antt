use Rattle.std.proofs.Common.{ℕ, List, Option, None, slice_index_or, sym, ◌∙◌, ap, arith}
use Rattle.page_ops.proofs.NumberLemmas.{number_there, none_there}
use Rattle.page_ops.proofs.numbers.Numbers.get.Goals as goal

pub returns-then-self-slot : goal.returns-then-self-slot
returns-then-self-slot c =
    let p = c.self.inside in
    sym (number_there p.given p.numbers c.args.slot (omega (arith, c.self.told.0, c.requires))
    (omega (arith, c.self.told.1, c.requires)) c.if-self-slot.true)
    ∙ ap (λ (l : List (Option ℕ)). slice_index_or l c.args.slot None) c.self.view_is

pub returns-else-self-slot : goal.returns-else-self-slot
returns-else-self-slot c =
    let p = c.self.inside in
    sym (none_there p.given p.numbers c.args.slot c.if-self-slot.false)
    ∙ ap (λ (l : List (Option ℕ)). slice_index_or l c.args.slot None) c.self.view_is
