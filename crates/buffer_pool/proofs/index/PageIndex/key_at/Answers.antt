use Rattle.std.proofs.Common.{ℕ, List, Some, get_or, sym, ◌∙◌, ap, subst}
use Rattle.buffer_pool.specs.Index.{NumbersRise}
use Rattle.buffer_pool.proofs.IndexLemmas.{key_there}
use Rattle.buffer_pool.proofs.index.PageIndex.key_at.Goals as goal

pub returns : goal.returns
returns c =
    key_there c.args.self.now c.args.at (subst NumbersRise c.self.view_is c.self.invariant) c.requires
    ∙ ap (λ (l : List (ℕ × ℕ)). Some (get_or l c.args.at (0, 0)).1)
    (sym (c.as_slice.ensures.value ∙ c.self.view_is))
