use Rattle.std.proofs.Common.{ℕ, List, Some, get_or, sym, ◌∙◌, ap, subst}
use Rattle.buffer_pool.specs.Index.{NumbersRise}
use Rattle.buffer_pool.proofs.IndexLemmas.{key_at, key_gap}
use Rattle.buffer_pool.proofs.index.PageIndex.find.Goals as goal

pub returns-in-Ok : goal.returns-in-Ok
returns-in-Ok c =
    let rise = subst NumbersRise c.self.view_is c.self.invariant in
    ap (λ (l : List (ℕ × ℕ)). Some (get_or l c.in-Ok.at (0, 0)).1)
    (c.as_slice.ensures.value ∙ c.self.view_is)
    ∙ sym (key_at c.args.self.now c.in-Ok.at c.args.number rise c.in-Ok.ensures.found)

pub returns-in-Err : goal.returns-in-Err
returns-in-Err c = sym (key_gap c.args.self.now c.in-Err.field-0 c.args.number c.in-Err.ensures.absent)
