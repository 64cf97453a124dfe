use Rattle.std.proofs.Common.{ℕ, List, None, IsSome, sym, ◌∙◌, ap, subst}
use Rattle.std.proofs.lemmas.Bool.{false≢true}
use Rattle.buffer_pool.specs.Index.{key_of, with_key, NumbersRise, HasNumberAt}
use Rattle.buffer_pool.proofs.IndexLemmas.{key_gap, key_remove, rising_remove}
use Rattle.buffer_pool.proofs.index.PageIndex.remove.Goals as goal

pub invariant_of-self : goal.invariant_of-self
invariant_of-self c =
    subst NumbersRise (sym c.remove.ensures.items)
    (rising_remove c.self.inside.entries.items c.in-Ok.at c.self.invariant)

pub unreachable-requires : goal.unreachable-requires
unreachable-requires c =
    let none = key_gap c.args.self.now c.in-Err.field-0 c.args.number c.in-Err.ensures.absent in
    absurd (false≢true (subst IsSome none c.requires))

pub returns-clause-removed : goal.returns-clause-removed
returns-clause-removed c = λ n.
    let entries = c.self.inside.entries.items in
    let here = subst (λ (l : List (ℕ × ℕ)). HasNumberAt l c.args.number c.in-Ok.at)
    (sym c.self.view_is) c.in-Ok.ensures.found in
    ap (λ (l : List (ℕ × ℕ)). key_of l n) c.remove.ensures.items
    ∙ key_remove entries c.in-Ok.at c.args.number c.self.invariant here n
    ∙ ap (λ (l : List (ℕ × ℕ)). with_key (key_of l) c.args.number None n) c.self.view_is
