use Rattle.std.proofs.Common.{ℕ, List, Some, sym, ◌∙◌, ap, subst}
use Rattle.buffer_pool.specs.Index.{key_of, with_key, NumbersRise, IsGapFor}
use Rattle.buffer_pool.proofs.IndexLemmas.{no_some, key_at, key_insert, rising_insert}
use Rattle.buffer_pool.proofs.index.PageIndex.add.Goals as goal

pub unreachable-requires : goal.unreachable-requires
unreachable-requires c =
    let rise = subst NumbersRise c.self.view_is c.self.invariant in
    no_some _ (sym c.requires.absent
    ∙ key_at c.args.self.now c.in-Ok.field-0 c.args.number rise c.in-Ok.ensures.found)

pub invariant_of-self : goal.invariant_of-self
invariant_of-self c =
    let gap = subst (λ (l : List (ℕ × ℕ)). IsGapFor l c.args.number c.in-Err.at)
    (sym c.self.view_is) c.in-Err.ensures.absent in
    subst NumbersRise (sym c.insert.ensures.items)
    (rising_insert c.self.inside.entries.items c.in-Err.at c.args.number c.args.key c.self.invariant gap)

pub returns-clause-added : goal.returns-clause-added
returns-clause-added c = λ n.
    let entries = c.self.inside.entries.items in
    let gap = subst (λ (l : List (ℕ × ℕ)). IsGapFor l c.args.number c.in-Err.at)
    (sym c.self.view_is) c.in-Err.ensures.absent in
    ap (λ (l : List (ℕ × ℕ)). key_of l n) c.insert.ensures.items
    ∙ key_insert entries c.in-Err.at c.args.number c.args.key gap.within gap.below n
    ∙ ap (λ (l : List (ℕ × ℕ)). with_key (key_of l) c.args.number (Some c.args.key) n) c.self.view_is
