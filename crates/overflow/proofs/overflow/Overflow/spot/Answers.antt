use Rattle.std.proofs.Common.{ℕ, ◌<◌, map, ◌∙◌, ap, subst, None}
use Rattle.std.specs.Option.{IfSome}
use Rattle.ipl_meaning.specs.Tables.{OverflowLists}
use Rattle.overflow.specs.Lists.{first_of, first_spot}
use Rattle.overflow.proofs.SpotLemmas.{spot_stands, spot_in_range, spot_placed, spot_lowest, spot_none}
use Rattle.overflow.proofs.overflow.Overflow.spot.Goals as goal

pub returns-clause-spot : goal.returns-clause-spot
returns-clause-spot c =
    c.first_spot.ensures ∙ ap (λ l. first_spot None (map first_of l)) c.as_slice.ensures.value
    ∙ ap (λ (it : OverflowLists). first_spot None it.in_use) c.self.view_is

pub returns-clause-some : goal.returns-clause-some
returns-clause-some c = spot_stands c.args.self.now.in_use c.first_spot.result
    (returns-clause-spot c)

pub returns-clause-in_range : goal.returns-clause-in_range
returns-clause-in_range c =
    spot_in_range (map first_of c.self.inside.in_use.items) c.first_spot.result c.self.invariant.0.firsts (c.first_spot.ensures ∙ ap (λ l. first_spot None (map first_of l)) c.as_slice.ensures.value)

pub returns-clause-placed : goal.returns-clause-placed
returns-clause-placed c =
    subst (λ (n : ℕ). IfSome c.first_spot.result (λ spot. spot.place < n)) (ap (λ (it : OverflowLists). it.places) c.self.view_is)
    (spot_placed (map first_of c.self.inside.in_use.items) _ c.first_spot.result c.self.invariant.0.placed (c.first_spot.ensures ∙ ap (λ l. first_spot None (map first_of l)) c.as_slice.ensures.value))

pub returns-clause-lowest : goal.returns-clause-lowest
returns-clause-lowest c = spot_lowest c.args.self.now.in_use c.first_spot.result
    (returns-clause-spot c)

pub returns-clause-none : goal.returns-clause-none
returns-clause-none c = spot_none c.args.self.now.in_use c.first_spot.result (returns-clause-spot c)
