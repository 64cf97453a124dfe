use Rattle.std.proofs.Common.{ℕ, map, ◌∙◌, ap, ap₂, sym, subst, arith}
use Rattle.bounded_vec.specs.Bounded.{Bounded}
use Rattle.ipl_base.specs.Places.{KeepsUnits}
use Rattle.overflow.specs.declared.entries.Entry.{Entry}
use Rattle.overflow.specs.Lists.{first_of, empty_lists}
use Rattle.overflow.proofs.StateLemmas.{empty_state, empty_view}
use Rattle.overflow.proofs.overflow.Overflow.new.Goals as goal

pub invariant_of-result : goal.invariant_of-result
invariant_of-result c =
    let (sound_then, fits_then) = empty_state c.places-places.result c.units.result c.in_ok-counts.counts.items c.in_ok-entries.entries.items
    (map first_of c.new-2.result.items) c.places-places.ensures.range
    (subst (λ (n : ℕ). KeepsUnits n c.units.result) (sym c.places-places.ensures.places) c.units.ensures.keeps)
    (ap (λ (v : Bounded ℕ). v.items) c.in_ok-counts.ensures) (ap (λ (v : Bounded Entry). v.items) c.in_ok-entries.ensures)
    (ap (map first_of) c.new-2.ensures) in (
      sound_then,
      fits_then,
      omega (arith, ap (λ (v : Bounded ℕ). v.room) c.in_ok-counts.ensures),
      omega (arith, ap (λ (v : Bounded Entry). v.room) c.in_ok-entries.ensures, c.min-most.ensures),
    )

pub returns : goal.returns
returns c =
    empty_view c.places-places.result c.units.result c.in_ok-counts.counts.items c.in_ok-entries.entries.items
    (map first_of c.new-2.result.items)
    (ap (λ (v : Bounded ℕ). v.items) c.in_ok-counts.ensures) (ap (λ (v : Bounded Entry). v.items) c.in_ok-entries.ensures)
    (ap (map first_of) c.new-2.ensures)
    ∙ ap₂ empty_lists c.places-places.ensures.places c.units.ensures.units
