use Rattle.std.proofs.Common.{◌≤◌, ℕ, map, ◌∙◌, ap, sym, subst}
use Rattle.bounded_vec.specs.Bounded.{Bounded}
use Rattle.ipl_base.specs.Places.{KeepsUnits, units_on}
use Rattle.ipl_meaning.specs.Tables.{OverflowLists}
use Rattle.overflow.specs.declared.entries.Entry.{Entry}
use Rattle.overflow.specs.Lists.{first_of, empty_lists}
use Rattle.overflow.specs.Parted.{most_entries}
use Rattle.overflow.proofs.StateLemmas.{empty_state, empty_view}
use Rattle.overflow.proofs.overflow.Overflow.set_units.Goals as goal

pub invariant_of-self : goal.invariant_of-self
invariant_of-self c =
    let inside = c.self.inside in
    let (sound, fits, counts_room, entries_room) = c.self.invariant in
    let (sound_then, fits_then) = empty_state inside.places c.args.units c.refill.new.self.items c.clear.new.self.items
    (map first_of c.new-self-inside.result.items) sound.places
    (subst (λ (it : OverflowLists). KeepsUnits it.places c.args.units) (sym c.self.view_is) c.requires)
    (ap (λ (v : Bounded ℕ). v.items) c.refill.ensures) (ap (λ (v : Bounded Entry). v.items) c.clear.ensures)
    (ap (map first_of) c.new-self-inside.ensures) in (
      sound_then,
      fits_then,
      subst (λ (v : Bounded ℕ). units_on inside.places ≤ v.room) (sym c.refill.ensures) counts_room,
      subst (λ (v : Bounded Entry). most_entries (units_on inside.places) ≤ v.room) (sym c.clear.ensures) entries_room,
    )

pub returns : goal.returns
returns c =
    let inside = c.self.inside in
    empty_view inside.places c.args.units c.refill.new.self.items c.clear.new.self.items
    (map first_of c.new-self-inside.result.items)
    (ap (λ (v : Bounded ℕ). v.items) c.refill.ensures) (ap (λ (v : Bounded Entry). v.items) c.clear.ensures)
    (ap (map first_of) c.new-self-inside.ensures)
    ∙ ap (λ (it : OverflowLists). empty_lists it.places c.args.units) c.self.view_is
