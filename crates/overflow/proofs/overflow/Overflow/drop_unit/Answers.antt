use Rattle.std.proofs.Common.{◌≡◌, ◌≤◌, ◌+◌, List, map, get_or, take, sym, ◌∙◌, ap, ap₂, subst, arith, refl}
use Rattle.std.specs.List.{filter, remove_range}
use Rattle.bounded_vec.specs.Bounded.{Bounded}
use Rattle.bounded_vec.proofs.WriteLemmas.{item_written}
use Rattle.ipl_base.specs.Places.{units_on}
use Rattle.ipl_meaning.specs.Tables.{OverflowLists, place_of}
use Rattle.overflow.specs.declared.entries.Entry.{Entry}
use Rattle.overflow.specs.declared.places.PlaceInUse.{PlaceInUse}
use Rattle.overflow.specs.Lists.{first_of, after_drop, places_left}
use Rattle.overflow.specs.Parted.{spot_of, total, keeps, leaves, most_entries}
use Rattle.overflow.proofs.StateLemmas.{unit_asked, low_lent, small_lent, within_lent, cut_lent, drop_state, drop_view, drop_left}
use Rattle.overflow.proofs.overflow.Overflow.drop_unit.Goals as goal

pub first_of-from-requires-clause-units : goal.first_of-from-requires-clause-units
first_of-from-requires-clause-units c =
    let inside = c.self.inside in
    let low = low_lent inside.places inside.counts.items inside.entries.items (map first_of inside.in_use.items) c.args.self.now c.args.unit c.self.view_is
    c.deref.result.now c.requires c.deref.ensures.0 in omega (arith, low)

pub first_of-from-requires-clause-small : goal.first_of-from-requires-clause-small
first_of-from-requires-clause-small c =
    let inside = c.self.inside in
    let (sound, fits, counts_room, entries_room) = c.self.invariant in
    small_lent inside.places inside.counts.items c.deref.result.now inside.entries.items (map first_of inside.in_use.items)
    sound fits c.deref.ensures.0

pub bounds-deref-unit : goal.bounds-deref-unit
bounds-deref-unit c =
    let inside = c.self.inside in
    low_lent inside.places inside.counts.items inside.entries.items (map first_of inside.in_use.items) c.args.self.now c.args.unit c.self.view_is
    c.deref-2.result.now c.requires c.deref-2.ensures.0

pub cut-requires : goal.cut-requires
cut-requires c =
    let inside = c.self.inside in
    let (sound, fits, counts_room, entries_room) = c.self.invariant in
    within_lent inside.places inside.counts.items c.deref.result.now c.deref-2.result.now inside.entries.items inside.entries.items
    (map first_of inside.in_use.items) c.args.unit c.first_of-from.result c.from.result fits
    c.deref.ensures.0 c.deref-2.ensures.0 refl c.first_of-from.ensures c.from.ensures

pub bounds-deref_mut-unit : goal.bounds-deref_mut-unit
bounds-deref_mut-unit c =
    let inside = c.self.inside in
    low_lent inside.places inside.counts.items inside.entries.items (map first_of inside.in_use.items) c.args.self.now c.args.unit c.self.view_is
    c.deref_mut.result.now c.requires c.deref_mut.ensures.value

-- the entries that are left, and the places that are kept
left : (c : goal.After-keep_named) → c.cut.new.entries.items
    ≡ remove_range c.self.inside.entries.items (total (take c.args.unit c.self.inside.counts.items))
    (total (take c.args.unit c.self.inside.counts.items) + get_or c.self.inside.counts.items c.args.unit 0)
left c = ap (λ (v : Bounded Entry). v.items) c.cut.ensures
    ∙ cut_lent c.self.inside.counts.items c.deref.result.now c.deref-2.result.now c.self.inside.entries.items c.args.unit
    c.first_of-from.result c.from.result c.deref.ensures.0 c.deref-2.ensures.0 c.first_of-from.ensures c.from.ensures

kept : (c : goal.After-keep_named) → map first_of c.keep_named.new.places.items
    ≡ filter (keeps (map spot_of c.cut.new.entries.items)) (map first_of c.self.inside.in_use.items)
kept c = c.keep_named.ensures.named
    ∙ ap (λ (l : List Entry). filter (keeps (map spot_of l)) (map first_of c.self.inside.in_use.items)) c.deref-4.ensures.0

pub invariant_of-self : goal.invariant_of-self
invariant_of-self c =
    let inside = c.self.inside in
    let (sound, fits, counts_room, entries_room) = c.self.invariant in
    let (sound_then, fits_then) = drop_state inside.places inside.counts.items inside.entries.items (map first_of inside.in_use.items) c.args.unit sound fits
    (unit_asked _ c.args.self.now c.args.unit c.self.view_is c.requires) _ c.cut.new.entries.items _
    (item_written inside.counts.items c.deref_mut.result.now c.args.unit 0 c.deref_mut.ensures.value) (left c) (kept c) in
    (sound_then, fits_then, counts_room, subst (λ (v : Bounded Entry). most_entries (units_on inside.places) ≤ v.room) (sym c.cut.ensures) entries_room)

pub returns-clause-dropped : goal.returns-clause-dropped
returns-clause-dropped c =
    let inside = c.self.inside in
    let (sound, fits, counts_room, entries_room) = c.self.invariant in
    drop_view inside.places inside.counts.items inside.entries.items (map first_of inside.in_use.items) c.args.unit sound fits
    (unit_asked _ c.args.self.now c.args.unit c.self.view_is c.requires) _ c.cut.new.entries.items _
    (item_written inside.counts.items c.deref_mut.result.now c.args.unit 0 c.deref_mut.ensures.value) (left c) (kept c)
    ∙ ap (λ (it : OverflowLists). after_drop it c.args.unit) c.self.view_is

pub returns-clause-left : goal.returns-clause-left
returns-clause-left c =
    let inside = c.self.inside in
    let (sound, fits, counts_room, entries_room) = c.self.invariant in
    c.places_left-left.ensures
    ∙ ap₂ (λ (l : List Entry) (places : List PlaceInUse). filter (leaves (map spot_of l)) (map place_of (map first_of places)))
    c.deref-3.ensures.0 c.as_slice.ensures.value
    ∙ drop_left inside.places inside.counts.items inside.entries.items (map first_of inside.in_use.items) c.args.unit sound fits
    (unit_asked _ c.args.self.now c.args.unit c.self.view_is c.requires) _ c.cut.new.entries.items _
    (item_written inside.counts.items c.deref_mut.result.now c.args.unit 0 c.deref_mut.ensures.value) (left c) (kept c)
    ∙ ap (λ (it : OverflowLists). places_left it c.args.unit) c.self.view_is
