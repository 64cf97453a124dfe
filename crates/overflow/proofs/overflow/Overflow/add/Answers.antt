use Rattle.std.proofs.Common.{◌≤◌, ◌+◌, ℕ, List, map, length, take, sym, ◌∙◌, ap, subst, arith}
use Rattle.bounded_vec.specs.Bounded.{Bounded}
use Rattle.bounded_vec.proofs.WriteLemmas.{refilled}
use Rattle.ipl_meaning.specs.Tables.{OverflowLists}
use Rattle.overflow.specs.declared.entries.Entry.{Entry}
use Rattle.overflow.specs.Lists.{first_of, clean_behind, after_add}
use Rattle.ipl_base.specs.Places.{units_on}
use Rattle.overflow.specs.Parted.{total, most_entries}
use Rattle.overflow.proofs.StateLemmas.{add_asked, small_lent, add_room, add_state, add_view, low_lent, end_within, counted_one}
use Rattle.overflow.proofs.overflow.Overflow.add.Goals as goal

pub first_of-at-requires-clause-units : goal.first_of-at-requires-clause-units
first_of-at-requires-clause-units c =
    let inside = c.self.inside in
    let low = low_lent inside.places inside.counts.items inside.entries.items (map first_of inside.in_use.items) c.args.self.now c.args.unit c.self.view_is
    c.deref.result.now c.requires.unit c.deref.ensures.0 in omega (arith, low)

pub first_of-at-requires-clause-small : goal.first_of-at-requires-clause-small
first_of-at-requires-clause-small c =
    let inside = c.self.inside in
    let (sound, fits, counts_room, entries_room) = c.self.invariant in
    small_lent inside.places inside.counts.items c.deref.result.now inside.entries.items (map first_of inside.in_use.items)
    sound fits c.deref.ensures.0

pub insert-requires-clause-within : goal.insert-requires-clause-within
insert-requires-clause-within c =
    let inside = c.self.inside in
    let (sound, fits, counts_room, entries_room) = c.self.invariant in
    end_within inside.places inside.counts.items c.deref.result.now inside.entries.items (map first_of inside.in_use.items)
    c.args.unit c.first_of-at.result fits c.deref.ensures.0 c.first_of-at.ensures

pub insert-requires-clause-room : goal.insert-requires-clause-room
insert-requires-clause-room c =
    let inside = c.self.inside in
    let (sound, fits, counts_room, entries_room) = c.self.invariant in
    let (low, few, place, unused) = add_asked _ c.args.self.now c.args.unit c.args.spot.place c.args.spot.sector c.self.view_is
    c.requires.unit c.requires.few c.requires.place c.requires.clean in
    let room = add_room inside.places inside.counts.items inside.entries.items (map first_of inside.in_use.items) c.args.unit c.args.spot.place c.args.spot.sector c.args.mask
    c.of.result c.of.ensures.spot c.of.ensures.mask sound fits low few place c.requires.sector unused in
    omega (arith, room, entries_room)

pub bounds-deref_mut-unit : goal.bounds-deref_mut-unit
bounds-deref_mut-unit c =
    let inside = c.self.inside in
    low_lent inside.places inside.counts.items inside.entries.items (map first_of inside.in_use.items) c.args.self.now c.args.unit c.self.view_is
    c.deref_mut.result.now c.requires.unit c.deref_mut.ensures.value

pub bounds-deref_mut-unit-2 : goal.bounds-deref_mut-unit-2
bounds-deref_mut-unit-2 c =
    let inside = c.self.inside in
    low_lent inside.places inside.counts.items inside.entries.items (map first_of inside.in_use.items) c.args.self.now c.args.unit c.self.view_is
    c.deref_mut.result.now c.requires.unit c.deref_mut.ensures.value

pub invariant_of-self : goal.invariant_of-self
invariant_of-self c =
    let inside = c.self.inside in
    let (sound, fits, counts_room, entries_room) = c.self.invariant in
    let (low, few, place, unused) = add_asked _ c.args.self.now c.args.unit c.args.spot.place c.args.spot.sector c.self.view_is
    c.requires.unit c.requires.few c.requires.place c.requires.clean in
    let (sound_then, fits_then) = add_state inside.places inside.counts.items inside.entries.items (map first_of inside.in_use.items) c.args.unit c.args.spot.place c.args.spot.sector c.args.mask
    c.of.result c.of.ensures.spot c.of.ensures.mask sound fits low few place c.requires.sector unused
    c.first_of-at.result _ c.insert.new.self.items _
    (c.first_of-at.ensures ∙ ap (λ (l : List ℕ). total (take (c.args.unit + 1) l)) c.deref.ensures.0)
    (counted_one inside.counts.items c.deref_mut.result.now c.args.unit c.deref_mut.ensures.value)
    (ap (λ (v : Bounded Entry). v.items) c.insert.ensures)
    (ap (map first_of) (refilled inside.in_use.items c.use_spot.new.places
    (c.use_spot.auto.places ∙ ap length c.as_mut_slice.ensures.value))
    ∙ c.use_spot.ensures
    ∙ ap (λ l. map (clean_behind c.args.spot.place c.args.spot.sector) (map first_of l)) c.as_mut_slice.ensures.value) in
    (sound_then, fits_then, counts_room, subst (λ (v : Bounded Entry). most_entries (units_on inside.places) ≤ v.room) (sym c.insert.ensures) entries_room)

pub returns : goal.returns
returns c =
    let inside = c.self.inside in
    let (sound, fits, counts_room, entries_room) = c.self.invariant in
    let (low, few, place, unused) = add_asked _ c.args.self.now c.args.unit c.args.spot.place c.args.spot.sector c.self.view_is
    c.requires.unit c.requires.few c.requires.place c.requires.clean in
    add_view inside.places inside.counts.items inside.entries.items (map first_of inside.in_use.items) c.args.unit c.args.spot.place c.args.spot.sector c.args.mask
    c.of.result c.of.ensures.spot c.of.ensures.mask sound fits low few place c.requires.sector unused
    c.first_of-at.result _ c.insert.new.self.items _
    (c.first_of-at.ensures ∙ ap (λ (l : List ℕ). total (take (c.args.unit + 1) l)) c.deref.ensures.0)
    (counted_one inside.counts.items c.deref_mut.result.now c.args.unit c.deref_mut.ensures.value)
    (ap (λ (v : Bounded Entry). v.items) c.insert.ensures)
    (ap (map first_of) (refilled inside.in_use.items c.use_spot.new.places
    (c.use_spot.auto.places ∙ ap length c.as_mut_slice.ensures.value))
    ∙ c.use_spot.ensures
    ∙ ap (λ l. map (clean_behind c.args.spot.place c.args.spot.sector) (map first_of l)) c.as_mut_slice.ensures.value)
    ∙ ap (λ (it : OverflowLists). after_add it c.args.unit c.args.spot.place c.args.spot.sector c.args.mask) c.self.view_is
