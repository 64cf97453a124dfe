use Rattle.std.proofs.Common.{◌∙◌, map, sym, ap}
use Rattle.overflow.specs.Lists.{pair_of, first_of, spots_in}
use Rattle.overflow.proofs.StateLemmas.{low_lent, counted_lent, small_lent, within_lent, spots_lent, none_of}
use Rattle.overflow.proofs.overflow.Overflow.list.Goals as goal

pub bounds-deref-unit : goal.bounds-deref-unit
bounds-deref-unit c =
    let inside = c.self.inside in
    low_lent inside.places inside.counts.items inside.entries.items (map first_of inside.in_use.items) c.args.self.now c.args.unit c.self.view_is
    c.deref.result.now c.requires c.deref.ensures.0

pub first_of-from-requires-clause-small : goal.first_of-from-requires-clause-small
first_of-from-requires-clause-small c =
    let inside = c.self.inside in
    let (sound, fits, counts_room, entries_room) = c.self.invariant in
    small_lent inside.places inside.counts.items c.deref-2.result.now inside.entries.items (map first_of inside.in_use.items)
    sound fits c.deref-2.ensures.0

pub returns-then-count-eq0-clause-spots : goal.returns-then-count-eq0-clause-spots
returns-then-count-eq0-clause-spots c =
    let inside = c.self.inside in
    let (sound, fits, counts_room, entries_room) = c.self.invariant in
    ap (map pair_of) c.new.ensures
    ∙ none_of (spots_in c.args.self.now c.args.unit) (sym c.if-count-eq0.true
    ∙ counted_lent inside.places inside.counts.items inside.entries.items (map first_of inside.in_use.items) c.args.self.now c.args.unit c.self.view_is
    c.deref.result.now c.from-count.result fits c.deref.ensures.0 c.from-count.ensures)

pub spots_in-requires-clause-within : goal.spots_in-requires-clause-within
spots_in-requires-clause-within c =
    let inside = c.self.inside in
    let (sound, fits, counts_room, entries_room) = c.self.invariant in
    within_lent inside.places inside.counts.items c.deref-2.result.now c.deref.result.now inside.entries.items c.deref-3.result.now
    (map first_of inside.in_use.items) c.args.unit c.first_of-from.result c.from-count.result fits
    c.deref-2.ensures.0 c.deref.ensures.0 c.deref-3.ensures.0 c.first_of-from.ensures c.from-count.ensures

pub returns-clause-spots : goal.returns-clause-spots
returns-clause-spots c =
    let inside = c.self.inside in
    c.spots_in.ensures.spots
    ∙ spots_lent inside.places inside.counts.items inside.entries.items (map first_of inside.in_use.items) c.args.self.now c.args.unit c.self.view_is
    c.deref-2.result.now c.deref.result.now c.deref-3.result.now c.first_of-from.result c.from-count.result
    c.deref-2.ensures.0 c.deref.ensures.0 c.deref-3.ensures.0 c.first_of-from.ensures c.from-count.ensures
