use Rattle.std.proofs.Common.{map}
use Rattle.overflow.specs.Lists.{first_of}
use Rattle.overflow.proofs.StateLemmas.{low_lent, counted_lent}
use Rattle.overflow.proofs.overflow.Overflow.count.Goals as goal

pub bounds-deref-unit : goal.bounds-deref-unit
bounds-deref-unit c =
    let inside = c.self.inside in
    low_lent inside.places inside.counts.items inside.entries.items (map first_of inside.in_use.items) c.args.self.now c.args.unit c.self.view_is
    c.deref.result.now c.requires c.deref.ensures.0

pub returns-clause-count : goal.returns-clause-count
returns-clause-count c =
    let inside = c.self.inside in
    let (sound, fits, counts_room, entries_room) = c.self.invariant in
    counted_lent inside.places inside.counts.items inside.entries.items (map first_of inside.in_use.items) c.args.self.now c.args.unit c.self.view_is
    c.deref.result.now c.from.result fits c.deref.ensures.0 c.from.ensures
