use Rattle.std.proofs.Common.{◌<◌, length, map, ◌∙◌, ap, sym, subst}
use Rattle.std.proofs.lemmas.List.{map_push}
use Rattle.ipl_meaning.specs.Tables.{OverflowLists}
use Rattle.overflow.specs.Lists.{first_of}
use Rattle.overflow.proofs.StateLemmas.{place_state}
use Rattle.overflow.proofs.overflow.Overflow.add_place.Goals as goal

pub invariant_of-self : goal.invariant_of-self
invariant_of-self c =
    let inside = c.self.inside in
    let (sound, fits, counts_room, entries_room) = c.self.invariant in
    let (sound_then, fits_then) = place_state inside.places inside.counts.items inside.entries.items (map first_of inside.in_use.items)
    (map first_of c.push.new.self.items) c.args.place sound fits
    (subst (λ (it : OverflowLists). length it.in_use < 2) (sym c.self.view_is) c.requires.few)
    (subst (λ (it : OverflowLists). c.args.place < it.places) (sym c.self.view_is) c.requires.place)
    (ap (map first_of) c.push.ensures.items ∙ map_push first_of inside.in_use.items _) in
    (sound_then, fits_then, counts_room, entries_room)
