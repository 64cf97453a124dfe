use Rattle.std.proofs.Common.{length, map, ◌∙◌, ap}
use Rattle.bounded_vec.proofs.WriteLemmas.{refilled}
use Rattle.overflow.specs.Lists.{first_of, as_used}
use Rattle.overflow.proofs.StateLemmas.{used_state}
use Rattle.overflow.proofs.overflow.Overflow.use_places.Goals as goal

pub invariant_of-self : goal.invariant_of-self
invariant_of-self c =
    let inside = c.self.inside in
    let (sound, fits, counts_room, entries_room) = c.self.invariant in
    let (sound_then, fits_then) = used_state inside.places inside.counts.items inside.entries.items (map first_of inside.in_use.items) _ sound fits
    (ap (map first_of) (refilled inside.in_use.items c.use_all.new.places
    (c.use_all.auto.places ∙ ap length c.as_mut_slice.ensures.value))
    ∙ c.use_all.ensures ∙ ap (λ l. map as_used (map first_of l)) c.as_mut_slice.ensures.value) in
    (sound_then, fits_then, counts_room, entries_room)
