use Rattle.std.proofs.Common.{◌≡◌, refl, List, ℕ, length, ◌∙◌, ap, arith}
use Rattle.std.proofs.lemmas.List.{with_items_is}
use Rattle.chip_trait.specs.declared.event.Event.TheVariants.{Erase, Worn}
use Rattle.chip_trait.specs.Story.{after}
use Rattle.chip_trait.specs.Told.{Told}
use Rattle.chip_mem.specs.Sectors.{contents_of}
use Rattle.chip_mem.proofs.StoryLemmas.{replayed_next, inside_next, erase_is_inside, worn_is_inside}
use Rattle.chip_mem.proofs.mem_chip.MemChipChip.erase.Goals as goal

pub invariant_of-self-clause-replayed : goal.invariant_of-self-clause-replayed
invariant_of-self-clause-replayed c =
    let self = c.breaks.new.self in
    replayed_next self.start.items self.events.items c.push_reserved.new.self.items self.sectors.items _ (Worn c.args.p) self.replayed c.push_reserved.ensures.items refl

pub invariant_of-self-clause-inside : goal.invariant_of-self-clause-inside
invariant_of-self-clause-inside c =
    let self = c.breaks.new.self in
    let there = worn_is_inside self.places c.args.p (rw (ap (λ (t : Told). t.places) c.if-breaks.ensures.told) c.requires) in
    inside_next self.places self.events.items c.push_reserved.new.self.items _ self.inside c.push_reserved.ensures.items there

pub invariant_of-self-2-clause-replayed : goal.invariant_of-self-2-clause-replayed
invariant_of-self-2-clause-replayed c =
    let self = c.breaks.new.self in
    let e = Erase c.args.p in
    let same : length c.erase_place.new.sectors ≡ self.sectors.len = omega (arith, c.deref_mut.ensures.len) in
    let written = with_items_is self.sectors c.erase_place.new.sectors same in
    let done = c.erase_place.ensures ∙ ap (λ (l : List (List ℕ)). after e (contents_of l)) c.deref_mut.ensures.value in
    replayed_next self.start.items self.events.items c.push_reserved-2.new.self.items self.sectors.items _ e self.replayed c.push_reserved-2.ensures.items (ap contents_of written ∙ done)

pub invariant_of-self-2-clause-sized : goal.invariant_of-self-2-clause-sized
invariant_of-self-2-clause-sized c =
    let self = c.breaks.new.self in
    let same : length c.erase_place.new.sectors ≡ self.sectors.len = omega (arith, c.deref_mut.ensures.len) in
    let written = ap length (with_items_is self.sectors c.erase_place.new.sectors same) in
    omega (arith, written, self.sized)

pub invariant_of-self-2-clause-inside : goal.invariant_of-self-2-clause-inside
invariant_of-self-2-clause-inside c =
    let self = c.breaks.new.self in
    let there = erase_is_inside self.places c.args.p (rw (ap (λ (t : Told). t.places) c.if-breaks.ensures.told) c.requires) in
    inside_next self.places self.events.items c.push_reserved-2.new.self.items _ self.inside c.push_reserved-2.ensures.items there
