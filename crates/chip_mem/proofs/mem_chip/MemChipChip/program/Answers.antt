use Rattle.std.proofs.Common.{◌≡◌, List, ℕ, length, ◌∙◌, ap, arith}
use Rattle.std.proofs.lemmas.List.{with_items_is}
use Rattle.chip_trait.specs.declared.event.Event.TheVariants.{Program}
use Rattle.chip_trait.specs.Story.{after}
use Rattle.chip_trait.specs.Told.{Told}
use Rattle.chip_mem.specs.Sectors.{contents_of}
use Rattle.chip_mem.proofs.StoryLemmas.{replayed_next, inside_next, program_is_inside}
use Rattle.chip_mem.proofs.mem_chip.MemChipChip.program.Goals as goal

pub invariant_of-self-clause-replayed : goal.invariant_of-self-clause-replayed
invariant_of-self-clause-replayed c =
    let self = c.breaks.new.self in
    let e = Program c.args.p c.args.s c.args.from.now in
    let same : length c.program_sector.new.sectors ≡ self.sectors.len = omega (arith, c.deref_mut.ensures.len) in
    let written = with_items_is self.sectors c.program_sector.new.sectors same in
    let done = c.program_sector.ensures ∙ ap (λ (l : List (List ℕ)). after e (contents_of l)) c.deref_mut.ensures.value in
    replayed_next self.start.items self.events.items c.push_reserved.new.self.items self.sectors.items _ e self.replayed c.push_reserved.ensures.items (ap contents_of written ∙ done)

pub invariant_of-self-clause-sized : goal.invariant_of-self-clause-sized
invariant_of-self-clause-sized c =
    let self = c.breaks.new.self in
    let same : length c.program_sector.new.sectors ≡ self.sectors.len = omega (arith, c.deref_mut.ensures.len) in
    let written = ap length (with_items_is self.sectors c.program_sector.new.sectors same) in
    omega (arith, written, self.sized)

pub invariant_of-self-clause-inside : goal.invariant_of-self-clause-inside
invariant_of-self-clause-inside c =
    let self = c.breaks.new.self in
    let there = program_is_inside self.places c.args.p c.args.s c.args.from.now (rw (ap (λ (t : Told). t.places) c.if-breaks.ensures.told) c.requires.place) c.requires.sector in
    inside_next self.places self.events.items c.push_reserved.new.self.items _ self.inside c.push_reserved.ensures.items there
