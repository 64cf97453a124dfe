use Rattle.std.proofs.Common.{◌∙◌, ◌/◌, length, reverse, sym, subst, arith}
use Rattle.chip_trait.specs.Story.{Contents}
use Rattle.chip_trait.specs.Image.{IsImage}
use Rattle.chip_mem.specs.Sectors.{contents_of}
use Rattle.chip_mem.proofs.PickLemmas.{torn_is_inside, pick_gives, pick_keeps_image, given_if_open}
use Rattle.chip_mem.proofs.image.put_pick.Goals as goal

pub chosen_bytes-requires-clause-place : goal.chosen_bytes-requires-clause-place
chosen_bytes-requires-clause-place c =
    let row = torn_is_inside (length c.args.start.now / 256) c.args.events.now c.args.pick.now.place c.args.pick.now.sector c.requires.inside (sym c.if-not-may_tear.ensures) in
    omega (arith, row)

pub program_sector-requires-clause-place : goal.program_sector-requires-clause-place
program_sector-requires-clause-place c =
    let row = torn_is_inside (length c.args.start.now / 256) c.args.events.now c.args.pick.now.place c.args.pick.now.sector c.requires.inside (sym c.if-not-may_tear.ensures) in
    omega (arith, row, c.requires.sized)

pub returns-in-Some-clause-value : goal.returns-in-Some-clause-value
returns-in-Some-clause-value c =
    let start = contents_of c.args.start.now in
    let story = reverse c.args.events.now in
    c.program_sector.ensures
    ∙ pick_gives start story (contents_of c.args.sectors.now) c.args.pick.now c.in-Some.bytes
    (given_if_open start story c.args.pick.now c.if-pick-ge-SECTORS.false (sym c.if-not-may_tear.ensures) ∙ sym c.in-Some.ensures.value)

pub returns-in-Some-clause-image : goal.returns-in-Some-clause-image
returns-in-Some-clause-image c image =
    let start = contents_of c.args.start.now in
    let story = reverse c.args.events.now in
    subst (λ (x : Contents). IsImage start story x) (sym c.program_sector.ensures)
    (pick_keeps_image start story (contents_of c.args.sectors.now) c.args.pick.now.place c.args.pick.now.sector c.in-Some.bytes (sym c.if-not-may_tear.ensures) c.in-Some.ensures.fits image)
