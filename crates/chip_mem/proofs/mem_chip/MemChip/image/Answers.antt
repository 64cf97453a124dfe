use Rattle.std.proofs.Common.{◌≡◌, ◌-◌, IfOk, length, subst, arith}
use Rattle.chip_trait.specs.Story.{Contents}
use Rattle.chip_trait.specs.Image.{IsImage}
use Rattle.chip_mem.specs.Sectors.{HasWholeSectors, contents_of}
use Rattle.chip_mem.specs.Picked.{first, image_of}
use Rattle.chip_mem.specs.Tells.{starting}
use Rattle.chip_mem.specs.Views.{history_of, told_of}
use Rattle.chip_mem.proofs.ChanceLemmas.{image_named}
use Rattle.chip_mem.proofs.NewLemmas.{on_ok}
use Rattle.chip_mem.proofs.PickLemmas.{image_moves}
use Rattle.chip_mem.proofs.mem_chip.MemChip.image.Goals as goal

pub returns-clause-told : goal.returns-clause-told
returns-clause-told c =
    let self = c.args.self.now in
    let cut : length self.events.items - c.min-count.result ≡ length self.events.items - c.args.at = omega (arith, c.min-count.ensures, c.len.ensures) in
    image_moves (λ xs story. IfOk c.starting.result (λ chip. told_of chip ≡ starting self.places (image_of (contents_of xs) story c.args.picks.now)))
    self.start.items c.deref.result.now self.events.items c.deref-2.result.now c.args.at c.min-count.result c.deref.ensures.value c.deref-2.ensures.value cut
    (subst (λ (x : Contents). IfOk c.starting.result (λ chip. told_of chip ≡ starting self.places x)) c.in_ok-sectors.ensures.value c.starting.ensures.told)

pub returns-clause-image : goal.returns-clause-image
returns-clause-image c =
    let self = c.args.self.now in
    let cut : length self.events.items - c.min-count.result ≡ length self.events.items - c.args.at = omega (arith, c.min-count.ensures, c.len.ensures) in
    on_ok _ c.starting.result (image_moves (λ xs story. IsImage (contents_of xs) story (image_of (contents_of xs) story c.args.picks.now))
    self.start.items c.deref.result.now self.events.items c.deref-2.result.now c.args.at c.min-count.result c.deref.ensures.value c.deref-2.ensures.value cut
    c.in_ok-sectors.ensures.image)

pub returns-clause-fits : goal.returns-clause-fits
returns-clause-fits c =
    let self = c.args.self.now in
    let cut : length self.events.items - c.min-count.result ≡ length self.events.items - c.args.at = omega (arith, c.min-count.ensures, c.len.ensures) in
    on_ok _ c.starting.result (image_moves (λ xs story. HasWholeSectors (image_of (contents_of xs) story c.args.picks.now))
    self.start.items c.deref.result.now self.events.items c.deref-2.result.now c.args.at c.min-count.result c.deref.ensures.value c.deref-2.ensures.value cut
    (subst HasWholeSectors c.in_ok-sectors.ensures.value c.starting.ensures.fits))

pub returns-clause-chance : goal.returns-clause-chance
returns-clause-chance c =
    let h = history_of c.args.self.now in
    on_ok _ c.starting.result (λ checks none. image_named checks h.start (first c.args.at h.story) c.args.picks.now none)
