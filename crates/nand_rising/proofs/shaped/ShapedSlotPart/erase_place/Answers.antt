use Rattle.std.proofs.Common.{rules, ◌≡◌, ◌+◌, ◌*◌, ◌/◌, ◌∙◌, ap, refl, arith, ℕ}
use Rattle.std.specs.Option.{option_map}
use Rattle.nand_rising.specs.declared.shape.Shape.{Shape}
use Rattle.nand_rising.specs.Shapes.{blocks_per_place}
use Rattle.nand_rising.specs.Pages.{slots_in, asking_erases}
use Rattle.nand_rising.specs.Shaped.{pages_of, shape_of}
use Rattle.nand_rising.proofs.PagesLemmas.{asked_one, erased_slots, with_erased}
use Rattle.nand_rising.proofs.shaped.ShapedSlotPart.erase_place.Goals as goal

pub returns-then-ne-clause-pages : goal.returns-then-ne-clause-pages
returns-then-ne-clause-pages g c =
    let old = pages_of c.args.self.now in
    let now = pages_of c.loop-i.self in
    let k : c.args.self.now.place_blocks ≡ blocks_per_place (shape_of c.args.self.now) = c.args.self.now.blocks_are in
    let asked = asked_one (c.args.place * c.args.self.now.place_blocks) c.loop-i.i c.block_at-block.result old.asked now.asked (g.D.Pages.told c.erase_block-said.new.self).asked
    (search (rules, c.block_at-block.ensures.value)) c.loop-i.invariant.asked c.erase_block-said.ensures.asks.asks.asked in
    (c.loop-i.i + 1, (omega arith, λ e. absurd (c.place_status-self.ensures.never e), asked ∙ ap (λ (n : ℕ). asking_erases (c.args.place * n) (c.loop-i.i + 1) old.asked) k))

pub returns-clause-asks : goal.returns-clause-asks
returns-clause-asks g c =
    let shape = shape_of c.args.self.now in
    let old = pages_of c.args.self.now in
    let now = pages_of c.loop-i.self in
    let k : c.args.self.now.place_blocks ≡ blocks_per_place shape = c.args.self.now.blocks_are in
    let all : c.loop-i.i ≡ blocks_per_place shape = omega arith in
    let same : shape_of c.loop-i.self ≡ shape = c.loop-i.invariant.shape in
    let contents = c.loop-i.invariant.contents ∙ ap (λ (n : ℕ). option_map (with_erased (c.args.place * n) c.loop-i.i) old.contents) k in
    record {
      asks = record {
        blocks = ap (λ (s : Shape). s.blocks / blocks_per_place s) same;
        status = refl;
        asked = refl;
        passed = λ e. ap (λ (s : Shape). option_map (slots_in s) now.contents) same
            ∙ erased_slots shape c.args.self.now.served old.contents now.contents c.args.place c.loop-i.i all contents;
      };
      failed = λ e. cc;
    }
