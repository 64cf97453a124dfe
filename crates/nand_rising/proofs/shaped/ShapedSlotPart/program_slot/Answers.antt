use Rattle.std.proofs.Common.{◌≡◌, ◌/◌, ◌∙◌, ap, refl}
use Rattle.std.specs.Option.{option_map}
use Rattle.nand_rising.specs.declared.shape.Shape.{Shape}
use Rattle.nand_rising.specs.Shapes.{blocks_per_place}
use Rattle.nand_rising.specs.Pages.{slots_in}
use Rattle.nand_rising.specs.Shaped.{pages_of, shape_of}
use Rattle.nand_rising.proofs.PagesLemmas.{rising_chunks, programmed_slots}
use Rattle.nand_rising.proofs.shaped.ShapedSlotPart.program_slot.Goals as goal

pub program_chunk-self-requires-clause-rising : goal.program_chunk-self-requires-clause-rising
program_chunk-self-requires-clause-rising g c =
    rising_chunks (shape_of c.args.self.now) c.args.self.now.served (pages_of c.args.self.now).contents c.args.place c.args.slot c.chunk_at-at.result.page c.chunk_at-at.result.chunk c.chunk_at-at.result.block
    c.requires.slot c.chunk_at-at.ensures.chunk c.chunk_at-at.ensures.is.index c.chunk_at-at.ensures.is.block c.requires.rising

pub returns-clause-asks : goal.returns-clause-asks
returns-clause-asks g c =
    let shape = shape_of c.args.self.now in
    let now = g.D.Pages.told c.program_chunk-self.new.self in
    let same : g.D.Pages.shape c.program_chunk-self.new.self ≡ shape = c.program_chunk-self.ensures.shape in
    record {
      blocks = ap (λ (s : Shape). s.blocks / blocks_per_place s) same;
      status = refl;
      asked = refl;
      passed = λ e. ap (λ (s : Shape). option_map (slots_in s) now.contents) same
          ∙ programmed_slots shape c.args.self.now.served (pages_of c.args.self.now).contents now.contents c.args.place c.args.slot c.chunk_at-at.result.block _ c.args.from.now
          c.requires.slot c.chunk_at-at.ensures.is.block c.chunk_at-at.ensures.is.index (c.program_chunk-self.ensures.asks.passed e);
    }
