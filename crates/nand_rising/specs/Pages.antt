-- What slots over pages tell, and what pages hold.
use Rattle.std.specs.Prelude.{◌≡◌, ◌≤◌, zero, suc, ℕ, ◌+◌, ◌*◌, ◌/◌, ◌%◌, nat_lt, Option, None, if◌then◌else◌}
use Rattle.std.specs.Option.{option_map}
use Rattle.chip_trait.specs.declared.event.Event.TheVariants.{Erase}
use Rattle.chip_trait.specs.Story.{Story, Contents, blank}
use Rattle.nand_2k.specs.declared.part.Status.{Status}
use Rattle.nand_2k.specs.declared.part.Status.TheVariants.{Passed}
use Rattle.nand_2k.specs.Part.{PartTold, with_request}
use Rattle.nand_rising.specs.declared.shape.Shape.{Shape}
use Rattle.nand_rising.specs.Shapes.{block_at, blocks_per_place, slots_per_block}

-- the slots of all places, by the chunks of all blocks; numbers that name no slot are blank
abbrev pub slots_in : Shape → Contents → Contents
slots_in shape x = λ p t. if nat_lt t 256 then x (block_at shape p t) (t % slots_per_block shape) else blank

-- what is told of the slots over pages that tell this
abbrev pub telling_pages : Shape → Status → PartTold → PartTold
telling_pages shape status pages = record {
  blocks = shape.blocks / blocks_per_place shape;
  status = status;
  asked = None;
  contents = option_map (slots_in shape) pages.contents;
}

-- erases of so many blocks, from this one on, were asked for
abbrev pub asking_erases : ℕ → ℕ → Option Story → Option Story
asking_erases first zero asked = asked
asking_erases first (suc n) asked = with_request (Erase (first + n)) (asking_erases first n asked)

-- the erases of a place's blocks were asked for, all of them where it passed
abbrev pub AsksErases : Shape → ℕ → Status → PartTold → PartTold → Type 0
AsksErases shape place answer old new = (n : ℕ) × ((n ≤ blocks_per_place shape) × (answer ≡ Passed → n ≡ blocks_per_place shape)
    × (new.asked ≡ asking_erases (place * blocks_per_place shape) n old.asked))
