-- What a part tells of itself, and what its calls do to that.
use Rattle.std.specs.Prelude.{◌≡◌, ℕ, ◌+◌, ◌*◌, ◌<◌, List, [], ◌∷◌, get_or, Option, Some}
use Rattle.std.specs.Option.{option_map}
use Rattle.chip_trait.specs.declared.event.Event.{Event}
use Rattle.chip_trait.specs.Story.{Story, Contents, after}
use Rattle.nand_2k.specs.declared.part.Status.{Status}
use Rattle.nand_2k.specs.declared.part.Status.TheVariants.{Passed, Failed}

-- All that a part tells. Quarter q of page g is sector 4 g + q of its block.
pub record PartTold : Type 0 where
  -- the number of blocks, of 64 pages each
  pub blocks : ℕ
  -- what it said of its last call
  pub status : Status
  -- the programs and erases that it was asked for, the newest first, where that is told
  pub asked : Option Story
  -- what its quarters hold, where that is told
  pub contents : Option Contents

-- these are the quarters of the page, where its contents are told
abbrev pub AreQuarters : Option Contents → ℕ → ℕ → List (List ℕ) → Type 0
AreQuarters contents block page quarters = (x : Contents) (q : ℕ) → contents ≡ Some x → q < 4 → get_or quarters q [] ≡ x block (page * 4 + q)

-- nothing is told anew but what the part says of its last call
abbrev pub ChangesStatus : PartTold → PartTold → Type 0
ChangesStatus old new = new ≡ record old { status = new.status }

-- one request more
abbrev pub with_request : Event → Option Story → Option Story
with_request e asked = option_map (λ story. e ∷ story) asked

-- a program or an erase was asked for, and this is said of it
pub record AsksPart (answer : Status) (e : Event) (old new : PartTold) : Type 0 where
  pub blocks : new.blocks ≡ old.blocks
  pub status : new.status ≡ answer
  pub asked : new.asked ≡ with_request e old.asked
  pub passed : answer ≡ Passed → new.contents ≡ option_map (after e) old.contents

-- and an erase that failed left all as it was
pub record AsksErase (answer : Status) (e : Event) (old new : PartTold) : Type 0 where
  pub asks : AsksPart answer e old new
  pub failed : answer ≡ Failed → new.contents ≡ old.contents
