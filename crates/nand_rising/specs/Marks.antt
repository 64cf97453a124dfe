-- Good blocks, by the factory's marks.
use Rattle.std.specs.Prelude.{◌≡◌, ◌<◌, zero, suc, ℕ, Bool, false, List, [], ◌∷◌, ◌++◌, length, get_or, nat_lt, if◌then◌else◌, None}
use Rattle.std.specs.Option.{option_map}
use Rattle.chip_trait.specs.Story.{Contents, blank}
use Rattle.nand_2k.specs.Part.{PartTold}

-- these blocks, and this one where it isn't marked
abbrev pub taking : Bool → ℕ → List ℕ → List ℕ
taking marked block good = if marked then good else good ++ block ∷ []

-- of the first n blocks those that aren't marked as bad, in rising order
abbrev pub good_in : (ℕ → Bool) → ℕ → List ℕ
good_in bad zero = []
good_in bad (suc n) = taking (bad n) n (good_in bad n)

-- the contents of these blocks, by their numbers in the list; numbers that name none are blank
abbrev pub blocks_in : List ℕ → Contents → Contents
blocks_in good x = λ b t. if nat_lt b (length good) then x (get_or good b 0) t else blank

-- what is told of these blocks of pages that tell this: not what they were asked
abbrev pub telling_good : List ℕ → PartTold → PartTold
telling_good good pages = record { blocks = length good; status = pages.status; asked = None; contents = option_map (blocks_in good) pages.contents }

-- no block is marked
abbrev pub none_marked : ℕ → Bool
none_marked block = false

-- each of them is a block, and none is marked
abbrev pub GoodAreGood : Type 0
GoodAreGood = (bad : ℕ → Bool) (n i : ℕ) → i < length (good_in bad n) → (get_or (good_in bad n) i 0 < n) × (bad (get_or (good_in bad n) i 0) ≡ false)

-- they rise
abbrev pub GoodRise : Type 0
GoodRise = (bad : ℕ → Bool) (n i j : ℕ) → i < j → j < length (good_in bad n) → get_or (good_in bad n) i 0 < get_or (good_in bad n) j 0

-- and each block that isn't marked is one
abbrev pub GoodAreAll : Type 0
GoodAreAll = (bad : ℕ → Bool) (n b : ℕ) → b < n → bad b ≡ false → (i : ℕ) × ((i < length (good_in bad n)) × (get_or (good_in bad n) i 0 ≡ b))
