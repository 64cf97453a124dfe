-- Laws about stories, images and moments, on which every theorem about power cuts rests.
use Rattle.std.specs.Prelude.{ℕ, ◌≡◌, ◌⊎◌, Bool, true, false, List, ◌∷◌, ◌++◌}
use Rattle.chip_trait.specs.declared.event.Event.TheVariants.{Barrier}
use Rattle.chip_trait.specs.Story.{Story, Contents, blank, held, said}
use Rattle.chip_trait.specs.Image.{is_open, is_worn, IsNamedValue, IsImage, IsNoChanceImage, IsQuiet, IsClosed}
use Rattle.chip_trait.specs.Lawful.{Clean, age, IsLawful}

-- what is held is always a no-chance image
abbrev pub HeldIsAnImage : Type 0
HeldIsAnImage = (checks : List ℕ → Bool) (start : Contents) (story : Story) → IsNoChanceImage checks start story (held start story)

-- a sector that isn't open, of a place that isn't worn, is as held, in every image
abbrev pub ClosedIsHeld : Type 0
ClosedIsHeld = (start : Contents) (story : Story) (x : Contents) (p s : ℕ) → is_open story p s ≡ false → is_worn story p ≡ false → IsImage start story x → x p s ≡ held start story p s

-- a barrier only takes images away
abbrev pub BarriersSettle : Type 0
BarriersSettle = (checks : List ℕ → Bool) (start : Contents) (story : Story) (x : Contents) → IsNoChanceImage checks start (Barrier ∷ story) x → IsNoChanceImage checks start story x

-- where no sector is open the story is quiet
abbrev pub ClosedIsQuiet : Type 0
ClosedIsQuiet = (start : Contents) (story : Story) → IsClosed story → IsQuiet start story

-- in a quiet story a named value of a sector is what is held, or the sector is open and was blank
abbrev pub QuietKeepsOrBlanks : Type 0
QuietKeepsOrBlanks = (start : Contents) (story : Story) (p s : ℕ) (bytes : List ℕ) → IsQuiet start story → IsNamedValue start story p s bytes
    → (bytes ≡ held start story p s) ⊎ ((is_open story p s ≡ true) × (bytes ≡ blank))

-- and each image has the headers that are held, but at worn places
abbrev pub QuietKeepsHeaders : Type 0
QuietKeepsHeaders = (start : Contents) (story : Story) (x : Contents) → IsQuiet start story → IsImage start story x → (q : ℕ) → is_worn story q ≡ false → x q 0 ≡ held start story q 0

-- a clean sector is blank and closed, and its place isn't worn
abbrev pub CleanIsBlank : Type 0
CleanIsBlank = (start : Contents) (story : Story) (p s : ℕ) → age story p s ≡ Clean → (held start story p s ≡ blank) × (is_open story p s ≡ false) × (is_worn story p ≡ false)

-- what was lawful stays so behind any lawful events
abbrev pub LawfulJoins : Type 0
LawfulJoins = (later earlier : Story) → IsLawful later → IsLawful earlier → IsLawful (later ++ earlier)

-- an earlier part of lawful events is lawful
abbrev pub LawfulParts : Type 0
LawfulParts = (later earlier : Story) → IsLawful (later ++ earlier) → IsLawful earlier

-- what was said, in one part after another
abbrev pub SaidJoins : Type 0
SaidJoins = (later earlier : Story) → said (later ++ earlier) ≡ said earlier ++ said later
