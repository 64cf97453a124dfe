-- No sector is programmed twice between erases of its place.
use Rattle.std.specs.Prelude.{◌≡◌, ℕ, [], ◌∷◌, ◌++◌, ◌==◌, ◌&&◌, if◌then◌else◌}
use Rattle.chip_trait.specs.declared.event.Event.TheVariants.{Read, Program, Erase, Worn, Barrier, Said}
use Rattle.chip_trait.specs.Story.{Story}

-- How a sector stands for programming: nothing is known; it was erased; it was erased and a barrier came after; it was
-- programmed, or its place is worn.
pub data Age : Type 0 where
  Unknown : Age
  Erased : Age
  Clean : Age
  Used : Age

-- a barrier makes an erased sector clean
abbrev pub settled : Age → Age
settled Unknown = Unknown
settled Erased = Clean
settled Clean = Clean
settled Used = Used

-- how a sector stands after a story, by its last erase and what came since
abbrev pub age : Story → ℕ → ℕ → Age
age [] p s = Unknown
age (Read q t ∷ story) p s = age story p s
age (Program q t bytes ∷ story) p s = if q == p && t == s then Used else age story p s
age (Erase q ∷ story) p s = if q == p then Erased else age story p s
age (Worn q ∷ story) p s = if q == p then Used else age story p s
age (Barrier ∷ story) p s = settled (age story p s)
age (Said piece ∷ story) p s = age story p s

-- Each program is on a sector whose place was erased earlier among these events, with a barrier after the last such erase,
-- no other program of the sector since that erase, and the place not found worn since.
abbrev pub IsLawful : Story → Type 0
IsLawful [] = Unit {0}
IsLawful (Read q t ∷ story) = IsLawful story
IsLawful (Program q t bytes ∷ story) = (age story q t ≡ Clean) × IsLawful story
IsLawful (Erase q ∷ story) = IsLawful story
IsLawful (Worn q ∷ story) = IsLawful story
IsLawful (Barrier ∷ story) = IsLawful story
IsLawful (Said piece ∷ story) = IsLawful story

-- these sectors are clean after the events
abbrev pub AreClean : (ℕ → ℕ → Type 0) → Story → Type 0
AreClean sectors story = (p s : ℕ) → sectors p s → age story p s ≡ Clean

-- After any lawful events that leave the one set of sectors clean, the added ones are lawful; and where they are all done,
-- all together leave the other set clean.
pub record IsLawfulAfter (before : ℕ → ℕ → Type 0) (added : Story) : Type 0 where
  pub lawful : (base : Story) → IsLawful base → AreClean before base → IsLawful (added ++ base)

pub record LeavesClean (before after : ℕ → ℕ → Type 0) (added : Story) : Type 0 where
  pub clean : (base : Story) → IsLawful base → AreClean before base → AreClean after (added ++ base)
