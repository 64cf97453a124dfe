-- What a power cut may leave of a chip.
use Rattle.std.specs.Prelude.{ℕ, ◌≡◌, ◌≢◌, ◌⊎◌, List, [], ◌∷◌, length, ◌==◌, ◌&&◌, ◌||◌, not, Bool, true, false}
use Rattle.chip_trait.specs.declared.event.Event.TheVariants.{Read, Program, Erase, Worn, Barrier, Said}
use Rattle.chip_trait.specs.Story.{Story, Contents, blank, held}

-- the sector was programmed or erased since the last barrier, or since the start where there is none
abbrev pub is_open : Story → ℕ → ℕ → Bool
is_open [] p s = false
is_open (Read q t ∷ story) p s = is_open story p s
is_open (Program q t bytes ∷ story) p s = (q == p && t == s) || is_open story p s
is_open (Erase q ∷ story) p s = (q == p) || is_open story p s
is_open (Worn q ∷ story) p s = is_open story p s
is_open (Barrier ∷ story) p s = false
is_open (Said piece ∷ story) p s = is_open story p s

-- of the place's erases the last one was done, or it had none
abbrev pub is_sound : Story → ℕ → Bool
is_sound [] p = true
is_sound (Read q t ∷ story) p = is_sound story p
is_sound (Program q t bytes ∷ story) p = is_sound story p
is_sound (Erase q ∷ story) p = (q == p) || is_sound story p
is_sound (Worn q ∷ story) p = not (q == p) && is_sound story p
is_sound (Barrier ∷ story) p = is_sound story p
is_sound (Said piece ∷ story) p = is_sound story p

-- the place was found worn, with no later erase that a barrier follows: nothing there is sure to last
abbrev pub is_worn : Story → ℕ → Bool
is_worn [] p = false
is_worn (Read q t ∷ story) p = is_worn story p
is_worn (Program q t bytes ∷ story) p = is_worn story p
is_worn (Erase q ∷ story) p = is_worn story p
is_worn (Worn q ∷ story) p = (q == p) || is_worn story p
is_worn (Barrier ∷ story) p = is_worn story p && not (is_sound story p)
is_worn (Said piece ∷ story) p = is_worn story p

-- a power cut may leave any bytes there
abbrev pub may_tear : Story → ℕ → ℕ → Bool
may_tear story p s = is_open story p s || is_worn story p

-- the sector held these bytes at the last barrier (or the start), or after one of the later events
abbrev pub IsNamedValue : Contents → Story → ℕ → ℕ → List ℕ → Type 0
IsNamedValue start [] p s bytes = bytes ≡ start p s
IsNamedValue start (Read q t ∷ story) p s bytes = IsNamedValue start story p s bytes
IsNamedValue start (Program q t b ∷ story) p s bytes = (bytes ≡ held start (Program q t b ∷ story) p s) ⊎ IsNamedValue start story p s bytes
IsNamedValue start (Erase q ∷ story) p s bytes = (bytes ≡ held start (Erase q ∷ story) p s) ⊎ IsNamedValue start story p s bytes
IsNamedValue start (Worn q ∷ story) p s bytes = IsNamedValue start story p s bytes
IsNamedValue start (Barrier ∷ story) p s bytes = bytes ≡ held start story p s
IsNamedValue start (Said piece ∷ story) p s bytes = IsNamedValue start story p s bytes

-- An image of a story: each sector has one of its named values, or it is open or its place worn, and it has any 512 bytes.
-- (A sector that isn't open has one named value, what is held.)
abbrev pub IsImage : Contents → Story → Contents → Type 0
IsImage start story x = (p s : ℕ) → IsNamedValue start story p s (x p s) ⊎ ((may_tear story p s ≡ true) × (length (x p s) ≡ 512))

-- no sector checks by chance: one that checks has one of its named values
abbrev pub NoChance : (List ℕ → Bool) → Contents → Story → Contents → Type 0
NoChance checks start story x = (p s : ℕ) → checks (x p s) ≡ true → IsNamedValue start story p s (x p s)

-- what a power cut after a story may leave, but by chance
pub record IsNoChanceImage (checks : List ℕ → Bool) (start : Contents) (story : Story) (x : Contents) : Type 0 where
  pub image : IsImage start story x
  pub chance : NoChance checks start story x

-- Since the last barrier nothing was erased, and each sector that was programmed was no header, was blank at that barrier,
-- and was programmed once.
abbrev pub IsQuiet : Contents → Story → Type 0
IsQuiet start [] = Unit {0}
IsQuiet start (Read q t ∷ story) = IsQuiet start story
IsQuiet start (Program q t bytes ∷ story) = (t ≢ 0) × (held start story q t ≡ blank) × (is_open story q t ≡ false) × IsQuiet start story
IsQuiet start (Erase q ∷ story) = ⊥
IsQuiet start (Worn q ∷ story) = IsQuiet start story
IsQuiet start (Barrier ∷ story) = Unit {0}
IsQuiet start (Said piece ∷ story) = IsQuiet start story

-- no sector was programmed or erased since the last barrier
abbrev pub IsClosed : Story → Type 0
IsClosed story = (p s : ℕ) → is_open story p s ≡ false

-- the contents have at worn places what is held
abbrev pub KeepsWorn : Contents → Story → Contents → Type 0
KeepsWorn start story x = (p s : ℕ) → is_worn story p ≡ true → x p s ≡ held start story p s
