-- The image of a power cut that picks make. A pick names a sector and what it is left with.
use Rattle.std.specs.Prelude.{◌≡◌, ℕ, ◌+◌, ◌-◌, ◌==◌, ◌&&◌, nat_lt, nat_le, Bool, false, List, [], ◌∷◌, length, drop, fold, Option, Some, None, unwrap_or, All, if◌then◌else◌}
use Rattle.ipl_base.specs.declared.limits.TheConstants.{SECTORS}
use Rattle.chip_trait.specs.declared.event.Event.TheVariants.{Read, Program, Erase, Worn, Barrier, Said}
use Rattle.chip_trait.specs.Story.{Story, Contents, held}
use Rattle.chip_trait.specs.Image.{may_tear}
use Rattle.chip_trait.specs.Told.{History}
use Rattle.chip_mem.specs.declared.pick.Choice.{Choice}
use Rattle.chip_mem.specs.declared.pick.Choice.TheVariants.{Old, After, Bytes}
use Rattle.chip_mem.specs.declared.pick.Pick.{Pick}

-- the first n events of a story, or all of them
abbrev pub first : ℕ → Story → Story
first n story = drop (length story - n) story

-- how many events there are up to the last barrier, with it
abbrev pub closed_count : Story → ℕ
closed_count [] = 0
closed_count (Read q t ∷ story) = closed_count story
closed_count (Program q t bytes ∷ story) = closed_count story
closed_count (Erase q ∷ story) = closed_count story
closed_count (Worn q ∷ story) = closed_count story
closed_count (Barrier ∷ story) = length story + 1
closed_count (Said piece ∷ story) = closed_count story

-- the bytes that a choice gives a sector; none where it names an event that isn't one of those since the last barrier
abbrev pub chosen : Contents → Story → ℕ → ℕ → Choice → Option (List ℕ)
chosen start story p s Old = Some (held start (first (closed_count story) story) p s)
chosen start story p s (After n) =
    if nat_le (closed_count story) n && nat_lt n (length story)
    then Some (held start (first (n + 1) story) p s) else None
chosen start story p s (Bytes bytes) = Some bytes

-- what a pick gives its sector; none where that isn't a sector of which a power cut may leave anything
abbrev pub given : Contents → Story → Pick → Option (List ℕ)
given start story pick =
    if nat_lt pick.sector SECTORS && may_tear story pick.place pick.sector
    then chosen start story pick.place pick.sector pick.choice else None

-- the contents with a pick done, where it gives its sector anything
abbrev pub with_pick : Contents → Story → Contents → Pick → Contents
with_pick start story x pick = λ p s.
    if pick.place == p && pick.sector == s then unwrap_or (given start story pick) (x p s) else x p s

-- what is held after a story, with the picks done, one after another
abbrev pub image_of : Contents → Story → List Pick → Contents
image_of start story picks = fold (with_pick start story) (held start story) picks

-- the image of the first n events of a history that picks make
abbrev pub image_at : History → ℕ → List Pick → Contents
image_at h n picks = image_of h.start (first n h.story) picks

-- the choice brings bytes that check
abbrev pub checks_by_chance : (List ℕ → Bool) → Choice → Bool
checks_by_chance checks Old = false
checks_by_chance checks (After n) = false
checks_by_chance checks (Bytes bytes) = checks bytes

-- no pick brings bytes that check
abbrev pub NoneByChance : (List ℕ → Bool) → List Pick → Type 0
NoneByChance checks picks = All (λ pick. checks_by_chance checks pick.choice ≡ false) picks
