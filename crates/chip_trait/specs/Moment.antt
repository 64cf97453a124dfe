-- Each moment of a call.
use Rattle.std.specs.Prelude.{◌≡◌, ℕ, Bool, List, ◌++◌}
use Rattle.chip_trait.specs.Story.{Story, Contents}
use Rattle.chip_trait.specs.Image.{IsNoChanceImage}
use Rattle.chip_trait.specs.Told.{History}

-- P holds of each earlier part of the added events, from none of them to all
abbrev pub AtEachMoment : (Story → Type 0) → Story → Type 0
AtEachMoment P added = (later e : Story) → later ++ e ≡ added → P e

-- whatever a power cut after these events more leaves of a chip with this history, but by chance, has P
abbrev pub Leaves : (List ℕ → Bool) → (Contents → Type 0) → History → Story → Type 0
Leaves checks P h e = (x : Contents) → IsNoChanceImage checks h.start (e ++ h.story) x → P x
