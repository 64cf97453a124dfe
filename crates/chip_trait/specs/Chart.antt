-- What the sectors of a chip say, whatever they stand for: contents seen through a reader of sectors.
use Rattle.std.specs.Prelude.{ℕ, ◌≡◌, Bool, List, Option, Some, is_some, if◌then◌else◌, ◌==◌, ◌&&◌}
use Rattle.chip_trait.specs.Story.{Story, Contents}
use Rattle.chip_trait.specs.Image.{IsNoChanceImage}

-- the chart with this sector put in
abbrev pub with_sector : {S : Type 0} → (ℕ → ℕ → Option S) → ℕ → ℕ → S → ℕ → ℕ → Option S
with_sector c p s sector q t = if (p == q) && (s == t) then Some sector else c q t

-- all that the one chart has, the other has too
abbrev pub IsPartOf : {S : Type 0} → (ℕ → ℕ → Option S) → (ℕ → ℕ → Option S) → Type 0
IsPartOf {S} part whole = (p s : ℕ) (sector : S) → part p s ≡ Some sector → whole p s ≡ Some sector

module _ {S : Type 0} (decode : List ℕ → Option S) where
  -- the sector says something
  abbrev pub says : List ℕ → Bool
  says bytes = is_some (decode bytes)

  -- what each sector says
  abbrev pub decoded : Contents → ℕ → ℕ → Option S
  decoded x p s = decode (x p s)

  -- whatever a power cut leaves, but by chance, has this meaning
  abbrev pub EachMeans : ((ℕ → ℕ → Option S) → Type 0) → Contents → Story → Type 0
  EachMeans Means start story = (x : Contents) → IsNoChanceImage says start story x → Means (decoded x)
