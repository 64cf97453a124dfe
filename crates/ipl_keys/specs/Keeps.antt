-- How a store keeps keys on a chip.
use Rattle.std.specs.Prelude.{ℕ, ◌⊎◌}
use Rattle.chip_trait.specs.Chart.{EachMeans}
use Rattle.chip_trait.specs.Told.{History, Told}
use Rattle.ipl_model.specs.State.{Map, State}
use Rattle.ipl_format.specs.Sector.{sector_in}
use Rattle.ipl_meaning.specs.Legible.{of}
use Rattle.ipl_meaning.specs.Chart.{Chart}
use Rattle.ipl_meaning.specs.Stands.{StandsIn}
use Rattle.store_laws.specs.Keeps.{KnownPages, KeepsStore}
use Rattle.ipl_store.specs.declared.store.Store.{Store}
use Rattle.ipl_store.specs.Calls.{view_of, limits_of_store}
use Rattle.ipl_keys.specs.KeyState.{KeyMap, KeyState}
use Rattle.ipl_keys.specs.Records.{HasKeys}
use Rattle.ipl_keys.specs.Sessions.{HasKeyState}

-- The chart stands, in so many units, for records of these pages that have these keys in the buckets of them. Of a page that
-- doesn't read well nothing is said, so that its records may be taken to be none, and no key lives there.
pub record StandsForKeys (places : ℕ) (known : KnownPages) (units : ℕ) (keys : KeyMap) (c : Chart) : Type 0 where
  pub map : Map
  pub stands : StandsIn places units c (of known.pages map)
  pub has : HasKeys units map keys

-- whatever a power cut leaves, but by chance, has these keys or those
abbrev pub LeavesKeys : ℕ → KnownPages → ℕ → KeyMap → KeyMap → History → Type 0
LeavesKeys places known units keys others h = EachMeans sector_in
    (λ c. StandsForKeys places known units keys c ⊎ StandsForKeys places known units others c) h.start h.story

-- The store, over a chip of so many places of whose pages this is known, that tells this and holds what this history leaves,
-- keeps a state that has this key state.
pub record KeepsKeys (places : ℕ) (known : KnownPages) (store : Store) (t : Told) (h : History) (k : KeyState) : Type 0 where
  pub state : State
  pub keeps : KeepsStore places known.pages (limits_of_store store) (view_of store) t h state
  pub has : HasKeyState store.units state k

-- whatever a power cut leaves then has the keys
abbrev pub KeptKeysLast : Type 0
KeptKeysLast = (places : ℕ) (known : KnownPages) (store : Store) (t : Told) (h : History) (k : KeyState)
    → KeepsKeys places known store t h k → LeavesKeys places known store.units k.map k.map h
