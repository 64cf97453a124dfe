-- What an opening of a chip leaves of a store of keys.
use Rattle.std.specs.Prelude.{ℕ, ◌≡◌, Result, Ok, Err, IfOk}
use Rattle.std.specs.Option.{option_map}
use Rattle.chip_trait.specs.Moment.{AtEachMoment}
use Rattle.chip_trait.specs.Story.{Story}
use Rattle.chip_trait.specs.Told.{History, Told, adds_all}
use Rattle.ipl_model.specs.State.{Map}
use Rattle.ipl_meaning.specs.Legible.{of}
use Rattle.store_laws.specs.Keeps.{KnownPages}
use Rattle.ipl_meaning.specs.Rests.{now, StoryRests}
use Rattle.ipl_meaning.specs.Chosen.{units_at}
use Rattle.unit_io.specs.Leads.{IsSteady}
use Rattle.ipl_store.specs.declared.memory.Unopened.{Unopened}
use Rattle.ipl_store.specs.declared.store.Store.{Store}
use Rattle.ipl_keys.specs.declared.keys.Keys.{Keys}
use Rattle.ipl_keys.specs.KeyState.{KeyMap, keys_at_rest}
use Rattle.ipl_keys.specs.Records.{HasKeys}
use Rattle.ipl_keys.specs.Keeps.{LeavesKeys, KeepsKeys}

-- its store of records
abbrev pub store_of : Result Keys Unopened → Result Store Unopened
store_of (Ok keys) = Ok keys.store
store_of (Err unopened) = Err unopened

-- At each moment a power cut leaves these keys, in so many units. Done, the store has as many, and keeps
-- the keys, with no session open.
pub record OpensFor (places : ℕ) (known : KnownPages) (units : ℕ) (m : KeyMap) (h : History) (old : Told)
    (result : Result Keys Unopened) (new : Told) : Type 0 where
  pub added : Story
  pub history : new.history ≡ option_map (adds_all added) old.history
  pub each_moment : AtEachMoment (λ e. LeavesKeys places known units m m (adds_all e h)) added
  pub keeps : IfOk result (λ keys. KeepsKeys places known keys.store new (adds_all added h) (keys_at_rest m)
      × (keys.store.units ≡ units))

-- over each story that rests on records that have keys, whichever pages don't read well, in as many units as the chip then says
abbrev pub OpensKeys : Told → Result Keys Unopened → Told → Type 0
OpensKeys old result new = (known : KnownPages) (units : ℕ) (records : Map) (m : KeyMap) (h : History)
    → units ≡ units_at (now h) old.places → IsSteady h old → StoryRests old.places (of known.pages records) h
    → HasKeys units records m → OpensFor old.places known units m h old result new
