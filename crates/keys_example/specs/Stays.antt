-- What each call of the example leaves.
use Rattle.std.specs.Prelude.{◌≡◌}
use Rattle.chip_trait.specs.Told.{Told}
use Rattle.ipl_store.specs.Calls.{IsSound}
use Rattle.ipl_store.specs.declared.store.Store.{Store}

-- the store is sound for its chip, which has as many places as before
pub record StaysSound (before : Told) (store : Store) (after : Told) : Type 0 where
  pub sound : IsSound before.places store
  pub places : after.places ≡ before.places
