-- The condition of all calls of a store over a desk in memory.
use Rattle.std.specs.Prelude.{◌≡◌}
use Rattle.ipl_cli.specs.declared.mem_desk.MemDesk.{MemDesk}
use Rattle.ipl_cli.specs.MemDesk.{desk_told}
use Rattle.ipl_store.specs.declared.store.Store.{Store}
use Rattle.ipl_store.specs.Calls.{IsSound}

-- The store is sound for the desk's chip. It stays closed, so that what only hands it on is proved at once.
unfoldable pub SuitsDesk : MemDesk → Store → Type 0
SuitsDesk desk store = IsSound (desk_told desk).places store

-- After a call the store is sound for the desk's chip, which has as many places as before.
pub record StaysSound (old new : MemDesk) (store : Store) : Type 0 where
  pub sound : IsSound (desk_told old).places store
  pub places : (desk_told new).places ≡ (desk_told old).places
