-- What a store has left before it ends, as its tables have it.
use Rattle.std.specs.Prelude.{◌≡◌, ◌+◌, ◌-◌, length}
use Rattle.txn_status.specs.Status.{room_of}
use Rattle.unit_directory.specs.Free.{spares_of}
use Rattle.unit_directory.specs.Reserves.{least_erases, most_erases, least_clean_logs}
use Rattle.store_trait.specs.Keeping.{LAST_NUMBER}
use Rattle.ipl_store.specs.Calls.{counter_of}
use Rattle.ipl_store.specs.declared.store.Store.{Store}
use Rattle.ipl_store.specs.declared.reserves.Reserves.{Reserves}

-- These are told: how many places are spare, and how many of them took the place of a worn one; how often
-- that place was erased that was least often, and that which was most often; how many log sectors are clean
-- where fewest are; how many commit sectors; and how many numbers may be drawn before calls are refused.
pub record TellsReserves (store : Store) (reserves : Reserves) : Type 0 where
  pub spares : reserves.spares ≡ spares_of store.transactions.pages.parts.directory
  pub retired : reserves.retired ≡ length store.transactions.pages.parts.directory.retired
  pub least : reserves.least_erases ≡ least_erases store.transactions.pages.parts.directory
  pub most : reserves.most_erases ≡ most_erases store.transactions.pages.parts.directory
  pub logs : reserves.clean_logs ≡ least_clean_logs store.transactions.pages.parts.directory
  pub commits : reserves.clean_commits ≡ room_of store.transactions.pages.parts.status
  pub numbers : reserves.numbers ≡ (LAST_NUMBER + 1) - counter_of store
