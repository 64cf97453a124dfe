-- What each call of the program asks for, and leaves.
use Rattle.chip_trait.specs.Told.{Told}
use Rattle.ipl_store.specs.Calls.{IsSound}
use Rattle.meter.specs.declared.meters.Meters.{Meters}

-- the store of the meters is sound for the chip that tells this
abbrev pub IsSoundFor : Told → Meters → Type 0
IsSoundFor told meters = IsSound told.places meters.keys.store
