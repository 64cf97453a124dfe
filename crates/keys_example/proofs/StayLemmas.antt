-- Each call leaves a sound store, and as many places.
use Rattle.std.proofs.Common.{ℕ, Option, Result, refl, sym, subst}
use Rattle.chip_trait.specs.Told.{Told}
use Rattle.ipl_base.specs.declared.fault.StoreFault.{StoreFault}
use Rattle.ipl_model.specs.State.{State}
use Rattle.ipl_store.specs.Calls.{IsSound, Calls}
use Rattle.ipl_store.specs.declared.store.Store.{Store}
use Rattle.ipl_keys.specs.declared.fault.KeyFault.{KeyFault}
use Rattle.ipl_keys.specs.Calls.{HandsOn, CallsKey}
use Rattle.keys_example.specs.Stays.{StaysSound}

pub stays : (store : Store) (told : Told) → IsSound told.places store → StaysSound told store told
stays store told sound = record { sound = sound; places = refl }

-- a session begins or ends
pub session_stays : {T : Type 0} {early : Option StoreFault} {next : State → State} {most : ℕ} {old new : Store}
    {before after : Told} (result : Result T KeyFault)
    → HandsOn (λ answer. Calls early next most old before answer new after) result
    → StaysSound before new after
session_stays result did = record { sound = did.2.sound; places = did.2.counts.places }

-- a call on a key
pub key_stays : {T Ends : Type 0} {early : Option KeyFault} {old new : Store} {before after : Told}
    {result : Result T KeyFault} → CallsKey early Ends old before result new after → StaysSound before new after
key_stays did = record { sound = did.sound; places = did.counts.places }

-- and so by its chip
pub sound_still : {before after : Told} {store : Store} → StaysSound before store after → IsSound after.places store
sound_still {before} {after} {store} stays = subst (λ (n : ℕ). IsSound n store) (sym stays.places) stays.sound
