-- Each call leaves a store that is sound for its chip.
use Rattle.std.proofs.Common.{ℕ, Option, Result, sym, subst}
use Rattle.chip_trait.specs.Told.{Told, Counts}
use Rattle.ipl_base.specs.declared.fault.StoreFault.{StoreFault}
use Rattle.ipl_model.specs.State.{State}
use Rattle.ipl_store.specs.Calls.{IsSound, Calls}
use Rattle.ipl_store.specs.declared.memory.Memory.{Memory}
use Rattle.ipl_store.specs.declared.store.Store.{Store}
use Rattle.ipl_store.specs.Memories.{IsMemory, IsMemoryFor}
use Rattle.ipl_keys.specs.declared.fault.KeyFault.{KeyFault}
use Rattle.ipl_keys.specs.Calls.{HandsOn, CallsKey}

pub sound_still : {before after : Told} {store : Store} → IsSound before.places store → Counts before after
    → IsSound after.places store
sound_still {before} {after} {store} sound counts = subst (λ (n : ℕ). IsSound n store) (sym counts.places) sound

-- a session begins or ends
pub session_sound : {T : Type 0} {early : Option StoreFault} {next : State → State} {most : ℕ} {old new : Store}
    {before after : Told} (result : Result T KeyFault)
    → HandsOn (λ answer. Calls early next most old before answer new after) result → IsSound after.places new
session_sound result did = sound_still did.2.sound did.2.counts

-- a call on a key
pub key_sound : {T Ends : Type 0} {early : Option KeyFault} {old new : Store} {before after : Told}
    {result : Result T KeyFault} → CallsKey early Ends old before result new after → IsSound after.places new
key_sound did = sound_still did.sound did.counts

-- what a store gives back can be lent again
pub lent_again : (places : ℕ) (memory : Memory) → IsMemoryFor places memory → IsMemory memory
lent_again places memory is = subst (λ (n : ℕ). IsMemoryFor n memory) (sym is.0.made.directory) is
