-- What is behind the condition of a store's calls.
use Rattle.std.proofs.Common.{◌≡◌, ℕ, sym, subst}
use Rattle.ipl_cli.specs.declared.mem_desk.MemDesk.{MemDesk}
use Rattle.ipl_cli.specs.MemDesk.{desk_told}
use Rattle.ipl_store.specs.declared.store.Store.{Store}
use Rattle.ipl_store.specs.Calls.{IsSound}
use Rattle.lab.specs.Suits.{SuitsDesk}

pub sound_of : (desk : MemDesk) (store : Store) → SuitsDesk desk store → IsSound (desk_told desk).places store
unfolding SuitsDesk
sound_of desk store suits = suits

-- a store that is sound for a desk suits each of as many places
pub suits_of : (old new : MemDesk) (store : Store) → IsSound (desk_told old).places store
    → (desk_told new).places ≡ (desk_told old).places → SuitsDesk new store
unfolding SuitsDesk
suits_of old new store sound same = subst (λ (n : ℕ). IsSound n store) (sym same) sound

pub suits_still : (old new : MemDesk) (store : Store) → SuitsDesk old store
    → (desk_told new).places ≡ (desk_told old).places → SuitsDesk new store
suits_still old new store suits same = suits_of old new store (sound_of old store suits) same
