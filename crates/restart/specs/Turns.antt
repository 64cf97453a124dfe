-- What the passes over the units made of each.
use Rattle.std.specs.Prelude.{ℕ, zero, suc, ◌≡◌, ◌≢◌, ◌+◌, Bool, true, false, slice_index_or, if◌then◌else◌}
use Rattle.ipl_base.specs.declared.fault.ChipFault.{ChipFault}
use Rattle.restart.specs.declared.turns.Turn.{Turn}
use Rattle.restart.specs.declared.turns.Turn.TheVariants.{Open, Merged, Stuck}
use Rattle.restart.specs.declared.turns.Turns.{Turns}

-- what was made of the unit
abbrev pub turn_of : Turns → ℕ → Turn
turn_of turns u = slice_index_or turns.units u Open

-- it was merged, or can't be
abbrev pub ends : Turn → Bool
ends Open = false
ends Merged = true
ends Stuck = true

-- it was merged
abbrev pub merges : Turn → Bool
merges Open = false
merges Merged = true
merges Stuck = false

-- it can't be merged
abbrev pub sticks : Turn → Bool
sticks Open = false
sticks Merged = false
sticks Stuck = true

-- the same of a unit
abbrev pub is_ended : Turns → ℕ → Bool
is_ended turns u = ends (turn_of turns u)

abbrev pub is_merged : Turns → ℕ → Bool
is_merged turns u = merges (turn_of turns u)

abbrev pub is_stuck : Turns → ℕ → Bool
is_stuck turns u = sticks (turn_of turns u)

-- of how many of the first n numbers it is so
unfoldable pub count_below : (ℕ → Bool) → ℕ → ℕ
count_below is zero = 0
count_below is (suc n) = count_below is n + (if is n then 1 else 0)

-- how many of the first n units were merged, or can't be
abbrev pub ended_below : Turns → ℕ → ℕ
ended_below turns n = count_below (is_ended turns) n

-- this was made of the unit, and of the others what it was; and this was wrong with the last one that is stuck
pub record IsSet (old new : Turns) (unit : ℕ) (turn : Turn) (fault : ChipFault) : Type 0 where
  pub here : turn_of new unit ≡ turn
  pub others : (u : ℕ) → u ≢ unit → turn_of new u ≡ turn_of old u
  pub fault_is : new.fault ≡ fault
