-- Records that are passed in parts, while something is made of all of them.
use Rattle.std.specs.Prelude.{ℕ, Bool, List, ◌++◌}
use Rattle.std.specs.Bool.{MatchBool}
use Rattle.ipl_format.specs.Record.{Record}

-- How far it is: of all records, of those that are still to come, of what there was before, of so many
-- to come on each slot, and of what there is now.
abbrev pub Progress : Type 0 → Type 0 → Type 1
Progress B X = List Record → List Record → B → List ℕ → X → Type 0

-- these records come next
pub record ComeNext {B X : Type 0} (Going : Progress B X) (next : List Record) (counts : List ℕ)
    (now : X) : Type 0 where
  pub all : List Record
  pub rest : List Record
  pub base : B
  pub going : Going all (next ++ rest) base counts now

-- These records were passed, and it is as far; or there is no room for all.
abbrev pub ArePassedOn : {B X : Type 0} → Progress B X → (List Record → B → Type 0) → List Record
    → List ℕ → X → List ℕ → X → Bool → Type 0
ArePassedOn {B} {X} Going Full passed counts now later new room = (all rest : List Record) (base : B)
    → Going all (passed ++ rest) base counts now
    → MatchBool room (Going all rest base later new) (Full all base)
