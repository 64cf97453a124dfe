-- Laws of passes and renewals, and what they leave of a story that rests on a map.
use Rattle.std.specs.Prelude.{ℕ, ◌≡◌, ◌⊎◌, ◌↔◌, ◌<◌, IsTrue, List, All, Result}
use Rattle.chip_trait.specs.Told.{History, Told}
use Rattle.ipl_base.specs.declared.fault.ChipFault.{ChipFault}
use Rattle.ipl_meaning.specs.Legible.{Legible}
use Rattle.ipl_meaning.specs.Agrees.{IsTidy, Agrees}
use Rattle.ipl_meaning.specs.Chart.{Chart}
use Rattle.ipl_meaning.specs.Last.{carried}
use Rattle.ipl_meaning.specs.Layout.{Layout, records_of}
use Rattle.ipl_meaning.specs.Rests.{now, EachStands, StoryRests}
use Rattle.ipl_meaning.specs.Tables.{Tables}
use Rattle.number_set.specs.Numbers.{among}
use Rattle.unit_io.specs.Steps.{Steps}
use Rattle.unit_io.specs.Accounts.{Accounts}
use Rattle.unit_io.specs.Leads.{IsSteady}
use Rattle.restart.specs.Keeps.{IsLoggedBelow}
use Rattle.restart.specs.Passes.{AreAlike, HasStopped, HasRenewed, RenewsTold, KeepsInSteps, RenewCause}

-- ---- a story that rests on a map

-- it rests on the map, the status was renewed, and the tables agree
pub record RestsRenewed (places : ℕ) (m : Legible) (c : Chart) (it : Layout) (t after : Tables)
    (k : History) : Type 0 where
  pub rests : StoryRests places m k
  pub renewed : HasRenewed places c it t after (now k)
  pub tidy : IsTidy k after

-- it rests on the map, some units were merged, and the tables agree
pub record RestsStopped (places : ℕ) (m : Legible) (c : Chart) (it : Layout) (t after : Tables)
    (k : History) : Type 0 where
  pub rests : StoryRests places m k
  pub stopped : HasStopped places c it t after (now k)
  pub tidy : IsTidy k after

-- ---- laws

-- each unit's log has the records that it had, or those that a merge carries
abbrev pub PassedLogsAreSameOrCarried : Type 0
PassedLogsAreSameOrCarried = (active : List ℕ) (it new : Layout)
    → AreAlike active it new → (u : ℕ) → u < it.count
    → (records_of (new.units u).log ≡ records_of (it.units u).log)
    ⊎ (records_of (new.units u).log ≡ carried (among active) (records_of (it.units u).log))

-- where exactly the committed numbers of live records are committed still, each live record is
-- committed exactly where it was
abbrev pub ExactNumbersKeep : Type 0
ExactNumbersKeep = (it new : Layout)
    → ((tid : ℕ) → IsTrue (new.committed tid)
    ↔ (IsTrue (it.committed tid) × IsLoggedBelow new.count new tid))
    → (u : ℕ) → u < new.count
    → All (λ r. new.committed r.tid ≡ it.committed r.tid) (records_of (new.units u).log)

-- over a story that rests on a map, a renewal says of the story what it says of the contents
abbrev pub RenewalsRest : Type 0
RenewalsRest =
    (places : ℕ) (m : Legible) (it : Layout) (h : History) (t after : Tables) (old new : Told)
    (result : Result (Unit {0}) ChipFault)
    → IsSteady h old → StoryRests places m h → Agrees places h it t
    → RenewsTold places t after old result new → KeepsInSteps places t after old result new
    → Accounts (RenewCause after.places) result old new
    → Steps (EachStands places m) t after
    (λ done k. RestsRenewed places m (now h) it t after k)
    (λ k. RestsStopped places m (now h) it t after k) h result old new
