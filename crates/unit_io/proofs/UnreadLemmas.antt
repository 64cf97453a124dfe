-- Calls that read nothing, and calls that read each sector at most once.
use Rattle.std.proofs.Common.{ℕ, List, [], ◌∷◌, Result, Err, refl, ◌∙◌, arith}
use Rattle.chip_trait.specs.declared.event.Event.TheVariants.{Program, Erase, Worn}
use Rattle.chip_trait.specs.declared.wear.Wear.{Wear}
use Rattle.chip_trait.specs.declared.wear.Wear.TheVariants.{Done, Worn as Found}
use Rattle.chip_trait.specs.Wears.{Wears}
use Rattle.chip_trait.specs.Told.{Told, Breaks}
use Rattle.ipl_base.specs.declared.fault.ChipFault.{ChipFault}
use Rattle.unit_io.specs.Leads.{Did, Waited}
use Rattle.unit_io.specs.ReadsAt.{ReadsOnce}
use Rattle.unit_io.specs.Costs.{Spends}
use Rattle.unit_io.specs.Unread.{ReadsNothing, ReadsEachOnce}
use Rattle.unit_io.proofs.CostLemmas.{one_added, spends_none, spends_then, spends_did, spends_waited}
use Rattle.unit_io.proofs.OnceLemmas.{reads_joined}

-- ---- nothing

pub unread_none : (told : Told) → Spends ReadsNothing told told
unread_none told = spends_none ReadsNothing told (λ p s. refl)

pub unread_then : (old mid new : Told) → Spends ReadsNothing old mid → Spends ReadsNothing mid new
    → Spends ReadsNothing old new
unread_then old mid new =
    spends_then ReadsNothing ReadsNothing ReadsNothing old mid new
    (λ later earlier first second p s.
    omega (arith, reads_joined later earlier p s, first p s, second p s))

pub unread_programmed : (place sector : ℕ) (bytes : List ℕ) (result : Result (Unit {0}) ChipFault)
    (old new : Told) → Did (Program place sector bytes) result old new → Spends ReadsNothing old new
unread_programmed place sector bytes result old new =
    spends_did ReadsNothing (Program place sector bytes) old new result (λ p s. refl) (λ p s. refl)

pub unread_erased : (place : ℕ) (result : Result (Unit {0}) ChipFault) (old new : Told)
    → Did (Erase place) result old new → Spends ReadsNothing old new
unread_erased place result old new =
    spends_did ReadsNothing (Erase place) old new result (λ p s. refl) (λ p s. refl)

-- an erase that was answered, done or not
pub unread_wears : (wear : Wear) (place : ℕ) (old new : Told) → Wears wear place old new → Spends ReadsNothing old new
unread_wears Done place old new wears = record {
  added = Erase place ∷ [];
  does = λ p s. refl;
  history = wears.appends.history ∙ one_added (Erase place) old.history;
}
unread_wears Found place old new wears = record {
  added = Worn place ∷ [];
  does = λ p s. refl;
  history = wears.appends.history ∙ one_added (Worn place) old.history;
}

-- an erase that may have broken
pub unread_broken : (place : ℕ) (fault : ChipFault) (old new : Told) → Breaks (Erase place) old new → Spends ReadsNothing old new
unread_broken place fault old new broken =
    unread_erased place (Err fault) old new broken

pub unread_waited : (result : Result (Unit {0}) ChipFault) (old new : Told)
    → Waited result old new → Spends ReadsNothing old new
unread_waited result old new =
    spends_waited ReadsNothing old new result (λ p s. refl) (λ p s. refl)

-- ---- each sector at most once

-- nothing but reads, of each sector at most one
pub once_alone : (At : ℕ → ℕ → Type 0) (old new : Told) → ReadsOnce At old new
    → Spends ReadsEachOnce old new
once_alone At old new reads = record {
  added = reads.added;
  does = reads.once;
  history = reads.history;
}

-- and then calls that read nothing
pub once_then_unread : (At : ℕ → ℕ → Type 0) (old mid new : Told) → ReadsOnce At old mid
    → Spends ReadsNothing mid new → Spends ReadsEachOnce old new
once_then_unread At old mid new reads =
    spends_then ReadsEachOnce ReadsNothing ReadsEachOnce old mid new
    (λ later earlier first second p s.
    omega (arith, reads_joined later earlier p s, first p s, second p s))
    (once_alone At old mid reads)
