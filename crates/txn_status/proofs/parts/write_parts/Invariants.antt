use Rattle.std.proofs.Common.{◌≡◌, ◌+◌, ℕ, true, List, None, Ok}
use Rattle.chip_trait.specs.Lawful.{Clean, age}
use Rattle.chip_trait.specs.Told.{Told, History, Counts}
use Rattle.ipl_meaning.specs.Legible.{Legible}
use Rattle.ipl_meaning.specs.Rests.{now, StoryRests}
use Rattle.unit_io.specs.Leads.{IsSteady}
use Rattle.unit_io.specs.Costs.{ProgramsAt, Spends}
use Rattle.unit_io.specs.Charts.{Charts}
use Rattle.unit_io.specs.Spots.{Programs}
use Rattle.unit_io.specs.Unread.{ReadsNothing}
use Rattle.number_set.specs.Flags.{flagged}
use Rattle.txn_status.specs.Status.{parts_of}
use Rattle.txn_status.specs.Switching.{HasParts, IsPartSpot}
use Rattle.txn_status.specs.Writing.{KeepsParts}
use Rattle.txn_status.proofs.parts.write_parts.Given as goal

-- what is so after some parts
pub record AreWritten (first t : Told) (place generation serial : ℕ) (numbers : List ℕ)
    (counter n : ℕ) : Type 0 where
  pub keeps : (m : Legible) (h : History) → IsSteady h first → StoryRests first.places m h
      → now h place 0 ≡ None
      → ((s : ℕ) → IsPartSpot (parts_of numbers) s → age h.story place s ≡ Clean)
      → KeepsParts first.places place generation serial numbers n m h first (Ok tt) t
  pub tells : Charts (HasParts place generation serial numbers n) first t
  pub costs : Spends (ProgramsAt place n 0 6) first t
  pub tidy : Spends (Programs place (IsPartSpot n) true) first t
  pub unread : Spends ReadsNothing first t
  pub counts : Counts first t
  pub drawn : counter ≡ serial + n

abbrev pub invariant-loop-i : goal.invariant-loop-i
invariant-loop-i g l =
    AreWritten (g.C.Chip.told l.fn.chip) (g.C.Chip.told l.chip) l.place l.generation l.fn.counter
    (flagged l.kept l.numbers.list) l.counter l.i
