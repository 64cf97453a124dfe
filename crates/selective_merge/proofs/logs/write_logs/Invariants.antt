use Rattle.std.proofs.Common.{◌≡◌, ◌+◌, ℕ, true, List, None, Ok, length}
use Rattle.chip_trait.specs.Lawful.{Clean, age}
use Rattle.chip_trait.specs.Told.{Told, History, Counts}
use Rattle.log_records.specs.View.{Versioned}
use Rattle.ipl_meaning.specs.Legible.{Legible}
use Rattle.ipl_meaning.specs.Rests.{now, StoryRests}
use Rattle.unit_io.specs.Charts.{Charts, Spares}
use Rattle.unit_io.specs.Costs.{ProgramsAt, Spends}
use Rattle.unit_io.specs.Leads.{IsSteady}
use Rattle.unit_io.specs.Spots.{Programs}
use Rattle.unit_io.specs.Unread.{ReadsNothing}
use Rattle.selective_merge.specs.Packs.{IsLogSpotBelow, HasLogs}
use Rattle.selective_merge.specs.Writing.{KeepsLogs}
use Rattle.selective_merge.proofs.logs.write_logs.Given as goal

-- what is so after some log sectors
pub record AreWritten (first t : Told) (p u generation serial : ℕ) (payloads : List Versioned)
    (counter n : ℕ) : Type 0 where
  pub keeps : (m : Legible) (h : History) → IsSteady h first → StoryRests first.places m h
      → now h p 0 ≡ None
      → ((s : ℕ) → IsLogSpotBelow (length payloads) s → age h.story p s ≡ Clean)
      → KeepsLogs first.places p u generation serial payloads n m h first (Ok tt) t
  pub tells : Charts (HasLogs p u generation serial payloads n) first t
  pub costs : Spends (ProgramsAt p n 0 5) first t
  pub tidy : Spends (Programs p (IsLogSpotBelow n) true) first t
  pub unread : Spends ReadsNothing first t
  pub counts : Counts first t
  pub spares : Spares p first t
  pub drawn : counter ≡ serial + n

abbrev pub invariant-loop-i : goal.invariant-loop-i
invariant-loop-i g l =
    AreWritten (g.C.Chip.told l.fn.chip) (g.C.Chip.told l.chip) l.place l.head.unit
    l.head.generation l.fn.counter l.payloads l.counter l.i
