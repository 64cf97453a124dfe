use Rattle.std.proofs.Common.{◌≡◌, ◌≤◌, ◌<◌, ◌+◌, ◌*◌, ℕ, [], None, length}
use Rattle.chip_trait.specs.Told.{Told}
use Rattle.ipl_meaning.specs.Chart.{chart_of}
use Rattle.unit_io.specs.Reads.{OfContents}
use Rattle.unit_io.specs.ReadsAt.{ReadsAt, ReadsOnce}
use Rattle.ipl_base.specs.First.{first_below}
use Rattle.ipl_meaning.specs.First.{joined_below}
use Rattle.ipl_meaning.specs.Live.{commit_at}
use Rattle.ipl_meaning.specs.LaidOut.{numbers_of}
use Rattle.ipl_meaning.specs.Faults.{noted_fault, greatest_of_notes}
use Rattle.ipl_format.specs.Whole.{IsWhole}
use Rattle.number_set.specs.Numbers.{Numbers, with_numbers}
use Rattle.txn_status.specs.ReadingIn.{under, IsCommitSpot}
use Rattle.txn_status.specs.Marks.{MarksRead, marks_below}
use Rattle.txn_status.proofs.ReadLemmas.{IsCommitBelow}
use Rattle.txn_status.proofs.reading.read_commits.Given as goal

-- what is so before a sector
pub record AreRead (first t : Told) (place generation units s greatest room : ℕ)
    (numbers : Numbers) (mark : MarksRead) : Type 0 where
  pub reads : ReadsAt (IsCommitSpot place) first t
  pub once : ReadsOnce (IsCommitBelow place s) first t
  pub number : OfContents first (λ x.
      greatest ≡ greatest_of_notes 0 (chart_of x) (under place generation) s)
  pub fine : OfContents first (λ x. first_below
      (noted_fault units (chart_of x) (under place generation)) s ≡ None)
  pub has : OfContents first (λ x. numbers.list ≡ with_numbers
      (joined_below (λ j. numbers_of (commit_at (chart_of x) (under place generation) j)) s) [])
  pub marks : OfContents first (λ x. mark ≡ marks_below (chart_of x) place generation s)
  pub few : length numbers.list + 60 ≤ 60 * s
  pub most : numbers.most ≡ room
  pub whole : OfContents first (λ x. (r : ℕ) → 1 ≤ r → r < s → IsWhole (x place r))

abbrev pub invariant-loop-sector : goal.invariant-loop-sector
invariant-loop-sector g l = AreRead (g.C.Chip.told l.fn.chip)
    (g.C.Chip.told l.chip) l.from.place l.from.generation l.from.units l.sector l.greatest l.fn.numbers.most l.numbers l.mark
