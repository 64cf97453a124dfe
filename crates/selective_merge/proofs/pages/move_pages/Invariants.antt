use Rattle.std.proofs.Common.{◌≡◌, ◌*◌, ℕ, true, List, None, length}
use Rattle.chip_trait.specs.Lawful.{Clean, age}
use Rattle.chip_trait.specs.Told.{Told, History, Counts}
use Rattle.ipl_meaning.specs.Legible.{Legible}
use Rattle.ipl_meaning.specs.Rests.{now, StoryRests}
use Rattle.ipl_base.specs.First.{first_below}
use Rattle.unit_io.specs.Charts.{Charts, Spares}
use Rattle.unit_io.specs.Reads.{OfContents}
use Rattle.selective_merge.specs.Faults.{page_fault_from}
use Rattle.unit_io.specs.Costs.{ProgramsAt, Spends}
use Rattle.unit_io.specs.Leads.{IsSteady}
use Rattle.unit_io.specs.Spots.{Programs}
use Rattle.unit_log.specs.Live.{spots_from}
use Rattle.unit_log.specs.Often.{ReadsListed}
use Rattle.selective_merge.specs.Moved.{Source, HasMoved}
use Rattle.selective_merge.specs.Pages.{IsBaseSpotBelow, IsFew}
use Rattle.selective_merge.specs.Homes.{from_home}
use Rattle.selective_merge.proofs.PageMoveLemmas.{MovedSoFar}
use Rattle.selective_merge.proofs.pages.move_pages.Given as goal

-- what is so after some pages
pub record AreMoved (from : Source) (home p generation : ℕ) (first t : Told) (k : ℕ)
    (pieces : List ℕ) : Type 0 where
  pub moves : (m : Legible) (h : History) → IsSteady h first → StoryRests first.places m h
      → now h p 0 ≡ None
      → ((s : ℕ) → IsBaseSpotBelow 15 s → age h.story p s ≡ Clean)
      → MovedSoFar first.places from p generation m h k pieces first t
  pub tells : Charts (HasMoved from p generation pieces k) first t
  pub costs : Spends (ProgramsAt p (16 * k) 0 4) first t
  pub tidy : Spends (Programs p (IsBaseSpotBelow k) true) first t
  pub reads : Spends (ReadsListed (spots_from home 1 (k * 16))) first t
  pub counts : Counts first t
  pub sound : OfContents first (λ x. first_below (page_fault_from x from) k ≡ None)
  pub spares : Spares p first t
  pub few : IsFew pieces
  pub long : length pieces ≡ 15

abbrev pub invariant-loop-page : goal.invariant-loop-page
invariant-loop-page g l =
    AreMoved (from_home l.home l.status.numbers l.log) l.home.place l.place l.head.generation
    (g.C.Chip.told l.fn.chip) (g.C.Chip.told l.chip) l.page l.pieces
