use Rattle.std.proofs.Common.{ℕ, List, true}
use Rattle.chip_trait.specs.Told.{Told, History, Counts}
use Rattle.ipl_meaning.specs.Legible.{Legible}
use Rattle.unit_io.specs.Leads.{IsSteady}
use Rattle.unit_io.specs.Charts.{Charts, Spares, HasPieces}
use Rattle.unit_io.specs.Plain.{AddsPlain}
use Rattle.unit_io.specs.Spots.{Programs, IsPieceSpot}
use Rattle.unit_io.specs.Costs.{ProgramsAt, Spends}
use Rattle.unit_io.specs.Unread.{ReadsNothing}
use Rattle.unit_io.proofs.PageLemmas.{IsOpenFor, Piled}
use Rattle.unit_io.proofs.pages.program_pieces.Given as goal

-- what is so after some pieces
pub record IsPiled (first t : Told) (place unit generation page : ℕ) (text : List ℕ) (n : ℕ) : Type 0 where
  pub keeps : (m : Legible) (h : History) → IsSteady h first → IsOpenFor first.places place page m h → Piled first.places place unit generation page text m h first n t
  pub tells : Charts (HasPieces place unit generation page text n) first t
  pub plain : AddsPlain first t
  pub spares : Spares place first t
  pub costs : Spends (ProgramsAt place n 0 4) first t
  pub tidy : Spends (Programs place (IsPieceSpot page n) true) first t
  pub unread : Spends ReadsNothing first t
  pub counts : Counts first t

abbrev pub invariant-loop-piece : goal.invariant-loop-piece
invariant-loop-piece g l = IsPiled (g.C.Chip.told l.fn.chip) (g.C.Chip.told l.chip) l.place l.head.unit l.head.generation l.page l.text l.piece
