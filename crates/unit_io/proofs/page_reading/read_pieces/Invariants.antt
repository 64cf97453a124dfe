use Rattle.std.proofs.Common.{◌≡◌, ◌≤◌, ◌<◌, ◌*◌, ℕ, List, None, take}
use Rattle.ipl_format.specs.Page.{empty_page}
use Rattle.page_text.specs.Texts.{BytesView}
use Rattle.chip_trait.specs.Told.{Told, Counts}
use Rattle.ipl_meaning.specs.Chart.{chart_of}
use Rattle.unit_io.specs.Reads.{OfContents, Reads, page_reads}
use Rattle.ipl_base.specs.First.{first_below}
use Rattle.unit_io.specs.Faults.{piece_fault_at, text_below}
use Rattle.unit_io.specs.Tails.{AreTails}
use Rattle.unit_io.proofs.page_reading.read_pieces.Given as goal

-- what is so after some pieces
pub record AreRead (first now : Told) (place version unit generation page pieces n : ℕ) (text : BytesView) (end : ℕ) (tails : List ℕ) : Type 0 where
  pub reads : Reads (page_reads place page n) first now
  pub counts : Counts first now
  pub sound : OfContents first (λ x. first_below (piece_fault_at x place version unit generation page pieces) n ≡ None)
  pub spelled : OfContents first (λ x. take end text.bytes ≡ text_below (chart_of x) place page n)
  pub within : end ≤ 480 * n
  pub empty : text.page ≡ empty_page
  pub whole : n < pieces → end ≡ 480 * n
  pub tails_of_it : AreTails (take end text.bytes) tails

abbrev pub invariant-loop-piece : goal.invariant-loop-piece
invariant-loop-piece g l =
    AreRead (g.C.Chip.told l.fn.chip) (g.C.Chip.told l.chip) l.place l.head.version l.head.unit l.head.generation l.page l.pieces l.piece l.text l.end l.tails
