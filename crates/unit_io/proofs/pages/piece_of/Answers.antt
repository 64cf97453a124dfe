use Rattle.unit_io.proofs.PageLemmas.{cut_piece}
use Rattle.unit_io.proofs.pages.piece_of.Goals as goal

pub returns-clause-piece : goal.returns-clause-piece
returns-clause-piece c = cut_piece c.args.text.now c.args.piece c.min.result c.min.ensures c.requires.within
