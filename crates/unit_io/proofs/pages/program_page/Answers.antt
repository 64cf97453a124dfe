use Rattle.unit_io.proofs.PageLemmas.{page_leads}
use Rattle.unit_io.proofs.pages.program_page.Goals as goal

pub returns-clause-keeps : goal.returns-clause-keeps
returns-clause-keeps g c = λ m h steady rests bare clean.
    page_leads _ c.args.place c.args.head.now.unit c.args.head.now.generation c.args.page _ c.args.map.now c.text.ensures.text.text m h _ _ _
    c.program_pieces.ensures.cut (c.program_pieces.ensures.keeps m h steady rests bare clean)
