use Rattle.std.proofs.Common.{refl}
use Rattle.ipl_format.specs.Page.{empty_page}
use Rattle.page_text.proofs.ViewLemmas.{nothing_in, nothing_view, indexed_view}
use Rattle.page_text.proofs.page_bytes.PageBytes.reset.Goals as goal

pub invariant_of-self : goal.invariant_of-self
invariant_of-self c = nothing_view c.self.inside.bytes _ refl

pub returns-clause-page : goal.returns-clause-page
returns-clause-page c = indexed_view c.self.inside.bytes _ empty_page refl
    (nothing_in c.self.inside.bytes _ refl)
