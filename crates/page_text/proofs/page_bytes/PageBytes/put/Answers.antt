use Rattle.std.proofs.Common.{ap, sym, length, ◌∙◌}
use Rattle.page_text.specs.Texts.{BytesView}
use Rattle.ipl_format.specs.Page.{empty_page}
use Rattle.page_text.proofs.ViewLemmas.{indexed_view, nothing_stays, view_indexed}
use Rattle.page_text.proofs.page_bytes.PageBytes.put.Goals as goal

pub invariant_of-self : goal.invariant_of-self
invariant_of-self c =
    let p = c.self.inside in
    view_indexed c.put_part.new.bytes p.bounds empty_page c.self.told.1
    (nothing_stays p.bytes p.bounds c.put_part.new.bytes c.args.self.now c.self.told.1
    c.self.invariant c.self.view_is c.requires.empty)

pub returns-clause-page : goal.returns-clause-page
returns-clause-page c =
    let p = c.self.inside in
    indexed_view c.put_part.new.bytes p.bounds empty_page c.self.told.1
    (nothing_stays p.bytes p.bounds c.put_part.new.bytes c.args.self.now c.self.told.1
    c.self.invariant c.self.view_is c.requires.empty)

pub returns-clause-size : goal.returns-clause-size
returns-clause-size c = ap (λ (v : BytesView). length v.bytes) (sym c.self.view_is) ∙ c.self.told.0
