use Rattle.std.proofs.Common.{refl, subst₂, sym, ap, take, List, ℕ}
use Rattle.ipl_base.specs.declared.limits.TheConstants.{VERSION}
use Rattle.ipl_format.specs.Page.{Slots, empty_page, SpellsPage}
use Rattle.page_text.specs.Texts.{BytesView}
use Rattle.page_text.proofs.IndexLemmas.{text_found}
use Rattle.page_text.proofs.ViewLemmas.{nothing_view, nothing_in, indexed_view, view_indexed}
use Rattle.page_text.proofs.page_bytes.PageBytes.read.Goals as goal

pub invariant_of-self : goal.invariant_of-self
invariant_of-self c =
    let h = c.if-index.ensures.places in
    view_indexed c.self.inside.bytes c.index.new.bounds h.page h.count h.indexed

pub returns-then-index-clause-page : goal.returns-then-index-clause-page
returns-then-index-clause-page c =
    let h = c.if-index.ensures.places in
    subst₂ (λ (bytes : List ℕ) (page : Slots). SpellsPage VERSION (take c.args.end bytes) page)
    (ap (λ (v : BytesView). v.bytes) c.self.view_is)
    (sym (indexed_view c.self.inside.bytes c.index.new.bounds h.page h.count h.indexed))
    (text_found c.self.inside.bytes c.args.end h)

pub invariant_of-self-2 : goal.invariant_of-self-2
invariant_of-self-2 c = nothing_view _ _ refl

pub returns-clause-empty : goal.returns-clause-empty
returns-clause-empty c = indexed_view _ _ empty_page refl (nothing_in _ _ refl)
