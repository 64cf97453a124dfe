use Rattle.std.proofs.Common.{◌∙◌, ap, arith, length, set, Some}
use Rattle.ipl_base.specs.declared.limits.TheConstants.{VERSION}
use Rattle.ipl_format.specs.Page.{page_text}
use Rattle.page_text.specs.Texts.{page_in}
use Rattle.page_text.proofs.ChangeLemmas.{with_places}
use Rattle.page_text.proofs.page_bytes.PageBytes.len_with.Goals as goal

pub overflow_sub-result : goal.overflow_sub-result
overflow_sub-result c =
    let p = c.self.inside in
    let whole = with_places p.bytes p.bounds (page_in p.bytes p.bounds) c.args.slot
    (Some c.args.value.now) c.self.invariant c.requires.slot in
    omega (arith, whole, c.from.ensures, c.from-start.ensures, c.from-end.ensures)

pub returns : goal.returns
returns c =
    let p = c.self.inside in
    let whole = with_places p.bytes p.bounds (page_in p.bytes p.bounds) c.args.slot
    (Some c.args.value.now) c.self.invariant c.requires.slot in
    omega (arith, whole, c.from.ensures, c.from-start.ensures, c.from-end.ensures)
    ∙ ap (λ v. length (page_text VERSION (set v.page c.args.slot (Some c.args.value.now))))
    c.self.view_is
