use Rattle.std.proofs.Common.{arith, sym, ◌∙◌, ap, ap₂}
use Rattle.std.specs.Prelude.{slice_index_or, None}
use Rattle.page_text.specs.Texts.{page_in, value_between}
use Rattle.page_text.proofs.ViewLemmas.{lies}
use Rattle.page_text.proofs.page_bytes.PageBytes.get.Goals as goal

pub value_between-requires-clause-record : goal.value_between-requires-clause-record
value_between-requires-clause-record c =
    let p = c.self.inside in
    let h = lies p.bytes p.bounds (page_in p.bytes p.bounds) c.args.slot c.self.told.1
    c.self.invariant c.requires in
    λ other. let l = h.least (λ e. other (c.from-start.ensures ∙ (e ∙ sym c.from-end.ensures))) in
    omega (arith, l, c.from-start.ensures, c.from-end.ensures)

pub value_between-requires-clause-within : goal.value_between-requires-clause-within
value_between-requires-clause-within c =
    let p = c.self.inside in
    let h = lies p.bytes p.bounds (page_in p.bytes p.bounds) c.args.slot c.self.told.1
    c.self.invariant c.requires in
    let w = h.within in omega (arith, w, c.from-end.ensures)

pub returns-clause-value : goal.returns-clause-value
returns-clause-value c =
    let p = c.self.inside in
    let h = lies p.bytes p.bounds (page_in p.bytes p.bounds) c.args.slot c.self.told.1
    c.self.invariant c.requires in
    c.value_between.ensures.value ∙ (ap₂ (value_between p.bytes) c.from-start.ensures
    c.from-end.ensures
    ∙ (sym h.value ∙ ap (λ v. slice_index_or v.page c.args.slot None) c.self.view_is))

pub value_between-requires-clause-short : goal.value_between-requires-clause-short
value_between-requires-clause-short c =
    let p = c.self.inside in
    let h = lies p.bytes p.bounds (page_in p.bytes p.bounds) c.args.slot c.self.told.1
    c.self.invariant c.requires in
    let m = h.most in omega (arith, m, c.from-start.ensures, c.from-end.ensures)
