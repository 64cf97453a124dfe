use Rattle.std.proofs.Common.{◌∙◌, ap, set, None}
use Rattle.page_text.specs.Texts.{page_in}
use Rattle.page_text.proofs.ViewLemmas.{are_bounds, indexed_view, view_indexed}
use Rattle.page_text.proofs.ChangeLemmas.{cleared, none_fits, room_for}
use Rattle.page_text.proofs.page_bytes.PageBytes.clear.Goals as goal

pub resize-requires-clause-bounds : goal.resize-requires-clause-bounds
resize-requires-clause-bounds c =
    let p = c.self.inside in
    are_bounds p.bytes p.bounds (page_in p.bytes p.bounds) c.self.invariant

pub resize-requires-clause-room : goal.resize-requires-clause-room
resize-requires-clause-room c =
    let p = c.self.inside in
    room_for p.bytes p.bounds (page_in p.bytes p.bounds) c.args.slot None c.self.invariant
    c.requires (none_fits p.bytes p.bounds (page_in p.bytes p.bounds) c.args.slot c.self.invariant
    c.requires)

pub invariant_of-self : goal.invariant_of-self
invariant_of-self c =
    let p = c.self.inside in
    let page = page_in p.bytes p.bounds in
    let did = c.resize.ensures in
    view_indexed c.resize.new.bytes c.resize.new.bounds (set page c.args.slot None)
    (did.bounds.count ∙ c.self.told.1)
    (cleared p.bytes p.bounds page c.args.slot c.resize.new.bytes c.resize.new.bounds
    c.self.invariant c.requires did.front did.tail did.bounds)

pub returns-clause-cleared : goal.returns-clause-cleared
returns-clause-cleared c =
    let p = c.self.inside in
    let page = page_in p.bytes p.bounds in
    let did = c.resize.ensures in
    indexed_view c.resize.new.bytes c.resize.new.bounds (set page c.args.slot None)
    (did.bounds.count ∙ c.self.told.1)
    (cleared p.bytes p.bounds page c.args.slot c.resize.new.bytes c.resize.new.bounds
    c.self.invariant c.requires did.front did.tail did.bounds)
    ∙ ap (λ v. set v.page c.args.slot None) c.self.view_is

pub returns-clause-page : goal.returns-clause-page
returns-clause-page c = (invariant_of-self c).slots
