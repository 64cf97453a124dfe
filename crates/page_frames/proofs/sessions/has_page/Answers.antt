use Rattle.std.proofs.Common.{◌<◌, ℕ, List, length, get_or, sym, ◌∙◌, ap, arith}
use Rattle.std.proofs.lemmas.List.Elements.{Contains-get_or}
use Rattle.page_frames.specs.Changed.{is_on_page}
use Rattle.page_frames.proofs.SessionPageLemmas.{next_on, next_off}
use Rattle.page_frames.proofs.sessions.has_page.Goals as goal

pub written-requires : goal.written-requires
written-requires c =
    let numbers = c.args.numbers.now in
    let within : c.loop-s.s-index < length numbers = omega (arith, c.loop-s-test.true) in
    c.requires (get_or numbers c.loop-s.s-index 0)
    (Contains-get_or numbers c.loop-s.s-index 0 within)

pub returns-then-is_on_page : goal.returns-then-is_on_page
returns-then-is_on_page c =
    let slots = c.args.sessions.now in
    let numbers = c.args.numbers.now in
    let i = c.loop-s.s-index in
    let on = ap (λ (names : List ℕ). is_on_page names c.args.unit c.args.page)
    (sym c.written.ensures.names) ∙ sym c.is_on_page.ensures ∙ c.if-is_on_page.true in
    sym (c.loop-s.invariant
    ∙ next_on slots numbers i c.args.unit c.args.page (omega (arith, c.loop-s-test.true)) on)

pub loop-s-preserved : goal.loop-s-preserved
loop-s-preserved c =
    let slots = c.args.sessions.now in
    let numbers = c.args.numbers.now in
    let i = c.loop-s.s-index in
    let off = ap (λ (names : List ℕ). is_on_page names c.args.unit c.args.page)
    (sym c.written.ensures.names) ∙ sym c.is_on_page.ensures ∙ c.if-is_on_page.false in
    c.loop-s.invariant
    ∙ next_off slots numbers i c.args.unit c.args.page (omega (arith, c.loop-s-test.true)) off
