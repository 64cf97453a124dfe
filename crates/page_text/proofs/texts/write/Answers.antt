use Rattle.std.proofs.Common.{◌∙◌, ap, sym, subst, arith, length, List, ℕ}
use Rattle.ipl_base.specs.declared.limits.TheConstants.{VERSION}
use Rattle.ipl_format.specs.Page.{SpellsPage, page_text}
use Rattle.ipl_format.proofs.PageLemmas.{later_pages_are_alike, short_pages_have_room}
use Rattle.page_text.proofs.texts.write.Goals as goal

pub write_first-requires : goal.write_first-requires
write_first-requires c =
    short_pages_have_room c.args.map.now c.text-text.ensures.text.slots.slots
    (c.requires.short c.if-version-eq1.true)

pub returns-then-version-eq1-clause-end : goal.returns-then-version-eq1-clause-end
returns-then-version-eq1-clause-end c =
    c.write_first.ensures.end
    ∙ ap (λ (v : ℕ). length (page_text v c.args.map.now)) (sym c.if-version-eq1.true)

pub returns-then-version-eq1-clause-most : goal.returns-then-version-eq1-clause-most
returns-then-version-eq1-clause-most c =
    let fits = c.write_first.ensures.text.slots.fits in
    omega (arith, fits, c.write_first.ensures.end)

pub returns-clause-text : goal.returns-clause-text
returns-clause-text c =
    (later_pages_are_alike c.args.version _ c.args.map.now c.if-version-eq1.false).0
    (subst (λ (t : List ℕ). SpellsPage VERSION t c.args.map.now) (sym c.put_text.ensures.text)
    c.text-text.ensures.text)

pub returns-clause-end : goal.returns-clause-end
returns-clause-end c =
    ap length ((later_pages_are_alike c.args.version c.text-text.result.now c.args.map.now
    c.if-version-eq1.false).0 c.text-text.ensures.text).text
