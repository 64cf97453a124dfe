use Rattle.std.proofs.Common.{◌-◌, ◌∙◌, ap, refl, ℕ, take, drop, arith, length-drop, length-take-le}
use Rattle.std.proofs.lemmas.Slice.{between-put_mid}
use Rattle.page_text.proofs.TurnLemmas.{turned_left}
use Rattle.page_text.proofs.moving.move_tail.Goals as goal

pub returns-then-to-from-clause-tail : goal.returns-then-to-from-clause-tail
returns-then-to-from-clause-tail c =
    let old = c.args.bytes.now in
    let to = c.args.to in
    let n = c.args.until - c.args.from in
    let d = c.args.from - to in
    let m = c.args.until - to in
    let size = length-take-le m (drop to old) (omega
    (arith, length-drop to old, c.told-bytes, c.requires.within)) in
    turned_left old _ _ c.rotate_left.new.self to n d m
    (omega (arith, c.told-bytes, c.requires.within, c.requires.order, c.if-to-from.true))
    (omega (arith, c.requires.order, c.if-to-from.true)) refl c.rotate_left.ensures.after
    (between-put_mid to m old c.rotate_left.new.self c.args.until
    (omega (arith, c.told-bytes, c.requires.within, c.requires.order, c.if-to-from.true))
    (c.rotate_left.ensures.len ∙ size))
    ∙ ap (λ (i : ℕ). take n (drop i old)) (omega (arith, c.if-to-from.true))
