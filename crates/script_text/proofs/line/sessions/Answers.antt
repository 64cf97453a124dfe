use Rattle.std.proofs.Common.{◌≡◌, length, sym, ◌∙◌, arith}
use Rattle.script_text.proofs.Words.{too_many}
use Rattle.script_text.proofs.line.sessions.Goals as goal

pub returns : goal.returns
returns c =
    let full : length c.loop-i.named ≡ 32 = omega (arith, c.loop-i.invariant.count, c.loop-i-test.false, c.loop-i.auto._i-end) in
    sym (c.loop-i.invariant.so_far ∙ too_many c.loop-i.named c.loop-i.line.now full)
