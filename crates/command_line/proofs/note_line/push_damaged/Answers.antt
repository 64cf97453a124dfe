use Rattle.std.proofs.Common.{refl, append_assoc}
use Rattle.command_line.proofs.note_line.push_damaged.Goals as goal

pub returns-clause-text : goal.returns-clause-text
returns-clause-text c =
    let spot = rw c.push.ensures.text at c.push_spot.ensures.text in
    let stored = rw (c.push-2.ensures.text, spot) at c.push_sum.ensures.text in
    let computed = rw (c.push-3.ensures.text, stored) at c.push_sum-2.ensures.text in
    rw computed (simp append_assoc refl)
