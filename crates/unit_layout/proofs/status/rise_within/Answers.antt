use Rattle.std.proofs.Common.{◌≡◌, ◌⊎◌, ◌<◌, ◌≤◌, ◌+◌, ◌-◌, ◌*◌, ◌/◌, inl, inr, arith, length}
use Rattle.unit_layout.specs.Retired.{rise_within, words_in}
use Rattle.ipl_format.specs.Numbers.{word_at}
use Rattle.unit_layout.proofs.StatusLemmas.{turn_refuses, turn_passes}
use Rattle.unit_layout.proofs.status.rise_within.Goals.{then-place-least-via-then-place-least, then-place-least-via-else-place-least+then-places-place}
use Rattle.unit_layout.proofs.status.rise_within.Goals as goal

pub returns-then-place-least : goal.returns-then-place-least
returns-then-place-least c =
    let bad : (word_at (4 * c.loop-i.i) c.args.bytes.now < c.loop-i.least) ⊎ (c.args.places ≤ word_at (4 * c.loop-i.i) c.args.bytes.now) = elim c.then-place-least.branch [
      | then-place-least-via-then-place-least w ↦ inl (omega (arith, w.if-place-least, c.word_at-place.ensures))
      | then-place-least-via-else-place-least+then-places-place w ↦ inr (omega (arith, w.if-places-place, c.word_at-place.ensures))
    ] in
    turn_refuses c.args.places c.loop-i.least c.loop-i.i (length c.args.bytes.now / 4 - c.loop-i.i) c.args.bytes.now
    (rise_within c.args.places 0 (words_in c.args.bytes.now)) c.loop-i.invariant (omega (arith, c.loop-i-test.true)) bad

pub loop-i-preserved : goal.loop-i-preserved
loop-i-preserved c =
    let left : length c.args.bytes.now / 4 - c.loop-i.i - 1 ≡ length c.args.bytes.now / 4 - (c.loop-i.i + 1) = omega arith in
    let on = turn_passes c.args.places c.loop-i.least c.loop-i.i (length c.args.bytes.now / 4 - c.loop-i.i) c.args.bytes.now
    (rise_within c.args.places 0 (words_in c.args.bytes.now)) c.loop-i.invariant (omega (arith, c.loop-i-test.true))
    (omega (arith, c.if-place-least.false, c.word_at-place.ensures)) (omega (arith, c.if-places-place.false, c.word_at-place.ensures)) in
    rw (c.word_at-place.ensures, ← left) on
