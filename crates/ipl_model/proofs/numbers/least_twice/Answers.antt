use Rattle.std.proofs.Common.{◌≡◌, ℕ, ◌+◌, ◌-◌, ◌<◌, Bool, cond, Some, sym, ◌∙◌, ap, arith}
use Rattle.std.specs.List.{find, range_with_len}
use Rattle.ipl_model.specs.Refusals.{is_twice}
use Rattle.ipl_model.proofs.RuleBatchLemmas.{found_from}
use Rattle.ipl_model.proofs.numbers.least_twice.Goals as goal

pub returns-then-is_twice : goal.returns-then-is_twice
returns-then-is_twice c =
    let s = c.loop-s.s in
    let twice = is_twice c.args.numbers.now in
    let below : s < 32 = omega (arith, c.loop-s-test.true) in
    sym (c.loop-s.invariant ∙ found_from twice s 32 below
    ∙ ap (λ (b : Bool). cond b (Some s) (find twice (range_with_len (s + 1) (32 - (s + 1))))) (sym c.is_twice.ensures ∙ c.if-is_twice.true))

pub loop-s-preserved : goal.loop-s-preserved
loop-s-preserved c =
    let s = c.loop-s.s in
    let twice = is_twice c.args.numbers.now in
    let below : s < 32 = omega (arith, c.loop-s-test.true) in
    c.loop-s.invariant ∙ found_from twice s 32 below
    ∙ ap (λ (b : Bool). cond b (Some s) (find twice (range_with_len (s + 1) (32 - (s + 1))))) (sym c.is_twice.ensures ∙ c.if-is_twice.false)

pub returns : goal.returns
returns c =
    let s = c.loop-s.s in
    let none : 32 - s ≡ 0 = omega (arith, c.loop-s-test.false) in
    sym (c.loop-s.invariant ∙ ap (λ (k : ℕ). find (is_twice c.args.numbers.now) (range_with_len s k)) none)
