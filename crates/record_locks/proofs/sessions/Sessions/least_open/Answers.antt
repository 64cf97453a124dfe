use Rattle.std.proofs.Common.{◌≡◌, ℕ, ◌+◌, ◌-◌, ◌<◌, length, Bool, cond, Some, sym, ◌∙◌, ap, arith}
use Rattle.std.specs.List.{find, range_with_len}
use Rattle.ipl_model.specs.State.{is_open_session}
use Rattle.ipl_model.proofs.RuleBatchLemmas.{found_from}
use Rattle.record_locks.specs.Standing.{state_of}
use Rattle.record_locks.proofs.sessions.Sessions.least_open.Goals as goal

pub returns-then-is_open : goal.returns-then-is_open
returns-then-is_open c =
    let s = c.loop-s.s in
    let all = length c.args.self.now in
    let open_one = is_open_session (state_of c.args.self.now) in
    let below : s < all = omega (arith, c.loop-s-test.true) in
    sym (c.loop-s.invariant ∙ found_from open_one s all below
    ∙ ap (λ (b : Bool). cond b (Some s) (find open_one (range_with_len (s + 1) (all - (s + 1))))) (sym c.is_open.ensures ∙ c.if-is_open.true))

pub loop-s-preserved : goal.loop-s-preserved
loop-s-preserved c =
    let s = c.loop-s.s in
    let all = length c.args.self.now in
    let open_one = is_open_session (state_of c.args.self.now) in
    let below : s < all = omega (arith, c.loop-s-test.true) in
    c.loop-s.invariant ∙ found_from open_one s all below
    ∙ ap (λ (b : Bool). cond b (Some s) (find open_one (range_with_len (s + 1) (all - (s + 1))))) (sym c.is_open.ensures ∙ c.if-is_open.false)

pub returns : goal.returns
returns c =
    let s = c.loop-s.s in
    let all = length c.args.self.now in
    let none : all - s ≡ 0 = omega (arith, c.loop-s-test.false) in
    sym (c.loop-s.invariant ∙ ap (λ (k : ℕ). find (is_open_session (state_of c.args.self.now)) (range_with_len s k)) none)
