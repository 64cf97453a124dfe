use Rattle.std.proofs.Common.{◌≡◌, ◌≤◌, ◌+◌, ℕ, Some, count_by, ◌∙◌, ap, arith}
use Rattle.buffer_pool.specs.declared.pool.Buffer.{Buffer}
use Rattle.buffer_pool.specs.Pools.{PoolView}
use Rattle.buffer_pool.specs.Holding.{is_pinned, pinned_count}
use Rattle.buffer_pool.proofs.CountLemmas.{pinned_few, entries_pinned, counted}
use Rattle.buffer_pool.proofs.pool.Pool.held.Goals as goal

pub loop-key-init : goal.loop-key-init
loop-key-init c =
    let inside = c.self.inside.buffers in
    let left = c.into_iter-key-iterator.ensures.into_iter_gives ∙ c.iter-key-items.ensures.rest in
    let same : pinned_count inside ≡ pinned_count c.args.self.now.buffers =
    ap (λ (v : PoolView). pinned_count v.buffers) c.self.view_is in
    let all : count_by (λ e. is_pinned (Some e.1)) c.into_iter-key-iterator.result ≡ pinned_count inside =
    ap (count_by (λ (e : ℕ × Buffer). is_pinned (Some e.1))) left ∙ entries_pinned 0 inside.slots in
    let so = c.self.invariant in
    let holds = so.holds in
    let few = so.few in
    (tt, tt, omega (arith, all, same), omega (arith, pinned_few inside, holds, few, same))

pub overflow_add-held : goal.overflow_add-held
overflow_add-held c =
    let so = c.loop-key.invariant in
    let step = counted c.loop-key._key-iterator c.next.new.self c.in-Some._key c.in-Some.buffer.now
    c.in-Some.ensures.steps in
    let one = c.pinned_one-held.ensures in
    let low : c.loop-key.held + c.pinned_one-held.result ≤ 64 = omega (arith, so.2, so.3, step, one) in
    omega (arith, low)

pub loop-key-preserved : goal.loop-key-preserved
loop-key-preserved c =
    let so = c.loop-key.invariant in
    let step = counted c.loop-key._key-iterator c.next.new.self c.in-Some._key c.in-Some.buffer.now
    c.in-Some.ensures.steps in
    let one = c.pinned_one-held.ensures in
    (tt, tt, omega (arith, so.2, step, one), so.3)

pub returns : goal.returns
returns c =
    let so = c.loop-key.invariant in
    let none = ap (count_by (λ (e : ℕ × Buffer). is_pinned (Some e.1))) c.in-None.ensures.steps.0 in
    omega (arith, so.2, none)
