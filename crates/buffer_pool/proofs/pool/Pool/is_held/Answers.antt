use Rattle.std.proofs.Common.{sym, ◌∙◌, ap}
use Rattle.slab.specs.Slab.{get}
use Rattle.buffer_pool.specs.Pools.{PoolView}
use Rattle.buffer_pool.proofs.SoundLemmas.{once_pool}
use Rattle.buffer_pool.proofs.HeldLemmas.{held_if, not_held_if}
use Rattle.buffer_pool.proofs.pool.Pool.is_held.Goals as goal

pub returns-in-Some : goal.returns-in-Some
returns-in-Some c =
    let v = c.args.self.now in
    let once = once_pool c.self.inside v c.self.invariant c.self.view_is in
    let stored = ap (λ (w : PoolView). get w.buffers c.in-Some.key) (sym c.self.view_is)
    ∙ c.index.ensures in
    held_if v.buffers c.args.unit c.args.page c.in-Some.key c.index.result.now once stored
    c.in-Some.ensures.found

pub returns-in-None : goal.returns-in-None
returns-in-None c =
    not_held_if c.args.self.now.buffers c.args.unit c.args.page c.in-None.ensures.none
