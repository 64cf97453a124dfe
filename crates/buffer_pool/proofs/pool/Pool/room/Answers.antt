use Rattle.std.proofs.Common.{ap, arith}
use Rattle.slab.specs.Slab.{slab_len}
use Rattle.buffer_pool.specs.Pools.{PoolView}
use Rattle.buffer_pool.proofs.pool.Pool.room.Goals as goal

pub returns-in-Some : goal.returns-in-Some
returns-in-Some c =
    let len = ap (λ (v : PoolView). slab_len v.buffers) c.self.view_is in
    let limit = ap (λ (v : PoolView). v.limit) c.self.view_is in (
      omega (arith, c.len.ensures, c.if-len-self.false, c.self.invariant.holds, len, limit),
      c.in-Some.oldest.used,
      c.in-Some.ensures.oldest,
    )
