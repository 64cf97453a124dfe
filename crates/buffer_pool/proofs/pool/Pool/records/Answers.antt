use Rattle.std.proofs.Common.{sym, ◌∙◌, ap}
use Rattle.std.specs.Option.{option_map}
use Rattle.slab.specs.Slab.{get}
use Rattle.buffer_pool.specs.declared.pool.Buffer.{Buffer}
use Rattle.buffer_pool.specs.Pools.{PoolView}
use Rattle.buffer_pool.proofs.SoundLemmas.{once_pool}
use Rattle.buffer_pool.proofs.BufferLemmas.{buffer_found, buffer_absent}
use Rattle.buffer_pool.proofs.pool.Pool.records.Goals as goal

pub returns-in-Some : goal.returns-in-Some
returns-in-Some c =
    let v = c.args.self.now in
    let once = once_pool c.self.inside v c.self.invariant c.self.view_is in
    let stored = ap (λ (w : PoolView). get w.buffers c.in-Some.key) (sym c.self.view_is)
    ∙ c.index.ensures in
    ap (option_map (λ (b : Buffer). b.log)) (sym (buffer_found v.buffers c.args.unit c.args.page
    c.in-Some.key c.index.result.now once stored c.in-Some.ensures.found))

pub returns-in-None : goal.returns-in-None
returns-in-None c =
    let v = c.args.self.now in
    let once = once_pool c.self.inside v c.self.invariant c.self.view_is in
    ap (option_map (λ (b : Buffer). b.log)) (sym (buffer_absent v.buffers c.args.unit c.args.page once
    c.in-None.ensures.none))
