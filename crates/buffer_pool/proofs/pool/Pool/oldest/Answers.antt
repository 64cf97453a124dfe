use Rattle.std.proofs.Common.{◌≡◌, ◌∙◌, ap, sym, subst, refl, arith}
use Rattle.slab.specs.Slab.{Slab, get}
use Rattle.slab.proofs.SlabLemmas.{Contains-cons, Contains-entries}
use Rattle.buffer_pool.specs.declared.pool.Buffer.{Buffer}
use Rattle.buffer_pool.specs.Pools.{PoolView}
use Rattle.buffer_pool.proofs.RoomLemmas.{SoFar, so_far_more, so_far_oldest, so_far_none}
use Rattle.buffer_pool.proofs.pool.Pool.oldest.Goals as goal

pub loop-key-init : goal.loop-key-init
loop-key-init c =
    let inside = c.self.inside.buffers in
    let left = c.into_iter-key-iterator.ensures.into_iter_gives ∙ c.iter-key-items.ensures.rest in
    let same : inside ≡ c.args.self.now.buffers =
    ap (λ (v : PoolView). v.buffers) c.self.view_is in (
      tt,
      tt,
      λ key b found zero. rw left ((Contains-entries inside key b).1
          (ap (λ (x : Slab Buffer). get x key) same ∙ found)),
      λ key b there. ap (λ (x : Slab Buffer). get x key) (sym same)
          ∙ (Contains-entries inside key b).0 (rw left at there),
    )

pub loop-key-preserved : goal.loop-key-preserved
loop-key-preserved c =
    let l = c.loop-key in
    let step = c.in-Some.ensures.steps in
    let here = l.invariant.3 c.in-Some._key c.in-Some.buffer.now (rw step (0, omega arith, refl)) in (
      tt,
      tt,
      subst (SoFar c.args.self.now.buffers c.next.new.self) (sym c.older-oldest.ensures)
          (so_far_more c.args.self.now.buffers l._key-iterator c.next.new.self c.in-Some._key
          c.in-Some.buffer.now step here l.oldest l.invariant.2),
      λ key b there. l.invariant.3 key b (rw step (Contains-cons _ _ _ there)),
    )

pub returns-clause-oldest : goal.returns-clause-oldest
returns-clause-oldest c =
    so_far_oldest c.args.self.now.buffers c.loop-key._key-iterator c.loop-key.oldest
    c.in-None.ensures.steps.0 c.loop-key.invariant.2

pub returns-clause-none : goal.returns-clause-none
returns-clause-none c =
    so_far_none c.args.self.now.buffers c.loop-key._key-iterator c.loop-key.oldest
    c.in-None.ensures.steps.0 c.loop-key.invariant.2
