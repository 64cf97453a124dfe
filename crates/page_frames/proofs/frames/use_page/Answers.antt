use Rattle.std.proofs.Common.{IsSome, refl, sym, subst}
use Rattle.buffer_pool.specs.Pools.{with_use}
use Rattle.buffer_pool.proofs.HoldingLemmas.{changes_keep}
use Rattle.buffer_pool.proofs.UseLemmas.{changes_count_no_other}
use Rattle.page_frames.proofs.FrameViewLemmas.{pins_keep_frames}
use Rattle.page_frames.proofs.HeldLemmas.{framed_there}
use Rattle.page_frames.proofs.frames.use_page.Goals as goal

pub touch-requires-clause-there : goal.touch-requires-clause-there
touch-requires-clause-there c =
    framed_there c.args.pool.now c.args.unit c.args.page c.facts.ensures.once c.requires.there

pub returns-clause-frames : goal.returns-clause-frames
returns-clause-frames c =
    let p = c.args.pool.now in
    let uses = c.touch.ensures.uses in
    pins_keep_frames p c.touch.new.self c.args.unit c.args.page uses.key (with_use p.clock)
    c.facts.ensures.once uses.has (λ b. record { page = (refl, refl); frame = refl }) uses.changes

pub returns-clause-pins : goal.returns-clause-pins
returns-clause-pins c =
    let p = c.args.pool.now in
    let uses = c.touch.ensures.uses in
    changes_keep p c.touch.new.self uses.key (with_use p.clock)
    (subst IsSome (sym uses.has.stored) refl) (λ b. ((refl, refl), refl)) uses.changes
    uses.counts.limit

pub returns-clause-others : goal.returns-clause-others
returns-clause-others c =
    let p = c.args.pool.now in
    let uses = c.touch.ensures.uses in
    changes_count_no_other p c.touch.new.self c.args.unit c.args.page uses.key (with_use p.clock)
    c.facts.ensures.once uses.has (λ b. (refl, refl)) uses.changes
