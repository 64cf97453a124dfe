use Rattle.buffer_pool.proofs.HeldLemmas.{holds_page, hold_rests}
use Rattle.buffer_pool.proofs.pool.Pool.hold.Goals as goal

pub returns-clause-holds : goal.returns-clause-holds
returns-clause-holds c =
    let pin = c.pin.ensures in
    holds_page c.args.self.now c.pin.new.self c.args.unit c.args.page c.pin.result.key pin.has
    c.requires.free pin.buffers

pub returns-clause-rest : goal.returns-clause-rest
returns-clause-rest c =
    let pin = c.pin.ensures in
    hold_rests c.args.self.now c.pin.new.self c.args.unit c.args.page c.pin.result.key pin.has
    c.requires.free pin.buffers pin.uses.counts.limit
