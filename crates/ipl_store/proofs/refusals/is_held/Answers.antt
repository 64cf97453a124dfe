use Rattle.ipl_store.proofs.HeldLemmas.{held_is}
use Rattle.ipl_store.proofs.refusals.is_held.Goals as goal

pub returns-clause-test : goal.returns-clause-test
returns-clause-test c =
    let buffers = c.args.pool.now.buffers in
    held_is buffers (c.pool_laws.ensures.told buffers c.facts.ensures.once) c.args.unit c.args.page
    c.is_held.result c.is_held.ensures
