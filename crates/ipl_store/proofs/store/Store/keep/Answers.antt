use Rattle.std.proofs.Common.{refl}
use Rattle.buffer_pool.specs.Pools.{with_pin}
use Rattle.ipl_store.proofs.HoldLemmas.{there_in}
use Rattle.ipl_store.proofs.store.Store.keep.Goals as goal

pub hold-requires-clause-there : goal.hold-requires-clause-there
hold-requires-clause-there c =
    let buffers = c.args.self.now.transactions.pages.pool.buffers in
    there_in buffers (c.pool_laws.ensures.told buffers c.facts.ensures.once) c.args.unit c.args.page
    c.requires.there

pub returns-clause-pool : goal.returns-clause-pool
returns-clause-pool c =
    let pool = c.args.self.now.transactions.pages.pool in
    let holds = c.hold.ensures.holds in record {
      rest = refl;
      frames = c.buffer_laws.ensures.pins pool c.hold.new.self c.args.unit c.args.page holds.key
          (with_pin pool.clock) c.facts.ensures.once holds.has
          (λ b. record { page = (refl, refl); frame = refl }) holds.changes;
      limit = c.hold.ensures.uses.counts.limit;
      at_rest = c.hold.ensures.rest c.requires.rest c.requires.few;
    }

pub returns-clause-others : goal.returns-clause-others
returns-clause-others c =
    let pool = c.args.self.now.transactions.pages.pool in
    let holds = c.hold.ensures.holds in
    c.use_laws.ensures.touches pool c.hold.new.self c.args.unit c.args.page holds.key
    (with_pin pool.clock) c.facts.ensures.once holds.has (λ b. (refl, refl)) holds.changes
