use Rattle.std.proofs.Common.{IsSome, refl, sym, subst}
use Rattle.buffer_pool.specs.Pools.{with_use}
use Rattle.ipl_store.proofs.store.Store.use_held.Goals as goal

pub touch-requires-clause-there : goal.touch-requires-clause-there
touch-requires-clause-there c =
    let held = c.requires.held in record {
      key = held.key;
      has = record {
        buffer = held.buffer;
        stored = held.stored;
        unit_is = held.unit_is;
        page_is = held.page_is;
      };
    }

pub returns-clause-holds : goal.returns-clause-holds
returns-clause-holds c =
    let pool = c.args.self.now.transactions.pages.pool in
    let uses = c.touch.ensures.uses in
    c.holding_laws.ensures.changes pool c.touch.new.self uses.key (with_use pool.clock)
    (subst IsSome (sym uses.has.stored) refl) (λ b. ((refl, refl), refl)) uses.changes
    uses.counts.limit

pub returns-clause-pool : goal.returns-clause-pool
returns-clause-pool c =
    let pool = c.args.self.now.transactions.pages.pool in
    let new = c.touch.new.self in
    let uses = c.touch.ensures.uses in record {
      rest = refl;
      frames = c.buffer_laws.ensures.pins pool new c.args.unit c.args.page uses.key
          (with_use pool.clock) c.facts.ensures.once uses.has
          (λ b. record { page = (refl, refl); frame = refl }) uses.changes;
      limit = uses.counts.limit;
      at_rest = c.holding_laws.ensures.rest pool new
          (c.holding_laws.ensures.changes pool new uses.key (with_use pool.clock)
          (subst IsSome (sym uses.has.stored) refl) (λ b. ((refl, refl), refl)) uses.changes
          uses.counts.limit) c.requires.rest;
    }

pub returns-clause-others : goal.returns-clause-others
returns-clause-others c =
    let pool = c.args.self.now.transactions.pages.pool in
    let uses = c.touch.ensures.uses in
    c.use_laws.ensures.touches pool c.touch.new.self c.args.unit c.args.page uses.key
    (with_use pool.clock) c.facts.ensures.once uses.has (λ b. (refl, refl)) uses.changes
