use Rattle.std.proofs.Common.{refl}
use Rattle.buffer_pool.specs.Pools.{without_pin}
use Rattle.ipl_store.proofs.store.Store.let_go.Goals as goal

pub returns-clause-pool : goal.returns-clause-pool
returns-clause-pool c =
    let pool = c.args.self.now.transactions.pages.pool in
    let releases = c.release.ensures.releases in record {
      rest = refl;
      frames = c.buffer_laws.ensures.pins pool c.release.new.self c.args.unit c.args.page
          releases.key without_pin c.facts.ensures.once releases.has
          (λ b. record { page = (refl, refl); frame = refl }) releases.changes;
      limit = c.release.ensures.keeps.limit;
      at_rest = c.release.ensures.rest;
    }
