use Rattle.buffer_pool.proofs.SoundLemmas.{sound_pool}
use Rattle.buffer_pool.proofs.pool.Pool.facts.Goals as goal

pub returns : goal.returns
returns c =
    sound_pool c.self.inside c.args.self.now c.self.invariant c.self.view_is c.facts.ensures
