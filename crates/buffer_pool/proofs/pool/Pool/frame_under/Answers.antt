use Rattle.std.proofs.Common.{refl}
use Rattle.buffer_pool.proofs.SoundLemmas.{sound_lent}
use Rattle.buffer_pool.proofs.pool.Pool.frame_under.Goals as goal

pub invariant_of-self-lent : goal.invariant_of-self-lent
invariant_of-self-lent c w =
    let was = c.index_mut.result.now in
    sound_lent c.self.inside c.args.key was (record was { frame = w }) c.self.invariant
    c.index_mut.ensures.value refl refl refl
