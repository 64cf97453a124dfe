use Rattle.number_set.proofs.BitLemmas.{bit_put, size_put}
use Rattle.number_set.proofs.flags.set_flag.Goals as goal

pub returns-clause-bits : goal.returns-clause-bits
returns-clause-bits c = bit_put c.args.bytes.now.items c.deref_mut.result.now c.args.at
    c.deref_mut.ensures.value c.requires

pub returns-clause-size : goal.returns-clause-size
returns-clause-size c = size_put c.args.bytes.now.items c.deref_mut.result.now c.args.at
    c.deref_mut.ensures.value
