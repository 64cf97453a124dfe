use Rattle.bounded_vec.proofs.WriteLemmas.{written}
use Rattle.nand_rising.proofs.place.note.Goals as goal

pub returns : goal.returns
returns c = written c.args.places.now c.deref_mut.result.now c.args.p c.args.place c.deref_mut.ensures.value
