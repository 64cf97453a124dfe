use Rattle.std.proofs.Common.{arith, refl}
use Rattle.overflow.specs.Lists.{first_of, as_used}
use Rattle.overflow.proofs.FillLemmas.{replaced_more}
use Rattle.overflow.proofs.places.use_all.Goals as goal

pub loop-place-preserved : goal.loop-place-preserved
loop-place-preserved c =
    let so = c.loop-place.invariant in
    let (long, done, others) = replaced_more first_of as_used
    c.args.places.now c.loop-place.places c.loop-place.place-index (record { place = 0; first = 0 })
    _ so.long (omega arith) so.done so.others refl in
    record { long = long; done = done; others = others }
