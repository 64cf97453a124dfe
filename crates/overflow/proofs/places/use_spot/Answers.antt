use Rattle.std.proofs.Common.{arith}
use Rattle.overflow.specs.Lists.{first_of, clean_behind}
use Rattle.overflow.proofs.FillLemmas.{replaced_more}
use Rattle.overflow.proofs.places.use_spot.Goals as goal

pub loop-place-preserved : goal.loop-place-preserved
loop-place-preserved c =
    let so = c.loop-place.invariant in
    let (long, done, others) = replaced_more first_of (clean_behind c.args.spot.place c.args.spot.sector)
    c.args.places.now c.loop-place.places c.loop-place.place-index (record { place = 0; first = 0 })
    c.used.result so.long (omega arith) so.done so.others c.used.ensures in
    record { long = long; done = done; others = others }
