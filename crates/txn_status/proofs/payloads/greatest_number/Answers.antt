use Rattle.std.proofs.Common.{◌≡◌, ◌∙◌, ℕ, List, length, drop, take, ◌-◌, ◌*◌, ap, arith, length-drop}
use Rattle.std.proofs.lemmas.List.{take_all}
use Rattle.ipl_format.specs.Numbers.{long_at}
use Rattle.txn_status.proofs.ReadLemmas.{greatest_more}
use Rattle.txn_status.proofs.payloads.greatest_number.Goals as goal

pub loop-i-preserved : goal.loop-i-preserved
loop-i-preserved c =
    let rest : List ℕ = drop (8 * c.loop-i.i) c.args.payload.now in
    let whole : take (length c.args.payload.now - 8 * c.loop-i.i) rest ≡ rest =
    take_all (length c.args.payload.now - 8 * c.loop-i.i) rest
    (omega (arith, length-drop (8 * c.loop-i.i) c.args.payload.now)) in
    c.max-greatest.ensures ∙ greatest_more c.args.least c.loop-i.i c.loop-i.greatest
    c.first_number.result c.args.payload.now c.loop-i.invariant
    (c.first_number.ensures ∙ ap (long_at 0) whole)
