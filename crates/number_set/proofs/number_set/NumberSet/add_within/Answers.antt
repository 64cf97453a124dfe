use Rattle.std.proofs.Common.{◌≡◌, ◌<◌, length, refl, sym, ap, arith}
use Rattle.number_set.specs.Numbers.{with_list, with_number}
use Rattle.number_set.proofs.NumberLemmas.{there_already, one_more_with}
use Rattle.number_set.proofs.number_set.NumberSet.add_within.Goals as goal

pub returns-then-has-clause-added : goal.returns-then-has-clause-added
returns-then-has-clause-added c = sym (ap (with_list c.args.self.now)
    (there_already c.args.number c.args.self.now.list c.rises.ensures.rising (c.if-has.ensures.there.0 refl)))

pub returns-then-len-most-clause-full : goal.returns-then-len-most-clause-full
returns-then-len-most-clause-full c =
    let more : length c.args.self.now.list < length (with_number c.args.number c.args.self.now.list) =
    one_more_with c.args.number c.args.self.now.list (λ is. let has = c.if-has.ensures.there.1 is in absurd (cc has)) in
    omega (arith, more, c.len.ensures, c.most.ensures, c.if-len-most.true)
