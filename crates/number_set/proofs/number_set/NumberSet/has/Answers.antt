use Rattle.std.proofs.Common.{◌↔◌, IsTrue, subst}
use Rattle.std.specs.List.{Contains}
use Rattle.number_set.specs.Numbers.{Numbers}
use Rattle.number_set.proofs.AmongLemmas.{among_from}
use Rattle.number_set.proofs.SearchLemmas.{found_iff}
use Rattle.number_set.proofs.number_set.NumberSet.has.Goals as goal

pub returns-clause-there : goal.returns-clause-there
returns-clause-there c =
    subst (λ (v : Numbers). IsTrue c.is_ok.result ↔ Contains v.list c.args.number) c.self.view_is
    (found_iff c.self.inside.items.items c.deref.result.now c.args.number c.binary_search.result c.is_ok.result c.deref.ensures.0 c.self.invariant.0 c.binary_search.ensures.position c.is_ok.ensures.value)

pub returns-clause-among : goal.returns-clause-among
returns-clause-among c = among_from c.args.self.now.list c.args.number c.is_ok.result
    (returns-clause-there c)
