use Rattle.std.proofs.Common.{◌↔◌, IsTrue, true, false, Ok, Err, refl, subst}
use Rattle.std.specs.List.{Contains}
use Rattle.number_set.specs.Numbers.{Numbers}
use Rattle.number_set.proofs.AmongLemmas.{among_from}
use Rattle.number_set.proofs.SearchLemmas.{found_iff}
use Rattle.number_set.proofs.number_set.NumberSet.rank.Goals as goal

pub returns-in-Ok-clause-among : goal.returns-in-Ok-clause-among
returns-in-Ok-clause-among c = among_from c.args.self.now.list c.args.number true
    (subst (λ (v : Numbers). IsTrue true ↔ Contains v.list c.args.number) c.self.view_is
    (found_iff c.self.inside.items.items c.deref.result.now c.args.number (Ok c.in-Ok.at) true
    c.deref.ensures.0 c.self.invariant.0 c.in-Ok.ensures.position refl))

pub returns-in-Err-clause-among : goal.returns-in-Err-clause-among
returns-in-Err-clause-among c = among_from c.args.self.now.list c.args.number false
    (subst (λ (v : Numbers). IsTrue false ↔ Contains v.list c.args.number) c.self.view_is
    (found_iff c.self.inside.items.items c.deref.result.now c.args.number (Err c.in-Err.field-0) false
    c.deref.ensures.0 c.self.invariant.0 c.in-Err.ensures.position refl))
