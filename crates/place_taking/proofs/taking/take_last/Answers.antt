use Rattle.std.proofs.Common.{◌<◌, ◌+◌, ℕ, Ok, ap, subst, arith}
use Rattle.ipl_base.specs.declared.fault.ChipFault.TheVariants.{WornOut}
use Rattle.place_taking.specs.declared.taking.Tried.{Tried}
use Rattle.place_taking.specs.Turns.{FindsNextWorn, TriesNext}
use Rattle.place_taking.proofs.TurnLemmas.{place_last}
use Rattle.place_taking.proofs.taking.take_last.Goals as goal

pub returns-in-Worn : goal.returns-in-Worn
returns-in-Worn g c =
    let d = c.args.directory.now in
    let old = g.C.Chip.told c.args.chip.now in
    let mid = g.C.Chip.told c.take_next.new.chip in
    let p = c.in-Worn.place in
    let finds : FindsNextWorn d old p c.take_next.new.directory mid =
    subst (λ (tried : Tried). TriesNext d old (Ok tried) c.take_next.new.directory mid)
    c.in-Worn.is c.in_ok-place.ensures in
    let within : p < old.places = omega (arith, finds.next.within, c.requires.places) in
    place_last d c.take_next.new.directory p old mid within finds c.requires.ready
    (WornOut (1 + c.spares.result)) c.give_back.new.self c.give_back.ensures c.requires.full
    c.facts.ensures.retired.rising (ap (λ (n : ℕ). WornOut (1 + n)) c.spares.ensures.count)
