use Rattle.std.proofs.Common.{◌<◌, ◌∙◌, false, Ok, ap, subst, arith}
use Rattle.chip_trait.specs.declared.wear.Wear.{Wear}
use Rattle.ipl_meaning.specs.Tables.{Places, with_use, with_erased}
use Rattle.unit_io.specs.Leads.{Erases}
use Rattle.place_taking.proofs.TurnLemmas.{given_back, place_erased, place_stopped}
use Rattle.place_taking.proofs.taking.take_next.Goals as goal

pub returns-in-Ok-Done : goal.returns-in-Ok-Done
returns-in-Ok-Done g c =
    let old = g.C.Chip.told c.args.chip.now in
    let new = g.C.Chip.told c.begin_unit.new.chip in
    let p = c.take_free-place.result in
    let within : p < old.places = omega (arith, c.take_free-place.ensures.in_range, c.requires.places) in
    place_erased c.args.directory.now p c.take_free-place.ensures.next c.count_erase.new.self old new within
    (c.count_erase.ensures
    ∙ ap (λ (d : Places). with_erased d p) c.take_free-place.ensures.taken)
    (subst (λ (w : Wear). Erases p old (Ok w) new) c.in-Ok-Done.field-0-is
    c.in-Ok-Done.ensures.erases) c.in-Ok-Done.ensures.accounts.counts

pub returns-in-Err : goal.returns-in-Err
returns-in-Err g c =
    let old = g.C.Chip.told c.args.chip.now in
    let p = c.take_free-place.result in
    let within : p < old.places = omega (arith, c.take_free-place.ensures.in_range, c.requires.places) in
    place_stopped c.args.directory.now p c.take_free-place.ensures.next c.in-Err.fault
    c.give_back.new.self old (g.C.Chip.told c.begin_unit.new.chip) within
    (c.give_back.ensures
    ∙ ap (λ (d : Places). with_use d p false) c.take_free-place.ensures.taken
    ∙ given_back c.args.directory.now p c.take_free-place.ensures.free)
    c.in-Err.ensures.erases c.in-Err.ensures.accounts.cause c.in-Err.ensures.accounts.counts
