use Rattle.std.proofs.Common.{ℕ, ◌+◌, ◌<◌, length, map, take, sym, subst, arith}
use Rattle.std.proofs.lemmas.List.{get_or-map, length-map}
use Rattle.ipl_base.specs.declared.name.Name.{Name}
use Rattle.serial_view.specs.Running.{Sets}
use Rattle.serial_view.proofs.SetLemmas.{sets_none, sets_more}
use Rattle.serial_view.proofs.size_table.clear_sizes.Goals as goal

pub loop-name-init : goal.loop-name-init
loop-name-init c = sets_none (λ n. 0) c.args.sizes.now.items

pub loop-name-preserved : goal.loop-name-preserved
loop-name-preserved c =
    let number : Name → ℕ = λ n. n.0 in
    let names = map number c.args.names.now in
    let i = c.loop-name.name-index in
    let within : i < length names = omega (arith, c.loop-name-test.true, length-map c.args.names.now number) in
    subst (Sets (take (i + 1) names) (λ n. 0) c.args.sizes.now.items) (sym c.set_size.ensures)
    (sets_more names (λ n. 0) c.args.sizes.now.items c.loop-name.sizes.items i _ within
    (get_or-map number c.args.names.now i _ 0 c.loop-name-test.true) c.loop-name.invariant)
