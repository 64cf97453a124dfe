use Rattle.std.proofs.Common.{◌∙◌, ◌≤◌, ◌<◌, length, Some, List, ℕ, sym, ap, arith}
use Rattle.std.proofs.Common.{reverse}
use Rattle.chip_mem.specs.Sectors.{contents_of}
use Rattle.chip_mem.specs.Picked.{chosen}
use Rattle.chip_mem.specs.declared.pick.Choice.{Choice}
use Rattle.chip_mem.proofs.PickLemmas.{chosen_old, chosen_after}
use Rattle.chip_mem.proofs.image.chosen_bytes.Goals as goal

pub returns-in-Old-clause-value : goal.returns-in-Old-clause-value
returns-in-Old-clause-value c =
    let start = contents_of c.args.start.now in
    let pick = c.args.pick.now in
    ap (λ (b : List ℕ). Some b) c.held_at.ensures
    ∙ chosen_old start c.args.events.now pick.place pick.sector c.closed_count-closed.result c.closed_count-closed.ensures.value
    ∙ ap (λ (choice : Choice). chosen start (reverse c.args.events.now) pick.place pick.sector choice) (sym c.in-Old.is)

pub returns-else-events-number-clause-value : goal.returns-else-events-number-clause-value
returns-else-events-number-clause-value c =
    let start = contents_of c.args.start.now in
    let pick = c.args.pick.now in
    let since : c.closed_count-closed.result ≤ c.in-After.number = omega arith in
    let among : c.in-After.number < length c.args.events.now = omega arith in
    ap (λ (b : List ℕ). Some b) c.held_at-in-After.ensures
    ∙ chosen_after start c.args.events.now pick.place pick.sector c.closed_count-closed.result c.in-After.number c.closed_count-closed.ensures.value since among
    ∙ ap (λ (choice : Choice). chosen start (reverse c.args.events.now) pick.place pick.sector choice) (sym c.in-After.is)
