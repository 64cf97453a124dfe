use Rattle.std.proofs.Common.{◌≡◌, ◌≤◌, is_some}
use Rattle.ipl_format.specs.Page.{value_in}
use Rattle.ipl_meaning.specs.First.{count_below}
use Rattle.image_check.proofs.counting.count_slots.Given as goal

abbrev pub invariant-loop-slot : goal.invariant-loop-slot
invariant-loop-slot l = record {
  counted : l.count ≡ count_below (λ slot. is_some (value_in l.page slot)) l.slot;
  small : l.count ≤ l.slot;
}
