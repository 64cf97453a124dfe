use Rattle.std.proofs.Common.{◌≤◌, Some, ap, subst, sym, ◌∙◌}
use Rattle.std.specs.Prelude.{List, ℕ, Option, option_map, slice_set}
use Rattle.std.specs.Borrow.{Bor}
use Rattle.ipl_base.specs.declared.limits.TheConstants.{PAGE_LEN}
use Rattle.ipl_base.specs.Sizes.{size_of_values}
use Rattle.ipl_format.specs.Page.{value_in}
use Rattle.page_ops.proofs.RoomLemmas.{text_fits}
use Rattle.page_ops.proofs.frame.copy_slot.Goals as goal

pub set-requires-clause-room : goal.set-requires-clause-room
set-requires-clause-room c =
    text_fits c.args.to.now c.args.slot (Some c.in-Some.value.now) c.text.ensures.text.slots
    (subst (λ (o : Option (List ℕ)). size_of_values (value_in (slice_set c.args.to.now c.args.slot o))
    ≤ PAGE_LEN)
    (sym c.get.ensures.value ∙ ap (λ (o : Option (Bor (List ℕ))). option_map (λ b. b.now) o) c.in-Some.is)
    c.requires.room)
