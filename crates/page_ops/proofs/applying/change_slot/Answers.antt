use Rattle.std.proofs.Common.{◌≤◌, Some, ap, subst, sym, ◌∙◌}
use Rattle.std.specs.Prelude.{List, ℕ, Option, slice_set}
use Rattle.ipl_base.specs.declared.limits.TheConstants.{PAGE_LEN}
use Rattle.ipl_base.specs.Sizes.{size_of_values}
use Rattle.ipl_format.specs.Page.{value_in}
use Rattle.log_records.specs.View.{change_of}
use Rattle.page_ops.proofs.RoomLemmas.{text_fits}
use Rattle.page_ops.proofs.applying.change_slot.Goals as goal

pub set-requires-clause-room : goal.set-requires-clause-room
set-requires-clause-room c =
    text_fits c.args.map.now c.args.slot (Some c.bytes.result.now) c.text.ensures.text.slots
    (subst (λ (o : Option (List ℕ)). size_of_values (value_in (slice_set c.args.map.now c.args.slot o))
    ≤ PAGE_LEN)
    (ap change_of c.in-Put.is ∙ sym (ap (λ (v : List ℕ). Some v) c.bytes.ensures.value)) c.requires.room)
