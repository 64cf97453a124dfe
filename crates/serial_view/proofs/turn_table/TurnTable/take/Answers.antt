use Rattle.std.proofs.Common.{List, ℕ, subst}
use Rattle.std.specs.List.{Contains}
use Rattle.ipl_model.specs.declared.command.Command.{Command}
use Rattle.ipl_model.specs.declared.command.Command.TheVariants as command
use Rattle.serial_view.specs.Turns.{HasSlot}
use Rattle.serial_view.proofs.turn_table.TurnTable.take.Goals as goal

pub append_batch-requires : goal.append_batch-requires
append_batch-requires c = λ s at.
    let slots : HasSlot (command.Batch c.in-Batch.sessions) = subst (λ (d : Command). HasSlot d) c.in-Batch.is c.requires in
    slots s (subst (λ (l : List ℕ). Contains l s) c.numbers.ensures.value at)
