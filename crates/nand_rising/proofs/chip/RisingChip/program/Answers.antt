use Rattle.chip_trait.specs.declared.event.Event.TheVariants.{Program}
use Rattle.nand_rising.specs.Views.{part_of, next_of}
use Rattle.nand_rising.proofs.KnownLemmas.{same_contents}
use Rattle.nand_rising.proofs.OrderLemmas.{goes_on_after_reads}
use Rattle.nand_rising.proofs.chip.RisingChip.program.Goals as goal

pub returns-in-Ok-Some-clause-goes_on : goal.returns-in-Ok-Some-clause-goes_on
returns-in-Ok-Some-clause-goes_on g c =
    goes_on_after_reads c.put.result (Program c.args.p c.args.s c.args.from.now) (next_of c.args.self.now) (next_of c.step.new.self) (next_of c.put.new.self)
    (part_of c.args.self.now).contents (part_of c.step.new.self).contents (part_of c.put.new.self).contents c.step.ensures.only.next (same_contents (part_of c.args.self.now) (part_of c.step.new.self) c.step.ensures.only.only) c.put.ensures.goes_on
