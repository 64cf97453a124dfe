use Rattle.nand_rising.proofs.OrderLemmas.{rising_has_room}
use Rattle.nand_rising.proofs.laws.order_laws.Goals as goal

pub returns : goal.returns
returns c = rising_has_room
