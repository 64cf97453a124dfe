use Rattle.nand_rising.proofs.SlotLemmas.{not_erased}
use Rattle.nand_rising.proofs.bytes.is_erased.Goals as goal

pub returns-in_default : goal.returns-in_default
returns-in_default c = record { yes = tt; no = not_erased c.args.bytes.now c.decode.result c.decode.ensures.decoded c.decode.ensures.sector c.in_default.not-Erased }
