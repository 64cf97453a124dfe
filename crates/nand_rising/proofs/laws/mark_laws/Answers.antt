use Rattle.nand_rising.proofs.MarkLemmas.{good_are_good, good_rise, good_are_all}
use Rattle.nand_rising.proofs.laws.mark_laws.Goals as goal

pub returns : goal.returns
returns c = record { good = good_are_good; rise = good_rise; all = good_are_all }
