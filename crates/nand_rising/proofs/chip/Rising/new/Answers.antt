use Rattle.std.proofs.Common.{◌∙◌, ap}
use Rattle.nand_rising.specs.declared.place.Place.{Place}
use Rattle.nand_rising.specs.Order.{next_of_each}
use Rattle.bounded_vec.specs.Bounded.{Bounded}
use Rattle.nand_rising.proofs.OrderLemmas.{next_none}
use Rattle.nand_rising.proofs.chip.Rising.new.Goals as goal

pub returns-clause-next : goal.returns-clause-next
returns-clause-next g c = ap (λ (v : Bounded Place). next_of_each v.items) c.in_ok-places.ensures ∙ next_none c.places-count.result
