use Rattle.place_taking.proofs.CountedLemmas.{each_tried_is_next, erases_count, others_count_as_before, untried_places_stay_free}
use Rattle.place_taking.proofs.laws.count_laws.Goals as goal

pub returns-clause-others : goal.returns-clause-others
returns-clause-others c = others_count_as_before

pub returns-clause-erased : goal.returns-clause-erased
returns-clause-erased c = erases_count

pub returns-clause-free : goal.returns-clause-free
returns-clause-free c = untried_places_stay_free

pub returns-clause-next : goal.returns-clause-next
returns-clause-next c = each_tried_is_next
