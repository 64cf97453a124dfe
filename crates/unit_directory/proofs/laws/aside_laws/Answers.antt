use Rattle.unit_directory.proofs.AsideLemmas.{next_places_are_aside, next_places_leave_ready, ready_places_stay}
use Rattle.unit_directory.proofs.laws.aside_laws.Goals as goal

pub returns-clause-stay : goal.returns-clause-stay
returns-clause-stay c = ready_places_stay

pub returns-clause-aside : goal.returns-clause-aside
returns-clause-aside c = next_places_are_aside

pub returns-clause-ready : goal.returns-clause-ready
returns-clause-ready c = next_places_leave_ready
