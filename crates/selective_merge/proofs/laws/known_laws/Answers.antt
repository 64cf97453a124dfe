use Rattle.selective_merge.proofs.CountLemmas.{known_places_are_ready}
use Rattle.selective_merge.proofs.GrownLemmas.{known_places_take_overflows}
use Rattle.selective_merge.proofs.KnownLemmas.{known_places_may_be_aside, known_places_move}
use Rattle.selective_merge.proofs.laws.known_laws.Goals as goal

pub returns-clause-ready : goal.returns-clause-ready
returns-clause-ready c = known_places_are_ready

pub returns-clause-aside : goal.returns-clause-aside
returns-clause-aside c = known_places_may_be_aside

pub returns-clause-moves : goal.returns-clause-moves
returns-clause-moves c = known_places_move

pub returns-clause-overflows : goal.returns-clause-overflows
returns-clause-overflows c = known_places_take_overflows
