use Rattle.overflow.proofs.SpotLemmas.{spots_are_clean_ones}
use Rattle.overflow.proofs.AddedLemmas.{first_spots_are_added, found_spots_are_added}
use Rattle.overflow.proofs.DroppedLemmas.{drops_move}
use Rattle.overflow.proofs.laws.overflow_laws.Goals as goal

pub returns-clause-spots : goal.returns-clause-spots
returns-clause-spots c = spots_are_clean_ones

pub returns-clause-adds : goal.returns-clause-adds
returns-clause-adds c = first_spots_are_added

pub returns-clause-finds : goal.returns-clause-finds
returns-clause-finds c = found_spots_are_added

pub returns-clause-drops : goal.returns-clause-drops
returns-clause-drops c = drops_move
