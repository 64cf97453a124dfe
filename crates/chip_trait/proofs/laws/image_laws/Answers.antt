use Rattle.chip_trait.proofs.ImageLemmas.{held_is_image, image_if_closed, image_before_barrier, closed_is_quiet, named_in_quiet, headers_in_quiet}
use Rattle.chip_trait.proofs.laws.image_laws.Goals as goal

pub returns-clause-held : goal.returns-clause-held
returns-clause-held c = held_is_image

pub returns-clause-closed : goal.returns-clause-closed
returns-clause-closed c = image_if_closed

pub returns-clause-barrier : goal.returns-clause-barrier
returns-clause-barrier c = image_before_barrier

pub returns-clause-closed_quiet : goal.returns-clause-closed_quiet
returns-clause-closed_quiet c = closed_is_quiet

pub returns-clause-quiet : goal.returns-clause-quiet
returns-clause-quiet c = named_in_quiet

pub returns-clause-headers : goal.returns-clause-headers
returns-clause-headers c = headers_in_quiet
