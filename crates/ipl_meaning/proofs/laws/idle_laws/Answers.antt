use Rattle.ipl_meaning.proofs.IdleLemmas.{idle_places_do_not_count}
use Rattle.ipl_meaning.proofs.PartLemmas.{losses_do_not_count}
use Rattle.ipl_meaning.proofs.OutsideLemmas.{outside_does_not_count}
use Rattle.ipl_meaning.proofs.laws.idle_laws.Goals as goal

pub returns : goal.returns
returns c = record { idle = idle_places_do_not_count; losses = losses_do_not_count; outside = outside_does_not_count }
