use Rattle.ipl_model.proofs.FillLemmas.{pages_stay_fit, puts_make_pages_fit, records_have_room}
use Rattle.ipl_model.proofs.WeightLemmas.{units_stay_fit, smaller_peaks_are_less}
use Rattle.ipl_model.proofs.rules.fill_laws.Goals as goal

pub returns-clause-stays : goal.returns-clause-stays
returns-clause-stays c = pages_stay_fit

pub returns-clause-puts : goal.returns-clause-puts
returns-clause-puts c = puts_make_pages_fit

pub returns-clause-room : goal.returns-clause-room
returns-clause-room c = records_have_room

pub returns-clause-units : goal.returns-clause-units
returns-clause-units c = units_stay_fit

pub returns-clause-less : goal.returns-clause-less
returns-clause-less c = smaller_peaks_are_less
