use Rattle.image_check.proofs.CheckLemmas.{checked_chips_stand, standing_chips_have_no_fault, records_are_counted}
use Rattle.image_check.proofs.laws.check_laws.Goals as goal

pub returns : goal.returns
returns c = record { stand = checked_chips_stand; fine = standing_chips_have_no_fault; counted = records_are_counted }
