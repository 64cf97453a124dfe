use Rattle.ipl_meaning.proofs.OnceLemmas.{charts_agree, fewer_pages_stand, whole_is_every}
use Rattle.ipl_meaning.proofs.RotLemmas.{rot_costs_a_page, rot_tells_apart, every_is_told_apart}
use Rattle.ipl_meaning.proofs.laws.legible_laws.Goals as goal

pub returns : goal.returns
returns c = record { agree = charts_agree; fewer = fewer_pages_stand; whole = whole_is_every; every_apart = every_is_told_apart; rot = rot_costs_a_page; rot_apart = rot_tells_apart }
