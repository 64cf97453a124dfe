use Rattle.page_rebuild.proofs.LoadedLemmas.{sound_pages_show_values, whole_units_are_known}
use Rattle.page_rebuild.proofs.laws.load_laws.Goals as goal

pub returns : goal.returns
returns c = record { sound = sound_pages_show_values; known = whole_units_are_known }
