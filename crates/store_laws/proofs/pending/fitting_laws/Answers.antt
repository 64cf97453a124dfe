use Rattle.store_laws.proofs.TableLemmas.{spares_are_free_or_retired, a_place_is_free}
use Rattle.store_laws.proofs.FitLemmas.{fits_whatever_the_map, sessions_are_sound, merges_are_small}
use Rattle.store_laws.proofs.FirstLemmas.{empty_slots_are_at_rest, first_stores_fit}
use Rattle.store_laws.proofs.pending.fitting_laws.Goals as goal

pub returns : goal.returns
returns c = record {
  spares = spares_are_free_or_retired;
  free = a_place_is_free;
  any_map = fits_whatever_the_map;
  sound = sessions_are_sound;
  small = merges_are_small;
  at_rest = empty_slots_are_at_rest;
  first = first_stores_fit;
}
