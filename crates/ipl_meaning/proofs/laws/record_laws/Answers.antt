use Rattle.ipl_meaning.proofs.LastLemmas.{the_last_gives_the_value, merges_carry_the_last, commits_apply_the_last, packs_are_the_list, packs_fit}
use Rattle.ipl_meaning.proofs.PackLemmas.{few_are_carried}
use Rattle.ipl_meaning.proofs.SizeLemmas.{texts_have_sizes, short_values_have_room}
use Rattle.ipl_meaning.proofs.laws.record_laws.Goals as goal

pub returns : goal.returns
returns c =
    record {
      value = the_last_gives_the_value;
      carries = merges_carry_the_last;
      applies = commits_apply_the_last;
      packs = packs_are_the_list;
      fits = packs_fit;
      few = few_are_carried;
      sizes = texts_have_sizes;
      room = short_values_have_room;
    }
