use Rattle.ipl_meaning.proofs.IdleFollowLemmas.{tables_follow_idle_places, places_may_be_taken, counts_are_free, retired_are_free, places_may_be_retired}
use Rattle.ipl_meaning.proofs.MergeFollowLemmas.{tables_follow_merges}
use Rattle.ipl_meaning.proofs.RenewalFollowLemmas.{tables_follow_renewals}
use Rattle.ipl_meaning.proofs.OverflowFollowLemmas.{tables_follow_overflows}
use Rattle.ipl_meaning.proofs.MarkLemmas.{tables_follow_ends_of_marks}
use Rattle.ipl_meaning.proofs.laws.moving_laws.Goals as goal

pub returns : goal.returns
returns c = record {
  idle_places = tables_follow_idle_places;
  taken = places_may_be_taken;
  counts = counts_are_free;
  retired = retired_are_free;
  worn = places_may_be_retired;
  merges = tables_follow_merges;
  renewals = tables_follow_renewals;
  overflows = tables_follow_overflows;
  ends_of_marks = tables_follow_ends_of_marks;
}
