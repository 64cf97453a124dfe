use Rattle.ipl_meaning.proofs.MergeFollowLemmas.{counted_follow_merges}
use Rattle.ipl_meaning.proofs.RenewalFollowLemmas.{counted_follow_renewals}
use Rattle.ipl_meaning.proofs.OverflowFollowLemmas.{counted_follow_overflows}
use Rattle.ipl_meaning.proofs.MarkLemmas.{counted_follow_ends_of_marks}
use Rattle.ipl_meaning.proofs.laws.counting_laws.Goals as goal

pub returns : goal.returns
returns c = record {
  merge_counted = counted_follow_merges;
  renewal_counted = counted_follow_renewals;
  overflow_counted = counted_follow_overflows;
  end_counted = counted_follow_ends_of_marks;
}
