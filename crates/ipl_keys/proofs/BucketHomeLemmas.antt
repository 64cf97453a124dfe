-- Keys stay in their bucket.
use Rattle.std.proofs.Common.{[], ◌∷◌, All}
use Rattle.std.proofs.lemmas.List.Elements.{All-cons, All-head, All-tail, All-filter}
use Rattle.std.specs.declared.cmp.Ordering.TheVariants.{Less, Equal, Greater}
use Rattle.std.specs.FinMap.Entries.{by_order}
use Rattle.ipl_keys.specs.BucketPairs.{by_bytes, is_other, set_pair}
use Rattle.ipl_keys.specs.BucketLaws.{SetsKeepHome, RemovalsKeepHome}
use Rattle.ipl_keys.specs.BucketHome.{LivesAt}

pub sets_keep_home : SetsKeepHome
sets_keep_home units name key value [] lives each = All-cons (LivesAt units name) (key, value) [] lives each
sets_keep_home units name key value (p ∷ pairs) lives each =
    let first = All-head (LivesAt units name) p pairs each in
    let tail = All-tail (LivesAt units name) p pairs each in
    elim (by_bytes key p.0) as (λ r. All (LivesAt units name) (by_order r ((key, value) ∷ p ∷ pairs) ((p.0, value) ∷ pairs) (p ∷ set_pair key value pairs))) [
      | Less ↦ All-cons (LivesAt units name) (key, value) (p ∷ pairs) lives each
      | Equal ↦ All-cons (LivesAt units name) (p.0, value) pairs first tail
      | Greater ↦ All-cons (LivesAt units name) p (set_pair key value pairs) first (sets_keep_home units name key value pairs lives tail)
    ]

pub removals_keep_home : RemovalsKeepHome
removals_keep_home units name key pairs each = All-filter (is_other key) (LivesAt units name) pairs each
