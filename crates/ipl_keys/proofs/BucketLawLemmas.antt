-- The laws of buckets.
use Rattle.std.proofs.Common.{◌≡◌, ℕ, true, false, cond, List, [], ◌∷◌, ◌∙◌, ap, ap₂, sym, refl, arith, length, All, None}
use Rattle.std.specs.Prelude.{Bool, not}
use Rattle.std.specs.Ordering.{is_eq, eq_by_cmp}
use Rattle.std.specs.Cmp.{alike_right, eq_by_cmp_equiv}
use Rattle.std.specs.FinMap.{put, entries-from_sorted, entries-insert, get-from_sorted, same_entries_map, same_map, get-remove}
use Rattle.std.specs.FinMap.Entries.{find-put, find-where_key, is_sorted-put, is_sorted-where_key, same_entries}
use Rattle.std.proofs.lemmas.List.Elements.{All-head, All-tail}
use Rattle.ipl_keys.specs.BucketPairs.{Pairs, by_bytes, value_at, set_pair, remove_pair, map_of}
use Rattle.ipl_keys.specs.Bucket.{IsPair, bucket_bytes}
use Rattle.ipl_keys.specs.BucketLaws.{BucketsSpellOnce, SetIsFound, RemovedIsGone, SetsKeepOrder, RemovalsKeepOrder, MapsHaveValues, MapsAreSet, MapsAreRemoved, PairsByValues}
use Rattle.ipl_keys.proofs.BucketPairLemmas.{begins}
use Rattle.ipl_keys.proofs.BucketReadLemmas.{bytes_total, same_key}

-- ---- one spelling

once : (a b : Pairs) → All IsPair a → All IsPair b → bucket_bytes a ≡ bucket_bytes b → a ≡ b
once [] [] one other same = refl
once [] (q ∷ b) one other same = absurd (omega (arith, ap length same))
once (p ∷ a) [] one other same = absurd (omega (arith, ap length same))
once (p ∷ a) (q ∷ b) one other same =
    let x = begins (bucket_bytes (p ∷ a)) p (bucket_bytes a) (All-head IsPair p a one) refl in
    let y = begins (bucket_bytes (p ∷ a)) q (bucket_bytes b) (All-head IsPair q b other) same in
    let first : p ≡ q = ap₂ (λ (k v : List ℕ). let r : List ℕ × List ℕ = (k, v) in r) (sym x.key ∙ y.key) (sym x.value ∙ y.value) in
    ap₂ (λ (r : List ℕ × List ℕ) (l : Pairs). r ∷ l) first (once a b (All-tail IsPair p a one) (All-tail IsPair q b other) (sym x.after ∙ y.after))

pub buckets_spell_once : BucketsSpellOnce
buckets_spell_once bytes a b one other = once a b one.bucket.each other.bucket.each (sym one.text ∙ other.text)

-- ---- changed pairs

pub set_is_found : SetIsFound
set_is_found key value other pairs = find-put by_bytes bytes_total other key value pairs

turned : {A : Type 0} (b : Bool) (x y : A) → cond (not b) x y ≡ cond b y x
turned true x y = refl
turned false x y = refl

pub removed_is_gone : RemovedIsGone
removed_is_gone key other pairs =
    find-where_key by_bytes (λ k. not (eq_by_cmp by_bytes key k)) other (λ x t. ap (λ r. not (is_eq r)) (sym (alike_right bytes_total other x key t))) pairs
    ∙ (turned (eq_by_cmp by_bytes key other) (value_at other pairs) None ∙ ap (λ (b : Bool). cond b None (value_at other pairs)) ((eq_by_cmp_equiv bytes_total).symm key other))

pub sets_keep_order : SetsKeepOrder
sets_keep_order key value pairs h = is_sorted-put by_bytes bytes_total key value pairs h

pub removals_keep_order : RemovalsKeepOrder
removals_keep_order key pairs h = is_sorted-where_key by_bytes (λ k. not (eq_by_cmp by_bytes key k)) pairs h

-- ---- as a map

pub maps_have_values : MapsHaveValues
maps_have_values key pairs h = get-from_sorted by_bytes pairs key h

pub maps_are_set : MapsAreSet
maps_are_set key value pairs h =
    same_entries_map _ _ (entries-from_sorted by_bytes (set_pair key value pairs) (sets_keep_order key value pairs h)
    ∙ (ap (put by_bytes key value) (sym (entries-from_sorted by_bytes pairs h)) ∙ sym (entries-insert bytes_total (map_of pairs) key value)))

pub maps_are_removed : MapsAreRemoved
maps_are_removed key pairs h =
    same_map bytes_total same_key _ _ (λ q.
    maps_have_values q (remove_pair key pairs) (removals_keep_order key pairs h) ∙ (removed_is_gone key q pairs
    ∙ (ap (cond (eq_by_cmp by_bytes q key) None) (sym (maps_have_values q pairs h)) ∙ sym (get-remove bytes_total (map_of pairs) key q))))

pub pairs_by_values : PairsByValues
pairs_by_values a b one other same = same_entries by_bytes bytes_total same_key a b one other same
