-- A bucket's bytes with a key set, and without one.
use Rattle.std.proofs.Common.{◌≡◌, ◌≤◌, ◌+◌, ◌-◌, ℕ, List, [], ◌∷◌, ◌++◌, ◌∙◌, ap, ap₂, sym, refl, subst, arith, length, drop, take, All, append_assoc, length-append, length-drop}
use Rattle.std.specs.declared.cmp.Ordering.TheVariants.{Less, Equal, Greater}
use Rattle.std.specs.FinMap.Entries.{by_order}
use Rattle.std.proofs.lemmas.List.{length-take-le}
use Rattle.std.proofs.lemmas.List.Elements.{All-cons, All-head, All-tail, All-filter}
use Rattle.std.proofs.lemmas.Grind.{flat_map-append}
use Rattle.ipl_keys.specs.BucketPairs.{Pairs, by_bytes, is_other, set_pair, remove_pair}
use Rattle.ipl_keys.specs.Bucket.{IsPair, SpellsBucket, pair_bytes, bucket_bytes}
use Rattle.ipl_keys.specs.BucketSplits.{Splits}
use Rattle.ipl_keys.proofs.BucketSplitLemmas.{from_on}
use Rattle.ipl_keys.proofs.BucketLawLemmas.{sets_keep_order, removals_keep_order}

-- ---- pairs stay pairs

same_values : (p : List ℕ × List ℕ) (value : List ℕ) → IsPair p → length value ≤ 200 → IsPair (p.0, value)
same_values p value h short = record { some = h.some; key = h.key; value = short }

all_set : (key value : List ℕ) (pairs : Pairs) → IsPair (key, value) → All IsPair pairs → All IsPair (set_pair key value pairs)
all_set key value [] is each = All-cons IsPair (key, value) [] is each
all_set key value (p ∷ pairs) is each =
    let first = All-head IsPair p pairs each in
    let tail = All-tail IsPair p pairs each in
    elim (by_bytes key p.0) as (λ r. All IsPair (by_order r ((key, value) ∷ p ∷ pairs) ((p.0, value) ∷ pairs) (p ∷ set_pair key value pairs))) [
      | Less ↦ All-cons IsPair (key, value) (p ∷ pairs) is each
      | Equal ↦ All-cons IsPair (p.0, value) pairs (same_values p value first is.value) tail
      | Greater ↦ All-cons IsPair p (set_pair key value pairs) first (all_set key value pairs is tail)
    ]

-- ---- the bytes

pub set_bytes : (bytes key value : List ℕ) (pairs : Pairs) (from until : ℕ) → Splits bytes key pairs from until
    → (take from bytes ++ pair_bytes (key, value)) ++ drop until bytes ≡ bucket_bytes (set_pair key value pairs)
set_bytes bytes key value pairs from until h =
    ap₂ (λ (xs ys : List ℕ). (xs ++ pair_bytes (key, value)) ++ ys) h.front h.back
    ∙ (append_assoc (bucket_bytes h.below) (pair_bytes (key, value)) (bucket_bytes h.above)
    ∙ (sym (flat_map-append pair_bytes h.below ((key, value) ∷ h.above)) ∙ ap bucket_bytes (sym (h.set value))))

pub removed_bytes : (bytes key : List ℕ) (pairs : Pairs) (from until : ℕ) → Splits bytes key pairs from until
    → take from bytes ++ drop until bytes ≡ bucket_bytes (remove_pair key pairs)
removed_bytes bytes key pairs from until h =
    ap₂ (λ (xs ys : List ℕ). xs ++ ys) h.front h.back ∙ (sym (flat_map-append pair_bytes h.below h.above) ∙ ap bucket_bytes (sym h.removed))

-- what stands in a part up to a byte, and from one on
pub parts_len : (bytes : List ℕ) (from until : ℕ) → from ≤ until → until ≤ length bytes
    → length (take from bytes) + length (drop until bytes) ≤ length bytes
parts_len bytes from until order within =
    omega (arith, length-take-le from bytes (omega arith), length-drop until bytes)

pub set_spelled : (bytes key value : List ℕ) (pairs : Pairs) (from until : ℕ) (out : List ℕ) → SpellsBucket bytes pairs → Splits bytes key pairs from until
    → IsPair (key, value) → out ≡ (take from bytes ++ pair_bytes (key, value)) ++ take (length bytes - until) (drop until bytes)
    → length out ≤ 464 → SpellsBucket out (set_pair key value pairs)
set_spelled bytes key value pairs from until out s h is out_is short =
    let text : out ≡ bucket_bytes (set_pair key value pairs) =
    out_is ∙ (ap (λ (xs : List ℕ). (take from bytes ++ pair_bytes (key, value)) ++ xs) (from_on until bytes) ∙ set_bytes bytes key value pairs from until h) in
    record {
      bucket = record {
        each = all_set key value pairs is s.bucket.each;
        rising = sets_keep_order key value pairs s.bucket.rising;
        short = subst (λ (xs : List ℕ). length xs ≤ 464) text short;
      };
      text = text;
    }

pub removed_spelled : (bytes key : List ℕ) (pairs : Pairs) (from until : ℕ) (out : List ℕ) → SpellsBucket bytes pairs → Splits bytes key pairs from until
    → out ≡ take from bytes ++ take (length bytes - until) (drop until bytes) → from ≤ until → until ≤ length bytes
    → SpellsBucket out (remove_pair key pairs)
removed_spelled bytes key pairs from until out s h out_is order within =
    let parts : out ≡ take from bytes ++ drop until bytes = out_is ∙ ap (λ (xs : List ℕ). take from bytes ++ xs) (from_on until bytes) in
    let text : out ≡ bucket_bytes (remove_pair key pairs) = parts ∙ removed_bytes bytes key pairs from until h in
    let whole : length bytes ≤ 464 = subst (λ (xs : List ℕ). length xs ≤ 464) (sym s.text) s.bucket.short in
    let short : length out ≤ 464 = omega (arith, ap length parts, length-append (take from bytes) (drop until bytes), parts_len bytes from until order within, whole) in
    record {
      bucket = record {
        each = All-filter (is_other key) IsPair pairs s.bucket.each;
        rising = removals_keep_order key pairs s.bucket.rising;
        short = subst (λ (xs : List ℕ). length xs ≤ 464) text short;
      };
      text = text;
    }

left_none : (pairs : Pairs) → length (bucket_bytes pairs) ≡ 0 → pairs ≡ []
left_none [] e = refl
left_none (p ∷ pairs) e = absurd (omega (arith, e))

-- no bytes are left exactly where no pair is
pub removed_none : (bytes key : List ℕ) (pairs : Pairs) (from until len : ℕ) → Splits bytes key pairs from until
    → len ≡ length (take from bytes) + length (take (length bytes - until) (drop until bytes))
    → (len ≡ 0 → remove_pair key pairs ≡ []) × (remove_pair key pairs ≡ [] → len ≡ 0)
removed_none bytes key pairs from until len h len_is =
    let same : take from bytes ++ take (length bytes - until) (drop until bytes) ≡ bucket_bytes (remove_pair key pairs) =
    ap (λ (xs : List ℕ). take from bytes ++ xs) (from_on until bytes) ∙ removed_bytes bytes key pairs from until h in
    let long : len ≡ length (bucket_bytes (remove_pair key pairs)) =
    len_is ∙ (sym (length-append (take from bytes) (take (length bytes - until) (drop until bytes))) ∙ ap length same) in (
      λ e. left_none (remove_pair key pairs) (sym long ∙ e),
      λ e. long ∙ ap (λ (ps : Pairs). length (bucket_bytes ps)) e,
    )

pub set_short : (bytes key value : List ℕ) (from until : ℕ) (out : List ℕ)
    → out ≡ (take from bytes ++ pair_bytes (key, value)) ++ take (length bytes - until) (drop until bytes) → from ≤ until → until ≤ length bytes
    → length (take from bytes) + 2 + length key + length value + length (take (length bytes - until) (drop until bytes)) ≤ 464 → length out ≤ 464
set_short bytes key value from until out is order within fits =
    let back = take (length bytes - until) (drop until bytes) in
    omega (
      arith,
      ap length is,
      length-append (take from bytes ++ pair_bytes (key, value)) back,
      length-append (take from bytes) (pair_bytes (key, value)),
      length-append key (length value ∷ value),
      fits,
    )
