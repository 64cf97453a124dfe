-- What a key has after writes, in a map and in the pairs of its bucket.
use Rattle.std.proofs.Common.{◌≡◌, ℕ, Bool, true, false, cond, List, [], ◌∷◌, Option, Some, None, refl, sym, ◌∙◌, ap}
use Rattle.std.specs.Ordering.{is_eq, eq_by_cmp}
use Rattle.std.specs.Option.{option_map_or}
use Rattle.std.specs.declared.cmp.Ordering.{Ordering}
use Rattle.std.specs.declared.cmp.Ordering.TheVariants.{Less, Equal, Greater}
use Rattle.std.specs.FinMap.{get, insert, remove, get-insert, get-remove}
use Rattle.std.proofs.lemmas.Bool.{both_ways, cond-true, cond-false, eq-eqb, false≢true}
use Rattle.ipl_keys.specs.BucketPairs.{Pairs, by_bytes, value_at, set_pair, remove_pair}
use Rattle.ipl_keys.specs.Bucket.{bucket_bytes}
use Rattle.ipl_keys.specs.BucketHome.{bucket_of}
use Rattle.ipl_keys.proofs.BucketReadLemmas.{bytes_total, same_key}
use Rattle.ipl_keys.proofs.BucketLawLemmas.{set_is_found, removed_is_gone}
use Rattle.ipl_keys.specs.KeyState.{KeyMap, KeyWrite, last_key_write, with_key_writes}
use Rattle.ipl_keys.specs.Records.{bytes_of}
use Rattle.ipl_keys.specs.Sessions.{is_on, writes_on, pairs_after, pairs_with, pairs_seen, written}

-- ---- keys

equal_is : (o : Ordering) → is_eq o ≡ true → o ≡ Equal
equal_is Less e = absurd (false≢true e)
equal_is Equal e = refl
equal_is Greater e = absurd (false≢true e)

pub key_is : (one other : List ℕ) → eq_by_cmp by_bytes one other ≡ true → one ≡ other
key_is one other e = same_key one other (equal_is (by_bytes one other) e)

-- ---- one write

-- the map after it
abbrev with_one : KeyWrite → KeyMap → KeyMap
with_one w m = option_map_or (λ value. insert m w.0 value) w.1 (remove m w.0)

one_value : (w : KeyWrite) (m : KeyMap) (key : List ℕ)
    → get (with_one w m) key ≡ cond (eq_by_cmp by_bytes key w.0) w.1 (get m key)
one_value w m key = by_change w.1
  where
    by_change : (change : Option (List ℕ))
        → get (option_map_or (λ value. insert m w.0 value) change (remove m w.0)) key
        ≡ cond (eq_by_cmp by_bytes key w.0) change (get m key)
    by_change None = get-remove bytes_total m w.0 key
    by_change (Some value) = get-insert bytes_total m w.0 value key

after_value : (w : KeyWrite) (pairs : Pairs) (key : List ℕ)
    → value_at key (pairs_after w pairs) ≡ cond (eq_by_cmp by_bytes key w.0) w.1 (value_at key pairs)
after_value w pairs key = by_change w.1
  where
    by_change : (change : Option (List ℕ))
        → value_at key (option_map_or (λ value. set_pair w.0 value pairs) change (remove_pair w.0 pairs))
        ≡ cond (eq_by_cmp by_bytes key w.0) change (value_at key pairs)
    by_change None = removed_is_gone w.0 key pairs
    by_change (Some value) = set_is_found w.0 value key pairs

-- ---- writes

-- a key has in the map what its bucket has, after the same writes
pub written_values : (units : ℕ) (key : List ℕ) (writes : List KeyWrite) (m : KeyMap) (pairs : Pairs)
    → get m key ≡ value_at key pairs
    → get (with_key_writes writes m) key
    ≡ value_at key (pairs_seen units (bucket_of units key) writes pairs)
written_values units key [] m pairs same = same
written_values units key (w ∷ older) m pairs same =
    by_test (is_on units (bucket_of units key) w) refl (written_values units key older m pairs same)
  where
    here : eq_by_cmp by_bytes key w.0 ≡ true → is_on units (bucket_of units key) w ≡ true
    here e = eq-eqb (bucket_of units w.0) (bucket_of units key) (ap (bucket_of units) (sym (key_is key w.0 e)))

    apart : is_on units (bucket_of units key) w ≡ false → (b : Bool) → eq_by_cmp by_bytes key w.0 ≡ b
        → b ≡ false
    apart off true e = absurd (both_ways (is_on units (bucket_of units key) w) off (here e))
    apart off false e = refl

    by_test : (b : Bool) → is_on units (bucket_of units key) w ≡ b
        → get (with_key_writes older m) key
        ≡ value_at key (pairs_with (writes_on units (bucket_of units key) older) pairs)
        → get (with_one w (with_key_writes older m)) key
        ≡ value_at key (pairs_with (cond b (w ∷ writes_on units (bucket_of units key) older)
        (writes_on units (bucket_of units key) older)) pairs)
    by_test true on rest =
        one_value w (with_key_writes older m) key
        ∙ ap (cond (eq_by_cmp by_bytes key w.0) w.1) rest
        ∙ sym (after_value w (pairs_with (writes_on units (bucket_of units key) older) pairs) key)
    by_test false off rest =
        one_value w (with_key_writes older m) key
        ∙ ap (λ (b : Bool). cond b w.1 (get (with_key_writes older m) key))
        (apart off (eq_by_cmp by_bytes key w.0) refl)
        ∙ rest

-- after the writes a key has what was seen through them
pub get-with_key_writes : (writes : List KeyWrite) (m : KeyMap) (key : List ℕ)
    → get (with_key_writes writes m) key
    ≡ option_map_or (λ change. change) (last_key_write writes key) (get m key)
get-with_key_writes [] m key = refl
get-with_key_writes (w ∷ older) m key =
    one_value w (with_key_writes older m) key
    ∙ ap (cond (eq_by_cmp by_bytes key w.0) w.1) (get-with_key_writes older m key)
    ∙ at_key (eq_by_cmp by_bytes key w.0) w.1 (last_key_write older key)
  where
    at_key : (t : Bool) (change : Option (List ℕ)) (o : Option (Option (List ℕ)))
        → cond t change (option_map_or (λ c. c) o (get m key))
        ≡ option_map_or (λ c. c) (cond t (Some change) o) (get m key)
    at_key true change o = refl
    at_key false change o = refl

-- ---- a bucket

-- what is written for pairs are their bytes
pub written_bytes : (pairs : Pairs) → bytes_of (written pairs) ≡ bucket_bytes pairs
written_bytes [] = refl
written_bytes (p ∷ pairs) = refl

-- a write on a bucket, and one on another
pub writes_on_here : (units n : ℕ) (w : KeyWrite) (older : List KeyWrite) → is_on units n w ≡ true
    → writes_on units n (w ∷ older) ≡ w ∷ writes_on units n older
writes_on_here units n w older on =
    cond-true _ (w ∷ writes_on units n older) (writes_on units n older) on

pub writes_on_other : (units n : ℕ) (w : KeyWrite) (older : List KeyWrite) → is_on units n w ≡ false
    → writes_on units n (w ∷ older) ≡ writes_on units n older
writes_on_other units n w older off =
    cond-false _ (w ∷ writes_on units n older) (writes_on units n older) off
