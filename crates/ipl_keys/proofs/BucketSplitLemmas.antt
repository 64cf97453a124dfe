-- Where a key stands among pairs in order, and in their bytes.
use Rattle.std.proofs.Common.{◌≡◌, ◌≤◌, ◌<◌, ◌+◌, ℕ, true, false, cond, List, [], ◌∷◌, ◌++◌, ◌∙◌, ap, ap₂, sym, refl, subst, arith, length, drop, take, All, Some, append_assoc, length-drop, ◌-◌}
use Rattle.std.specs.Prelude.{T, not}
use Rattle.std.specs.declared.cmp.Ordering.{Ordering}
use Rattle.std.specs.declared.cmp.Ordering.TheVariants.{Less, Equal, Greater}
use Rattle.std.specs.Ordering.{is_eq, eq_by_cmp}
use Rattle.std.specs.FinMap.Entries.{by_order, below_all}
use Rattle.std.proofs.lemmas.List.{append-nil, take_at, take_all, drop-drop, drop_all}
use Rattle.std.proofs.lemmas.List.Elements.{All-head, All-tail}
use Rattle.std.proofs.lemmas.Grind.{flat_map-append}
use Rattle.std.proofs.Math.Seq.{take-add}
use Rattle.ipl_keys.specs.BucketPairs.{Pairs, IsRising, by_bytes, value_at, set_pair, remove_pair}
use Rattle.ipl_keys.specs.Bucket.{IsPair, SpellsBucket, pair_bytes, bucket_bytes}
use Rattle.ipl_keys.specs.BucketReading.{pair_len, has_pair, first_key}
use Rattle.ipl_keys.specs.BucketSplits.{Splits}
use Rattle.ipl_keys.proofs.BucketPairLemmas.{Begins, begins, takes}
use Rattle.ipl_keys.proofs.BucketReadLemmas.{t_both, t_first, t_second, is_less, below_less, below_absent, reversed, same_key}

-- the pairs up to a byte are below the key, and those that are left decide
pub record Walk (bytes key : List ℕ) (pairs : Pairs) (from : ℕ) : Type 0 where
  pub done : Pairs
  pub others : Pairs
  pub front : take from bytes ≡ bucket_bytes done
  pub rest : drop from bytes ≡ bucket_bytes others
  pub each : All IsPair others
  pub rising : IsRising others
  pub set : (value : List ℕ) → set_pair key value pairs ≡ done ++ set_pair key value others
  pub removed : remove_pair key pairs ≡ done ++ remove_pair key others
  pub found : value_at key pairs ≡ value_at key others

pub walk_none : (bytes key : List ℕ) (pairs : Pairs) → SpellsBucket bytes pairs → Walk bytes key pairs 0
walk_none bytes key pairs s = record {
  done = [];
  others = pairs;
  front = refl;
  rest = s.text;
  each = s.bucket.each;
  rising = s.bucket.rising;
  set = λ value. refl;
  removed = refl;
  found = refl;
}

-- ---- the pair at hand

pub record Stands (bytes : List ℕ) (from : ℕ) (p : List ℕ × List ℕ) (tail : Pairs) : Type 0 where
  pub start : Begins (drop from bytes) p (bucket_bytes tail)
  pub each : All IsPair tail
  pub above : T (below_all by_bytes p.0 tail)
  pub rising : IsRising tail

pub record Next (bytes key : List ℕ) (pairs : Pairs) (from : ℕ) : Type 0 where
  pub done : Pairs
  pub pair : List ℕ × List ℕ
  pub tail : Pairs
  pub front : take from bytes ≡ bucket_bytes done
  pub rest : drop from bytes ≡ bucket_bytes (pair ∷ tail)
  pub stands : Stands bytes from pair tail
  pub set : (value : List ℕ) → set_pair key value pairs ≡ done ++ set_pair key value (pair ∷ tail)
  pub removed : remove_pair key pairs ≡ done ++ remove_pair key (pair ∷ tail)
  pub found : value_at key pairs ≡ value_at key (pair ∷ tail)

next_of : (bytes key : List ℕ) (pairs : Pairs) (from : ℕ) (done others : Pairs) → take from bytes ≡ bucket_bytes done → drop from bytes ≡ bucket_bytes others
    → All IsPair others → IsRising others → ((value : List ℕ) → set_pair key value pairs ≡ done ++ set_pair key value others)
    → remove_pair key pairs ≡ done ++ remove_pair key others → value_at key pairs ≡ value_at key others → from < length bytes → Next bytes key pairs from
next_of bytes key pairs from done [] front rest each rising set removed found some = absurd (omega (arith, ap length rest, length-drop from bytes))
next_of bytes key pairs from done (p ∷ tail) front rest each rising set removed found some = record {
  done = done;
  pair = p;
  tail = tail;
  front = front;
  rest = rest;
  stands = record {
    start = begins (drop from bytes) p (bucket_bytes tail) (All-head IsPair p tail each) rest;
    each = All-tail IsPair p tail each;
    above = t_first _ _ rising;
    rising = t_second _ _ rising;
  };
  set = set;
  removed = removed;
  found = found;
}

pub next : (bytes key : List ℕ) (pairs : Pairs) (from : ℕ) → Walk bytes key pairs from → from < length bytes → Next bytes key pairs from
next bytes key pairs from w some = next_of bytes key pairs from w.done w.others w.front w.rest w.each w.rising w.set w.removed w.found some

-- ---- one pair on

put_past : (key value : List ℕ) (p : List ℕ × List ℕ) (tail : Pairs) → by_bytes key p.0 ≡ Greater → set_pair key value (p ∷ tail) ≡ p ∷ set_pair key value tail
put_past key value p tail e = ap (λ (r : Ordering). by_order r ((key, value) ∷ p ∷ tail) ((p.0, value) ∷ tail) (p ∷ set_pair key value tail)) e

remove_past : (key : List ℕ) (p : List ℕ × List ℕ) (tail : Pairs) → eq_by_cmp by_bytes key p.0 ≡ false → remove_pair key (p ∷ tail) ≡ p ∷ remove_pair key tail
remove_past key p tail e = ap (λ b. cond (not b) (p ∷ remove_pair key tail) (remove_pair key tail)) e

find_past : (key : List ℕ) (p : List ℕ × List ℕ) (tail : Pairs) → eq_by_cmp by_bytes key p.0 ≡ false → value_at key (p ∷ tail) ≡ value_at key tail
find_past key p tail e = ap (λ b. cond b (Some p.1) (value_at key tail)) e

one_more : (done : Pairs) (p : List ℕ × List ℕ) → bucket_bytes (done ++ p ∷ []) ≡ bucket_bytes done ++ pair_bytes p
one_more done p = flat_map-append pair_bytes done (p ∷ []) ∙ ap (λ (xs : List ℕ). bucket_bytes done ++ xs) (append-nil (pair_bytes p))

front_more : (bytes : List ℕ) (from : ℕ) (done tail : Pairs) (p : List ℕ × List ℕ) → take from bytes ≡ bucket_bytes done
    → drop from bytes ≡ bucket_bytes (p ∷ tail) → pair_len (drop from bytes) ≡ length (pair_bytes p)
    → take (from + pair_len (drop from bytes)) bytes ≡ bucket_bytes (done ++ p ∷ [])
front_more bytes from done tail p front rest size =
    take-add from (pair_len (drop from bytes)) bytes
    ∙ (ap₂ (λ (xs ys : List ℕ). xs ++ ys) front (ap (take (pair_len (drop from bytes))) rest ∙ take_at (pair_bytes p) (bucket_bytes tail) (pair_len (drop from bytes)) (sym size))
    ∙ sym (one_more done p))

pub walk_more : (bytes key : List ℕ) (pairs : Pairs) (from until : ℕ) → Walk bytes key pairs from → from < length bytes
    → until ≡ from + pair_len (drop from bytes) → by_bytes (first_key (drop from bytes)) key ≡ Less → Walk bytes key pairs until
walk_more bytes key pairs from until w some until_is less =
    let n = next bytes key pairs from w some in
    let p = n.pair in
    let b = n.stands.start in
    let more : by_bytes key p.0 ≡ Greater = reversed p.0 key Less (ap (λ (k : List ℕ). by_bytes k key) (sym b.key) ∙ less) in
    let apart : eq_by_cmp by_bytes key p.0 ≡ false = ap is_eq more in
    let is : Walk bytes key pairs (from + pair_len (drop from bytes)) = record {
      done = n.done ++ p ∷ [];
      others = n.tail;
      front = front_more bytes from n.done n.tail p n.front n.rest b.size;
      rest = sym (drop-drop (pair_len (drop from bytes)) from bytes) ∙ b.after;
      each = n.stands.each;
      rising = n.stands.rising;
      set = λ value. n.set value ∙ (ap (λ (ps : Pairs). n.done ++ ps) (put_past key value p n.tail more) ∙ sym (append_assoc n.done (p ∷ []) (set_pair key value n.tail)));
      removed = n.removed ∙ (ap (λ (ps : Pairs). n.done ++ ps) (remove_past key p n.tail apart) ∙ sym (append_assoc n.done (p ∷ []) (remove_pair key n.tail)));
      found = n.found ∙ find_past key p n.tail apart;
    } in
    subst (λ (i : ℕ). Walk bytes key pairs i) (sym until_is) is

-- ---- the three ends

split_end : (bytes key : List ℕ) (pairs : Pairs) (from : ℕ) (done others : Pairs) → take from bytes ≡ bucket_bytes done → drop from bytes ≡ bucket_bytes others
    → ((value : List ℕ) → set_pair key value pairs ≡ done ++ set_pair key value others)
    → remove_pair key pairs ≡ done ++ remove_pair key others → value_at key pairs ≡ value_at key others → length bytes ≤ from → Splits bytes key pairs from from
split_end bytes key pairs from done [] front rest set removed found past = record {
  below = done;
  above = [];
  front = front;
  back = rest;
  set = set;
  removed = removed;
  absent = λ same. found;
  present = λ less. absurd (omega arith);
}
split_end bytes key pairs from done (p ∷ tail) front rest set removed found past =
    absurd (omega (arith, ap length (sym (drop_all from bytes past) ∙ rest)))

pub split_past : (bytes key : List ℕ) (pairs : Pairs) (from : ℕ) → Walk bytes key pairs from → length bytes ≤ from → Splits bytes key pairs from from
split_past bytes key pairs from w past = split_end bytes key pairs from w.done w.others w.front w.rest w.set w.removed w.found past

put_before : (key value : List ℕ) (p : List ℕ × List ℕ) (tail : Pairs) → by_bytes key p.0 ≡ Less → set_pair key value (p ∷ tail) ≡ (key, value) ∷ p ∷ tail
put_before key value p tail e = ap (λ (r : Ordering). by_order r ((key, value) ∷ p ∷ tail) ((p.0, value) ∷ tail) (p ∷ set_pair key value tail)) e

pub split_before : (bytes key : List ℕ) (pairs : Pairs) (from : ℕ) → Walk bytes key pairs from → from < length bytes
    → by_bytes (first_key (drop from bytes)) key ≡ Greater → Splits bytes key pairs from from
split_before bytes key pairs from w some greater =
    let n = next bytes key pairs from w some in
    let p = n.pair in
    let less : by_bytes key p.0 ≡ Less = reversed p.0 key Greater (ap (λ (k : List ℕ). by_bytes k key) (sym n.stands.start.key) ∙ greater) in
    let none = below_absent key (p ∷ n.tail) (t_both _ _ (is_less _ less) (below_less key p.0 n.tail less n.stands.above)) in
    record {
      below = n.done;
      above = p ∷ n.tail;
      front = n.front;
      back = n.rest;
      set = λ value. n.set value ∙ ap (λ (ps : Pairs). n.done ++ ps) (put_before key value p n.tail less);
      removed = n.removed ∙ ap (λ (ps : Pairs). n.done ++ ps) none.kept;
      absent = λ same. n.found ∙ none.none;
      present = λ h. absurd (omega arith);
    }

put_over : (key value : List ℕ) (p : List ℕ × List ℕ) (tail : Pairs) → by_bytes key p.0 ≡ Equal → set_pair key value (p ∷ tail) ≡ (key, value) ∷ tail
put_over key value p tail e =
    ap (λ (r : Ordering). by_order r ((key, value) ∷ p ∷ tail) ((p.0, value) ∷ tail) (p ∷ set_pair key value tail)) e
    ∙ ap (λ (k : List ℕ). (k, value) ∷ tail) (sym (same_key key p.0 e))

pub split_on : (bytes key : List ℕ) (pairs : Pairs) (from until : ℕ) → Walk bytes key pairs from → from < length bytes
    → until ≡ from + pair_len (drop from bytes) → by_bytes (first_key (drop from bytes)) key ≡ Equal → Splits bytes key pairs from until
split_on bytes key pairs from until w some until_is tied =
    let n = next bytes key pairs from w some in
    let p = n.pair in
    let b = n.stands.start in
    let equal : by_bytes key p.0 ≡ Equal = reversed p.0 key Equal (ap (λ (k : List ℕ). by_bytes k key) (sym b.key) ∙ tied) in
    let here : eq_by_cmp by_bytes key p.0 ≡ true = ap is_eq equal in
    let none = below_absent key n.tail (subst (λ (k : List ℕ). T (below_all by_bytes k n.tail)) (sym (same_key key p.0 equal)) n.stands.above) in
    let long = (takes (drop from bytes) b.test).some in
    record {
      below = n.done;
      above = n.tail;
      front = n.front;
      back = ap (λ (i : ℕ). drop i bytes) until_is ∙ (sym (drop-drop (pair_len (drop from bytes)) from bytes) ∙ b.after);
      set = λ value. n.set value ∙ ap (λ (ps : Pairs). n.done ++ ps) (put_over key value p n.tail equal);
      removed = n.removed ∙ ap (λ (ps : Pairs). n.done ++ ps)
          (ap (λ t. cond (not t) (p ∷ remove_pair key n.tail) (remove_pair key n.tail)) here ∙ none.kept);
      absent = λ same. absurd (omega (arith, long, until_is, same));
      present = λ less. n.found ∙ (ap (λ t. cond t (Some p.1) (value_at key n.tail)) here ∙ ap (λ (v : List ℕ). Some v) (sym b.value));
    }

-- a pair stands wherever something is left
pub has_next : (bytes key : List ℕ) (pairs : Pairs) (from : ℕ) → Walk bytes key pairs from → from < length bytes → has_pair (drop from bytes) ≡ true
has_next bytes key pairs from w some = (next bytes key pairs from w some).stands.start.test

-- ---- for the loop over the bytes

-- the slice from a byte on
pub from_on : (i : ℕ) (bytes : List ℕ) → take (length bytes - i) (drop i bytes) ≡ drop i bytes
from_on i bytes = take_all (length bytes - i) (drop i bytes) (omega (arith, length-drop i bytes))

pub key_read : (i : ℕ) (bytes key first : List ℕ) (r : Ordering) → first ≡ first_key (take (length bytes - i) (drop i bytes)) → r ≡ by_bytes first key
    → by_bytes (first_key (drop i bytes)) key ≡ r
key_read i bytes key first r is compared = ap (λ (xs : List ℕ). by_bytes (first_key xs) key) (sym (from_on i bytes)) ∙ (ap (λ (k : List ℕ). by_bytes k key) (sym is) ∙ sym compared)

pub len_read : (i len : ℕ) (bytes : List ℕ) → len ≡ pair_len (take (length bytes - i) (drop i bytes)) → i + len ≡ i + pair_len (drop i bytes)
len_read i len bytes is = ap (λ (n : ℕ). i + n) (is ∙ ap pair_len (from_on i bytes))

pub next_read : (bytes key : List ℕ) (pairs : Pairs) (from : ℕ) → Walk bytes key pairs from → from < length bytes
    → has_pair (take (length bytes - from) (drop from bytes)) ≡ true
next_read bytes key pairs from w some = ap has_pair (from_on from bytes) ∙ has_next bytes key pairs from w some
