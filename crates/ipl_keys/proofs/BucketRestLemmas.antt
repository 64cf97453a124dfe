-- Whether bytes spell a bucket: what is left of them goes on with keys above the last one.
use Rattle.std.proofs.Common.{◌≡◌, ◌≤◌, ◌<◌, ℕ, zero, suc, true, false, eqb, List, [], ◌∷◌, ◌++◌, ◌∙◌, ap, sym, refl, subst, arith, length, All, ◌+◌, length-append}
use Rattle.std.specs.Prelude.{T}
use Rattle.std.specs.declared.cmp.Ordering.TheVariants.{Less}
use Rattle.std.specs.Ordering.{is_lt}
use Rattle.std.specs.FinMap.Entries.{below_all}
use Rattle.std.proofs.lemmas.Bool.{false≢true}
use Rattle.std.proofs.lemmas.List.Elements.{All-nil, All-cons, All-head, All-tail}
use Rattle.ipl_keys.specs.BucketPairs.{Pairs, IsRising, by_bytes}
use Rattle.ipl_keys.specs.Bucket.{IsPair, IsBucketText, pair_bytes, bucket_bytes}
use Rattle.ipl_keys.specs.BucketReading.{has_pair, first_key, first_value, after_pair}
use Rattle.ipl_keys.proofs.BucketPairLemmas.{begins, takes}
use Rattle.ipl_keys.proofs.BucketReadLemmas.{t_both, t_first, t_second, less_is, is_less, below_less}

-- the rest spells pairs with keys above this one
pub record Rest (key rest : List ℕ) : Type 0 where
  pub pairs : Pairs
  pub each : All IsPair pairs
  pub above : T (below_all by_bytes key pairs)
  pub rising : IsRising pairs
  pub text : rest ≡ bucket_bytes pairs

-- the bytes are pairs where the rest is
pub record Reads (bytes rest last : List ℕ) : Type 0 where
  pub on : Rest [] bytes → Rest last rest
  pub back : Rest last rest → Rest [] bytes

pub reads_none : (bytes : List ℕ) → Reads bytes bytes []
reads_none bytes = record { on = λ r. r; back = λ r. r }

-- ---- one pair on

pub record Starts (rest last : List ℕ) : Type 0 where
  pub test : has_pair rest ≡ true
  pub less : is_lt (by_bytes last (first_key rest)) ≡ true
  pub others : Rest (first_key rest) (after_pair rest)

starts_at : (last rest : List ℕ) (pairs : Pairs) → All IsPair pairs → T (below_all by_bytes last pairs) → IsRising pairs
    → rest ≡ bucket_bytes pairs → 0 < length rest → Starts rest last
starts_at last rest [] each above rising text some = absurd (omega (arith, ap length text))
starts_at last rest (p ∷ pairs) each above rising text some =
    let b = begins rest p (bucket_bytes pairs) (All-head IsPair p pairs each) text in
    let less : by_bytes last p.0 ≡ Less = less_is _ (t_first _ _ above) in
    record {
      test = b.test;
      less = ap (λ (k : List ℕ). is_lt (by_bytes last k)) b.key ∙ ap is_lt less;
      others = record {
        pairs = pairs;
        each = All-tail IsPair p pairs each;
        above = subst (λ (k : List ℕ). T (below_all by_bytes k pairs)) (sym b.key) (t_first _ _ rising);
        rising = t_second _ _ rising;
        text = b.after;
      };
    }

pub starts : (last rest : List ℕ) → Rest last rest → 0 < length rest → Starts rest last
starts last rest r some = starts_at last rest r.pairs r.each r.above r.rising r.text some

goes_back : (last rest : List ℕ) → has_pair rest ≡ true → is_lt (by_bytes last (first_key rest)) ≡ true
    → Rest (first_key rest) (after_pair rest) → Rest last rest
goes_back last rest test less r =
    let t = takes rest test in
    let is : by_bytes last (first_key rest) ≡ Less = less_is _ (subst T (sym less) tt) in
    record {
      pairs = (first_key rest, first_value rest) ∷ r.pairs;
      each = All-cons IsPair (first_key rest, first_value rest) r.pairs t.pair r.each;
      above = t_both _ _ (is_less _ is) (below_less last (first_key rest) r.pairs is r.above);
      rising = t_both _ _ r.above r.rising;
      text = t.text ∙ ap (λ (xs : List ℕ). pair_bytes (first_key rest, first_value rest) ++ xs) r.text;
    }

pub reads_more : (bytes rest last key after : List ℕ) → Reads bytes rest last → 0 < length rest → has_pair rest ≡ true
    → key ≡ first_key rest → after ≡ after_pair rest → is_lt (by_bytes last key) ≡ true → Reads bytes after key
reads_more bytes rest last key after h some test key_is after_is less =
    let below : is_lt (by_bytes last (first_key rest)) ≡ true = ap (λ (k : List ℕ). is_lt (by_bytes last k)) (sym key_is) ∙ less in
    let is : Reads bytes (after_pair rest) (first_key rest) = record {
      on = λ r. (starts last rest (h.on r) some).others;
      back = λ r. h.back (goes_back last rest test below r);
    } in
    subst (λ (xs : List ℕ). Reads bytes xs key) (sym after_is) (subst (λ (k : List ℕ). Reads bytes (after_pair rest) k) (sym key_is) is)

pub reads_shorter : (rest after : List ℕ) → has_pair rest ≡ true → after ≡ after_pair rest → length after < length rest
reads_shorter rest after test after_is =
    let t = takes rest test in
    omega (arith, ap length t.text, ap length after_is, length_parts rest)
  where
    length_parts : (xs : List ℕ) → length (pair_bytes (first_key xs, first_value xs) ++ after_pair xs) ≡ suc (length (first_key xs ++ (length (first_value xs) ∷ first_value xs))) + length (after_pair xs)
    length_parts xs = length-append (pair_bytes (first_key xs, first_value xs)) (after_pair xs)

-- ---- the whole

above_none : (pairs : Pairs) → All IsPair pairs → T (below_all by_bytes [] pairs)
above_none [] each = tt
above_none (p ∷ pairs) each = t_both _ _ (above_empty p.0 (All-head IsPair p pairs each).some) (above_none pairs (All-tail IsPair p pairs each))
  where
    above_empty : (key : List ℕ) → 1 ≤ length key → T (is_lt (by_bytes [] key))
    above_empty [] some = absurd (omega arith)
    above_empty (b ∷ key) some = tt

pub text_rest : (bytes : List ℕ) → IsBucketText bytes → Rest [] bytes
text_rest bytes (pairs, s) = record { pairs = pairs; each = s.bucket.each; above = above_none pairs s.bucket.each; rising = s.bucket.rising; text = s.text }

pub rest_text : (bytes : List ℕ) → length bytes ≤ 464 → Rest [] bytes → IsBucketText bytes
rest_text bytes short r = (r.pairs, record { bucket = record { each = r.each; rising = r.rising; short = subst (λ (xs : List ℕ). length xs ≤ 464) r.text short }; text = r.text })

pub nothing_left : (last rest : List ℕ) → length rest ≡ 0 → Rest last rest
nothing_left last [] e = record { pairs = []; each = All-nil IsPair; above = tt; rising = tt; text = refl }
nothing_left last (b ∷ rest) e = absurd (omega (arith, e))

pub no_pair : (bytes rest last : List ℕ) → Reads bytes rest last → 0 < length rest → has_pair rest ≡ false → IsBucketText bytes → ⊥
no_pair bytes rest last h some test text = false≢true (sym test ∙ (starts last rest (h.on (text_rest bytes text)) some).test)

pub not_above : (bytes rest last key : List ℕ) → Reads bytes rest last → 0 < length rest → key ≡ first_key rest → is_lt (by_bytes last key) ≡ false → IsBucketText bytes → ⊥
not_above bytes rest last key h some key_is test text =
    false≢true (sym test ∙ (ap (λ (k : List ℕ). is_lt (by_bytes last k)) key_is ∙ (starts last rest (h.on (text_rest bytes text)) some).less))

pub some_left : (n : ℕ) → false ≡ eqb n 0 → 0 < n
some_left zero e = absurd (false≢true e)
some_left (suc n) e = omega arith
