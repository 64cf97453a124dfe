-- One pair: what is spelled is read, and what is read is spelled so.
use Rattle.std.proofs.Common.{◌≡◌, ◌≤◌, ◌<◌, ℕ, zero, suc, ◌+◌, Bool, true, false, leb, List, [], ◌∷◌, ◌++◌, ◌∙◌, ap, ap₂, sym, refl, subst, arith, length, drop, take, get_or, append_assoc, length-append, length-drop}
use Rattle.std.specs.Prelude.{◌&&◌}
use Rattle.std.proofs.lemmas.Bool.{leb-true, le-leb, false≢true}
use Rattle.std.proofs.lemmas.List.{take_at, drop_at, drop-drop, take-append-drop, length-take-le, get_or_at}
use Rattle.ipl_keys.specs.Bucket.{IsPair, pair_bytes}
use Rattle.ipl_keys.specs.BucketReading.{key_len, value_len, pair_len, has_pair, first_key, first_value, after_pair}

pub and_true : {a b : Bool} → a ≡ true → b ≡ true → (a && b) ≡ true
and_true {a} {b} p q = rw (p, q) refl

pub both_true : (a b : Bool) → (a && b) ≡ true → (a ≡ true) × (b ≡ true)
both_true true b e = (refl, e)
both_true false b e = absurd (false≢true e)

-- ---- what is spelled is read

pub record Begins (bytes : List ℕ) (p : List ℕ × List ℕ) (rest : List ℕ) : Type 0 where
  pub test : has_pair bytes ≡ true
  pub key : first_key bytes ≡ p.0
  pub value : first_value bytes ≡ p.1
  pub after : after_pair bytes ≡ rest
  pub size : pair_len bytes ≡ length (pair_bytes p)

past_seam : (k : List ℕ) (n : ℕ) (xs : List ℕ) → drop (suc (length k)) (k ++ (n ∷ xs)) ≡ xs
past_seam [] n xs = refl
past_seam (x ∷ k) n xs = past_seam k n xs

shape : (k v rest : List ℕ) → pair_bytes (k, v) ++ rest ≡ length k ∷ (k ++ (length v ∷ (v ++ rest)))
shape k v rest = ap (λ (t : List ℕ). length k ∷ t) (append_assoc k (length v ∷ v) rest)

module _ (k v rest : List ℕ) where
  abbrev text : List ℕ
  text = length k ∷ (k ++ (length v ∷ (v ++ rest)))

  value_size : value_len text ≡ length v
  value_size = ap (λ (n : ℕ). get_or text n 0) one ∙ get_or_at k (length v) (v ++ rest) 0 (length k) refl
    where
      one : 1 + length k ≡ suc (length k)
      one = omega arith

  text_size : length text ≡ 2 + length k + length v + length rest
  text_size = omega (arith, length-append k (length v ∷ (v ++ rest)), length-append v rest)

  behind : drop (2 + length k) text ≡ v ++ rest
  behind = ap (λ (n : ℕ). drop n text) two ∙ past_seam k (length v) (v ++ rest)
    where
      two : 2 + length k ≡ suc (suc (length k))
      two = omega arith

  begins_text : IsPair (k, v) → Begins text (k, v) rest
  begins_text h =
      let size = value_size in
      let long = text_size in
      let some = h.some in
      let short = h.key in
      let value_short = h.value in
      let a : leb 1 (length text) ≡ true = le-leb 1 (length text) (omega (arith, long)) in
      let b : leb 1 (length k) ≡ true = le-leb 1 (length k) some in
      let d : leb (length k) 16 ≡ true = le-leb (length k) 16 short in
      let e : leb (2 + length k) (length text) ≡ true = le-leb (2 + length k) (length text) (omega (arith, long)) in
      let f : leb (value_len text) 200 ≡ true = le-leb (value_len text) 200 (omega (arith, size, value_short)) in
      let g : leb (pair_len text) (length text) ≡ true = le-leb (pair_len text) (length text) (omega (arith, size, long)) in
      record {
        test = and_true a (and_true b (and_true d (and_true e (and_true f g))));
        key = take_at k (length v ∷ (v ++ rest)) (length k) refl;
        value = ap₂ (λ (n : ℕ) (xs : List ℕ). take n xs) size behind ∙ take_at v rest (length v) refl;
        after = ap (λ (n : ℕ). drop (2 + length k + n) text) size ∙ (sym (drop-drop (length v) (2 + length k) text)
            ∙ (ap (drop (length v)) behind ∙ drop_at v rest (length v) refl));
        size = omega (arith, size, length-append k (length v ∷ v));
      }

pub begins : (bytes : List ℕ) (p : List ℕ × List ℕ) (rest : List ℕ) → IsPair p → bytes ≡ pair_bytes p ++ rest → Begins bytes p rest
begins bytes p rest h e =
    subst (λ (xs : List ℕ). Begins xs p rest) (sym (e ∙ shape p.0 p.1 rest)) (begins_text p.0 p.1 rest h)

-- ---- what is read is spelled so

pub record Takes (bytes : List ℕ) : Type 0 where
  pub pair : IsPair (first_key bytes, first_value bytes)
  pub text : bytes ≡ pair_bytes (first_key bytes, first_value bytes) ++ after_pair bytes
  pub most : pair_len bytes ≤ length bytes
  pub some : 0 < pair_len bytes

-- what the test says
pub record HasPair (bytes : List ℕ) : Type 0 where
  pub some : 1 ≤ key_len bytes
  pub key : key_len bytes ≤ 16
  pub room : 2 + key_len bytes ≤ length bytes
  pub value : value_len bytes ≤ 200
  pub whole : pair_len bytes ≤ length bytes

pub pair_facts : (bytes : List ℕ) → has_pair bytes ≡ true → HasPair bytes
pair_facts bytes h =
    let a = both_true _ _ h in
    let b = both_true _ _ a.1 in
    let d = both_true _ _ b.1 in
    let e = both_true _ _ d.1 in
    let f = both_true _ _ e.1 in
    record { some = leb-true _ _ b.0; key = leb-true _ _ d.0; room = leb-true _ _ e.0; value = leb-true _ _ f.0; whole = leb-true _ _ f.1 }

split_at : (n : ℕ) (t : List ℕ) → n < length t → t ≡ take n t ++ (get_or t n 0 ∷ drop (suc n) t)
split_at zero [] h = absurd (omega arith)
split_at zero (x ∷ t) h = refl
split_at (suc n) [] h = absurd (omega arith)
split_at (suc n) (x ∷ t) h = ap (λ (xs : List ℕ). x ∷ xs) (split_at n t (omega arith))

pub takes : (bytes : List ℕ) → has_pair bytes ≡ true → Takes bytes
takes [] h = absurd (false≢true h)
takes (b ∷ t) h =
    let facts = pair_facts (b ∷ t) h in
    let room = facts.room in
    let whole = facts.whole in
    let some = facts.some in
    let vl = get_or t b 0 in
    let u = drop (suc b) t in
    let one : 1 + b ≡ suc b = omega arith in
    let two : 2 + b ≡ suc (suc b) = omega arith in
    let vl_is : value_len (b ∷ t) ≡ vl = ap (λ (n : ℕ). get_or (b ∷ t) n 0) one in
    let u_is : drop (2 + b) (b ∷ t) ≡ u = ap (λ (n : ℕ). drop n (b ∷ t)) two in
    let value_is : first_value (b ∷ t) ≡ take vl u = ap₂ (λ (n : ℕ) (xs : List ℕ). take n xs) vl_is u_is in
    let short = facts.value in
    let left = length-drop (suc b) t in
    let key_size : length (take b t) ≡ b = length-take-le b t (omega arith) in
    let value_size_is : length (take vl u) ≡ vl = length-take-le vl u (omega (arith, left, whole, vl_is)) in
    let rest : drop vl u ≡ after_pair (b ∷ t) =
    ap₂ (λ (n : ℕ) (xs : List ℕ). drop n xs) (sym vl_is) (sym u_is) ∙ drop-drop (value_len (b ∷ t)) (2 + b) (b ∷ t) in
    let cells : b ∷ t ≡ b ∷ (take b t ++ (vl ∷ (take vl u ++ drop vl u))) =
    ap (λ (xs : List ℕ). b ∷ xs) (split_at b t (omega arith) ∙ ap (λ (xs : List ℕ). take b t ++ (vl ∷ xs)) (sym (take-append-drop vl u))) in
    let sizes : b ∷ (take b t ++ (vl ∷ (take vl u ++ drop vl u))) ≡ length (take b t) ∷ (take b t ++ (length (take vl u) ∷ (take vl u ++ drop vl u))) =
    ap₂ (λ (n m : ℕ). n ∷ (take b t ++ (m ∷ (take vl u ++ drop vl u)))) (sym key_size) (sym value_size_is) in
    record {
      pair = record {
        some = omega (arith, key_size, some);
        key = omega (arith, key_size, facts.key);
        value = omega (arith, ap length value_is, value_size_is, vl_is, short);
      };
      text = cells ∙ (sizes ∙ (sym (shape (take b t) (take vl u) (drop vl u))
          ∙ ap₂ (λ (v xs : List ℕ). pair_bytes (take b t, v) ++ xs) (sym value_is) rest));
      most = whole;
      some = omega arith;
    }
