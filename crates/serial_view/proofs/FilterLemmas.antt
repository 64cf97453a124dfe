-- Filters of the numbers from one on.
use Rattle.std.proofs.Common.{◌≡◌, ℕ, zero, suc, ◌+◌, ◌-◌, ◌<◌, ◌≤◌, max, Bool, true, false, cond, List, [], ◌∷◌, ◌++◌, sym, ◌∙◌, ap, refl, arith, append_assoc}
use Rattle.std.specs.Prelude.{filter}
use Rattle.std.specs.List.{range_with_len}
use Rattle.std.proofs.lemmas.List.Elements.{filter-append}
use Rattle.std.proofs.lemmas.List.{append-nil}
use Rattle.serial_view.proofs.SinceLemmas.{range_more}

-- one number more
pub filter_more : (p : ℕ → Bool) (from at : ℕ) → from ≤ at
    → filter p (range_with_len from (at + 1 - from))
    ≡ filter p (range_with_len from (at - from)) ++ cond (p at) (at ∷ []) []
filter_more p from at le =
    let more : at + 1 - from ≡ suc (at - from) = omega arith in
    let here : from + (at - from) ≡ at = omega arith in
    ap (λ (n : ℕ). filter p (range_with_len from n)) more
    ∙ ap (filter p) (range_more from (at - from))
    ∙ filter-append p (range_with_len from (at - from)) ((from + (at - from)) ∷ [])
    ∙ ap (λ (n : ℕ). filter p (range_with_len from (at - from)) ++ cond (p n) (n ∷ []) []) here

-- tests that say the same of these numbers
pub filter_alike : (p q : ℕ → Bool) (a n : ℕ) → ((j : ℕ) → a ≤ j → j < a + n → p j ≡ q j)
    → filter p (range_with_len a n) ≡ filter q (range_with_len a n)
filter_alike p q a zero same = refl
filter_alike p q a (suc n) same =
    let rest = filter_alike p q (a + 1) n (λ j le lt. same j (omega arith) (omega arith)) in
    ap (λ (b : Bool). cond b (a ∷ filter p (range_with_len (a + 1) n)) (filter p (range_with_len (a + 1) n)))
    (same a (omega arith) (omega arith))
    ∙ ap (λ (l : List ℕ). cond (q a) (a ∷ l) l) rest

-- ---- a loop over the numbers from one on appends those that pass

pub appended : (p : ℕ → Bool) (from at : ℕ) (old now next : List ℕ) → from ≤ at
    → now ≡ old ++ filter p (range_with_len from (at - from)) → next ≡ now ++ cond (p at) (at ∷ []) []
    → next ≡ old ++ filter p (range_with_len from (at + 1 - from))
appended p from at old now next le so_far step =
    step ∙ ap (λ (l : List ℕ). l ++ cond (p at) (at ∷ []) []) so_far
    ∙ append_assoc old _ _ ∙ ap (λ (l : List ℕ). old ++ l) (sym (filter_more p from at le))

pub appended_all : (p : ℕ → Bool) (from at n : ℕ) (old now : List ℕ) → n ≤ at → at ≤ max from n
    → now ≡ old ++ filter p (range_with_len from (at - from))
    → now ≡ old ++ filter p (range_with_len from (n - from))
appended_all p from at n old now past end so_far =
    let same : at - from ≡ n - from = omega arith in
    so_far ∙ ap (λ (k : ℕ). old ++ filter p (range_with_len from k)) same

pub pushed : (b : Bool) (at : ℕ) (old new : List ℕ) → new ≡ old ++ at ∷ [] → b ≡ true
    → new ≡ old ++ cond b (at ∷ []) []
pushed true at old new is e = is
pushed false at old new is e = absurd (cc)

pub not_pushed : (b : Bool) (at : ℕ) (old new : List ℕ) → new ≡ old → b ≡ false
    → new ≡ old ++ cond b (at ∷ []) []
not_pushed true at old new is e = absurd (cc)
not_pushed false at old new is e = is ∙ sym (append-nil old)
