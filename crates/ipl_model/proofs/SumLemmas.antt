-- Sums over ranges of numbers, one beside another.
use Rattle.std.proofs.Common.{◌≡◌, ◌≢◌, inl, inr, ℕ, zero, suc, ◌+◌, ◌<◌, ◌≤◌, refl, ap, arith}
use Rattle.std.specs.List.{sum_by, range_with_len}
use Rattle.std.proofs.lemmas.Bool.{cases_eq}
use Rattle.std.proofs.lemmas.List.Sums.{sum_by-cons}

pub sum_of_two : (x y a b c d : ℕ) → x ≡ a + b → y ≡ c + d → a ≤ c → b ≤ d → x ≤ y
sum_of_two x y a b c d left right here rest = omega (arith, left, right, here, rest)

pub sums_less : (f g : ℕ → ℕ) (a k : ℕ) → ((i : ℕ) → i < a + k → f i ≤ g i) → sum_by f (range_with_len a k) ≤ sum_by g (range_with_len a k)
sums_less f g a zero less = omega arith
sums_less f g a (suc k) less =
    let rest = sums_less f g (a + 1) k (λ i low. less i (omega (arith, low))) in
    let here = less a (omega arith) in
    let left : sum_by f (range_with_len a (suc k)) ≡ f a + sum_by f (range_with_len (a + 1) k) = sum_by-cons f a (range_with_len (a + 1) k) in
    let right : sum_by g (range_with_len a (suc k)) ≡ g a + sum_by g (range_with_len (a + 1) k) = sum_by-cons g a (range_with_len (a + 1) k) in
    sum_of_two _ _ _ _ _ _ left right here rest

pub sums_same : (f g : ℕ → ℕ) (a k : ℕ) → ((i : ℕ) → i < a + k → f i ≡ g i) → sum_by f (range_with_len a k) ≡ sum_by g (range_with_len a k)
sums_same f g a k same =
    let less = sums_less f g a k (λ i low. omega (arith, same i low)) in
    let more = sums_less g f a k (λ i low. omega (arith, same i low)) in
    omega (arith, less, more)

pub sums_joined : (f g h : ℕ → ℕ) (a k : ℕ) → ((i : ℕ) → h i ≡ f i + g i) → sum_by h (range_with_len a k) ≡ sum_by f (range_with_len a k) + sum_by g (range_with_len a k)
sums_joined f g h a zero both = refl
sums_joined f g h a (suc k) both =
    let rest = sums_joined f g h (a + 1) k both in
    let one : sum_by f (range_with_len a (suc k)) ≡ f a + sum_by f (range_with_len (a + 1) k) = sum_by-cons f a (range_with_len (a + 1) k) in
    let two : sum_by g (range_with_len a (suc k)) ≡ g a + sum_by g (range_with_len (a + 1) k) = sum_by-cons g a (range_with_len (a + 1) k) in
    let sum : sum_by h (range_with_len a (suc k)) ≡ h a + sum_by h (range_with_len (a + 1) k) = sum_by-cons h a (range_with_len (a + 1) k) in
    added _ _ _ _ _ _ (sum_by f (range_with_len (a + 1) k)) (sum_by g (range_with_len (a + 1) k)) (sum_by h (range_with_len (a + 1) k)) one two sum (both a) rest
  where
    added : (x y z p q r u v w : ℕ) → x ≡ p + u → y ≡ q + v → z ≡ r + w → r ≡ p + q → w ≡ u + v → z ≡ x + y
    added x y z p q r u v w one two sum here rest = omega (arith, one, two, sum, here, rest)

-- two sums that differ at one place
pub sums_at : (f g : ℕ → ℕ) (a k n : ℕ) → a ≤ n → n < a + k → ((i : ℕ) → i ≢ n → f i ≡ g i)
    → sum_by f (range_with_len a k) + g n ≡ sum_by g (range_with_len a k) + f n
sums_at f g a zero n low high same = absurd (omega (arith, low, high))
sums_at f g a (suc k) n low high same =
    let left : sum_by f (range_with_len a (suc k)) ≡ f a + sum_by f (range_with_len (a + 1) k) = sum_by-cons f a (range_with_len (a + 1) k) in
    let right : sum_by g (range_with_len a (suc k)) ≡ g a + sum_by g (range_with_len (a + 1) k) = sum_by-cons g a (range_with_len (a + 1) k) in
    elim (cases_eq a n) [
      | inl is ↦ here _ _ (sum_by f (range_with_len (a + 1) k)) (sum_by g (range_with_len (a + 1) k)) left right (after f g (a + 1) k (λ i above. same i (λ e. absurd (omega (arith, above, e, is))))) (ap f is) (ap g is)
      | inr other ↦ there _ _ (sum_by f (range_with_len (a + 1) k)) (sum_by g (range_with_len (a + 1) k)) left right (same a other) (sums_at f g (a + 1) k n (omega (arith, low, other)) (omega (arith, high)) same)
    ]
  where
    after : (f g : ℕ → ℕ) (b k : ℕ) → ((i : ℕ) → b ≤ i → f i ≡ g i) → sum_by f (range_with_len b k) ≡ sum_by g (range_with_len b k)
    after f g b zero same = refl
    after f g b (suc k) same =
        let left : sum_by f (range_with_len b (suc k)) ≡ f b + sum_by f (range_with_len (b + 1) k) = sum_by-cons f b (range_with_len (b + 1) k) in
        let right : sum_by g (range_with_len b (suc k)) ≡ g b + sum_by g (range_with_len (b + 1) k) = sum_by-cons g b (range_with_len (b + 1) k) in
        equal _ _ _ _ _ _ left right (same b (omega arith)) (after f g (b + 1) k (λ i above. same i (omega (arith, above))))
      where
        equal : (x y p q u v : ℕ) → x ≡ p + u → y ≡ q + v → p ≡ q → u ≡ v → x ≡ y
        equal x y p q u v one two here rest = omega (arith, one, two, here, rest)

    here : (x y p q : ℕ) → x ≡ f a + p → y ≡ g a + q → p ≡ q → f a ≡ f n → g a ≡ g n → x + g n ≡ y + f n
    here x y p q left right rest fs gs = omega (arith, left, right, rest, fs, gs)

    there : (x y p q : ℕ) → x ≡ f a + p → y ≡ g a + q → f a ≡ g a → p + g n ≡ q + f n → x + g n ≡ y + f n
    there x y p q left right first rest = omega (arith, left, right, first, rest)
