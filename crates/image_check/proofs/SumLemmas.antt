-- Counts of many, block by block.
use Rattle.std.proofs.Common.{◌≡◌, ℕ, zero, suc, ◌<◌, ◌+◌, ◌*◌, Bool, cond, refl, sym, ◌∙◌, ap, ap₂, arith, add-one}
use Rattle.ipl_meaning.specs.First.{count_below}
use Rattle.ipl_meaning.proofs.FirstLemmas.{count_step}
use Rattle.image_check.specs.Checked.{total_below}

pub total_none : (f : ℕ → ℕ) → total_below f 0 ≡ 0
unfolding total_below
total_none f = refl

pub total_step : (f : ℕ → ℕ) (n : ℕ) → total_below f (n + 1) ≡ total_below f n + f n
unfolding total_below
total_step f n = rw add-one refl

pub count_same : (f g : ℕ → Bool) (n : ℕ) → ((k : ℕ) → k < n → f k ≡ g k) → count_below f n ≡ count_below g n
count_same f g zero same = refl
count_same f g (suc n) same =
    rw (count_same f g n (λ k low. same k (omega arith)), same n (omega arith)) refl

-- those below a, and the next b
count_add : (f : ℕ → Bool) (a b : ℕ) → count_below f (a + b) ≡ count_below f a + count_below (λ k. f (a + k)) b
count_add f a zero =
    let none : a + 0 ≡ a = omega arith in
    ap (count_below f) none ∙ omega arith
count_add f a (suc b) =
    let at : a + suc b ≡ a + b + 1 = omega arith in
    let last = count_step f (a + b) in
    let before = count_add f a b in
    let more = count_step (λ k. f (a + k)) b in
    let one : suc b ≡ b + 1 = omega arith in
    ap (count_below f) at
    ∙ omega (arith, last, before, more, ap (count_below (λ k. f (a + k))) one)

-- in blocks of this size
pub count_blocks : (g : ℕ → Bool) (size : ℕ) (f : ℕ → ℕ) (n : ℕ)
    → ((k : ℕ) → k < n → f k ≡ count_below (λ j. g (size * k + j)) size)
    → total_below f n ≡ count_below g (size * n)
count_blocks g size f zero each =
    let none : size * 0 ≡ 0 = omega arith in
    total_none f ∙ sym (ap (count_below g) none)
count_blocks g size f (suc n) each =
    let one : suc n ≡ n + 1 = omega arith in
    let at : size * suc n ≡ size * n + size = omega arith in
    let before = count_blocks g size f n (λ k low. each k (omega arith)) in
    let here = each n (omega arith) in
    let both = count_add g (size * n) size in
    ap (total_below f) one ∙ total_step f n
    ∙ omega (arith, before, here, both, ap (count_below g) at)
