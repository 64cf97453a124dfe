-- Names in lists: whether one is among them, and how many pass a test.
use Rattle.std.proofs.Common.{◌≡◌, ℕ, ◌+◌, ◌≤◌, ◌==◌, Bool, true, false, ◌||◌, cond, List, [], ◌∷◌, map, reverse, Some, None, is_some, refl, sym, ◌∙◌, ap, subst, arith}
use Rattle.std.specs.List.{count_by, sum_by}
use Rattle.std.proofs.lemmas.List.{reverse-append}
use Rattle.std.proofs.lemmas.List.Sums.{sum_by-append}
use Rattle.std.proofs.lemmas.Bool.Decides.{nat_tests}
use Rattle.ipl_model.proofs.ListLemmas.{any_of_reversed}
use Rattle.ipl_model.specs.State.{last_write, written_names}
use Rattle.record_locks.specs.Held.{is_among}
use Rattle.record_locks.specs.Standing.{write_of}

pub count_cons : {X : Type 0} (p : X → Bool) (x : X) (xs : List X) → count_by p (x ∷ xs) ≡ cond (p x) 1 0 + count_by p xs
count_cons p x xs =
    let one : sum_by (λ y. cond (p y) 1 0) (x ∷ []) ≡ cond (p x) 1 0 = omega arith in
    sum_by-append (λ y. cond (p y) 1 0) (x ∷ []) xs ∙ omega (arith, one)

-- as many pass, in whatever order they stand
pub count_of_reversed : {X : Type 0} (p : X → Bool) (xs : List X) → count_by p (reverse xs) ≡ count_by p xs
count_of_reversed p [] = refl
count_of_reversed p (x ∷ xs) =
    let one : sum_by (λ y. cond (p y) 1 0) (x ∷ []) ≡ cond (p x) 1 0 = omega arith in
    ap (count_by p) (reverse-append (x ∷ []) xs) ∙ sum_by-append (λ y. cond (p y) 1 0) (reverse xs) (x ∷ [])
    ∙ omega (arith, one, count_cons p x xs, count_of_reversed p xs)

-- ---- names as writes

-- a name is written where it is among the names
pub written_listed : (names : List ℕ) (n : ℕ) → is_some (last_write (map write_of names) n) ≡ is_among n names
written_listed [] n = refl
written_listed (k ∷ names) n = by_head (k == n) (written_listed names n)
  where
    by_head : (b : Bool) → is_some (last_write (map write_of names) n) ≡ is_among n names → is_some (cond b (Some None) (last_write (map write_of names) n)) ≡ (b || is_among n names)
    by_head true rest = refl
    by_head false rest = rest

pub among_reversed : (names : List ℕ) (n : ℕ) → is_some (last_write (map write_of (reverse names)) n) ≡ is_among n names
among_reversed names n = written_listed (reverse names) n ∙ any_of_reversed (λ k. k == n) names

-- a name among these is counted
pub counted_once : (names : List ℕ) (n : ℕ) → is_among n names ≡ true → 1 ≤ count_by (λ k. k == n) names
counted_once [] n none = absurd (cc none)
counted_once (k ∷ names) n among = subst (λ (c : ℕ). 1 ≤ c) (sym (count_cons (λ j. j == n) k names)) (by_head (k == n) (counted_once names n) among)
  where
    by_head : (b : Bool) → (is_among n names ≡ true → 1 ≤ count_by (λ j. j == n) names) → (b || is_among n names) ≡ true → 1 ≤ cond b 1 0 + count_by (λ j. j == n) names
    by_head true rest is = omega arith
    by_head false rest is = omega (arith, rest is)

pub not_counted : (names : List ℕ) (n : ℕ) → is_among n names ≡ false → count_by (λ k. k == n) names ≡ 0
not_counted [] n none = refl
not_counted (k ∷ names) n among = count_cons (λ j. j == n) k names ∙ by_head (k == n) (not_counted names n) among
  where
    by_head : (b : Bool) → (is_among n names ≡ false → count_by (λ j. j == n) names ≡ 0) → (b || is_among n names) ≡ false → cond b 1 0 + count_by (λ j. j == n) names ≡ 0
    by_head true rest is = absurd (cc is)
    by_head false rest is = omega (arith, rest is)

-- names that stand there once each are all that is written
pub written_once : (names : List ℕ) → ((n : ℕ) → count_by (λ k. k == n) names ≤ 1) → written_names (map write_of names) ≡ names
written_once [] once = refl
written_once (k ∷ names) once = by_test (is_some (last_write (map write_of names) k)) refl (written_once names (λ n. at_most (k == n) (count_by (λ j. j == n) names) (most n)))
  where
    most : (n : ℕ) → cond (k == n) 1 0 + count_by (λ j. j == n) names ≤ 1
    most n = subst (λ (c : ℕ). c ≤ 1) (count_cons (λ j. j == n) k names) (once n)

    at_most : (b : Bool) (rest : ℕ) → cond b 1 0 + rest ≤ 1 → rest ≤ 1
    at_most true rest le = omega arith
    at_most false rest le = omega arith

    same : (k == k) ≡ true
    same = grind (arith, nat_tests)

    twice : (b : Bool) (rest : ℕ) → b ≡ true → cond b 1 0 + rest ≤ 1 → 1 ≤ rest → ⊥
    twice true rest is most least = omega arith
    twice false rest is most least = cc is

    by_test : (b : Bool) → is_some (last_write (map write_of names) k) ≡ b → written_names (map write_of names) ≡ names
        → cond b (written_names (map write_of names)) (k ∷ written_names (map write_of names)) ≡ k ∷ names
    by_test true written rest = absurd (twice (k == k) (count_by (λ j. j == k) names) same (most k) (counted_once names k (sym (written_listed names k) ∙ written)))
    by_test false new rest = ap (λ (l : List ℕ). k ∷ l) rest
