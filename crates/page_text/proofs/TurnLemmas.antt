-- Bytes that are moved by a turn of the part between the two places.
use Rattle.std.proofs.Common.{◌≡◌, ◌≤◌, ◌+◌, ℕ, zero, suc, List, [], ◌∷◌, ◌++◌, ◌∙◌, ap, sym, refl, arith, length, take, drop, length-drop, take-take}
use Rattle.std.proofs.lemmas.List.{take_at, drop-drop, length-take-le}

drop_of_take : (i j : ℕ) (l : List ℕ) (k : ℕ) → j ≡ i + k → drop i (take j l) ≡ take k (drop i l)
drop_of_take zero j l k e = ap (λ (x : ℕ). take x l) (omega (arith, e))
drop_of_take (suc i) zero l k e = absurd (omega (arith, e))
drop_of_take (suc i) (suc j) [] k e = nothing k
  where
    nothing : (x : ℕ) → ◌≡◌ {A = List ℕ} [] (take x [])
    nothing zero = refl
    nothing (suc x) = refl
drop_of_take (suc i) (suc j) (x ∷ l) k e = drop_of_take i j l k (omega (arith, e))

-- the part of m bytes from `to` on, which is d bytes and n more, is turned left by d
pub turned_left : (old now part turned : List ℕ) (to n d m : ℕ) → to + m ≤ length old → m ≡ d + n
    → part ≡ take m (drop to old)
    → turned ≡ drop d part ++ take d part → take m (drop to now) ≡ turned
    → take n (drop to now) ≡ take n (drop (to + d) old)
turned_left old now part turned to n d m fits sum part_is turned_is there =
    let size : length part ≡ m = ap length part_is
    ∙ length-take-le m (drop to old) (omega (arith, length-drop to old, fits)) in
    let kept : length (drop d part) ≡ n = omega (arith, length-drop d part, size, sum) in
    sym (take-take n m (drop to now) (omega (arith, sum)))
    ∙ (ap (take n) (there ∙ turned_is) ∙ (take_at (drop d part) (take d part) n kept
    ∙ (ap (drop d) part_is ∙ (drop_of_take d m (drop to old) n sum
    ∙ ap (take n) (drop-drop d to old)))))
