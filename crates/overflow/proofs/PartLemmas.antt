-- One list in parts: what a part has, and what becomes of the parts where one item is put in or a part is taken out.
use Rattle.std.proofs.Common.{◌≡◌, ℕ, zero, suc, ◌<◌, ◌≤◌, ◌+◌, List, [], ◌∷◌, ◌++◌, length, take, drop, set, get_or, replicate, insert, ◌||◌, ◌==◌, refl, sym, ◌∙◌, ap, ap₂, arith, add-zero, zero-add, add-one}
use Rattle.std.specs.List.{remove_range}
use Rattle.std.proofs.lemmas.List.{take-append-drop, drop-drop, length-drop}
use Rattle.std.proofs.lemmas.List.Folds.{list_any-append}
use Rattle.overflow.specs.Lists.{names_place, is_named}
use Rattle.overflow.specs.Parted.{total, parted}

-- ---- where a part stands

pub total_part : (counts : List ℕ) (u : ℕ) → total (take u counts) + get_or counts u 0 ≤ total counts
total_part [] zero = omega arith
total_part [] (suc u) = omega arith
total_part (n ∷ counts) zero = omega arith
total_part (n ∷ counts) (suc u) = let rest = total_part counts u in omega (arith, rest)

pub total_take : (counts : List ℕ) (u : ℕ) → total (take u counts) ≤ total counts
total_take counts u = let part = total_part counts u in omega (arith, part)

-- the next part stands behind this one
pub total_next : (counts : List ℕ) (u : ℕ) → u < length counts
    → total (take (suc u) counts) ≡ total (take u counts) + get_or counts u 0
total_next [] u low = absurd (omega (arith, low))
total_next (n ∷ counts) zero low = omega arith
total_next (n ∷ counts) (suc u) low = let rest = total_next counts u (omega (arith, low)) in omega (arith, rest)

pub length-parted : {X : Type 0} (counts : List ℕ) (xs : List X) → length (parted counts xs) ≡ length counts
length-parted [] xs = refl
length-parted (n ∷ counts) xs = let rest = length-parted counts (drop n xs) in omega (arith, rest)

pub part_at : {X : Type 0} (counts : List ℕ) (xs : List X) (u : ℕ)
    → get_or (parted counts xs) u [] ≡ take (get_or counts u 0) (drop (total (take u counts)) xs)
part_at [] xs zero = refl
part_at [] xs (suc u) = refl
part_at (n ∷ counts) xs zero = refl
part_at (n ∷ counts) xs (suc u) =
    part_at counts (drop n xs) u ∙ ap (take (get_or counts u 0)) (drop-drop (total (take u counts)) n xs)

-- no entries, in parts
pub parted_none : {X : Type 0} (n : ℕ) → parted (replicate n 0) (let xs : List X = [] in xs) ≡ replicate n []
parted_none zero = refl
parted_none (suc n) = ap (λ l. [] ∷ l) (parted_none n)

-- ---- the front of a list and what stands behind it

front_take : {X : Type 0} (n k : ℕ) (xs ys : List X) → n ≤ k → k ≤ length xs → take n (take k xs ++ ys) ≡ take n xs
front_take zero k xs ys low fits = refl
front_take (suc n) zero xs ys low fits = absurd (omega (arith, low))
front_take (suc n) (suc k) [] ys low fits = absurd (omega (arith, fits))
front_take (suc n) (suc k) (x ∷ xs) ys low fits =
    ap (λ l. x ∷ l) (front_take n k xs ys (omega (arith, low)) (omega (arith, fits)))

front_drop : {X : Type 0} (n j k : ℕ) (xs ys : List X) → k ≡ n + j → k ≤ length xs
    → drop n (take k xs ++ ys) ≡ take j (drop n xs) ++ ys
front_drop zero j k xs ys is fits = ap (λ m. take m xs ++ ys) (is ∙ zero-add j)
front_drop (suc n) j zero xs ys is fits = absurd (omega (arith, is))
front_drop (suc n) j (suc k) [] ys is fits = absurd (omega (arith, fits))
front_drop (suc n) j (suc k) (x ∷ xs) ys is fits = front_drop n j k xs ys (omega (arith, is)) (omega (arith, fits))

end_take : {X : Type 0} (n : ℕ) (xs : List X) (x : X) → n ≤ length xs → take (suc n) (insert xs n x) ≡ take n xs ++ x ∷ []
end_take zero xs x fits = refl
end_take (suc n) [] x fits = absurd (omega (arith, fits))
end_take (suc n) (y ∷ xs) x fits = ap (λ l. y ∷ l) (end_take n xs x (omega (arith, fits)))

end_drop : {X : Type 0} (n : ℕ) (xs : List X) (x : X) → n ≤ length xs → drop (suc n) (insert xs n x) ≡ drop n xs
end_drop zero xs x fits = refl
end_drop (suc n) [] x fits = absurd (omega (arith, fits))
end_drop (suc n) (y ∷ xs) x fits = end_drop n xs x (omega (arith, fits))

-- ---- one item more, and a part less

-- the item that is put where the next part begins is the last of its part
pub parted_insert : {X : Type 0} (counts : List ℕ) (xs : List X) (u : ℕ) (x : X) → u < length counts → total counts ≤ length xs
    → parted (set counts u (get_or counts u 0 + 1)) (insert xs (total (take (suc u) counts)) x)
    ≡ set (parted counts xs) u (get_or (parted counts xs) u [] ++ x ∷ [])
parted_insert [] xs u x low fits = absurd (omega (arith, low))
parted_insert (n ∷ counts) xs zero x low fits =
    let short : n ≤ length xs = omega (arith, fits) in
    rw (add-zero, add-one)
    (ap₂ (λ a b. a ∷ parted counts b) (end_take n xs x short) (end_drop n xs x short))
parted_insert (n ∷ counts) xs (suc u) x low fits =
    let j : ℕ = total (take (suc u) counts) in
    let part : j ≤ total counts = total_take counts (suc u) in
    ap₂ (λ a b. a ∷ parted (set counts u (get_or counts u 0 + 1)) b)
    (front_take n (n + j) xs (x ∷ drop (n + j) xs) (omega arith) (omega (arith, fits, part)))
    (front_drop n j (n + j) xs (x ∷ drop (n + j) xs) refl (omega (arith, fits, part))
    ∙ ap (λ l. take j (drop n xs) ++ x ∷ l) (sym (drop-drop j n xs)))
    ∙ ap (λ l. take n xs ∷ l)
    (parted_insert counts (drop n xs) u x (omega (arith, low)) (omega (arith, fits, length-drop n xs)))

pub parted_cut : {X : Type 0} (counts : List ℕ) (xs : List X) (u : ℕ) → u < length counts → total counts ≤ length xs
    → parted (set counts u 0) (remove_range xs (total (take u counts)) (total (take u counts) + get_or counts u 0))
    ≡ set (parted counts xs) u []
parted_cut [] xs u low fits = absurd (omega (arith, low))
parted_cut (n ∷ counts) xs zero low fits = ap (λ m. [] ∷ parted counts (drop m xs)) (zero-add n)
parted_cut (n ∷ counts) xs (suc u) low fits =
    let j : ℕ = total (take u counts) in
    let i : ℕ = j + get_or counts u 0 in
    let part : j ≤ total counts = total_take counts u in
    let rest : List _ = drop (n + j + get_or counts u 0) xs in
    let same : n + i ≡ n + j + get_or counts u 0 = omega arith in
    ap₂ (λ a b. a ∷ parted (set counts u 0) b)
    (front_take n (n + j) xs rest (omega arith) (omega (arith, fits, part)))
    (front_drop n j (n + j) xs rest refl (omega (arith, fits, part))
    ∙ ap (λ l. take j (drop n xs) ++ l) (sym (drop-drop i n xs ∙ ap (λ m. drop m xs) same)))
    ∙ ap (λ l. take n xs ∷ l)
    (parted_cut counts (drop n xs) u (omega (arith, low)) (omega (arith, fits, length-drop n xs)))

-- ---- places named

pub named_parted : (p : ℕ) (counts : List ℕ) (spots : List (ℕ × ℕ)) → total counts ≡ length spots
    → is_named (parted counts spots) p ≡ names_place p spots
named_parted p [] [] all = refl
named_parted p [] (spot ∷ spots) all = absurd (omega (arith, all))
named_parted p (n ∷ counts) spots all =
    ap (λ b. names_place p (take n spots) || b)
    (named_parted p counts (drop n spots) (omega (arith, all, length-drop n spots)))
    ∙ sym (list_any-append (λ (spot : ℕ × ℕ). spot.0 == p) (take n spots) (drop n spots))
    ∙ ap (names_place p) (take-append-drop n spots)
