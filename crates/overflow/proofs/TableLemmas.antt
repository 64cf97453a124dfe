-- How many entries there may be: in each place no more than sectors before its first clean one.
use Rattle.std.proofs.Common.{◌≡◌, ◌≢◌, ℕ, zero, suc, ◌≤◌, ◌+◌, ◌-◌, ◌*◌, ◌==◌, true, false, cond, List, [], ◌∷◌, ◌++◌, length, map, take, drop, insert, inl, inr, refl, sym, ◌∙◌, ap, subst, arith}
use Rattle.std.specs.List.{All, filter, remove_range}
use Rattle.std.proofs.lemmas.Bool.{cases_Bool, cases_eq, eq-eqb, ne_eqb, eqb-true}
use Rattle.std.proofs.lemmas.List.{take-append-drop, drop-drop}
use Rattle.std.proofs.lemmas.List.Elements.{All-head, All-tail}
use Rattle.overflow.specs.Lists.{names_place, clean_behind, as_used, IsFirstClean, IsUnused}
use Rattle.overflow.specs.Parted.{total, standing, passed, keeps, IsFew}
use Rattle.overflow.proofs.ElementLemmas.{contains_cons, contains_nil}

-- ---- the spots that stand in a place

standing_append : (p : ℕ) (xs ys : List (ℕ × ℕ)) → standing p (xs ++ ys) ≡ standing p xs + standing p ys
standing_append p [] ys = omega arith
standing_append p (x ∷ xs) ys = let rest = standing_append p xs ys in omega (arith, rest)

standing_drop : (p n : ℕ) (xs : List (ℕ × ℕ)) → standing p (drop n xs) ≤ standing p xs
standing_drop p zero xs = omega arith
standing_drop p (suc n) [] = omega arith
standing_drop p (suc n) (x ∷ xs) = let rest = standing_drop p n xs in omega (arith, rest)

standing_insert : (p k : ℕ) (xs : List (ℕ × ℕ)) (x : ℕ × ℕ) → standing p (insert xs k x) ≡ standing p xs + cond (x.0 == p) 1 0
standing_insert p k xs x =
    let parts = standing_append p (take k xs) (x ∷ drop k xs) in
    let all : standing p xs ≡ standing p (take k xs) + standing p (drop k xs) =
    ap (standing p) (sym (take-append-drop k xs)) ∙ standing_append p (take k xs) (drop k xs) in omega (arith, parts, all)

standing_cut : (p i n : ℕ) (xs : List (ℕ × ℕ)) → standing p (remove_range xs i (i + n)) ≤ standing p xs
standing_cut p i n xs =
    let parts = standing_append p (take i xs) (drop (i + n) xs) in
    let all : standing p xs ≡ standing p (take i xs) + standing p (drop i xs) =
    ap (standing p) (sym (take-append-drop i xs)) ∙ standing_append p (take i xs) (drop i xs) in
    let less : standing p (drop (i + n) xs) ≤ standing p (drop i xs) =
    subst (λ l. standing p l ≤ standing p (drop i xs)) (drop-drop n i xs) (standing_drop p n (drop i xs)) in
    omega (arith, parts, all, less)

none_standing : (p : ℕ) (xs : List (ℕ × ℕ)) → names_place p xs ≡ false → standing p xs ≡ 0
none_standing p [] none = refl
none_standing p (x ∷ xs) none = elim (cases_Bool (x.0 == p)) [
  | inl here ↦ absurd (let no : true ≡ false = rw here at none in cc)
  | inr apart ↦ rw apart (let rest = none_standing p xs (rw apart at none) in omega (arith, rest))
]

-- ---- the sectors that are passed

pub passed_push : (p q : ℕ) (l : List (ℕ × ℕ)) → passed p (l ++ (q, 1) ∷ []) ≡ passed p l
passed_push p q [] = elim (cases_Bool (q == p)) [
  | inl here ↦ rw here refl
  | inr apart ↦ rw apart refl
]
passed_push p q (o ∷ l) = let rest = passed_push p q l in omega (arith, rest)

pub passed_used : (p q s : ℕ) (l : List (ℕ × ℕ)) → passed p l ≤ passed p (map (clean_behind q s) l)
passed_used p q s [] = omega arith
passed_used p q s (o ∷ l) =
    let rest = passed_used p q s l in
    elim (cases_Bool (o.0 == q)) [
      | inl here ↦ rw here (elim (cases_Bool (o.0 == p)) [
        | inl same ↦ rw same (omega (arith, rest))
        | inr other ↦ rw other (omega (arith, rest))
      ])
      | inr apart ↦ rw apart (omega (arith, rest))
    ]

-- the place of a spot that wasn't used is passed further
passed_more : (p s : ℕ) (l : List (ℕ × ℕ)) → All IsFirstClean l → IsUnused l p s
    → passed p l + 1 ≤ passed p (map (clean_behind p s) l)
passed_more p s [] firsts (first, there, low) = absurd (contains_nil (p, first) there)
passed_more p s (o ∷ l) firsts (first, there, low) =
    let others = passed_used p p s l in
    elim (contains_cons o l (p, first) there) [
      | inl this ↦
          let here : (o.0 == p) ≡ true = eq-eqb o.0 p (ap (λ (z : ℕ × ℕ). z.0) this) in
          let at : o.1 ≡ first = ap (λ (z : ℕ × ℕ). z.1) this in
          let least : 1 ≤ o.1 = (All-head IsFirstClean o l firsts).0 in
          rw (here, here) (omega (arith, at, least, low, others))
      | inr behind ↦
          let rest = passed_more p s l (All-tail IsFirstClean o l firsts) (first, behind, low) in
          elim (cases_Bool (o.0 == p)) [
            | inl here ↦ rw (here, here) (omega (arith, rest))
            | inr apart ↦ rw (apart, apart) (omega (arith, rest))
          ]
    ]

passed_all : (p : ℕ) (l : List (ℕ × ℕ)) → All IsFirstClean l → passed p l ≤ passed p (map as_used l)
passed_all p [] firsts = omega arith
passed_all p (o ∷ l) firsts =
    let rest = passed_all p l (All-tail IsFirstClean o l firsts) in
    let most : o.1 ≤ 256 = (All-head IsFirstClean o l firsts).1 in
    elim (cases_Bool (o.0 == p)) [
      | inl here ↦ rw here (omega (arith, rest, most))
      | inr apart ↦ rw apart (omega (arith, rest))
    ]

-- a place that a spot names is kept with its sectors
passed_kept : (p : ℕ) (spots l : List (ℕ × ℕ)) → names_place p spots ≡ true
    → passed p (filter (keeps spots) l) ≡ passed p l
passed_kept p spots [] named = refl
passed_kept p spots (o ∷ l) named =
    let rest = passed_kept p spots l named in
    elim (cases_Bool (names_place o.0 spots)) [
      | inl kept ↦ rw kept (omega (arith, rest))
      | inr left ↦
          let apart : (o.0 == p) ≡ false = ne_eqb o.0 p (λ same.
          absurd (let both : true ≡ false = sym named ∙ ap (λ (q : ℕ). names_place q spots) (sym same) ∙ left in cc)) in
          rw (left, apart) (omega (arith, rest))
    ]

-- ---- what the calls leave

pub behind_added : (p s k : ℕ) (spots in_use : List (ℕ × ℕ)) → All IsFirstClean in_use → IsUnused in_use p s
    → ((q : ℕ) → standing q spots ≤ passed q in_use)
    → (q : ℕ) → standing q (insert spots k (p, s)) ≤ passed q (map (clean_behind p s) in_use)
behind_added p s k spots in_use firsts unused behind q =
    let one = standing_insert q k spots (p, s) in
    let before = behind q in
    elim (cases_eq p q) [
      | inl same ↦
          let more : passed q in_use + 1 ≤ passed q (map (clean_behind p s) in_use) =
          subst (λ r. passed r in_use + 1 ≤ passed r (map (clean_behind p s) in_use)) same
          (passed_more p s in_use firsts unused) in
          let count : standing q (insert spots k (p, s)) ≡ standing q spots + 1 = rw (eq-eqb p q same) at one in
          omega (arith, before, more, count)
      | inr other ↦
          let same = passed_used q p s in_use in
          let count : standing q (insert spots k (p, s)) ≡ standing q spots + 0 = rw (ne_eqb p q other) at one in
          omega (arith, before, same, count)
    ]

pub behind_cut : (i n : ℕ) (spots in_use : List (ℕ × ℕ)) → ((q : ℕ) → standing q spots ≤ passed q in_use)
    → (q : ℕ) → standing q (remove_range spots i (i + n)) ≤ passed q (filter (keeps (remove_range spots i (i + n))) in_use)
behind_cut i n spots in_use behind q =
    let left : List (ℕ × ℕ) = remove_range spots i (i + n) in
    elim (cases_Bool (names_place q left)) [
      | inl named ↦
          let less = standing_cut q i n spots in
          let before = behind q in
          let same = passed_kept q left in_use named in omega (arith, less, before, same)
      | inr none ↦ let zero_left = none_standing q left none in omega (arith, zero_left)
    ]

pub behind_all : (spots in_use : List (ℕ × ℕ)) → All IsFirstClean in_use
    → ((q : ℕ) → standing q spots ≤ passed q in_use) → (q : ℕ) → standing q spots ≤ passed q (map as_used in_use)
behind_all spots in_use firsts behind q =
    let before = behind q in
    let more = passed_all q in_use firsts in omega (arith, before, more)

-- ---- how many there are

-- without the first so many in a place
abbrev without : ℕ → ℕ → List (ℕ × ℕ) → List (ℕ × ℕ)
without p zero xs = xs
without p (suc n) [] = []
without p (suc n) (x ∷ xs) = cond (x.0 == p) (without p n xs) (x ∷ without p (suc n) xs)

without_length : (p n : ℕ) (xs : List (ℕ × ℕ)) → length xs ≤ n + length (without p n xs)
without_length p zero xs = omega arith
without_length p (suc n) [] = omega arith
without_length p (suc n) (x ∷ xs) = elim (cases_Bool (x.0 == p)) [
  | inl here ↦ rw here (let rest = without_length p n xs in omega (arith, rest))
  | inr apart ↦ rw apart (let rest = without_length p (suc n) xs in omega (arith, rest))
]

without_own : (p n m : ℕ) (xs : List (ℕ × ℕ)) → standing p xs ≤ n + m → standing p (without p n xs) ≤ m
without_own p zero m xs most = omega (arith, most)
without_own p (suc n) m [] most = omega arith
without_own p (suc n) m (x ∷ xs) most = elim (cases_Bool (x.0 == p)) [
  | inl here ↦
      let all : 1 + standing p xs ≤ suc n + m = rw here at most in
      rw here (without_own p n m xs (omega (arith, all)))
  | inr apart ↦
      let all : 0 + standing p xs ≤ suc n + m = rw apart at most in
      let rest = without_own p (suc n) m xs (omega (arith, all)) in
      rw (apart, apart) (omega (arith, rest))
]

without_other : (p q n : ℕ) (xs : List (ℕ × ℕ)) → q ≢ p → standing q (without p n xs) ≡ standing q xs
without_other p q zero xs other = refl
without_other p q (suc n) [] other = refl
without_other p q (suc n) (x ∷ xs) other = elim (cases_Bool (x.0 == p)) [
  | inl here ↦
      let apart : (x.0 == q) ≡ false = ne_eqb x.0 q (λ same. other (sym same ∙ eqb-true x.0 p here)) in
      rw (here, apart) (let rest = without_other p q n xs other in omega (arith, rest))
  | inr apart ↦ rw apart (let rest = without_other p q (suc n) xs other in omega (arith, rest))
]

-- at most 255 in each place in use
pub few_entries : (in_use spots : List (ℕ × ℕ)) → All IsFirstClean in_use
    → ((q : ℕ) → standing q spots ≤ passed q in_use) → length spots ≤ 255 * length in_use
few_entries [] [] firsts behind = omega arith
few_entries [] (x ∷ spots) firsts behind =
    let none : standing x.0 (x ∷ spots) ≤ 0 = behind x.0 in
    let one : 1 + standing x.0 spots ≤ 0 = rw (eq-eqb x.0 x.0 refl) at none in absurd (omega (arith, one))
few_entries (o ∷ l) spots firsts behind =
    let n : ℕ = o.1 - 1 in
    let most : o.1 ≤ 256 = (All-head IsFirstClean o l firsts).1 in
    let here = without_length o.0 n spots in
    let rest = few_entries l (without o.0 n spots) (All-tail IsFirstClean o l firsts) (λ q. elim (cases_eq q o.0) [
      | inl same ↦ rw same (without_own o.0 n (passed o.0 l) spots (rw (eq-eqb o.0 o.0 refl) at (behind o.0)))
      | inr other ↦
          let before : standing q spots ≤ 0 + passed q l = rw (ne_eqb o.0 q (λ e. other (sym e))) at (behind q) in
          let same = without_other o.0 q n spots other in omega (arith, before, same)
    ]) in
    omega (arith, most, here, rest)

-- and 16 of each unit
pub few_counts : (counts : List ℕ) → All IsFew counts → total counts ≤ 16 * length counts
few_counts [] few = omega arith
few_counts (n ∷ counts) few =
    let here : n ≤ 16 = All-head IsFew n counts few in
    let rest = few_counts counts (All-tail IsFew n counts few) in omega (arith, here, rest)
