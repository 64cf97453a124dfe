-- The numbers that have a flag, one after the other.
use Rattle.std.proofs.Common.{◌≡◌, ℕ, ◌<◌, ◌≤◌, ◌+◌, ◌-◌, min, Bool, true, false, List, [], ◌∷◌, ◌++◌, length, get_or, set, take, drop, sym, ◌∙◌, ap, arith, append-nil, length-append, length-drop}
use Rattle.std.proofs.lemmas.List.{take_more_set, take_all, drop_all, take-append-le, drop-append-le, drop-set-lt, get_or-drop, length-take}
use Rattle.std.proofs.lemmas.Grind.{drop_more_same}
use Rattle.number_set.specs.Flags.{flagged_from}
use Rattle.number_set.proofs.FlagLemmas.{flagged_next}

module _ (f : ℕ → Bool) (old : List ℕ) (i : ℕ) (low : i < length old) where
  pub next_taken : f i ≡ true
      → flagged_from f 0 (take (i + 1) old) ≡ flagged_from f 0 (take i old) ++ get_or old i 0 ∷ []
  next_taken is = rw is at (flagged_next f 0 i i old low (omega arith))

  pub next_left : f i ≡ false
      → flagged_from f 0 (take (i + 1) old) ≡ flagged_from f 0 (take i old)
  next_left none =
      let next : flagged_from f 0 (take (i + 1) old) ≡ flagged_from f 0 (take i old) ++ [] =
      rw none at (flagged_next f 0 i i old low (omega arith)) in
      next ∙ append-nil (flagged_from f 0 (take i old))

-- ---- in their own memory

module _ (f : ℕ → Bool) (old now : List ℕ) (kept i : ℕ) (low : i < length old)
    (size : length now ≡ length old) (few : kept ≤ i)
    (front : take kept now ≡ flagged_from f 0 (take i old)) (back : drop i now ≡ drop i old) where
  same_item : get_or now i 0 ≡ get_or old i 0
  same_item =
      let plus : i ≡ i + 0 = omega arith in
      ap (λ (j : ℕ). get_or now j 0) plus ∙ sym (get_or-drop i now 0 0)
      ∙ ap (λ (l : List ℕ). get_or l 0 0) back ∙ get_or-drop i old 0 0
      ∙ ap (λ (j : ℕ). get_or old j 0) (sym plus)

  pub front_kept : (new : List ℕ) (x n : ℕ) → new ≡ set now kept x → x ≡ get_or now i 0
      → n ≡ kept + 1 → f i ≡ true → take n new ≡ flagged_from f 0 (take (i + 1) old)
  front_kept new x n is item more told =
      ap (λ (k : ℕ). take k new) more ∙ ap (take (kept + 1)) is
      ∙ take_more_set now kept x (omega (arith, few, low, size))
      ∙ ap (λ (l : List ℕ). l ++ x ∷ []) front
      ∙ ap (λ (y : ℕ). flagged_from f 0 (take i old) ++ y ∷ []) (item ∙ same_item)
      ∙ sym (next_taken f old i low told)

  pub back_kept : (new : List ℕ) (x : ℕ) → new ≡ set now kept x
      → drop (i + 1) new ≡ drop (i + 1) old
  back_kept new x is =
      ap (drop (i + 1)) is ∙ drop-set-lt (i + 1) now kept x (omega (arith, few))
      ∙ drop_more_same now old i back

  pub back_left : drop (i + 1) now ≡ drop (i + 1) old
  back_left = drop_more_same now old i back

-- ---- a part of them

module _ (xs : List ℕ) (x s : ℕ) (part : List ℕ) (m : ℕ) (is : part ≡ take m (drop s xs)) where
  size : length part ≡ min m (length xs - s)
  size = ap length is ∙ length-take m (drop s xs) ∙ ap (min m) (length-drop s xs)

  pub part_more : s ≤ length xs → length part < m
      → part ++ x ∷ [] ≡ take m (drop s (xs ++ x ∷ []))
  part_more from room =
      let few : length (drop s xs) < m = omega (arith, size, room, length-drop s xs) in
      let whole : part ≡ drop s xs = is ∙ take_all m (drop s xs) (omega (arith, few)) in
      ap (λ (l : List ℕ). l ++ x ∷ []) whole
      ∙ sym (take_all m (drop s xs ++ x ∷ []) (omega (arith, few, length-append (drop s xs) (x ∷ []))))
      ∙ ap (take m) (sym (drop-append-le s xs (x ∷ []) from))

  pub part_full : s ≤ length xs → m ≤ length part
      → part ≡ take m (drop s (xs ++ x ∷ []))
  part_full from full =
      let many : m ≤ length (drop s xs) = omega (arith, size, full, length-drop s xs) in
      is ∙ sym (take-append-le m (drop s xs) (x ∷ []) many)
      ∙ ap (take m) (sym (drop-append-le s xs (x ∷ []) from))

  pub part_later : length xs < s → part ≡ take m (drop s (xs ++ x ∷ []))
  part_later before =
      is ∙ ap (take m) (drop_all s xs (omega (arith, before)))
      ∙ ap (take m) (sym (drop_all s (xs ++ x ∷ []) (omega (arith, before, length-append xs (x ∷ [])))))
