-- A list whose elements are replaced one by one.
use Rattle.std.proofs.Common.{◌≡◌, ℕ, ◌<◌, ◌+◌, List, [], ◌∷◌, ◌++◌, length, map, sym, ◌∙◌, ap, arith, set, get_or, take, drop}
use Rattle.std.proofs.lemmas.List.{length-set, map_push, take_more, take_more_set, drop_more, drop-set-lt}

-- after one more, the first ones are done and the others are as they were
pub replaced_more : {X Y : Type 0} (f : X → Y) (g : Y → Y) (xs ys : List X) (i : ℕ) (d r : X)
    → length ys ≡ length xs → i < length ys
    → map f (take i ys) ≡ map g (map f (take i xs)) → drop i ys ≡ drop i xs
    → f r ≡ g (f (get_or ys i d))
    → (length (set ys i r) ≡ length xs)
    × (map f (take (i + 1) (set ys i r)) ≡ map g (map f (take (i + 1) xs)))
    × (drop (i + 1) (set ys i r) ≡ drop (i + 1) xs)
replaced_more f g xs ys i d r long low done others this =
    let low_too : i < length xs = omega arith in
    let here : get_or ys i d ∷ drop (i + 1) ys ≡ get_or xs i d ∷ drop (i + 1) xs =
    sym (drop_more ys i d low) ∙ others ∙ drop_more xs i d low_too in
    let item : get_or ys i d ≡ get_or xs i d = cc in
    let rest : drop (i + 1) ys ≡ drop (i + 1) xs = cc in (
      length-set ys i r ∙ long,
      ap (map f) (take_more_set ys i r low) ∙ map_push f (take i ys) r
          ∙ ap (λ l. l ++ f r ∷ []) done
          ∙ ap (λ z. map g (map f (take i xs)) ++ z ∷ []) (this ∙ ap (λ z. g (f z)) item)
          ∙ sym (map_push g (map f (take i xs)) (f (get_or xs i d)))
          ∙ ap (map g) (sym (map_push f (take i xs) (get_or xs i d))
          ∙ ap (map f) (sym (take_more xs i d low_too))),
      drop-set-lt (i + 1) ys i r (omega arith) ∙ rest,
    )
