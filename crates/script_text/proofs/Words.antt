-- The first part of a list that is cut at elements that pass a test.
use Rattle.std.proofs.Common.{◌≡◌, ℕ, ◌+◌, ◌-◌, ◌<◌, ◌≤◌, nat_le, Bool, true, false, not, cond, ltb, List, [], ◌∷◌, ◌++◌, length, take, drop, Option, Some, None, refl, sym, ◌∙◌, ap, arith}
use Rattle.std.specs.List.{slice_split, position_or_len, onto_first}
use Rattle.std.specs.Option.{option_map}
use Rattle.ipl_model.specs.declared.command.Command.{Command}
use Rattle.ipl_model.specs.declared.command.Command.TheVariants.{Syntax}
use Rattle.ipl_model.specs.Grammar.{is_space, one_number, two_numbers, numbers_and_value, all_numbers, alone}
use Rattle.std.proofs.lemmas.Bool.{ltb-true}
use Rattle.std.proofs.lemmas.Bool.Decides.{nat_tests}
use Rattle.std.proofs.lemmas.Option.{cond_some}
use Rattle.std.proofs.lemmas.List.{take_rest}
use Rattle.std.proofs.lemmas.List.Splits.{slice_split_first, slice_split-cons_no}

-- where none passes, the list is its one part
pub uncut : {X : Type 0} (p : X → Bool) (xs : List X) → length xs ≤ position_or_len p xs → slice_split p xs ≡ xs ∷ []
uncut p [] le = refl
uncut p (x ∷ xs) le = at_head (p x) refl (uncut p xs)
  where
    at_head : (b : Bool) → p x ≡ b → (length xs ≤ position_or_len p xs → slice_split p xs ≡ xs ∷ []) → slice_split p (x ∷ xs) ≡ (x ∷ xs) ∷ []
    at_head true is rest = absurd (omega (arith, le, ap (λ b. cond (not b) (1 + position_or_len p xs) 0) is))
    at_head false is rest =
        let behind : length xs ≤ position_or_len p xs = omega (arith, le, ap (λ b. cond (not b) (1 + position_or_len p xs) 0) is) in
        slice_split-cons_no p x xs is ∙ ap (onto_first x) (rest behind)

pub cut_at : {X : Type 0} (p : X → Bool) (d : X) (xs : List X) (r : Option ℕ) (at : ℕ) → r ≡ cond (ltb (position_or_len p xs) (length xs)) (Some (position_or_len p xs)) None → r ≡ Some at
    → slice_split p xs ≡ take at xs ∷ slice_split p (take (length xs - (at + 1)) (drop (at + 1) xs))
cut_at p d xs r at is found =
    let parts = cond_some (ltb (position_or_len p xs) (length xs)) (position_or_len p xs) at (sym is ∙ found) in
    let below : position_or_len p xs < length xs = ltb-true _ _ parts.0 in
    slice_split_first p xs d below ∙ ap (λ (n : ℕ). take n xs ∷ slice_split p (drop (n + 1) xs)) parts.1
    ∙ ap (λ (ys : List _). take at xs ∷ slice_split p ys) (sym (take_rest xs (at + 1)))

pub cut_nowhere : {X : Type 0} (p : X → Bool) (xs : List X) (r : Option ℕ) → r ≡ cond (ltb (position_or_len p xs) (length xs)) (Some (position_or_len p xs)) None → r ≡ None → slice_split p xs ≡ xs ∷ []
cut_nowhere p xs r is none = at_test (ltb (position_or_len p xs) (length xs)) refl
  where
    at_test : (b : Bool) → ltb (position_or_len p xs) (length xs) ≡ b → slice_split p xs ≡ xs ∷ []
    at_test true passes = absurd (cc (is, none, passes))
    at_test false fails =
        let past : length xs ≤ position_or_len p xs = grind (arith, nat_tests) in
        uncut p xs past

-- there is always a first part
pub parts : {X : Type 0} (p : X → Bool) (xs : List X) → (first : List X) × (more : List (List X)) × (slice_split p xs ≡ first ∷ more)
parts p [] = ([], [], refl)
parts p (x ∷ xs) = at_head (p x) (parts p xs)
  where
    at_head : (b : Bool) → (first : List _) × (more : List (List _)) × (slice_split p xs ≡ first ∷ more) → (first : List _) × (more : List (List _)) × (cond b ([] ∷ slice_split p xs) (onto_first x (slice_split p xs)) ≡ first ∷ more)
    at_head true rest = ([], slice_split p xs, refl)
    at_head false rest = (x ∷ rest.0, rest.1, ap (onto_first x) rest.2)

-- so a word more than are wanted is one too many
pub one_word_too_many : (command : Command) (rest : List ℕ) → alone command (slice_split is_space rest) ≡ Syntax
one_word_too_many command rest = ap (λ (ws : List (List ℕ)). alone command ws) (parts is_space rest).2

pub one_too_many : (w rest : List ℕ) → one_number (w ∷ slice_split is_space rest) ≡ None
one_too_many w rest = ap (λ (ws : List (List ℕ)). one_number (w ∷ ws)) (parts is_space rest).2

pub two_too_many : (w v rest : List ℕ) → two_numbers (w ∷ v ∷ slice_split is_space rest) ≡ None
two_too_many w v rest = ap (λ (ws : List (List ℕ)). two_numbers (w ∷ v ∷ ws)) (parts is_space rest).2

pub three_too_many : (w v u rest : List ℕ) → numbers_and_value (w ∷ v ∷ u ∷ slice_split is_space rest) ≡ None
three_too_many w v u rest = ap (λ (ws : List (List ℕ)). numbers_and_value (w ∷ v ∷ u ∷ ws)) (parts is_space rest).2

-- ---- the sessions of a commit

-- the sessions that these and further words name, at most 32 in all
abbrev pub named_with : List ℕ → List (List ℕ) → Option (List ℕ)
named_with so_far words = cond (nat_le (length so_far + length words) 32) (option_map (λ more. so_far ++ more) (all_numbers words)) None

-- a word stands behind each space, so 32 sessions and a space are too many
pub too_many : (so_far rest : List ℕ) → length so_far ≡ 32 → named_with so_far (slice_split is_space rest) ≡ None
too_many so_far rest full =
    let split = parts is_space rest in
    let many : nat_le (length so_far + length (split.0 ∷ split.1)) 32 ≡ false = grind (arith, nat_tests) in
    ap (named_with so_far) split.2
    ∙ ap (λ (b : Bool). cond b (option_map (λ more. so_far ++ more) (all_numbers (split.0 ∷ split.1))) None) many
