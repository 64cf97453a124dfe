-- The word of a chip and its spelling.
use Rattle.std.proofs.Common.{◌≡◌, ◌∙◌, ℕ, ◌+◌, ◌<◌, Bool, true, false, List, [], ◌∷◌, ◌++◌, length, take, drop, Option, Some, None, refl, subst, ap, ap₂, arith, codes}
use Rattle.std.specs.Prelude.{◌==◌, if◌then◌else◌}
use Rattle.std.specs.Char.{digit_value}
use Rattle.std.specs.Fmt.{decimal}
use Rattle.std.specs.List.{before_first, after_first, position_or_len}
use Rattle.std.specs.Option.{option_map}
use Rattle.std.specs.Str.{bytes_eq}
use Rattle.std.specs.Str.Parse.{AllDigits}
use Rattle.std.proofs.lemmas.Bool.Decides.{nat_tests}
use Rattle.std.proofs.lemmas.Fmt.{decimal_is_IsNumeral}
use Rattle.std.proofs.lemmas.List.{length-drop}
use Rattle.std.proofs.lemmas.List.Sums.{split_at_first, passes_at_first}
use Rattle.std.proofs.lemmas.Slice.Eq.{bytes_eq-Decides}
use Rattle.std.proofs.lemmas.Option.{same_Some}
use Rattle.std.proofs.Math.Seq.{take-append_seam, drop-append-add}
use Rattle.ipl_model.specs.Grammar.{number_of}
use Rattle.command_line.specs.Chip.{Chip, ram, file, is_colon, file_of}
use Rattle.command_line.specs.Laws.{word_of, IsNameable, SpelledIsRead, ReadIsSpelled}
use Rattle.command_line.proofs.NumberLemmas.{decimal_read, decimal_had, number_had}

-- digits are cut from what follows at the colon between them
no_colon : (d : ℕ) → digit_value d < 10 → is_colon d ≡ false
no_colon d h = grind (arith, nat_tests)

cut_first : (ds rest : List ℕ) → AllDigits 10 ds → position_or_len is_colon (ds ++ 58 ∷ rest) ≡ length ds
cut_first [] rest all = refl
cut_first (d ∷ ds) rest all = let no = no_colon d all.0 in rw (no, cut_first ds rest all.1) (omega arith)

before_cut : (ds rest : List ℕ) → AllDigits 10 ds → before_first is_colon (ds ++ 58 ∷ rest) ≡ ds
before_cut ds rest all = ap (λ (n : ℕ). take n (ds ++ 58 ∷ rest)) (cut_first ds rest all) ∙ take-append_seam ds (58 ∷ rest)

after_cut : (ds rest : List ℕ) → AllDigits 10 ds → after_first is_colon (ds ++ 58 ∷ rest) ≡ rest
after_cut ds rest all = ap (λ (n : ℕ). drop (n + 1) (ds ++ 58 ∷ rest)) (cut_first ds rest all) ∙ drop-append-add ds (58 ∷ rest) 1

-- what follows a colon isn't empty only where there is one
colon_is : (b : ℕ) → is_colon b ≡ true → b ≡ 58
colon_is b h = grind (arith, nat_tests)

joined : (word : List ℕ) → 0 < length (after_first is_colon word) → word ≡ before_first is_colon word ++ 58 ∷ after_first is_colon word
joined word some =
    let at = position_or_len is_colon word in
    let within : at < length word = omega (arith, length-drop (at + 1) word) in
    split_at_first is_colon word 0 within ∙ ap (λ (b : ℕ). before_first is_colon word ++ b ∷ after_first is_colon word) (colon_is _ (passes_at_first is_colon word 0 within))

-- what is spelled is read
file_parts : (n : ℕ) (path text before : List ℕ) → before_first is_colon text ≡ before → after_first is_colon text ≡ path → 0 < length path → number_of before ≡ Some n → file_of text ≡ Some (file n path)
file_parts n path text before is_before is_after some number =
    let nonzero : (length path == 0) ≡ false = grind (arith, nat_tests) in
    rw (is_before, is_after, nonzero, number) refl

pub spelled_is_read : SpelledIsRead
spelled_is_read (ram n) fits = ap (option_map ram) (decimal_read n fits)
spelled_is_read (file n path) fits =
    let digits = decimal_is_IsNumeral n (omega (arith, fits.0)) in
    file_parts n path (decimal n ++ 58 ∷ path) (decimal n) (before_cut (decimal n) path digits.0.1) (after_cut (decimal n) path digits.0.1) fits.1 (decimal_read n fits.0)

-- what is read was spelled
made : (make : ℕ → Chip) (o : Option ℕ) (chip : Chip) → option_map make o ≡ Some chip → (n : ℕ) × (o ≡ Some n) × (make n ≡ chip)
made make None chip is = cc
made make (Some n) chip is = (n, refl, same_Some _ _ is)

abbrev Spells : List ℕ → Chip → Type 0
Spells word chip = (word ≡ word_of chip) × IsNameable chip

spells_ram : (word : List ℕ) (chip : Chip) → before_first is_colon word ≡ codes "ram" → option_map ram (number_of (after_first is_colon word)) ≡ Some chip → Spells word chip
spells_ram word chip kind is =
    let number = made ram (number_of (after_first is_colon word)) chip is in
    let digits = decimal_had (after_first is_colon word) number.0 number.1 in
    let some = (number_had (after_first is_colon word) number.0 number.1).0.0 in
    subst (Spells word) number.2 (joined word some ∙ ap₂ (λ (b a : List ℕ). b ++ 58 ∷ a) kind digits.0, digits.1)

spells_file : (word text : List ℕ) (chip : Chip) (b : Bool) → before_first is_colon word ≡ codes "file" → after_first is_colon word ≡ text
    → (length (after_first is_colon text) == 0) ≡ b → (if b then None else option_map (λ n. file n (after_first is_colon text)) (number_of (before_first is_colon text))) ≡ Some chip
    → Spells word chip
spells_file word text chip true kind rest empty is = cc
spells_file word text chip false kind rest empty is =
    let number = made (λ n. file n (after_first is_colon text)) (number_of (before_first is_colon text)) chip is in
    let digits = decimal_had (before_first is_colon text) number.0 number.1 in
    let path : 0 < length (after_first is_colon text) = grind (arith, nat_tests) in
    let some : 0 < length (after_first is_colon word) = rw rest (omega (arith, path, length-drop (position_or_len is_colon text + 1) text)) in
    let inner : text ≡ decimal number.0 ++ 58 ∷ after_first is_colon text = joined text path ∙ ap (λ (b : List ℕ). b ++ 58 ∷ after_first is_colon text) digits.0 in
    subst (Spells word) number.2 (joined word some ∙ ap₂ (λ (b a : List ℕ). b ++ 58 ∷ a) kind (rest ∙ inner), (digits.1, path))

by_kind : (word : List ℕ) (chip : Chip) (b c : Bool) → bytes_eq (before_first is_colon word) (codes "ram") ≡ b → bytes_eq (before_first is_colon word) (codes "file") ≡ c
    → (if b then option_map ram (number_of (after_first is_colon word)) else if c then file_of (after_first is_colon word) else None) ≡ Some chip → Spells word chip
by_kind word chip true c in_memory in_file is = spells_ram word chip ((bytes_eq-Decides (before_first is_colon word) (codes "ram")).0 in_memory) is
by_kind word chip false true in_memory in_file is =
    spells_file word (after_first is_colon word) chip _ ((bytes_eq-Decides (before_first is_colon word) (codes "file")).0 in_file) refl refl is
by_kind word chip false false in_memory in_file is = cc

pub read_is_spelled : ReadIsSpelled
read_is_spelled word chip is = by_kind word chip _ _ refl refl is
