-- Numbers below 2^32: what the grammar reads, and what decimals spell.
use Rattle.std.proofs.Common.{◌≡◌, ◌∙◌, ℕ, zero, suc, ◌+◌, ◌-◌, ◌*◌, ◌<◌, ◌≤◌, ◌^◌, Bool, true, false, List, [], ◌∷◌, length, get_or, Option, Some, None, refl, sym, ap, ltb, arith}
use Rattle.std.specs.Prelude.{◌==◌, ◌&&◌, nat_lt, if◌then◌else◌}
use Rattle.std.specs.Char.{digit_value}
use Rattle.std.specs.Fmt.{decimal}
use Rattle.std.specs.Str.Parse.{AllDigits, IsNumeral, digits_value, digits_value_after}
use Rattle.std.proofs.lemmas.Bool.Decides.{nat_tests}
use Rattle.std.proofs.lemmas.Fmt.{decimal_is_IsNumeral, decimal_digit, first_decimal, decimal-digits_value}
use Rattle.std.proofs.lemmas.Str.Parse.{IsNumeralModel, numerals_by_value, tells_digits}
use Rattle.ipl_model.specs.Grammar.{is_digit, number_behind, number_of}

digit_read : (d : ℕ) → digit_value d < 10 → (is_digit d ≡ true) × (digit_value d ≡ d - 48)
digit_read d h = grind (arith, nat_tests)

digit_had : (d : ℕ) → is_digit d ≡ true → (digit_value d ≡ d - 48) × (digit_value d < 10)
digit_had d h = grind (arith, nat_tests)

grows : (n : ℕ) (ds : List ℕ) → n ≤ digits_value_after 10 n ds
grows n [] = omega arith
grows n (d ∷ ds) = let more = grows (n * 10 + digit_value d) ds in omega (arith, more)

below : (m n : ℕ) → m < n → ltb m n ≡ true
below m n h = grind (arith, nat_tests)

-- one digit more, of this value
digit_more : (n d v : ℕ) (ds : List ℕ) (o : Option ℕ) → is_digit d ≡ true → v ≡ d - 48 → n * 10 + v < 2 ^ 32 → number_behind (n * 10 + v) ds ≡ o → number_behind n (d ∷ ds) ≡ o
digit_more n d v ds o digit same fits rest = let small = below (n * 10 + v) (2 ^ 32) fits in rw (digit, ← same, small) rest

-- digits whose number fits are read
digits_read : (n : ℕ) (ds : List ℕ) → AllDigits 10 ds → digits_value_after 10 n ds < 2 ^ 32 → number_behind n ds ≡ Some (digits_value_after 10 n ds)
digits_read n [] all fits = refl
digits_read n (d ∷ ds) all fits =
    let more = grows (n * 10 + digit_value d) ds in
    let digit = digit_read d all.0 in
    digit_more n d (digit_value d) ds _ digit.0 digit.1 (omega (arith, more)) (digits_read (n * 10 + digit_value d) ds all.1 fits)

-- and what is read is such digits
at_digit : (n v d : ℕ) (ds : List ℕ) (b c : Bool) → is_digit d ≡ b → ltb (n * 10 + (d - 48)) (2 ^ 32) ≡ c → (if b && c then number_behind (n * 10 + (d - 48)) ds else None) ≡ Some v
    → (is_digit d ≡ true) × (n * 10 + (d - 48) < 2 ^ 32) × (number_behind (n * 10 + (d - 48)) ds ≡ Some v)
at_digit n v d ds true true digit small is = (digit, grind (arith, nat_tests), is)
at_digit n v d ds true false digit small is = cc
at_digit n v d ds false c digit small is = cc

digits_had : (n v : ℕ) (ds : List ℕ) → n < 2 ^ 32 → number_behind n ds ≡ Some v → AllDigits 10 ds × (digits_value_after 10 n ds ≡ v) × (v < 2 ^ 32)
digits_had n v [] small is = let same : n ≡ v = cc in (tt, same, omega arith)
digits_had n v (d ∷ ds) small is =
    let h = at_digit n v d ds (is_digit d) (ltb (n * 10 + (d - 48)) (2 ^ 32)) refl refl is in
    let digit = digit_had d h.0 in
    let rest = digits_had (n * 10 + (d - 48)) v ds h.1 h.2 in
    ((digit.1, rest.0), rw digit.0 rest.1, rest.2)

-- a zero stands first only alone
abbrev pub HasNoLeadingZero : List ℕ → Type 0
HasNoLeadingZero t = get_or t 0 0 ≡ 48 → length t < 2

unled : (d : ℕ) (ds : List ℕ) (b : Bool) → (d == 48 && nat_lt 0 (length ds)) ≡ b → HasNoLeadingZero (d ∷ ds) → number_of (d ∷ ds) ≡ number_behind 0 (d ∷ ds)
unled d ds true is single = absurd (grind (arith, nat_tests))
unled d ds false is single = ap (λ (b : Bool). if b then None else number_behind 0 (d ∷ ds)) is

-- a numeral that fits is the number that its digits write
pub number_read : (t : List ℕ) → IsNumeral 10 t → HasNoLeadingZero t → digits_value 10 t < 2 ^ 32 → number_of t ≡ Some (digits_value 10 t)
number_read [] numeral single fits = absurd (omega (arith, numeral.0))
number_read (d ∷ ds) numeral single fits = unled d ds (d == 48 && nat_lt 0 (length ds)) refl single ∙ digits_read 0 (d ∷ ds) numeral.1 fits

-- and no other text is a number
led : (d v : ℕ) (ds : List ℕ) (b : Bool) → (d == 48 && nat_lt 0 (length ds)) ≡ b → (if b then None else number_behind 0 (d ∷ ds)) ≡ Some v → HasNoLeadingZero (d ∷ ds) × (number_behind 0 (d ∷ ds) ≡ Some v)
led d v ds true is some = cc
led d v ds false is some = ((λ e. grind (arith, nat_tests)), some)

pub number_had : (t : List ℕ) (v : ℕ) → number_of t ≡ Some v → IsNumeral 10 t × HasNoLeadingZero t × (digits_value 10 t ≡ v) × (v < 2 ^ 32)
number_had [] v is = cc
number_had (d ∷ ds) v is =
    let h = led d v ds (d == 48 && nat_lt 0 (length ds)) refl is in
    let digits = digits_had 0 v (d ∷ ds) (omega arith) h.1 in
    ((omega arith, digits.0), h.0, digits.1, digits.2)

-- the numbers are those of decimals
own : IsNumeralModel (AllDigits 10) (digits_value 10)
own = numerals_by_value (AllDigits 10) tells_digits

first_zero : (n : ℕ) → n < 2 ^ 32 → HasNoLeadingZero (decimal n)
first_zero zero small e = rw (decimal_digit 0 (omega arith)) (omega arith)
first_zero (suc n) small e = absurd (let first = first_decimal (suc n) (omega arith) (omega arith) in omega (arith, first))

pub decimal_read : (n : ℕ) → n < 2 ^ 32 → number_of (decimal n) ≡ Some n
decimal_read n small =
    let h = decimal_is_IsNumeral n (omega arith) in
    number_read (decimal n) h.0 (first_zero n small) (omega (arith, h.1)) ∙ ap Some h.1

pub decimal_had : (t : List ℕ) (n : ℕ) → number_of t ≡ Some n → (t ≡ decimal n) × (n < 2 ^ 32)
decimal_had t n is =
    let h = number_had t n is in
    (sym (decimal-digits_value own t h.0.1 h.0.0 (λ e. let short = h.1 e in omega (arith, short, h.0.0)) (omega (arith, h.2, h.3))) ∙ ap decimal h.2, h.3)
