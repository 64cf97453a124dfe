-- Where the line feeds of a piece of a script are.
use Rattle.std.proofs.Common.{◌≡◌, ℕ, ◌+◌, ◌-◌, ◌<◌, ◌≤◌, nat_lt, Bool, true, false, cond, length, get_or, take, drop, arith, List, Some, None, refl, sym, ◌∙◌, ap}
use Rattle.std.specs.List.{position, position_or_len}
use Rattle.std.proofs.lemmas.Bool.{eqb-true}
use Rattle.std.proofs.lemmas.Bool.Decides.{nat_tests}
use Rattle.std.proofs.lemmas.List.{length-take, length-drop, get_or-take, get_or-drop, take_rest}
use Rattle.std.proofs.lemmas.List.Quantifiers.{position-Some}
use Rattle.std.proofs.lemmas.List.Sums.{fails_before_first}
use Rattle.ipl_model.specs.Grammar.{is_line_feed}

-- before the first line feed is none
pub plain_before : (bytes : List ℕ) (n : ℕ) → position is_line_feed bytes ≡ Some n → (i : ℕ) → i < length (take n bytes) → is_line_feed (get_or (take n bytes) i 0) ≡ false
plain_before bytes n first i lt =
    let below : i < n = omega (arith, lt, length-take n bytes) in
    ap is_line_feed (get_or-take n bytes i 0 below) ∙ (position-Some is_line_feed bytes n 0 first).2 i below

-- where none is the first, there is none
pub plain_all : (bytes : List ℕ) → ((n : ℕ) → position is_line_feed bytes ≡ Some n → ⊥) → (i : ℕ) → i < length bytes → is_line_feed (get_or bytes i 0) ≡ false
plain_all bytes none i lt = at_test (nat_lt (position_or_len is_line_feed bytes) (length bytes)) refl
  where
    at_test : (b : Bool) → nat_lt (position_or_len is_line_feed bytes) (length bytes) ≡ b → is_line_feed (get_or bytes i 0) ≡ false
    at_test true passes = absurd (none (position_or_len is_line_feed bytes) (ap (λ (t : Bool). cond t (Some (position_or_len is_line_feed bytes)) None) passes))
    at_test false fails =
        let past : length bytes ≤ position_or_len is_line_feed bytes = grind (arith, nat_tests) in
        fails_before_first is_line_feed bytes i 0 (omega (arith, lt, past))

-- the first line feed of the rest of a piece
pub feed_in : (piece : List ℕ) (at n : ℕ) → Some n ≡ position is_line_feed (take (length piece - at) (drop at piece)) → position is_line_feed (drop at piece) ≡ Some n
feed_in piece at n found = ap (position is_line_feed) (sym (take_rest piece at)) ∙ sym found

-- in the whole piece
pub feed_at : (piece : List ℕ) (at n : ℕ) → Some n ≡ position is_line_feed (take (length piece - at) (drop at piece)) → (at + n < length piece) × (get_or piece (at + n) 0 ≡ 10)
feed_at piece at n found =
    let there = position-Some is_line_feed (drop at piece) n 0 (feed_in piece at n found) in
    (omega (arith, there.0, length-drop at piece), sym (get_or-drop at piece n 0) ∙ eqb-true _ _ there.1)
