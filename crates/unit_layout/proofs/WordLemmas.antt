-- Numbers of four bytes in payloads, and how often a place was erased.
use Rattle.std.proofs.Common.{◌≡◌, ◌≤◌, ◌<◌, ◌+◌, ◌*◌, ◌^◌, ℕ, zero, suc, Bool, true, false, List, [], ◌∷◌, ◌++◌, ◌∙◌, ap, ap₂, sym, refl, arith, leb, length, take, drop, All, length-drop}
use Rattle.std.specs.Prelude.{if◌then◌else◌, ◌&&◌}
use Rattle.std.specs.List.{flat_map}
use Rattle.std.proofs.lemmas.Bool.{le-leb, lt-leb}
use Rattle.std.proofs.lemmas.List.{take-append-drop, drop-drop, drop_at, nil_from_length}
use Rattle.std.proofs.lemmas.List.Elements.{All-head, All-tail}
use Rattle.ipl_format.specs.Numbers.{IsBytes, word, word_at}
use Rattle.ipl_format.specs.Header.{erases_bytes, AreErases, IsWithin, erases_from, erases_said}
use Rattle.ipl_format.specs.Laws.{erases_size}
use Rattle.ipl_format.proofs.ListLemmas.{bytes-drop}
use Rattle.ipl_format.proofs.NumberLemmas.{length-word, word_rebuilt, word_at-lt, word_again}
use Rattle.unit_layout.specs.Header.{erases_at, SayErases}
use Rattle.unit_layout.specs.Retired.{words_within}

-- ---- erase counts

-- a count that was read is written as the bytes that it was read from
pub erases_rebuilt : (version at : ℕ) (payload : List ℕ) → IsBytes payload → at + erases_size version ≤ length payload
    → take (erases_size version) (drop at payload) ≡ erases_bytes version (erases_at version at payload)
unfolding erases_bytes
erases_rebuilt version at payload all = rebuilt (leb 3 version)
  where
    rebuilt : (later : Bool) → at + (if later then 4 else 0) ≤ length payload
        → take (if later then 4 else 0) (drop at payload) ≡ (if later then word (if later then word_at at payload else 1) else [])
    rebuilt true room = word_rebuilt at payload (omega (arith, room, length-drop at payload)) (bytes-drop at payload all)
    rebuilt false room = refl

-- and one that a header may have
pub erases_are : (version at : ℕ) (payload : List ℕ) → IsBytes payload → AreErases version (erases_at version at payload)
erases_are version at payload all = record {
  fits = low (leb 3 version);
  once = λ before. ap (λ (b : Bool). if b then word_at at payload else 1) (lt-leb 3 version before);
}
  where
    low : (later : Bool) → (if later then word_at at payload else 1) < 2 ^ 32
    low true = word_at-lt at payload (bytes-drop at payload all)
    low false = omega arith

-- ---- what sectors say of it

-- a header of a later version, with room for the count, says it
pub said_there : (kind version at : ℕ) (payload : List ℕ) → kind ≤ 3 → 3 ≤ version → at ≡ erases_from kind → at + 4 ≤ length payload
    → SayErases kind version payload (word_at at payload)
unfolding erases_said
said_there kind version at payload low later from room s kinds versions payloads =
    rw (kinds, versions, payloads, le-leb kind 3 low, le-leb 3 version later, ← from, le-leb (at + 4) (length payload) room) refl

-- one without room says once
pub unsaid_there : (kind version at : ℕ) (payload : List ℕ) → at ≡ erases_from kind → length payload < at + 4
    → SayErases kind version payload 1
unfolding erases_said
unsaid_there kind version at payload from short s kinds versions payloads =
    rw (kinds, versions, payloads, ← from, lt-leb (at + 4) (length payload) short) (by_tests (leb kind 3) (leb 3 version))
  where
    by_tests : (a b : Bool) → (if a && (b && false) then word_at at payload else 1) ≡ 1
    by_tests true true = refl
    by_tests true false = refl
    by_tests false b = refl

-- what is no header says once
pub unsaid_other : (kind version : ℕ) (payload : List ℕ) → 3 < kind → SayErases kind version payload 1
unfolding erases_said
unsaid_other kind version payload high s kinds versions payloads = rw (kinds, lt-leb kind 3 high) refl

-- so does a header of an earlier version
pub unsaid_before : (kind version : ℕ) (payload : List ℕ) → version < 3 → SayErases kind version payload 1
unfolding erases_said
unsaid_before kind version payload before s kinds versions payloads = rw (versions, lt-leb 3 version before) (by_test (leb s.kind 3))
  where
    by_test : (a : Bool) → (if a && false then word_at (erases_from s.kind) s.payload else 1) ≡ 1
    by_test true = refl
    by_test false = refl

-- ---- numbers one after the other

pub words_count : (n : ℕ) (bytes : List ℕ) → length (words_within n bytes) ≡ n
words_count zero bytes = refl
words_count (suc n) bytes = let rest = words_count n (drop 4 bytes) in omega (arith, rest)

-- bytes of n numbers are the numbers' bytes
pub words_spelled : (n : ℕ) (bytes : List ℕ) → IsBytes bytes → length bytes ≡ 4 * n → bytes ≡ flat_map word (words_within n bytes)
words_spelled zero bytes all size = nil_from_length bytes (omega (arith, size))
words_spelled (suc n) bytes all size =
    let first : take 4 bytes ≡ word (word_at 0 bytes) = word_rebuilt 0 bytes (omega (arith, size)) all in
    let rest : drop 4 bytes ≡ flat_map word (words_within n (drop 4 bytes)) =
    words_spelled n (drop 4 bytes) (bytes-drop 4 bytes all) (omega (arith, length-drop 4 bytes, size)) in
    sym (take-append-drop 4 bytes) ∙ ap₂ (λ (x y : List ℕ). x ++ y) first rest

-- numbers that were written are read
pub words_again : (bound : ℕ) → bound ≤ 2 ^ 32 → (numbers : List ℕ) → All (IsWithin bound) numbers
    → words_within (length numbers) (flat_map word numbers) ≡ numbers
words_again bound low [] each = refl
words_again bound low (n ∷ numbers) each =
    ap₂ (λ (x : ℕ) (xs : List ℕ). x ∷ xs)
    (word_again n (flat_map word numbers) (omega (arith, low, All-head (IsWithin bound) n numbers each)))
    (ap (words_within (length numbers)) (drop_at (word n) (flat_map word numbers) 4 (length-word n))
    ∙ words_again bound low numbers (All-tail (IsWithin bound) n numbers each))

-- the first of those that are left, and the others
pub next_word : (n i : ℕ) (bytes : List ℕ)
    → words_within (suc n) (drop (4 * i) bytes) ≡ word_at (4 * i) bytes ∷ words_within n (drop (4 * (i + 1)) bytes)
unfolding word_at
next_word n i bytes =
    ap (λ (xs : List ℕ). word_at (4 * i) bytes ∷ words_within n xs)
    (drop-drop 4 (4 * i) bytes ∙ ap (λ (k : ℕ). drop k bytes) (let on : 4 * i + 4 ≡ 4 * (i + 1) = omega arith in on))
