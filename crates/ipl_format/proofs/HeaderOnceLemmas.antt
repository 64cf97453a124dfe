-- Header payloads: one reading of each, and how often they say that a place was erased.
use Rattle.std.proofs.Common.{◌≡◌, ◌≢◌, ◌≤◌, ◌<◌, ◌^◌, ℕ, suc, ◌+◌, ◌*◌, Bool, true, false, List, [], ◌∷◌, ◌++◌, length, drop, All, Some, sym, refl, ◌∙◌, ap, ap₂, arith, leb, append_assoc}
use Rattle.std.specs.Prelude.{if◌then◌else◌, ◌&&◌}
use Rattle.std.specs.Int.{w32, from_be_bytes}
use Rattle.std.specs.List.{flat_map}
use Rattle.std.proofs.lemmas.Bool.{le-leb, lt-leb, leb-true, leb-false}
use Rattle.std.proofs.lemmas.List.{length-append, drop_at}
use Rattle.std.proofs.lemmas.Nat.{from_be_bytes-to_be_bytes_4}
use Rattle.ipl_base.specs.declared.limits.TheConstants.{MOST_PLACES}
use Rattle.ipl_format.specs.Numbers.{word, word_at}
use Rattle.ipl_format.specs.Sector.{Sector, IsSector}
use Rattle.ipl_format.specs.Header.{erases_bytes, AreErases, erases_from, has_erases, erases_said, data_header_bytes, retired_bytes, AreRetired, IsWithin}
use Rattle.ipl_format.specs.Laws.{erases_size, DataHeadersSpellOnce, DataHeadersHaveSizes, StatusHeadersSpellOnce, StatusHeadersHaveSizes, OverflowHeadersSpellOnce, OverflowHeadersHaveSizes, DataHeadersSayErases, StatusHeadersSayErases, OverflowHeadersSayErases, ErasesFit}
use Rattle.ipl_format.proofs.ListLemmas.{parts_once, and_true, bytes-drop}
use Rattle.ipl_format.proofs.NumberLemmas.{length-word, word_once, word_again, word_at-lt}

-- ---- erase counts as bytes

-- what a version writes of a count, by whether it writes any
pub erases_later : (version erases : ℕ) → 3 ≤ version → erases_bytes version erases ≡ word erases
unfolding erases_bytes
erases_later version erases later = ap (λ (b : Bool). if b then word erases else []) (le-leb 3 version later)

pub erases_before : (version erases : ℕ) → version < 3 → erases_bytes version erases ≡ []
unfolding erases_bytes
erases_before version erases before = ap (λ (b : Bool). if b then word erases else []) (lt-leb 3 version before)

pub length-erases : (version erases : ℕ) → length (erases_bytes version erases) ≡ erases_size version
unfolding erases_bytes
length-erases version erases = sized (leb 3 version)
  where
    sized : (later : Bool) → length (if later then word erases else []) ≡ (if later then 4 else 0)
    sized true = length-word erases
    sized false = refl

pub erases_once : (version a b : ℕ) → AreErases version a → AreErases version b
    → erases_bytes version a ≡ erases_bytes version b → a ≡ b
unfolding erases_bytes
erases_once version a b x y = once (leb 3 version) refl
  where
    once : (later : Bool) → leb 3 version ≡ later
        → (if later then word a else []) ≡ (if later then word b else []) → a ≡ b
    once true is same = word_once a b x.fits y.fits same
    once false is same = x.once (leb-false 3 version is) ∙ sym (y.once (leb-false 3 version is))

-- ---- data headers

pub length-data_header : (units : ℕ) (pieces : List ℕ) (carried : ℕ) → length (data_header_bytes units pieces carried) ≡ 5 + length pieces
unfolding data_header_bytes
length-data_header units pieces carried =
    omega (arith, length-append (word units ++ pieces) (carried ∷ []), length-append (word units) pieces, length-word units)

pub data_headers_have_sizes : DataHeadersHaveSizes
data_headers_have_sizes version payload units pieces spelled =
    let whole : length payload ≡ length (data_header_bytes units pieces spelled.carried) + length (erases_bytes version spelled.erases) =
    ap length spelled.bytes ∙ length-append (data_header_bytes units pieces spelled.carried) (erases_bytes version spelled.erases) in
    let front : length (data_header_bytes units pieces spelled.carried) ≡ 20 =
    length-data_header units pieces spelled.carried ∙ ap (λ (n : ℕ). 5 + n) spelled.fifteen in
    whole ∙ ap₂ (λ (a b : ℕ). a + b) front (length-erases version spelled.erases)

parts_of : (units u : ℕ) (pieces q : List ℕ) (carried k : ℕ) → length pieces ≡ length q
    → data_header_bytes units pieces carried ≡ data_header_bytes u q k
    → (word units ≡ word u) × (pieces ≡ q) × (carried ≡ k)
unfolding data_header_bytes
parts_of units u pieces q carried k sizes same =
    let first : length (word units) ≡ length (word u) = length-word units ∙ sym (length-word u) in
    let fronts : length (word units ++ pieces) ≡ length (word u ++ q) =
    length-append (word units) pieces ∙ ap₂ (λ (a b : ℕ). a + b) first sizes ∙ sym (length-append (word u) q) in
    let (front, tail) = parts_once (word units ++ pieces) (word u ++ q) (carried ∷ []) (k ∷ []) fronts same in
    let (numbers, counts) = parts_once (word units) (word u) pieces q first front in
    let last : carried ≡ k = cc tail in
    (numbers, counts, last)

pub data_headers_spell_once : DataHeadersSpellOnce
data_headers_spell_once version payload units u pieces q one other =
    let sizes : length pieces ≡ length q = one.fifteen ∙ sym other.fifteen in
    let fronts : length (data_header_bytes units pieces one.carried) ≡ length (data_header_bytes u q other.carried) =
    length-data_header units pieces one.carried ∙ (ap (λ (n : ℕ). 5 + n) sizes ∙ sym (length-data_header u q other.carried)) in
    let (front, tail) = parts_once (data_header_bytes units pieces one.carried) (data_header_bytes u q other.carried)
    (erases_bytes version one.erases) (erases_bytes version other.erases) fronts (sym one.bytes ∙ other.bytes) in
    let (numbers, counts, last) = parts_of units u pieces q one.carried other.carried sizes front in
    record {
      same_units = word_once units u one.fits other.fits numbers;
      same_pieces = counts;
      same_carried = last;
      same_erases = erases_once version one.erases other.erases one.counted other.counted tail;
    }

-- ---- numbers of four bytes, one after the other

no_word : (n : ℕ) (x : List ℕ) → word n ++ x ≢ []
unfolding word
no_word n x none = cc none

pub words_once : (bound : ℕ) → bound ≤ 2 ^ 32 → (a b : List ℕ) → All (IsWithin bound) a → All (IsWithin bound) b
    → flat_map word a ≡ flat_map word b → a ≡ b
words_once bound low [] [] x y same = refl
words_once bound low [] (n ∷ b) x y same = absurd (no_word n (flat_map word b) (sym same))
words_once bound low (n ∷ a) [] x y same = absurd (no_word n (flat_map word a) same)
words_once bound low (n ∷ a) (k ∷ b) x y same =
    let (first, rest) = parts_once (word n) (word k) (flat_map word a) (flat_map word b) (length-word n ∙ sym (length-word k)) same in
    ap₂ (λ (n : ℕ) (l : List ℕ). n ∷ l)
    (word_once n k (omega (arith, low, x 0 n (omega arith))) (omega (arith, low, y 0 k (omega arith))) first)
    (words_once bound low a b (λ i d within. x (suc i) d (omega arith)) (λ i d within. y (suc i) d (omega arith)) rest)

pub length-words : (numbers : List ℕ) → length (flat_map word numbers) ≡ 4 * length numbers
length-words [] = refl
length-words (n ∷ numbers) = omega (arith, length-append (word n) (flat_map word numbers), length-word n, length-words numbers)

-- ---- status headers

retired_once : (version places units u : ℕ) (a b : List ℕ) → places ≤ MOST_PLACES
    → AreRetired version places units a → AreRetired version places u b
    → retired_bytes version a ≡ retired_bytes version b → a ≡ b
unfolding retired_bytes
retired_once version places units u a b low x y = once (leb 3 version) refl
  where
    once : (later : Bool) → leb 3 version ≡ later
        → (if later then length a ∷ flat_map word a else []) ≡ (if later then length b ∷ flat_map word b else []) → a ≡ b
    once true is same =
        let tails : flat_map word a ≡ flat_map word b = cc same in
        words_once places (omega (arith, low)) a b x.within y.within tails
    once false is same = x.none (leb-false 3 version is) ∙ sym (y.none (leb-false 3 version is))

length-retired : (version : ℕ) (retired : List ℕ)
    → erases_size version + length (retired_bytes version retired) ≡ (if leb 3 version then 5 + 4 * length retired else 0)
unfolding retired_bytes
length-retired version retired = sized (leb 3 version)
  where
    sized : (later : Bool)
        → (if later then 4 else 0) + length (if later then length retired ∷ flat_map word retired else [])
        ≡ (if later then 5 + 4 * length retired else 0)
    sized true = omega (arith, length-words retired)
    sized false = refl

pub status_headers_have_sizes : StatusHeadersHaveSizes
status_headers_have_sizes version places payload units spelled =
    let whole : length payload ≡ length (word units ++ erases_bytes version spelled.erases) + length (retired_bytes version spelled.retired) =
    ap length spelled.bytes ∙ length-append (word units ++ erases_bytes version spelled.erases) (retired_bytes version spelled.retired) in
    omega (
      arith,
      whole,
      length-append (word units) (erases_bytes version spelled.erases),
      length-word units,
      length-erases version spelled.erases,
      length-retired version spelled.retired,
    )

pub status_headers_spell_once : StatusHeadersSpellOnce
status_headers_spell_once version places payload units u low one other =
    let first : length (word units) ≡ length (word u) = length-word units ∙ sym (length-word u) in
    let fronts : length (word units ++ erases_bytes version one.erases) ≡ length (word u ++ erases_bytes version other.erases) =
    length-append (word units) (erases_bytes version one.erases)
    ∙ (ap₂ (λ (a b : ℕ). a + b) first (length-erases version one.erases ∙ sym (length-erases version other.erases))
    ∙ sym (length-append (word u) (erases_bytes version other.erases))) in
    let (front, tail) = parts_once (word units ++ erases_bytes version one.erases) (word u ++ erases_bytes version other.erases)
    (retired_bytes version one.retired) (retired_bytes version other.retired) fronts (sym one.bytes ∙ other.bytes) in
    let (numbers, counts) = parts_once (word units) (word u) (erases_bytes version one.erases) (erases_bytes version other.erases) first front in
    record {
      same_units = word_once units u one.fits other.fits numbers;
      same_erases = erases_once version one.erases other.erases one.counted other.counted counts;
      same_retired = retired_once version places units u one.retired other.retired low one.listed other.listed tail;
    }

-- ---- overflow headers

pub overflow_headers_have_sizes : OverflowHeadersHaveSizes
overflow_headers_have_sizes version payload units spelled =
    let whole : length payload ≡ length (word units) + length (erases_bytes version spelled.erases) =
    ap length spelled.bytes ∙ length-append (word units) (erases_bytes version spelled.erases) in
    whole ∙ ap₂ (λ (a b : ℕ). a + b) (length-word units) (length-erases version spelled.erases)

pub overflow_headers_spell_once : OverflowHeadersSpellOnce
overflow_headers_spell_once version payload units u one other =
    let (numbers, counts) = parts_once (word units) (word u) (erases_bytes version one.erases) (erases_bytes version other.erases)
    (length-word units ∙ sym (length-word u)) (sym one.bytes ∙ other.bytes) in
    (word_once units u one.fits other.fits numbers, erases_once version one.erases other.erases one.counted other.counted counts)

-- ---- what headers say of erases

-- a count that stands where it is read
said_later : (head : Sector) (front tail : List ℕ) (erases : ℕ) → head.kind ≤ 3 → 3 ≤ head.version
    → head.payload ≡ front ++ tail → length front ≡ erases_from head.kind → 4 ≤ length tail
    → word_at 0 tail ≡ erases → erases_said (Some head) ≡ erases
unfolding erases_said word_at
said_later head front tail erases kind later bytes sized enough read =
    let room : erases_from head.kind + 4 ≤ length head.payload = omega (arith, ap length bytes, length-append front tail, sized, enough) in
    let test : has_erases head ≡ true =
    and_true (le-leb head.kind 3 kind) (and_true (le-leb 3 head.version later) (le-leb (erases_from head.kind + 4) (length head.payload) room)) in
    let there : drop (erases_from head.kind) head.payload ≡ tail =
    ap (drop (erases_from head.kind)) bytes ∙ drop_at front tail (erases_from head.kind) sized in
    ap (λ (b : Bool). if b then from_be_bytes w32 (drop (erases_from head.kind) head.payload) else 1) test
    ∙ (ap (from_be_bytes w32) there ∙ read)

-- a header of an earlier version says nothing of it
said_before : (head : Sector) → head.version < 3 → erases_said (Some head) ≡ 1
unfolding erases_said
said_before head before = unsaid (leb head.kind 3)
  where
    unsaid : (kind : Bool)
        → (if kind && (leb 3 head.version && leb (erases_from head.kind + 4) (length head.payload)) then word_at (erases_from head.kind) head.payload else 1) ≡ 1
    unsaid true =
        ap (λ (b : Bool). if b && leb (erases_from head.kind + 4) (length head.payload) then word_at (erases_from head.kind) head.payload else 1)
        (lt-leb 3 head.version before)
    unsaid false = refl

word_read : (n : ℕ) → n < 2 ^ 32 → word_at 0 (word n) ≡ n
unfolding word word_at
word_read n low = from_be_bytes-to_be_bytes_4 n low

by_version : (head : Sector) (erases : ℕ) → AreErases head.version erases
    → (3 ≤ head.version → erases_said (Some head) ≡ erases) → erases_said (Some head) ≡ erases
by_version head erases counted later = cases (leb 3 head.version) refl
  where
    cases : (b : Bool) → leb 3 head.version ≡ b → erases_said (Some head) ≡ erases
    cases true is = later (leb-true 3 head.version is)
    cases false is = said_before head (leb-false 3 head.version is) ∙ sym (counted.once (leb-false 3 head.version is))

pub data_headers_say_erases : DataHeadersSayErases
data_headers_say_erases head units pieces kind spelled =
    by_version head spelled.erases spelled.counted (λ later.
    let front : length (data_header_bytes units pieces spelled.carried) ≡ erases_from head.kind =
    length-data_header units pieces spelled.carried ∙ (ap (λ (n : ℕ). 5 + n) spelled.fifteen ∙ sym (ap erases_from kind)) in
    said_later head (data_header_bytes units pieces spelled.carried) (word spelled.erases) spelled.erases
    (omega (arith, kind)) later
    (spelled.bytes ∙ ap (λ (x : List ℕ). data_header_bytes units pieces spelled.carried ++ x) (erases_later head.version spelled.erases later))
    front (omega (arith, length-word spelled.erases)) (word_read spelled.erases spelled.counted.fits))

pub status_headers_say_erases : StatusHeadersSayErases
status_headers_say_erases head places units kind spelled =
    by_version head spelled.erases spelled.counted (λ later.
    let rest : List ℕ = retired_bytes head.version spelled.retired in
    let joined : head.payload ≡ word units ++ (word spelled.erases ++ rest) =
    spelled.bytes ∙ (ap (λ (x : List ℕ). (word units ++ x) ++ rest) (erases_later head.version spelled.erases later)
    ∙ append_assoc (word units) (word spelled.erases) rest) in
    said_later head (word units) (word spelled.erases ++ rest) spelled.erases
    (omega (arith, kind)) later joined (length-word units ∙ sym (ap erases_from kind))
    (omega (arith, length-append (word spelled.erases) rest, length-word spelled.erases))
    (word_again spelled.erases rest spelled.counted.fits))

pub overflow_headers_say_erases : OverflowHeadersSayErases
overflow_headers_say_erases head units kind spelled =
    by_version head spelled.erases spelled.counted (λ later.
    said_later head (word units) (word spelled.erases) spelled.erases
    (omega (arith, kind)) later
    (spelled.bytes ∙ ap (λ (x : List ℕ). word units ++ x) (erases_later head.version spelled.erases later))
    (length-word units ∙ sym (ap erases_from kind)) (omega (arith, length-word spelled.erases)) (word_read spelled.erases spelled.counted.fits))

pub erases_fit : ErasesFit
unfolding erases_said
erases_fit head is = cases (has_erases head)
  where
    cases : (b : Bool) → (if b then word_at (erases_from head.kind) head.payload else 1) < 2 ^ 32
    cases true = word_at-lt (erases_from head.kind) head.payload (bytes-drop (erases_from head.kind) head.payload is.bytes)
    cases false = omega arith
