-- Payloads of marks, written and read.
use Rattle.std.proofs.Common.{◌≡◌, ◌≤◌, ◌<◌, ◌+◌, ◌-◌, ◌*◌, ◌/◌, ◌%◌, ◌^◌, ℕ, suc, Bool, true, false, eqb, List, [], ◌++◌, ◌∙◌, ap, ap₂, sym, subst, mod-lt, arith, length, take, drop, replicate, get_or, set, inl, inr, w8, bit_or}
use Rattle.std.specs.Prelude.{◌||◌, ◌==◌}
use Rattle.std.specs.Int.{bit_at}
use Rattle.std.proofs.lemmas.Bool.{cases_lt, cases_eq, eq-eqb, ne_eqb, eqb-true, le-leb, leb-true, and_parts, and_from}
use Rattle.std.proofs.lemmas.List.{take-append-drop, take-take, length-take, length-take-le, get_or-take, get_or_past, get_or-replicate, get_or-append_right, get_or-set_same, get_or-set_other, take-set-le, length-set, take_at}
use Rattle.std.proofs.lemmas.Nat.{shr-shr, or_lt}
use Rattle.std.proofs.lemmas.Nat.Bits.{bit_at-zero, bit_at-suc, bit_at-lt, bit_at_above, bit_at_set_same, bit_at_set_other, same_from_bits}
use Rattle.std.proofs.Math.Seq.{take-set-lt}
use Rattle.ipl_format.specs.Numbers.{IsBytes, word, word_at}
use Rattle.ipl_format.specs.Mark.{SpellsMark, bits_length, bit_of, has_unit}
use Rattle.ipl_format.proofs.MarkLemmas.{bit_once, bit_of_unit}
use Rattle.ipl_format.proofs.ListLemmas.{bytes-take, bytes-append, bytes-replicate, bytes-set}
use Rattle.ipl_format.proofs.NumberLemmas.{bytes-word, word_rebuilt, word_again}
use Rattle.unit_layout.specs.Laws.{MarksAreTold}
use Rattle.unit_layout.specs.Mark.{is_mark_payload}

-- a byte of 0 has no bit
no_bit : (byte n : ℕ) → byte ≡ 0 → bit_of byte n ≡ false
no_bit byte n is = ap (λ (x : ℕ). bit_of x n) is ∙ ap (λ (x : ℕ). eqb x 1) (bit_at-zero n)

-- ---- none

-- zeros behind the first four bytes have no unit
pub none_in : (units : ℕ) (one out : List ℕ) → units ≤ 1024 → length one ≡ 132 → out ≡ take 4 one ++ replicate 128 0
    → (u : ℕ) → has_unit (take (4 + bits_length units) out) u ≡ false
none_in units one out most size is u = no_bit (get_or (take (4 + bits_length units) out) (4 + u / 8) 0) (u % 8) zero_there
  where
    zero_there : get_or (take (4 + bits_length units) out) (4 + u / 8) 0 ≡ 0
    zero_there = elim (cases_lt (4 + u / 8) (4 + bits_length units)) [
      | inl inside ↦
          get_or-take (4 + bits_length units) out (4 + u / 8) 0 inside
          ∙ (ap (λ (l : List ℕ). get_or l (4 + u / 8) 0) is
          ∙ (get_or-append_right (take 4 one) (replicate 128 0) 4 (4 + u / 8) 0 (length-take-le 4 one (omega (arith, size))) (omega arith)
          ∙ get_or-replicate 128 (4 + u / 8 - 4) 0 0 (omega (arith, inside, most))))
      | inr past ↦ get_or_past (take (4 + bits_length units) out) (4 + u / 8) 0 (omega (arith, past, length-take (4 + bits_length units) out))
    ]

-- they spell a mark behind the number of units
pub mark_begun : (units : ℕ) (one out : List ℕ) → units ≤ 1024 → length one ≡ 132 → length out ≡ 132 → take 4 one ≡ [] ++ word units
    → out ≡ take 4 one ++ replicate 128 0 → SpellsMark units (take (4 + bits_length units) out)
mark_begun units one out most size same number is = record {
  bytes = bytes-take (4 + bits_length units) out (subst IsBytes (sym is)
      (bytes-append (take 4 one) (replicate 128 0) (subst IsBytes (sym number) (bytes-word units)) (bytes-replicate 128 0 (omega arith))));
  size = length-take-le (4 + bits_length units) out (omega (arith, most, same));
  says = take-take 4 (4 + bits_length units) out (omega arith)
      ∙ (ap (take 4) is ∙ (take_at (take 4 one) (replicate 128 0) 4 (length-take-le 4 one (omega (arith, size))) ∙ number));
  unused = λ u beyond. none_in units one out most size is u;
}

-- ---- one more

-- the byte of a unit, with its bit
abbrev with_bit : List ℕ → ℕ → ℕ
with_bit xs unit = bit_or (get_or xs (4 + unit / 8) 0) (1 * 2 ^ (unit % 8) % 256)

-- in its place it has the unit, and the others as before
module _ (xs : List ℕ) (unit : ℕ) (inside : 4 + unit / 8 < length xs) (u : ℕ) where
  abbrev changed : List ℕ
  changed = set xs (4 + unit / 8) (with_bit xs unit)

  abbrev byte : ℕ
  byte = get_or xs (4 + unit / 8) 0

  there : get_or changed (4 + unit / 8) 0 ≡ with_bit xs unit
  there = get_or-set_same xs (4 + unit / 8) (with_bit xs unit) 0 inside

  own : has_unit changed unit ≡ true
  own = ap (λ (x : ℕ). bit_of x (unit % 8)) there ∙ ap (λ (x : ℕ). eqb x 1) (bit_at_set_same w8 byte (unit % 8) (omega arith))

  other : (u ≡ unit → ⊥) → has_unit changed u ≡ has_unit xs u
  other differ = elim (cases_eq (u / 8) (unit / 8)) [
    | inl one ↦
        ap (λ (j : ℕ). bit_of (get_or changed (4 + j) 0) (u % 8)) one
        ∙ (ap (λ (x : ℕ). bit_of x (u % 8)) there
        ∙ (ap (λ (x : ℕ). eqb x 1) (bit_at_set_other w8 byte (unit % 8) (omega arith) (u % 8) (λ same. differ (omega (arith, same, one))))
        ∙ ap (λ (j : ℕ). bit_of (get_or xs (4 + j) 0) (u % 8)) (sym one)))
    | inr apart ↦
        ap (λ (x : ℕ). bit_of x (u % 8))
        (get_or-set_other xs (4 + unit / 8) (4 + u / 8) (with_bit xs unit) 0 (λ same. apart (omega (arith, same))))
  ]

  has_with : has_unit changed u ≡ ((u == unit) || has_unit xs u)
  has_with = elim (cases_eq u unit) [
    | inl same ↦ ap (has_unit changed) same ∙ (own ∙ sym (ap (λ (b : Bool). b || has_unit xs u) (eq-eqb u unit same)))
    | inr differ ↦ other differ ∙ sym (ap (λ (b : Bool). b || has_unit xs u) (ne_eqb u unit differ))
  ]

-- the bytes that count are changed as all of them are
added : (n unit : ℕ) (old : List ℕ) → 4 + unit / 8 < n
    → take n (set old (4 + unit / 8) (with_bit old unit)) ≡ set (take n old) (4 + unit / 8) (with_bit (take n old) unit)
added n unit old within =
    take-set-lt n old (4 + unit / 8) (with_bit old unit) within
    ∙ ap (λ (x : ℕ). set (take n old) (4 + unit / 8) (bit_or x (1 * 2 ^ (unit % 8) % 256))) (sym (get_or-take n old (4 + unit / 8) 0 within))

pub has_added : (units unit : ℕ) (old : List ℕ) → unit < units → SpellsMark units (take (4 + bits_length units) old) → (u : ℕ)
    → has_unit (take (4 + bits_length units) (set old (4 + unit / 8) (with_bit old unit))) u
    ≡ ((u == unit) || has_unit (take (4 + bits_length units) old) u)
has_added units unit old less it u =
    ap (λ (l : List ℕ). has_unit l u) (added (4 + bits_length units) unit old (omega (arith, less)))
    ∙ has_with (take (4 + bits_length units) old) unit (let size = it.size in omega (arith, size, less)) u

pub mark_added : (units unit : ℕ) (old : List ℕ) → unit < units → SpellsMark units (take (4 + bits_length units) old)
    → SpellsMark units (take (4 + bits_length units) (set old (4 + unit / 8) (with_bit old unit)))
mark_added units unit old less it =
    let is = added (4 + bits_length units) unit old (omega (arith, less)) in
    let before : List ℕ = take (4 + bits_length units) old in record {
      bytes = subst IsBytes (sym is) (bytes-set before (4 + unit / 8) (with_bit before unit)
          (or_lt 8 _ _ (it.bytes (4 + unit / 8)) (mod-lt (1 * 2 ^ (unit % 8)) (omega arith))) it.bytes);
      size = ap length is ∙ (length-set before (4 + unit / 8) (with_bit before unit) ∙ it.size);
      says = ap (take 4) is ∙ (take-set-le 4 before (4 + unit / 8) (with_bit before unit) (omega arith) ∙ it.says);
      unused = λ u beyond. has_added units unit old less it u
          ∙ ap₂ (λ (a b : Bool). a || b) (ne_eqb u unit (λ same. omega (arith, same, beyond, less))) (it.unused u beyond);
    }

-- ---- told

-- the bits behind a shift
bit_behind : (byte k i : ℕ) → bit_at (byte / 2 ^ k) i ≡ bit_at byte (k + i)
bit_behind byte k i = ap (λ (x : ℕ). x % 2) (shr-shr byte k i)

-- a byte that has at most the bit k from there on has none above
none_above : (byte k n : ℕ) → byte / 2 ^ k ≤ 1 → k < n → bit_of byte n ≡ false
none_above byte k n few above =
    let where_is : n ≡ k + (n - k) = omega (arith, above) in
    ap (bit_of byte) where_is
    ∙ ap (λ (x : ℕ). eqb x 1) (sym (bit_behind byte k (n - k)) ∙ bit_at_above (byte / 2 ^ k) 1 (n - k) (omega (arith, few)) (omega (arith, above)))

-- and one that has none above has at most that
few_from : (byte k : ℕ) → byte < 256 → ((n : ℕ) → k < n → n < 8 → bit_of byte n ≡ false) → byte / 2 ^ k ≤ 1
few_from byte k low none = omega (arith, nothing)
  where
    above : (n : ℕ) → k < n → bit_at byte n ≡ 0
    above n later = elim (cases_lt n 8) [
      | inl within ↦ bit_once (bit_at byte n) 0 (bit_at-lt byte n) (omega arith) (none n later within)
      | inr past ↦ bit_at_above byte 8 n low past
    ]

    nothing : byte / 2 ^ k / 2 ≡ 0
    nothing = same_from_bits (byte / 2 ^ k / 2) 0 (λ i.
        sym (bit_at-suc (byte / 2 ^ k) i) ∙ (bit_behind byte k (suc i) ∙ (above (k + suc i) (omega arith) ∙ sym (bit_at-zero i))))

-- what passes is spelled
pub mark_told : (units : ℕ) (payload : List ℕ) → IsBytes payload → 1 ≤ units → is_mark_payload units payload ≡ true → SpellsMark units payload
mark_told units payload all some is =
    let a = and_parts _ _ is in
    let b = and_parts _ _ a.1 in
    let size : length payload ≡ 4 + bits_length units = eqb-true (length payload) (4 + bits_length units) a.0 in
    let number : word_at 0 payload ≡ units = eqb-true (word_at 0 payload) units b.0 in
    let few : get_or payload (3 + bits_length units) 0 / 2 ^ ((units + 7) % 8) ≤ 1 = leb-true _ 1 b.1 in record {
      bytes = all;
      size = size;
      says = word_rebuilt 0 payload (omega (arith, size)) all ∙ ap word number;
      unused = λ u beyond. elim (cases_lt (u / 8) (bits_length units)) [
        | inl inside ↦
            let last : 4 + u / 8 ≡ 3 + bits_length units = omega (arith, inside, beyond, some) in
            ap (λ (j : ℕ). bit_of (get_or payload j 0) (u % 8)) last
            ∙ none_above (get_or payload (3 + bits_length units) 0) ((units + 7) % 8) (u % 8) few (omega (arith, inside, beyond, some))
        | inr past ↦ no_bit (get_or payload (4 + u / 8) 0) (u % 8) (get_or_past payload (4 + u / 8) 0 (omega (arith, size, past)))
      ];
    }

-- what is spelled passes
pub mark_passes : (units : ℕ) (payload : List ℕ) → 1 ≤ units → units ≤ 1024 → SpellsMark units payload → is_mark_payload units payload ≡ true
mark_passes units payload some most it =
    let number : word_at 0 payload ≡ units = ap (word_at 0) (sym (take-append-drop 4 payload) ∙ ap (λ (l : List ℕ). l ++ drop 4 payload) it.says)
    ∙ word_again units (drop 4 payload) (omega (arith, most)) in
    let last : 4 + (bits_length units - 1) ≡ 3 + bits_length units = omega (arith, some) in
    let few : get_or payload (3 + bits_length units) 0 / 2 ^ ((units + 7) % 8) ≤ 1 =
    few_from (get_or payload (3 + bits_length units) 0) ((units + 7) % 8) (it.bytes (3 + bits_length units)) (λ n above within.
    ap (λ (j : ℕ). bit_of (get_or payload j 0) n) (sym last)
    ∙ (bit_of_unit payload (bits_length units - 1) n within ∙ it.unused (8 * (bits_length units - 1) + n) (omega (arith, above, some)))) in
    and_from _ _ (eq-eqb (length payload) (4 + bits_length units) it.size)
    (and_from _ _ (eq-eqb (word_at 0 payload) units number) (le-leb _ 1 few))

pub marks_are_told : MarksAreTold
marks_are_told units payload all some most =
    (mark_told units payload all some, mark_passes units payload some most)
