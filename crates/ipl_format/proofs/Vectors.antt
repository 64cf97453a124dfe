-- Bytes of the formats, computed from the definitions.
use Rattle.std.proofs.Common.{◌≡◌, ◌≢◌, ◌≤◌, ◌+◌, ◌/◌, ◌%◌, ℕ, true, false, eqb, List, [], ◌∷◌, ◌++◌, Some, None, ◌∙◌, ap, refl, arith, length, replicate, get_or, inl, inr}
use Rattle.std.proofs.lemmas.Bool.{cases_lt}
use Rattle.std.proofs.lemmas.List.{get_or_past}
use Rattle.std.proofs.lemmas.Nat.Bits.{bit_at-zero, bit_at_above}
use Rattle.crc_sum.specs.Crc.{shifted, shifted_8, with_byte, crc}
use Rattle.ipl_format.specs.Numbers.{half, word, long, half_at, word_at, long_at}
use Rattle.ipl_format.specs.Sector.{front, is_formed, said_in, sector_in}
use Rattle.ipl_format.specs.Record.{record_bytes, record_head}
use Rattle.ipl_format.specs.Commit.{SpellsCommit}
use Rattle.ipl_format.specs.Mark.{SpellsMark, bit_of, has_unit}
use Rattle.ipl_format.specs.Header.{SpellsDataHeader, data_header_bytes, erases_bytes, retired_bytes, erases_said}
use Rattle.ipl_format.specs.Page.{page_text, text_from}
use Rattle.ipl_format.proofs.ListLemmas.{bytes-nil, bytes-cons, bytes-append}
use Rattle.ipl_format.proofs.NumberLemmas.{bytes-word}
use Rattle.ipl_format.proofs.PayloadLemmas.{commits_have_sizes}
use Rattle.ipl_format.proofs.HeaderOnceLemmas.{data_headers_have_sizes}

-- the head of unit 0's data header after a format of five places, without its sum
first_head : front (record { kind = 1; version = 1; unit = 0; generation = 1; serial = 1; payload = 0 ∷ 0 ∷ 0 ∷ 1 ∷ replicate 16 0 })
    ≡ 73 ∷ 80 ∷ 76 ∷ 49 ∷ 1 ∷ 1 ∷ 0 ∷ 20 ∷ 0 ∷ 0 ∷ 0 ∷ 0 ∷ 0 ∷ 0 ∷ 0 ∷ 0 ∷ 0 ∷ 0 ∷ 0 ∷ 1 ∷ 0 ∷ 0 ∷ 0 ∷ 0 ∷ 0 ∷ 0 ∷ 0 ∷ 1 ∷ []
unfolding front half word long
first_head = refl

-- its payload: one unit, no base sectors, nothing carried
first_payload : data_header_bytes 1 (replicate 15 0) 0 ≡ 0 ∷ 0 ∷ 0 ∷ 1 ∷ replicate 16 0
unfolding data_header_bytes word
first_payload = refl

-- the whole sector, with its sum, says that header
first_sector : sector_in ((73 ∷ 80 ∷ 76 ∷ 49 ∷ 1 ∷ 1 ∷ 0 ∷ 20 ∷ 0 ∷ 0 ∷ 0 ∷ 0 ∷ 0 ∷ 0 ∷ 0 ∷ 0 ∷ 0 ∷ 0 ∷ 0 ∷ 1 ∷ 0 ∷ 0 ∷ 0 ∷ 0 ∷ 0 ∷ 0 ∷ 0 ∷ 1 ∷ 6 ∷ 228 ∷ 178 ∷ 88 ∷ 0 ∷ 0 ∷ 0 ∷ 1 ∷ []) ++ replicate 476 0)
    ≡ Some (record { kind = 1; version = 1; unit = 0; generation = 1; serial = 1; payload = 0 ∷ 0 ∷ 0 ∷ 1 ∷ replicate 16 0 })
unfolding sector_in is_formed said_in half_at word_at long_at crc with_byte shifted_8 shifted
first_sector = refl

-- a put of `hi` at page 0, slot 5 by transaction 7
a_put : record_bytes 1 (record { page = 0; slot = 5; tid = 7; change = Some (104 ∷ 105 ∷ []) })
    ≡ 0 ∷ 1 ∷ 5 ∷ 2 ∷ 0 ∷ 0 ∷ 0 ∷ 0 ∷ 0 ∷ 0 ∷ 0 ∷ 7 ∷ 104 ∷ 105 ∷ []
unfolding record_bytes record_head long
a_put = refl

-- a delete of page 14, slot 63 by transaction 4
a_delete : record_bytes 1 (record { page = 14; slot = 63; tid = 4; change = None })
    ≡ 14 ∷ 2 ∷ 63 ∷ 0 ∷ 0 ∷ 0 ∷ 0 ∷ 0 ∷ 0 ∷ 0 ∷ 0 ∷ 4 ∷ []
unfolding record_bytes record_head long
a_delete = refl

-- the commit payload of transaction 4
a_commit : long 4 ≡ 0 ∷ 0 ∷ 0 ∷ 0 ∷ 0 ∷ 0 ∷ 0 ∷ 4 ∷ []
unfolding long
a_commit = refl

-- slot 0 `hi`, slot 3 empty
two_slots : page_text 1 (Some (104 ∷ 105 ∷ []) ∷ None ∷ None ∷ Some [] ∷ replicate 60 None)
    ≡ 0 ∷ 2 ∷ 104 ∷ 105 ∷ 3 ∷ 0 ∷ []
unfolding text_from
two_slots = refl

-- no commit payload has no bytes, and none has twelve
no_bytes : (numbers : List ℕ) → SpellsCommit [] numbers → ⊥
no_bytes numbers spelled = let size = commits_have_sizes [] numbers spelled in let some = spelled.some in omega (arith, size, some)

twelve_bytes : (payload numbers : List ℕ) → length payload ≡ 12 → SpellsCommit payload numbers → ⊥
twelve_bytes payload numbers twelve spelled = let size = commits_have_sizes payload numbers spelled in omega (arith, size, twelve)

-- no data header of version 1 has another length than 20, as 19 or 21
other_length : (payload : List ℕ) (units : ℕ) (pieces : List ℕ) → length payload ≢ 20
    → SpellsDataHeader 1 units pieces payload → ⊥
other_length payload units pieces other spelled =
    other (data_headers_have_sizes 1 payload units pieces spelled)

-- ---- version 2

-- a put of `hi` at page 0, slot 5 by transaction 7
a_put_of_two : record_bytes 2 (record {
  page = 0;
  slot = 5;
  tid = 7;
  change = Some (104 ∷ 105 ∷ []);
})
    ≡ 0 ∷ 69 ∷ 0 ∷ 2 ∷ 0 ∷ 0 ∷ 0 ∷ 0 ∷ 0 ∷ 0 ∷ 0 ∷ 7 ∷ 104 ∷ 105 ∷ []
unfolding record_bytes record_head half long
a_put_of_two = refl

-- a delete of page 14, slot 63 by transaction 4
a_delete_of_two : record_bytes 2 (record { page = 14; slot = 63; tid = 4; change = None })
    ≡ 14 ∷ 191 ∷ 0 ∷ 0 ∷ 0 ∷ 0 ∷ 0 ∷ 0 ∷ 0 ∷ 0 ∷ 0 ∷ 4 ∷ []
unfolding record_bytes record_head half long
a_delete_of_two = refl

-- slot 0 `hi`, slot 3 empty
two_slots_of_two : page_text 2 (Some (104 ∷ 105 ∷ []) ∷ None ∷ None ∷ Some [] ∷ replicate 60 None)
    ≡ 0 ∷ 0 ∷ 2 ∷ 104 ∷ 105 ∷ 3 ∷ 0 ∷ 0 ∷ []
unfolding text_from half
two_slots_of_two = refl

-- ---- version 3

-- unit 0's data header after a format of five places: its place was erased once
first_payload_of_three : data_header_bytes 1 (replicate 15 0) 0 ++ erases_bytes 3 1 ≡ 0 ∷ 0 ∷ 0 ∷ 1 ∷ (replicate 16 0 ++ 0 ∷ 0 ∷ 0 ∷ 1 ∷ [])
unfolding data_header_bytes erases_bytes word
first_payload_of_three = refl

-- a status header of one unit, at a place that was erased 258 times, with place 2 retired
status_payload_of_three : word 1 ++ erases_bytes 3 258 ++ retired_bytes 3 (2 ∷ [])
    ≡ 0 ∷ 0 ∷ 0 ∷ 1 ∷ 0 ∷ 0 ∷ 1 ∷ 2 ∷ 1 ∷ 0 ∷ 0 ∷ 0 ∷ 2 ∷ []
unfolding erases_bytes retired_bytes word
status_payload_of_three = refl

-- no data header of version 3 has another length than 24, as 20
other_length_of_three : (payload : List ℕ) (units : ℕ) (pieces : List ℕ) → length payload ≢ 24
    → SpellsDataHeader 3 units pieces payload → ⊥
other_length_of_three payload units pieces other spelled =
    other (data_headers_have_sizes 3 payload units pieces spelled)

-- a place counts as erased once where its header is of version 2
said_of_two : erases_said (Some (record { kind = 3; version = 2; unit = 0; generation = 1; serial = 1; payload = 0 ∷ 0 ∷ 0 ∷ 1 ∷ 0 ∷ 0 ∷ 0 ∷ 7 ∷ [] })) ≡ 1
unfolding erases_said
said_of_two = refl

-- ---- marks

-- of a chip of one unit, which it has
one_unit : SpellsMark 1 (0 ∷ 0 ∷ 0 ∷ 1 ∷ 1 ∷ []) × (has_unit (0 ∷ 0 ∷ 0 ∷ 1 ∷ 1 ∷ []) 0 ≡ true)
unfolding word
one_unit = (record { bytes = bytes-append (0 ∷ 0 ∷ 0 ∷ 1 ∷ []) (1 ∷ []) (bytes-word 1) (bytes-cons 1 [] (omega arith) bytes-nil); size = refl; says = refl; unused = λ u beyond. no_more u beyond }, refl)
  where
    no_more : (u : ℕ) → 1 ≤ u → has_unit (0 ∷ 0 ∷ 0 ∷ 1 ∷ 1 ∷ []) u ≡ false
    no_more u beyond = elim (cases_lt u 8) [
      | inl low ↦
          let first : u / 8 ≡ 0 = omega (arith, low) in
          ap (λ (i : ℕ). bit_of (get_or (0 ∷ 0 ∷ 0 ∷ 1 ∷ 1 ∷ []) (4 + i) 0) (u % 8)) first
          ∙ ap (λ (x : ℕ). eqb x 1) (bit_at_above 1 1 (u % 8) (omega arith) (omega (arith, low, beyond)))
      | inr past ↦
          ap (λ (byte : ℕ). bit_of byte (u % 8)) (get_or_past (0 ∷ 0 ∷ 0 ∷ 1 ∷ 1 ∷ []) (4 + u / 8) 0 (omega (arith, past)))
          ∙ ap (λ (x : ℕ). eqb x 1) (bit_at-zero (u % 8))
    ]
