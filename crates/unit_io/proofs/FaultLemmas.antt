-- What is wrong with the bytes of a piece, by what they are read as.
use Rattle.std.proofs.Common.{◌≡◌, ◌≢◌, ◌≤◌, ℕ, Bool, true, false, not, cond, eqb, List, [], ◌∷◌, Some, None, ◌∙◌, ap, ap₂, sym, refl, inl, inr, arith, length, take, drop, replicate, length-drop, length-append, ◌++◌, ◌+◌}
use Rattle.std.specs.List.{list_all}
use Rattle.std.specs.Prelude.{◌&&◌}
use Rattle.std.proofs.lemmas.Bool.{cases_Bool, eqb-true, eq-eqb}
use Rattle.std.proofs.lemmas.List.{length-take-le}
use Rattle.std.proofs.Math.Seq.{take-append_seam}
use Rattle.chip_trait.specs.Story.{blank}
use Rattle.ipl_base.specs.declared.fault.ChipFault.TheVariants.{Damaged, Malformed}
use Rattle.ipl_format.specs.Sector.{Sector, stored_sum, computed_sum, sector_in}
use Rattle.ipl_format.proofs.SectorOnceLemmas.{said_parts}
use Rattle.ipl_format.proofs.ListLemmas.{both_true}
use Rattle.sector_format.specs.declared.sector.Decoded.TheVariants.{Erased, Bad, Strange}
use Rattle.sector_format.specs.declared.sector.Decoded.{Decoded}
use Rattle.sector_format.specs.Decode.{IsDecoded, sector_read}
use Rattle.unit_io.specs.Faults.{is_ones, is_damaged, is_piece, piece_fault, payload_of}

ones_are : (xs : List ℕ) → list_all is_ones xs ≡ true → xs ≡ replicate (length xs) 255
ones_are [] e = refl
ones_are (x ∷ xs) e =
    let parts = both_true _ _ e in
    ap₂ (λ (a : ℕ) (rest : List ℕ). a ∷ rest) (eqb-true x 255 parts.0) (ones_are xs parts.1)

all_ones_is_blank : (bytes : List ℕ) → length bytes ≡ 512 → list_all is_ones bytes ≡ true → bytes ≡ blank
unfolding blank
all_ones_is_blank bytes long e = ones_are bytes e ∙ ap (λ (n : ℕ). replicate n 255) long

blank_is_ones : list_all is_ones blank ≡ true
unfolding blank
blank_is_ones = refl

pub blank_undamaged : (bytes : List ℕ) → bytes ≡ blank → is_damaged bytes ≡ false
unfolding is_damaged
blank_undamaged bytes e = rw (e, blank_is_ones) refl

and_false : (a : Bool) → (a && false) ≡ false
and_false true = refl
and_false false = refl

pub undamaged : (bytes : List ℕ) → stored_sum bytes ≡ computed_sum bytes → is_damaged bytes ≡ false
unfolding is_damaged
undamaged bytes sums =
    ap (λ (b : Bool). not (list_all is_ones bytes) && not b) (eq-eqb (stored_sum bytes) (computed_sum bytes) sums) ∙ and_false (not (list_all is_ones bytes))

damaged_by : (bytes : List ℕ) → list_all is_ones bytes ≡ false → eqb (stored_sum bytes) (computed_sum bytes) ≡ false → is_damaged bytes ≡ true
unfolding is_damaged
damaged_by bytes p q = ap₂ (λ (a b : Bool). not a && not b) p q

not_true : (b : Bool) → (b ≡ true → ⊥) → b ≡ false
not_true true no_way = absurd (no_way refl)
not_true false no_way = refl

pub damaged : (bytes : List ℕ) → length bytes ≡ 512 → bytes ≢ blank → stored_sum bytes ≢ computed_sum bytes → is_damaged bytes ≡ true
damaged bytes long written apart =
    damaged_by bytes (not_true (list_all is_ones bytes) (λ e. written (all_ones_is_blank bytes long e)))
    (not_true (eqb (stored_sum bytes) (computed_sum bytes)) (λ e. apart (eqb-true _ _ e)))

-- a sector that checks isn't damaged
pub said_undamaged : (bytes : List ℕ) (s : Sector) → sector_in bytes ≡ Some s → is_damaged bytes ≡ false
said_undamaged bytes s said = undamaged bytes (said_parts bytes s said).1

module _ (place sector version u g serial : ℕ) (last : Bool) (bytes : List ℕ) where
  by_tests : (a b : Bool) → is_damaged bytes ≡ a → is_piece version u g serial last (sector_in bytes) ≡ b
      → piece_fault place sector version u g serial last bytes
      ≡ cond a (Some (Damaged place sector (stored_sum bytes) (computed_sum bytes))) (cond b None (Some (Malformed place sector)))
  unfolding piece_fault
  by_tests a b p q =
      ap₂ (λ (x y : Bool). cond x (Some (Damaged place sector (stored_sum bytes) (computed_sum bytes))) (cond y None (Some (Malformed place sector)))) p q

  pub bad_fault : (stored computed : ℕ) → length bytes ≡ 512 → IsDecoded bytes (Bad stored computed)
      → piece_fault place sector version u g serial last bytes ≡ Some (Damaged place sector stored computed)
  bad_fault stored computed long (written, stored_is, computed_is, apart) =
      by_tests true (is_piece version u g serial last (sector_in bytes)) (damaged bytes long written (λ e. apart (stored_is ∙ (e ∙ sym computed_is)))) refl
      ∙ ap₂ (λ (a b : ℕ). Some (Damaged place sector a b)) (sym stored_is) (sym computed_is)

  nothing_fault : is_damaged bytes ≡ false → sector_in bytes ≡ None → piece_fault place sector version u g serial last bytes ≡ Some (Malformed place sector)
  nothing_fault fine none = by_tests false false fine (ap (is_piece version u g serial last) none)

  pub erased_fault : sector_in bytes ≡ None → IsDecoded bytes Erased → piece_fault place sector version u g serial last bytes ≡ Some (Malformed place sector)
  erased_fault none erased = nothing_fault (blank_undamaged bytes erased) none

  pub strange_fault : sector_in bytes ≡ None → IsDecoded bytes Strange → piece_fault place sector version u g serial last bytes ≡ Some (Malformed place sector)
  strange_fault none strange = nothing_fault (undamaged bytes strange.1) none

  -- a sector that checks, by whether it is the piece
  pub said_fault : (s : Sector) (b : Bool) → sector_in bytes ≡ Some s → b ≡ is_piece version u g serial last (Some s)
      → piece_fault place sector version u g serial last bytes ≡ cond b None (Some (Malformed place sector))
  said_fault s b said test = by_tests false b (said_undamaged bytes s said) (ap (is_piece version u g serial last) said ∙ sym test)

  -- and the other way round
  pub no_fault : piece_fault place sector version u g serial last bytes ≡ None → is_piece version u g serial last (sector_in bytes) ≡ true
  no_fault e = elim (cases_Bool (is_damaged bytes)) [
    | inl bad ↦ absurd (some_none (sym (by_tests true (is_piece version u g serial last (sector_in bytes)) bad refl) ∙ e))
    | inr fine ↦ elim (cases_Bool (is_piece version u g serial last (sector_in bytes))) [
      | inl is ↦ is
      | inr other ↦ absurd (some_none (sym (by_tests false false fine other) ∙ e))
    ]
  ]
    where
      some_none : {X : Type 0} {x : X} → Some x ≡ None → ⊥
      some_none e = cc

-- the payload that is used is as long as told
pub used_is : (bytes : List ℕ) (used : ℕ) → length bytes ≡ 512 → used ≤ 480 → length (take used (drop 32 bytes)) ≡ used
used_is bytes used long short = length-take-le used (drop 32 bytes) (omega (arith, length-drop 32 bytes, long, short))

-- and it is what the sector says
pub payload_is : (bytes here : List ℕ) (answer : Decoded) (used : ℕ) → bytes ≡ here → sector_in bytes ≡ sector_read bytes answer
    → payload_of (sector_read bytes answer) ≡ take used (drop 32 bytes) → payload_of (sector_in here) ≡ take used (drop 32 bytes)
payload_is bytes here answer used same says payload = ap (λ (b : List ℕ). payload_of (sector_in b)) (sym same) ∙ (ap payload_of says ∙ payload)

-- a text with a piece put behind its front
pub text_put : (start used at : ℕ) (old piece rest new here : List ℕ) → new ≡ (take start old ++ piece) ++ rest → start ≤ length old → length piece ≡ used → start ≡ at
    → here ≡ piece → take (start + used) new ≡ take at old ++ here
text_put start used at old piece rest new here put within size same is =
    let front : length (take start old ++ piece) ≡ start + used = omega (arith, length-append (take start old) piece, length-take-le start old within, size) in
    ap (take (start + used)) put ∙ (ap (λ (n : ℕ). take n ((take start old ++ piece) ++ rest)) (sym front)
    ∙ (take-append_seam (take start old ++ piece) rest ∙ ap₂ (λ (n : ℕ) (t : List ℕ). take n old ++ t) same (sym is)))
