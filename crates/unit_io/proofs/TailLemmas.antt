-- What pieces bring into the sums of their sectors.
use Rattle.std.proofs.Common.{◌≡◌, ◌≤◌, ◌<◌, ◌*◌, ℕ, Bool, List, ◌++◌, None, refl, ◌∙◌, ap, sym, inl, inr, arith, length, length-append, drop, set, get_or}
use Rattle.std.proofs.lemmas.Bool.{cases_lt}
use Rattle.std.proofs.lemmas.List.{get_or-set_other}
use Rattle.std.proofs.lemmas.Grind.{get_or-set_at}
use Rattle.crc_sum.specs.Crc.{tail_sum}
use Rattle.ipl_format.specs.Numbers.{IsBytes}
use Rattle.ipl_format.specs.Page.{piece_of}
use Rattle.ipl_format.specs.Sector.{Sector, filled, sector_in}
use Rattle.ipl_format.proofs.SectorLemmas.{filled_of}
use Rattle.ipl_format.proofs.SectorOnceLemmas.{sectors_spell_once}
use Rattle.sector_format.specs.Decode.{sector_read}
use Rattle.sector_format.specs.declared.sector.Decoded.{Decoded}
use Rattle.unit_io.specs.Faults.{payload_of, piece_fault}
use Rattle.unit_io.specs.Tails.{AreTails}
use Rattle.unit_io.proofs.FaultLemmas.{no_fault}
use Rattle.unit_io.proofs.HeldLemmas.{piece_in, piece_of_front, piece_behind}

-- what stands behind the head of a piece is its payload, filled up
pub payload_filled : (place sector v u g serial : ℕ) (last : Bool) (bytes payload : List ℕ) (answer : Decoded)
    → length bytes ≡ 512 → IsBytes bytes
    → piece_fault place sector v u g serial last bytes ≡ None
    → sector_in bytes ≡ sector_read bytes answer → payload_of (sector_read bytes answer) ≡ payload
    → drop 32 bytes ≡ filled payload
payload_filled place sector v u g serial last bytes payload answer long all sound says is =
    let it = piece_in bytes (sector_in bytes) v u g serial last refl (no_fault place sector v u g serial last bytes sound) in
    let s : Sector = let s : Sector = record { kind = 4; version = v; unit = u; generation = g; serial = serial; payload = it.payload } in s in
    let same : it.payload ≡ payload = sym (ap payload_of it.here) ∙ (ap payload_of says ∙ is) in
    ap (drop 32) (sectors_spell_once bytes s long all it.here).1 ∙ (filled_of s ∙ ap filled same)

-- one piece more
pub tails_more : (n tail : ℕ) (front payload text tails now : List ℕ) → length front ≡ 480 * n → length payload ≤ 480
    → n < length tails → text ≡ front ++ payload → now ≡ set tails n tail → tail ≡ tail_sum (filled payload)
    → AreTails front tails → AreTails text now
tails_more n tail front payload text tails now long short room whole put is before i within =
    elim (cases_lt i n) [
      | inl earlier ↦
          ap (λ (all : List ℕ). get_or all i 0) put
          ∙ get_or-set_other tails n i tail 0 (λ same. omega (arith, same, earlier))
          ∙ before i (omega (arith, long, earlier))
          ∙ ap (λ (xs : List ℕ). tail_sum (filled xs)) (sym (ap (λ (t : List ℕ). piece_of t i) whole ∙ piece_of_front n i front payload long earlier))
      | inr later ↦
          let same : i ≡ n = omega (arith, within, later, ap (λ (t : List ℕ). length t) whole, length-append front payload, long, short) in
          ap (λ (all : List ℕ). get_or all i 0) put
          ∙ get_or-set_at tails n i tail 0 same room
          ∙ is
          ∙ ap (λ (xs : List ℕ). tail_sum (filled xs)) (sym (
          ap (λ (t : List ℕ). piece_of t i) whole
          ∙ ap (λ (k : ℕ). piece_of (front ++ payload) k) same
          ∙ piece_behind n front payload long short
          ))
    ]

-- of nothing there are no pieces
pub tails_none : (text tails : List ℕ) → length text ≡ 0 → AreTails text tails
tails_none text tails none i within = absurd (omega (arith, none, within))
