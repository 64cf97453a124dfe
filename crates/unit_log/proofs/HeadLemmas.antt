-- The header of a unit, read again.
use Rattle.std.proofs.Common.{◌≡◌, ◌+◌, ◌-◌, ◌&&◌, nat_le, ℕ, Bool, true, false, cond, List, take, drop, Option, Some, None, refl, sym, ◌∙◌, ap, subst, arith}
use Rattle.ipl_format.specs.Header.{SpellsDataHeader}
use Rattle.ipl_format.specs.Sector.{Sector}
use Rattle.ipl_format.proofs.HeaderOnceLemmas.{data_headers_spell_once}
use Rattle.ipl_meaning.specs.Chart.{Chart}
use Rattle.sector_format.specs.declared.sector.Head.{Head}
use Rattle.sector_format.specs.Decode.{sector_of}
use Rattle.unit_layout.specs.declared.header.DataHeader.{DataHeader}
use Rattle.unit_layout.specs.Header.{SpellsHeader}
use Rattle.unit_io.specs.Kinds.{header_only, sector_named}
use Rattle.unit_log.specs.declared.live.UnitHead.{UnitHead}
use Rattle.unit_log.specs.Live.{HasHead, SaysHead}

pub head_named : (c : Chart) (place u : ℕ) (head : Sector) (pieces : List ℕ)
    → HasHead c place u head pieces → header_only (c place 0) ≡ Some head
head_named c place u head pieces has = ap header_only has.here ∙ rw has.kind refl

module _ (it : Sector) (units : ℕ) (pieces : List ℕ) (found : Option (Head × ℕ)) (bytes : List ℕ)
    (named : sector_named bytes found ≡ Some it) (counts : SpellsDataHeader it.version units pieces it.payload)
    (head : Head) (used : ℕ) (is : found ≡ Some (head, used)) where
  sector_is : sector_of head (take used (drop 32 bytes)) ≡ it
  sector_is = let both : Some (sector_of head (take used (drop 32 bytes))) ≡ Some it =
      ap (sector_named bytes) (sym is) ∙ named in cc

  payload_is : take (32 + used - 32) (drop 32 bytes) ≡ it.payload
  payload_is = let few : 32 + used - 32 ≡ used = omega arith in
      ap (λ (n : ℕ). take n (drop 32 bytes)) few ∙ ap (λ (z : Sector). z.payload) sector_is

  version_is : head.version ≡ it.version
  version_is = ap (λ (z : Sector). z.version) sector_is

  pub payload_spelled
      : SpellsDataHeader head.version units pieces (take (32 + used - 32) (drop 32 bytes))
  payload_spelled =
      subst (λ (v : ℕ). SpellsDataHeader v units pieces (take (32 + used - 32) (drop 32 bytes)))
      (sym version_is)
      (subst (λ (l : List ℕ). SpellsDataHeader it.version units pieces l) (sym payload_is) counts)

  pub head_says : (header : DataHeader)
      → SpellsHeader head.version header (take (32 + used - 32) (drop 32 bytes))
      → (head.generation ≡ it.generation) × (header.pieces ≡ pieces)
      × (head.version ≡ it.version)
  head_says header says = (
    ap (λ (z : Sector). z.generation) sector_is,
    (data_headers_spell_once head.version (take (32 + used - 32) (drop 32 bytes)) header.units units
        header.pieces pieces says.spelled payload_spelled).same_pieces,
    version_is,
  )

-- what the bytes say, where they are read as a header of the unit
pub header_found : (bytes : List ℕ) (u : ℕ) (found : Option (Head × ℕ)) (head : Head) (used : ℕ)
    (r : UnitHead) (header : DataHeader) → found ≡ Some (head, used) → head.kind ≡ 1 → head.unit ≡ u
    → SpellsHeader head.version header (take (32 + used - 32) (drop 32 bytes))
    → r.generation ≡ head.generation → r.pieces ≡ header.pieces → r.version ≡ head.version
    → (sector : Sector) × (sector_named bytes found ≡ Some sector) × SaysHead sector u r
header_found bytes u found head used r header is kind unit says generation pieces version = (
  sector_of head (take used (drop 32 bytes)),
  ap (sector_named bytes) is,
  record {
    kind = kind;
    unit = unit;
    version = version;
    generation = generation;
    units = header.units;
    spelled = let few : 32 + used - 32 ≡ used = omega arith in
        subst (λ (l : List ℕ). SpellsDataHeader head.version header.units l (take used (drop 32 bytes))) (sym pieces)
        (subst (λ (n : ℕ). SpellsDataHeader head.version header.units header.pieces (take n (drop 32 bytes))) few says.spelled);
  },
)

-- a header is found only where one stands
pub head_stands : (o : Option Sector) (sector : Sector) → header_only o ≡ Some sector → o ≡ Some sector
head_stands None sector is = absurd (cc is)
head_stands (Some s) sector is = go (nat_le 1 s.kind && nat_le s.kind 3) is
  where
    go : (b : Bool) → cond b (Some s) None ≡ Some sector → Some s ≡ Some sector
    go true is = is
    go false is = absurd (cc is)
