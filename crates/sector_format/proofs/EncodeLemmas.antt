-- What the writes of an encoder come to.
use Rattle.std.proofs.Common.{◌≡◌, ◌≢◌, ◌≤◌, ℕ, List, ◌++◌, Some, ◌∙◌, ap, sym, refl, length, drop, take, arith, length-append, length-drop}
use Rattle.std.proofs.lemmas.List.{take_at}
use Rattle.std.proofs.lemmas.Option.{none-some}
use Rattle.byteorder.specs.Endian.{big_bytes}
use Rattle.chip_trait.specs.Story.{blank}
use Rattle.ipl_base.specs.declared.limits.TheConstants.{PAYLOAD_LEN}
use Rattle.ipl_format.specs.Numbers.{IsBytes, half, word, long}
use Rattle.ipl_format.specs.Version.{IsVersion}
use Rattle.ipl_format.specs.Sector.{Sector, IsKind, IsSector, front, filled, sector_bytes, sector_in, computed_sum}
use Rattle.ipl_format.proofs.SectorLemmas.{length-front, sectors_are_said, blank_says_nothing}
use Rattle.sector_format.specs.declared.sector.Head.{Head}
use Rattle.sector_format.specs.Decode.{HasRange, head_bytes, sector_of}
use Rattle.sector_format.proofs.ListLemmas.{put_sum, behind_front}
use borrow.Rule.Slice.PartMut.{put_mid, mid_of}

-- the front of a head's sector
front_of_head : (head : Head) (payload : List ℕ) → head_bytes head (length payload) ≡ front (sector_of head payload)
unfolding head_bytes front half word long
front_of_head head payload = refl

length-head_bytes : (head : Head) (payload : List ℕ) → length (head_bytes head (length payload)) ≡ 28
length-head_bytes head payload =
    ap (λ (xs : List ℕ). length xs) (front_of_head head payload) ∙ length-front (sector_of head payload)

-- what stands behind the head stays, where its front is written
pub behind_head : (head : Head) (payload out fronted : List ℕ) → fronted ≡ head_bytes head (length payload) ++ drop 28 out
    → drop 32 fronted ≡ drop 32 out
behind_head head payload out fronted f =
    ap (drop 32) f ∙ behind_front (head_bytes head (length payload)) out (length-head_bytes head payload)

-- the front and the sum, put before a payload
pub encoded : (head : Head) (payload out fronted part : List ℕ) (sum : ℕ) → length out ≡ 512
    → drop 32 out ≡ filled payload
    → fronted ≡ head_bytes head (length payload) ++ drop 28 out
    → sum ≡ computed_sum fronted
    → part ≡ big_bytes 4 sum ++ drop 4 (mid_of 28 4 fronted)
    → put_mid 28 4 fronted part ≡ sector_bytes (sector_of head payload)
unfolding sector_bytes word
encoded head payload out fronted part sum long there f e p =
    let s : Sector = sector_of head payload in
    let front_is : take 28 fronted ≡ front s =
    ap (take 28) f ∙ ap (λ (xs : List ℕ). take 28 (xs ++ drop 28 out)) (front_of_head head payload)
    ∙ take_at (front s) (drop 28 out) 28 (length-front s) in
    let rest_is : drop 32 fronted ≡ filled payload =
    behind_head head payload out fronted f ∙ there in
    let whole : length fronted ≡ 512 =
    ap (λ (xs : List ℕ). length xs) f
    ∙ omega (arith, length-append (head_bytes head (length payload)) (drop 28 out), length-head_bytes head payload, length-drop 28 out, long) in
    put_sum fronted (big_bytes 4 sum) part whole p
    ∙ rw (e, front_is, rest_is) refl

-- a head and a payload that can be written make a sector
pub makes_sector : (head : Head) (payload : List ℕ) → IsKind head.kind → IsVersion head.version
    → HasRange head → length payload ≤ PAYLOAD_LEN → IsBytes payload
    → IsSector (sector_of head payload)
makes_sector head payload kind version range short bytes = record {
  kind = kind;
  version = version;
  unit = range.unit;
  generation = range.generation;
  serial = range.serial;
  short = short;
  bytes = bytes;
}

-- its bytes say it
pub written_is_said : (s : Sector) (bytes : List ℕ) → IsSector s → bytes ≡ sector_bytes s → sector_in bytes ≡ Some s
written_is_said s bytes is e = ap sector_in e ∙ (sectors_are_said s is).1

-- and aren't blank
pub written_not_blank : (s : Sector) (bytes : List ℕ) → IsSector s → bytes ≡ sector_bytes s → bytes ≢ blank
written_not_blank s bytes is e erased = none-some s (sym (ap sector_in erased ∙ blank_says_nothing) ∙ written_is_said s bytes is e)
