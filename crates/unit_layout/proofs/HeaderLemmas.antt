-- Payloads of data and overflow headers, written and read.
use Rattle.std.proofs.Common.{◌≡◌, ◌≢◌, ◌≤◌, ◌<◌, ◌+◌, ◌^◌, ℕ, List, [], ◌∷◌, ◌++◌, ◌∙◌, ap, ap₂, sym, refl, subst, arith, length, take, drop, get_or, set, All, append_assoc, length-drop}
use Rattle.std.proofs.lemmas.List.{length-take-le, take_at, take_all, take-take, drop-take, get_or-take, get_or-drop, take_more_set}
use Rattle.std.proofs.Math.Seq.{take-add}
use Rattle.ipl_base.specs.declared.limits.TheConstants.{VERSION}
use Rattle.ipl_format.specs.Numbers.{IsBytes, word, word_at}
use Rattle.ipl_format.specs.Header.{IsCount, SpellsDataHeader, SpellsOverflowHeader, erases_bytes, data_header_bytes}
use Rattle.ipl_format.specs.Laws.{erases_size}
use Rattle.ipl_format.proofs.NumberLemmas.{word_rebuilt, word_at-lt, word_again}
use Rattle.ipl_format.proofs.HeaderLemmas.{one_left, header_parts}
use Rattle.ipl_format.proofs.HeaderOnceLemmas.{erases_later, length-data_header, data_headers_spell_once, data_headers_have_sizes, overflow_headers_have_sizes}
use Rattle.unit_layout.specs.declared.header.DataHeader.{DataHeader}
use Rattle.unit_layout.specs.Header.{SpellsHeader, SpellsOverflow, erases_at}
use Rattle.unit_layout.specs.Laws.{HeadersReadBack, PiecesStandApart}
use Rattle.unit_layout.proofs.WordLemmas.{erases_rebuilt, erases_are}

pub headers_read_back : HeadersReadBack
headers_read_back version h k payload p q =
    let same =
    data_headers_spell_once version payload h.units k.units h.pieces k.pieces p.spelled q.spelled in
    same_header h k same.same_units same.same_pieces
    (sym p.carried_is ∙ same.same_carried ∙ q.carried_is) (sym p.erases_are ∙ same.same_erases ∙ q.erases_are)
  where
    same_header : (a b : DataHeader) → a.units ≡ b.units → a.pieces ≡ b.pieces → a.carried ≡ b.carried → a.erases ≡ b.erases → a ≡ b
    same_header a b units pieces carried erases =
        ap₂ (λ (n : ℕ × ℕ) (r : List ℕ × ℕ). let x : DataHeader = record { units = n.0; erases = n.1; pieces = r.0; carried = r.1 } in x)
        (ap₂ (λ (n e : ℕ). let p : ℕ × ℕ = (n, e) in p) units erases)
        (ap₂ (λ (l : List ℕ) (c : ℕ). let p : List ℕ × ℕ = (l, c) in p) pieces carried)

pub pieces_stand_apart : PiecesStandApart
pieces_stand_apart page piece other last low less same = (omega (arith, low, less, same), omega (arith, low, less, same))

-- ---- data headers, read

-- the first twenty bytes are a number, fifteen counts and one more
front_rebuilt : (payload : List ℕ) → 20 ≤ length payload → IsBytes payload
    → take 20 payload ≡ data_header_bytes (word_at 0 payload) (take 15 (drop 4 payload)) (get_or payload 19 0)
unfolding data_header_bytes
front_rebuilt payload size all =
    let number : take 4 payload ≡ word (word_at 0 payload) = word_rebuilt 0 payload (omega (arith, size)) all in
    let last : take 1 (drop 19 payload) ≡ get_or payload 19 0 ∷ [] =
    one_left (take 1 (drop 19 payload)) (length-take-le 1 (drop 19 payload) (omega (arith, length-drop 19 payload, size)))
    ∙ ap (λ (n : ℕ). n ∷ []) (get_or-take 1 (drop 19 payload) 0 0 (omega arith) ∙ get_or-drop 19 payload 0 0) in
    let middle : take 19 payload ≡ word (word_at 0 payload) ++ take 15 (drop 4 payload) =
    take-add 4 15 payload ∙ ap (λ (l : List ℕ). l ++ take 15 (drop 4 payload)) number in
    take-add 19 1 payload ∙ ap₂ (λ (x y : List ℕ). x ++ y) middle last

-- bytes of a length are the first twenty and the count
pub data_rebuilt : (version : ℕ) (payload : List ℕ) → length payload ≡ 20 + erases_size version → IsBytes payload
    → payload ≡ data_header_bytes (word_at 0 payload) (take 15 (drop 4 payload)) (get_or payload 19 0)
    ++ erases_bytes version (erases_at version 20 payload)
data_rebuilt version payload size all =
    sym (take_all (20 + erases_size version) payload (omega (arith, size)))
    ∙ (take-add 20 (erases_size version) payload
    ∙ ap₂ (λ (x y : List ℕ). x ++ y) (front_rebuilt payload (omega (arith, size)) all)
    (erases_rebuilt version 20 payload all (omega (arith, size))))

-- what was read is spelled
pub data_read : (version units : ℕ) (pieces payload : List ℕ) → length payload ≡ 20 + erases_size version → IsBytes payload
    → units ≡ word_at 0 payload → pieces ≡ take 15 (drop 4 payload) → All IsCount pieces → get_or payload 19 0 ≤ 12
    → (spelled : SpellsDataHeader version units pieces payload)
    × (spelled.carried ≡ get_or payload 19 0) × (spelled.erases ≡ erases_at version 20 payload)
data_read version units pieces payload size all number counts each few = (
  record {
    carried = get_or payload 19 0;
    erases = erases_at version 20 payload;
    bytes = data_rebuilt version payload size all
        ∙ ap₂ (λ (n : ℕ) (l : List ℕ). data_header_bytes n l (get_or payload 19 0) ++ erases_bytes version (erases_at version 20 payload))
        (sym number) (sym counts);
    fits = let low = word_at-lt 0 payload all in omega (arith, number, low);
    fifteen = ap length counts ∙ length-take-le 15 (drop 4 payload) (omega (arith, length-drop 4 payload, size));
    each = each;
    few = few;
    counted = erases_are version 20 payload all;
  },
  refl,
  refl,
)

pub header_read : (version : ℕ) (payload : List ℕ) (h : DataHeader) → length payload ≡ 20 + erases_size version
    → IsBytes payload → h.units ≡ word_at 0 payload
    → h.pieces ≡ take 15 (drop 4 payload) → h.carried ≡ get_or payload 19 0 → All IsCount h.pieces
    → h.carried ≤ 12 → h.erases ≡ erases_at version 20 payload → SpellsHeader version h payload
header_read version payload h size all units pieces carried counts few erases =
    let it = data_read version h.units h.pieces payload size all units pieces counts (omega (arith, carried, few)) in
    record { spelled = it.0; carried_is = it.1 ∙ sym carried; erases_are = it.2 ∙ sym erases }

-- ---- what is spelled

pub data_number : (version units : ℕ) (pieces payload : List ℕ) → SpellsDataHeader version units pieces payload
    → word_at 0 payload ≡ units
unfolding data_header_bytes
data_number version units pieces payload it =
    let tail : List ℕ = erases_bytes version it.erases in
    ap (word_at 0) (it.bytes ∙ (append_assoc (word units ++ pieces) (it.carried ∷ []) tail
    ∙ append_assoc (word units) pieces (it.carried ∷ [] ++ tail))) ∙ word_again units (pieces ++ (it.carried ∷ [] ++ tail)) it.fits

-- the counts and the last byte of a payload that is spelled
pub data_parts : (version units : ℕ) (pieces payload : List ℕ) → (it : SpellsDataHeader version units pieces payload)
    → (take 15 (drop 4 payload) ≡ pieces) × (get_or payload 19 0 ≡ it.carried)
data_parts version units pieces payload it =
    let front : List ℕ = data_header_bytes units pieces it.carried in
    let tail : List ℕ = erases_bytes version it.erases in
    let long : length front ≡ 20 = length-data_header units pieces it.carried ∙ ap (λ (n : ℕ). 5 + n) it.fifteen in
    let parts = header_parts units it.carried pieces it.fifteen in
    let cut : take 20 payload ≡ front = ap (take 20) it.bytes ∙ take_at front tail 20 long in
    let first : take 15 (drop 4 payload) ≡ take 15 (drop 4 front) =
    dropped payload ∙ ap (λ (l : List ℕ). take 15 (drop 4 l)) cut in
    (first ∙ parts.0, sym (get_or-take 20 payload 19 0 (omega arith)) ∙ (ap (λ (l : List ℕ). get_or l 19 0) cut ∙ parts.1))
  where
    dropped : (l : List ℕ) → take 15 (drop 4 l) ≡ take 15 (drop 4 (take 20 l))
    dropped l = sym (ap (take 15) (drop-take 4 16 l) ∙ take-take 15 16 (drop 4 l) (omega arith))

-- ---- data headers, refused

pub other_size : (version : ℕ) (payload : List ℕ) → length payload ≢ 20 + erases_size version
    → (units : ℕ) (pieces : List ℕ) → SpellsDataHeader version units pieces payload → ⊥
other_size version payload other units pieces spelled =
    other (data_headers_have_sizes version payload units pieces spelled)

pub many_carried : (version : ℕ) (payload : List ℕ) → (get_or payload 19 0 ≤ 12 → ⊥)
    → (units : ℕ) (pieces : List ℕ) → SpellsDataHeader version units pieces payload → ⊥
many_carried version payload many units pieces spelled =
    let few = spelled.few in
    let last = (data_parts version units pieces payload spelled).1 in
    many (omega (arith, few, last))

pub no_counts : (version : ℕ) (payload counts : List ℕ) → counts ≡ take 15 (drop 4 payload)
    → (All IsCount counts → ⊥) → (units : ℕ) (pieces : List ℕ)
    → SpellsDataHeader version units pieces payload → ⊥
no_counts version payload counts is refused units pieces spelled =
    refused (subst (All IsCount) (sym (is ∙ (data_parts version units pieces payload spelled).0)) spelled.each)

-- ---- data headers, written

-- the number, the counts, the carried sectors and the erases
pub header_written : (h : DataHeader) (one two new : List ℕ)
    → length two ≡ 24 → length new ≡ 24 → length h.pieces ≡ 15 → h.units < 2 ^ 32 → h.erases < 2 ^ 32
    → All IsCount h.pieces → h.carried ≤ 12
    → take 4 one ≡ [] ++ word h.units → take 19 two ≡ take 4 one ++ h.pieces
    → take 24 new ≡ take 20 (set two 19 h.carried) ++ word h.erases
    → SpellsHeader VERSION h new
unfolding data_header_bytes
header_written h one two new sized size fifteen fits erases each few first counts last =
    let front : take 20 (set two 19 h.carried) ≡ data_header_bytes h.units h.pieces h.carried =
    take_more_set two 19 h.carried (omega (arith, sized))
    ∙ ap (λ (l : List ℕ). l ++ h.carried ∷ []) (counts ∙ ap (λ (l : List ℕ). l ++ h.pieces) first) in
    record {
      spelled = record {
        carried = h.carried;
        erases = h.erases;
        bytes = sym (take_all 24 new (omega (arith, size))) ∙ (last
            ∙ ap₂ (λ (x y : List ℕ). x ++ y) front (sym (erases_later VERSION h.erases (omega arith))));
        fits = fits;
        fifteen = fifteen;
        each = each;
        few = few;
        counted = record { fits = erases; once = λ before. absurd (omega (arith, before)) };
      };
      carried_is = refl;
      erases_are = refl;
    }

-- ---- overflow headers

pub overflow_read : (version units erases : ℕ) (payload : List ℕ) → length payload ≡ 4 + erases_size version → IsBytes payload
    → units ≡ word_at 0 payload → erases ≡ erases_at version 4 payload → SpellsOverflow version units erases payload
overflow_read version units erases payload size all number count = record {
  spelled = record {
    erases = erases_at version 4 payload;
    bytes = sym (take_all (4 + erases_size version) payload (omega (arith, size)))
        ∙ (take-add 4 (erases_size version) payload
        ∙ ap₂ (λ (x y : List ℕ). x ++ y) (word_rebuilt 0 payload (omega (arith, size)) all ∙ ap word (sym number))
        (erases_rebuilt version 4 payload all (omega (arith, size))));
    fits = let low = word_at-lt 0 payload all in omega (arith, number, low);
    counted = erases_are version 4 payload all;
  };
  erases_are = sym count;
}

pub overflow_refused : (version : ℕ) (payload : List ℕ) → length payload ≢ 4 + erases_size version
    → (units : ℕ) → SpellsOverflowHeader version units payload → ⊥
overflow_refused version payload other units spelled = other (overflow_headers_have_sizes version payload units spelled)

pub overflow_written : (units erases : ℕ) (one new : List ℕ) → length new ≡ 8 → units < 2 ^ 32 → erases < 2 ^ 32
    → take 4 one ≡ [] ++ word units → take 8 new ≡ take 4 one ++ word erases → SpellsOverflow VERSION units erases new
overflow_written units erases one new size low less first last = record {
  spelled = record {
    erases = erases;
    bytes = sym (take_all 8 new (omega (arith, size))) ∙ (last
        ∙ ap₂ (λ (x y : List ℕ). x ++ y) first (sym (erases_later VERSION erases (omega arith))));
    fits = low;
    counted = record { fits = less; once = λ before. absurd (omega (arith, before)) };
  };
  erases_are = refl;
}
