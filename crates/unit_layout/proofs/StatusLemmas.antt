-- Payloads of status headers, written and read.
use Rattle.std.proofs.Common.{◌≡◌, ◌⊎◌, inl, inr, ◌≤◌, ◌<◌, ◌+◌, ◌-◌, ◌*◌, ◌/◌, ◌^◌, ℕ, zero, suc, Bool, true, false, leb, ltb, List, [], ◌∷◌, ◌++◌, ◌∙◌, ap, ap₂, sym, refl, arith, length, take, drop, get_or, set, All, append_assoc, length-append, length-drop}
use Rattle.std.specs.Prelude.{if◌then◌else◌, ◌&&◌, ◌==◌, AllPairs}
use Rattle.std.specs.List.{flat_map}
use Rattle.std.proofs.lemmas.Bool.{le-leb, le-ltb, lt-leb, lt-ltb, and_right, leb-true, leb-false, ltb-true, eqb-true, eq-eqb, and_parts, and_from, both_ways}
use Rattle.std.proofs.lemmas.List.{append-nil, take-append-drop, drop-drop, length-take-le, take_all, drop_at, get_or-take, get_or-drop, take_more_set}
use Rattle.std.proofs.lemmas.List.Elements.{All-nil, All-cons, All-head, All-tail}
use Rattle.std.proofs.lemmas.List.Kept.{AllPairs-cons}
use Rattle.std.proofs.Math.Seq.{take-add}
use Rattle.ipl_base.specs.declared.limits.TheConstants.{VERSION}
use Rattle.ipl_format.specs.Numbers.{IsBytes, word, word_at}
use Rattle.ipl_format.specs.Header.{IsLower, IsWithin, AreRetired, SpellsStatusHeader, erases_bytes, retired_bytes}
use Rattle.ipl_format.proofs.ListLemmas.{bytes-drop}
use Rattle.ipl_format.proofs.NumberLemmas.{length-word, word_rebuilt, word_at-lt, word_again}
use Rattle.ipl_format.proofs.HeaderLemmas.{one_left}
use Rattle.ipl_format.proofs.HeaderOnceLemmas.{erases_later, length-words, status_headers_spell_once, status_headers_have_sizes}
use Rattle.unit_layout.specs.declared.status.StatusHeader.{StatusHeader}
use Rattle.unit_layout.specs.Header.{SpellsStatus, erases_at}
use Rattle.unit_layout.specs.Laws.{StatusHeadersReadBack}
use Rattle.unit_layout.specs.Retired.{words_within, words_in, retired_in, is_status_length, rise_within, may_be_retired}
use Rattle.unit_layout.proofs.WordLemmas.{erases_are, words_count, words_spelled, words_again, next_word}

pub status_headers_read_back : StatusHeadersReadBack
status_headers_read_back version places h k retired others payload low p q =
    let same = status_headers_spell_once version places payload h.units k.units low p.spelled q.spelled in (
      same_header h k same.same_units (sym p.erases_are ∙ same.same_erases ∙ q.erases_are),
      sym p.retired_are ∙ same.same_retired ∙ q.retired_are,
    )
  where
    same_header : (a b : StatusHeader) → a.units ≡ b.units → a.erases ≡ b.erases → a ≡ b
    same_header a b units erases = ap₂ (λ (n e : ℕ). let x : StatusHeader = record { units = n; erases = e } in x) units erases

-- ---- rising places

-- what passes begins with a place that does, and those behind it pass
record Passes (places least p : ℕ) (retired : List ℕ) : Type 0 where
  low : least ≤ p
  high : p < places
  rest : rise_within places (p + 1) retired ≡ true

passes : (places least p : ℕ) (retired : List ℕ) → rise_within places least (p ∷ retired) ≡ true → Passes places least p retired
passes places least p retired is =
    let a = and_parts _ _ is in
    let b = and_parts _ _ a.1 in
    record { low = leb-true least p a.0; high = ltb-true p places b.0; rest = b.1 }

-- places that pass are from this one on
from_least : (places least : ℕ) (retired : List ℕ) → rise_within places least retired ≡ true → All (λ p. least ≤ p) retired
from_least places least [] is = All-nil (λ p. least ≤ p)
from_least places least (p ∷ retired) is =
    let it : Passes places least p retired = passes places least p retired is in
    All-cons (λ q. least ≤ q) p retired it.low
    (λ i d inside. let more : p + 1 ≤ get_or retired i d = from_least places (p + 1) retired it.rest i d inside in omega (arith, it.low, more))

rising : (places least : ℕ) (retired : List ℕ) → rise_within places least retired ≡ true → AllPairs IsLower retired
rising places least [] is = λ i j d before inside. absurd (omega (arith, inside))
rising places least (p ∷ retired) is =
    let it : Passes places least p retired = passes places least p retired is in
    AllPairs-cons IsLower p retired
    (λ i d inside. let more : p + 1 ≤ get_or retired i d = from_least places (p + 1) retired it.rest i d inside in omega (arith, more))
    (rising places (p + 1) retired it.rest)

within : (places least : ℕ) (retired : List ℕ) → rise_within places least retired ≡ true → All (IsWithin places) retired
within places least [] is = All-nil (IsWithin places)
within places least (p ∷ retired) is =
    let it : Passes places least p retired = passes places least p retired is in
    All-cons (IsWithin places) p retired it.high (within places (p + 1) retired it.rest)

-- rising places of the chip pass
rise_passes : (places least : ℕ) (retired : List ℕ) → All (λ p. least ≤ p) retired → AllPairs IsLower retired → All (IsWithin places) retired
    → rise_within places least retired ≡ true
rise_passes places least [] low rise each = refl
rise_passes places least (p ∷ retired) low rise each =
    and_from _ _ (le-leb least p (low 0 p (omega arith))) (and_from _ _ (lt-ltb p places (All-head (IsWithin places) p retired each))
    (rise_passes places (p + 1) retired
    (λ i d inside. let more : p < get_or retired i d = rise 0 (suc i) d (omega arith) (omega (arith, inside)) in omega (arith, more))
    (λ i j d before inside. rise (suc i) (suc j) d (omega (arith, before)) (omega (arith, inside)))
    (All-tail (IsWithin places) p retired each)))

-- ---- may be retired

pub are_retired : (version places units : ℕ) (retired : List ℕ) → (version < 3 → retired ≡ [])
    → may_be_retired places units retired ≡ true → AreRetired version places units retired
are_retired version places units retired none is =
    let a = and_parts _ _ is in
    let b = and_parts _ _ a.1 in
    record {
      rising = rising places 0 retired a.0;
      within = within places 0 retired a.0;
      few = leb-true (length retired) 64 b.0;
      spare = leb-true (length retired + units + 4) places b.1;
      none = none;
    }

pub retired_pass : (version places units : ℕ) (retired : List ℕ) → AreRetired version places units retired
    → may_be_retired places units retired ≡ true
retired_pass version places units retired it =
    and_from _ _ (rise_passes places 0 retired (λ i d inside. omega arith) it.rising it.within)
    (and_from _ _ (le-leb (length retired) 64 it.few) (le-leb (length retired + units + 4) places it.spare))

-- the test of places in bytes, by how many they are
pub retired_tests : (places units : ℕ) (bytes : List ℕ)
    → may_be_retired places units (words_in bytes)
    ≡ (rise_within places 0 (words_in bytes) && (leb (length bytes / 4) 64 && leb (length bytes / 4 + units + 4) places))
retired_tests places units bytes =
    ap (λ (n : ℕ). rise_within places 0 (words_in bytes) && (leb n 64 && leb (n + units + 4) places)) (words_count (length bytes / 4) bytes)

-- places that are not the first of those that are left, or are not the chip's, don't pass
pub not_rising : (places least p : ℕ) (retired : List ℕ) → (p < least) ⊎ (places ≤ p) → rise_within places least (p ∷ retired) ≡ false
not_rising places least p retired (inl low) = ap (λ (b : Bool). b && (ltb p places && rise_within places (p + 1) retired)) (lt-leb least p low)
not_rising places least p retired (inr high) = and_right (leb least p) _ (ap (λ (b : Bool). b && rise_within places (p + 1) retired) (le-ltb p places high))

-- the first that is left passes, and the others decide
pub rising_on : (places least p : ℕ) (retired : List ℕ) → least ≤ p → p < places
    → rise_within places least (p ∷ retired) ≡ rise_within places (p + 1) retired
rising_on places least p retired low high = rw (le-leb least p low, lt-ltb p places high) refl

-- a turn of the loop over places: the one that is read doesn't pass
pub turn_refuses : (places least i n : ℕ) (bytes : List ℕ) (whole : Bool)
    → whole ≡ rise_within places least (words_within n (drop (4 * i) bytes)) → 1 ≤ n
    → (word_at (4 * i) bytes < least) ⊎ (places ≤ word_at (4 * i) bytes) → false ≡ whole
turn_refuses places least i zero bytes whole is some bad = absurd (omega (arith, some))
turn_refuses places least i (suc n) bytes whole is some bad =
    sym (is ∙ (ap (rise_within places least) (next_word n i bytes)
    ∙ not_rising places least (word_at (4 * i) bytes) (words_within n (drop (4 * (i + 1)) bytes)) bad))

-- it passes, and those behind it are left
pub turn_passes : (places least i n : ℕ) (bytes : List ℕ) (whole : Bool)
    → whole ≡ rise_within places least (words_within n (drop (4 * i) bytes)) → 1 ≤ n
    → least ≤ word_at (4 * i) bytes → word_at (4 * i) bytes < places
    → whole ≡ rise_within places (word_at (4 * i) bytes + 1) (words_within (n - 1) (drop (4 * (i + 1)) bytes))
turn_passes places least i zero bytes whole is some low high = absurd (omega (arith, some))
turn_passes places least i (suc n) bytes whole is some low high =
    is ∙ (ap (rise_within places least) (next_word n i bytes)
    ∙ (rising_on places least (word_at (4 * i) bytes) (words_within n (drop (4 * (i + 1)) bytes)) low high
    ∙ ap (λ (k : ℕ). rise_within places (word_at (4 * i) bytes + 1) (words_within k (drop (4 * (i + 1)) bytes))) (let on : n ≡ suc n - 1 = omega arith in on)))

-- ---- what is spelled

abbrev behind : ℕ → ℕ → List ℕ → List ℕ
behind version erases retired = erases_bytes version erases ++ retired_bytes version retired

whole_is : (version places units : ℕ) (payload : List ℕ) → (it : SpellsStatusHeader version places units payload)
    → payload ≡ word units ++ behind version it.erases it.retired
whole_is version places units payload it =
    it.bytes ∙ append_assoc (word units) (erases_bytes version it.erases) (retired_bytes version it.retired)

pub status_number : (version places units : ℕ) (payload : List ℕ) → SpellsStatusHeader version places units payload
    → word_at 0 payload ≡ units
status_number version places units payload it =
    ap (word_at 0) (whole_is version places units payload it) ∙ word_again units (behind version it.erases it.retired) it.fits

-- what stands behind the count, from version 3 on
tail_is : (version places units : ℕ) (payload : List ℕ) → 3 ≤ version → (it : SpellsStatusHeader version places units payload)
    → drop 8 payload ≡ length it.retired ∷ flat_map word it.retired
unfolding retired_bytes
tail_is version places units payload later it =
    let bytes : payload ≡ (word units ++ word it.erases) ++ (length it.retired ∷ flat_map word it.retired) =
    it.bytes ∙ ap₂ (λ (e r : List ℕ). (word units ++ e) ++ r) (erases_later version it.erases later)
    (ap (λ (b : Bool). if b then length it.retired ∷ flat_map word it.retired else []) (le-leb 3 version later)) in
    ap (drop 8) bytes ∙ drop_at (word units ++ word it.erases) (length it.retired ∷ flat_map word it.retired) 8
    (omega (arith, length-append (word units) (word it.erases), length-word units, length-word it.erases))

-- how many are listed, and what stands behind that
listed_is : (version places units : ℕ) (payload : List ℕ) → 3 ≤ version → (it : SpellsStatusHeader version places units payload)
    → (get_or payload 8 0 ≡ length it.retired) × (drop 9 payload ≡ flat_map word it.retired)
listed_is version places units payload later it =
    let tail = tail_is version places units payload later it in (
      sym (get_or-drop 8 payload 0 0) ∙ ap (λ (l : List ℕ). get_or l 0 0) tail,
      sym (drop-drop 1 8 payload) ∙ ap (drop 1) tail,
    )

pub status_length : (version places units : ℕ) (payload : List ℕ) → SpellsStatusHeader version places units payload
    → is_status_length version payload ≡ true
status_length version places units payload it = cases (leb 3 version) refl
  where
    cases : (later : Bool) → leb 3 version ≡ later
        → (if leb 3 version then length payload == 9 + 4 * get_or payload 8 0 else length payload == 4) ≡ true
    cases true is =
        let count = (listed_is version places units payload (leb-true 3 version is) it).0 in
        let size : length payload ≡ 4 + (5 + 4 * length it.retired) =
        status_headers_have_sizes version places payload units it
        ∙ ap (λ (b : Bool). 4 + (if b then 5 + 4 * length it.retired else 0)) is in
        ap (λ (b : Bool). if b then length payload == 9 + 4 * get_or payload 8 0 else length payload == 4) is
        ∙ eq-eqb (length payload) (9 + 4 * get_or payload 8 0) (omega (arith, size, count))
    cases false is =
        let size : length payload ≡ 4 + 0 =
        status_headers_have_sizes version places payload units it
        ∙ ap (λ (b : Bool). 4 + (if b then 5 + 4 * length it.retired else 0)) is in
        ap (λ (b : Bool). if b then length payload == 9 + 4 * get_or payload 8 0 else length payload == 4) is
        ∙ eq-eqb (length payload) 4 (omega (arith, size))

pub status_retired : (version places units : ℕ) (payload : List ℕ) → places ≤ 2 ^ 32 → (it : SpellsStatusHeader version places units payload)
    → retired_in version payload ≡ it.retired
status_retired version places units payload low it = cases (leb 3 version) refl
  where
    cases : (later : Bool) → leb 3 version ≡ later → words_in (if leb 3 version then drop 9 payload else []) ≡ it.retired
    cases true is =
        let bytes : drop 9 payload ≡ flat_map word it.retired = (listed_is version places units payload (leb-true 3 version is) it).1 in
        let count : length (flat_map word it.retired) / 4 ≡ length it.retired = omega (arith, length-words it.retired) in
        ap (λ (b : Bool). words_in (if b then drop 9 payload else [])) is
        ∙ (ap words_in bytes
        ∙ (ap (λ (n : ℕ). words_within n (flat_map word it.retired)) count
        ∙ words_again places low it.retired it.listed.within))
    cases false is =
        ap (λ (b : Bool). words_in (if b then drop 9 payload else [])) is ∙ sym (it.listed.none (leb-false 3 version is))

-- a payload that is spelled passes
pub status_passes : (version places units : ℕ) (payload : List ℕ) → places ≤ 2 ^ 32 → SpellsStatusHeader version places units payload
    → (is_status_length version payload ≡ true) × (word_at 0 payload ≡ units)
    × (may_be_retired places units (retired_in version payload) ≡ true)
status_passes version places units payload low it = (
  status_length version places units payload it,
  status_number version places units payload it,
  ap (may_be_retired places units) (status_retired version places units payload low it)
      ∙ retired_pass version places units it.retired it.listed,
)

-- ---- read

-- none is listed before version 3
pub none_before : (version : ℕ) (payload : List ℕ) → version < 3 → retired_in version payload ≡ []
none_before version payload before = ap (λ (b : Bool). words_in (if b then drop 9 payload else [])) (lt-leb 3 version before)

-- the bytes of a payload that has as many as it says
status_rebuilt : (version : ℕ) (payload : List ℕ) → is_status_length version payload ≡ true → IsBytes payload
    → payload ≡ word (word_at 0 payload) ++ erases_bytes version (erases_at version 4 payload)
    ++ retired_bytes version (retired_in version payload)
unfolding retired_bytes erases_bytes
status_rebuilt version payload size all = rebuilt (leb 3 version) size
  where
    rebuilt : (later : Bool)
        → (if later then length payload == 9 + 4 * get_or payload 8 0 else length payload == 4) ≡ true
        → payload ≡ word (word_at 0 payload) ++ (if later then word (if later then word_at 4 payload else 1) else [])
        ++ (if later then length (words_in (if later then drop 9 payload else [])) ∷ flat_map word (words_in (if later then drop 9 payload else [])) else [])
    rebuilt false is =
        let short : length payload ≡ 4 = eqb-true (length payload) 4 is in
        sym (take_all 4 payload (omega (arith, short))) ∙ (word_rebuilt 0 payload (omega (arith, short)) all
        ∙ (sym (append-nil (word (word_at 0 payload))) ∙ sym (append-nil (word (word_at 0 payload) ++ []))))
    rebuilt true is =
        let long : length payload ≡ 9 + 4 * get_or payload 8 0 = eqb-true (length payload) (9 + 4 * get_or payload 8 0) is in
        let left : length (drop 9 payload) ≡ 4 * get_or payload 8 0 = omega (arith, length-drop 9 payload, long) in
        let count : length (drop 9 payload) / 4 ≡ get_or payload 8 0 = omega (arith, left) in
        let listed : length (words_in (drop 9 payload)) ≡ get_or payload 8 0 = words_count (length (drop 9 payload) / 4) (drop 9 payload) ∙ count in
        let number : take 4 payload ≡ word (word_at 0 payload) = word_rebuilt 0 payload (omega (arith, long)) all in
        let erases : take 4 (drop 4 payload) ≡ word (word_at 4 payload) =
        word_rebuilt 4 payload (omega (arith, long, length-drop 4 payload)) (bytes-drop 4 payload all) in
        let eight : take 8 payload ≡ word (word_at 0 payload) ++ word (word_at 4 payload) =
        take-add 4 4 payload ∙ ap₂ (λ (x y : List ℕ). x ++ y) number erases in
        let one : take 1 (drop 8 payload) ≡ length (words_in (drop 9 payload)) ∷ [] =
        one_left (take 1 (drop 8 payload)) (length-take-le 1 (drop 8 payload) (omega (arith, length-drop 8 payload, long)))
        ∙ ap (λ (n : ℕ). n ∷ []) (get_or-take 1 (drop 8 payload) 0 0 (omega arith) ∙ (get_or-drop 8 payload 0 0 ∙ sym listed)) in
        let rest : drop 9 payload ≡ flat_map word (words_in (drop 9 payload)) =
        words_spelled (length (drop 9 payload) / 4) (drop 9 payload) (bytes-drop 9 payload all) (omega (arith, left, count)) in
        let nine : take 9 payload ≡ (word (word_at 0 payload) ++ word (word_at 4 payload)) ++ length (words_in (drop 9 payload)) ∷ [] =
        take-add 8 1 payload ∙ ap₂ (λ (x y : List ℕ). x ++ y) eight one in
        sym (take-append-drop 9 payload)
        ∙ (ap₂ (λ (x y : List ℕ). x ++ y) nine rest
        ∙ append_assoc (word (word_at 0 payload) ++ word (word_at 4 payload)) (length (words_in (drop 9 payload)) ∷ []) (flat_map word (words_in (drop 9 payload))))

-- what passes is spelled
pub status_spelled : (version places units : ℕ) (payload : List ℕ) → IsBytes payload → is_status_length version payload ≡ true
    → units ≡ word_at 0 payload → may_be_retired places units (retired_in version payload) ≡ true
    → (it : SpellsStatusHeader version places units payload)
    × (it.erases ≡ erases_at version 4 payload) × (it.retired ≡ retired_in version payload)
status_spelled version places units payload all size number may = (
  record {
    erases = erases_at version 4 payload;
    retired = retired_in version payload;
    bytes = status_rebuilt version payload size all
        ∙ ap (λ (n : ℕ). word n ++ erases_bytes version (erases_at version 4 payload) ++ retired_bytes version (retired_in version payload)) (sym number);
    fits = let low = word_at-lt 0 payload all in omega (arith, number, low);
    counted = erases_are version 4 payload all;
    listed = are_retired version places units (retired_in version payload) (none_before version payload) may;
  },
  refl,
  refl,
)

pub status_read : (version places : ℕ) (payload : List ℕ) (h : StatusHeader) → IsBytes payload → is_status_length version payload ≡ true
    → h.units ≡ word_at 0 payload → may_be_retired places h.units (retired_in version payload) ≡ true
    → h.erases ≡ erases_at version 4 payload → SpellsStatus version places h (retired_in version payload) payload
status_read version places payload h all size number may erases =
    let it = status_spelled version places h.units payload all size number may in
    record { spelled = it.0; erases_are = it.1 ∙ sym erases; retired_are = it.2 }

-- what doesn't pass isn't
pub other_length : (version places : ℕ) (payload : List ℕ) → is_status_length version payload ≡ false
    → (units : ℕ) → SpellsStatusHeader version places units payload → ⊥
other_length version places payload is units it =
    both_ways (is_status_length version payload) is (status_length version places units payload it)

pub not_retired : (version places number : ℕ) (payload : List ℕ) → places ≤ 2 ^ 32 → number ≡ word_at 0 payload
    → may_be_retired places number (retired_in version payload) ≡ false
    → (units : ℕ) → SpellsStatusHeader version places units payload → ⊥
not_retired version places number payload low is refused units it =
    let passes = status_passes version places units payload low it in
    both_ways (may_be_retired places number (retired_in version payload)) refused
    (ap (λ (n : ℕ). may_be_retired places n (retired_in version payload)) (is ∙ passes.1) ∙ passes.2)

-- ---- written

pub status_written : (places : ℕ) (h : StatusHeader) (retired one two last : List ℕ) (count : ℕ)
    → length two ≡ 265 → count ≡ length retired → h.units < 2 ^ 32 → h.erases < 2 ^ 32
    → take 4 one ≡ [] ++ word h.units → take 8 two ≡ take 4 one ++ word h.erases
    → take (9 + 4 * length retired) last ≡ take 9 (set two 8 count) ++ flat_map word retired
    → AreRetired VERSION places h.units retired
    → SpellsStatus VERSION places h retired (take (9 + 4 * length retired) last)
unfolding retired_bytes
status_written places h retired one two last count size counted low less first second third listed = record {
  spelled = record {
    erases = h.erases;
    retired = retired;
    bytes = third ∙ (ap (λ (l : List ℕ). l ++ flat_map word retired)
        (take_more_set two 8 count (omega (arith, size))
        ∙ ap₂ (λ (l : List ℕ) (n : ℕ). l ++ n ∷ []) (second ∙ ap (λ (l : List ℕ). l ++ word h.erases) first) counted)
        ∙ (append_assoc (word h.units ++ word h.erases) (length retired ∷ []) (flat_map word retired)
        ∙ ap (λ (l : List ℕ). (word h.units ++ l) ++ (length retired ∷ flat_map word retired)) (sym (erases_later VERSION h.erases (omega arith)))));
    fits = low;
    counted = record { fits = less; once = λ before. absurd (omega (arith, before)) };
    listed = listed;
  };
  erases_are = refl;
  retired_are = refl;
}
