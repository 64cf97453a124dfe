-- The tests of payloads are their grammars.
use Rattle.std.proofs.Common.{◌≡◌, inl, inr, ◌≤◌, ◌<◌, ℕ, zero, suc, ◌+◌, ◌*◌, ◌/◌, ◌%◌, Bool, true, false, eqb, leb, List, [], ◌∷◌, ◌++◌, Option, Some, None, cond, ◌∙◌, ap, ap₂, sym, refl, subst, arith, length, take, drop, get_or, All, length-drop}
use Rattle.std.specs.List.{list_all, flat_map}
use Rattle.std.specs.Option.{option_map_or}
use Rattle.std.proofs.lemmas.Bool.{eqb-true, leb-true, eq-eqb, le-leb, and_parts, and_from, or_cases, or_left, or_right, cond-true}
use Rattle.std.proofs.lemmas.List.{take-append-drop, drop_at, nil_from_length}
use Rattle.std.proofs.lemmas.List.Elements.{All-nil, All-cons, All-head, All-tail}
use Rattle.ipl_format.specs.Numbers.{IsBytes, long, word_at, long_at}
use Rattle.ipl_format.specs.Record.{Record, IsRecord, SpellsLog, record_bytes, log_bytes}
use Rattle.ipl_format.specs.Commit.{IsLong}
use Rattle.ipl_format.specs.Header.{IsCount}
use Rattle.ipl_format.specs.Laws.{erases_size}
use Rattle.ipl_format.proofs.HeaderOnceLemmas.{data_headers_have_sizes, status_headers_have_sizes}
use Rattle.ipl_format.proofs.ListLemmas.{bytes-drop}
use Rattle.ipl_format.proofs.NumberLemmas.{length-long, long_rebuilt, long_at-lt, long_again}
use Rattle.ipl_format.proofs.PayloadLemmas.{commits_have_sizes}
use Rattle.log_records.specs.Reading.{record_at}
use Rattle.log_records.proofs.RecordLemmas.{again, takes, shorter}
use Rattle.log_records.proofs.RecordsLemmas.{records_list}
use Rattle.unit_layout.proofs.HeaderLemmas.{data_read, data_number, data_parts}
use Rattle.unit_layout.proofs.StatusLemmas.{status_spelled, status_passes, status_retired}
use Rattle.unit_layout.specs.Retired.{is_status_length, may_be_retired, retired_in}
use Rattle.ipl_meaning.specs.Payloads.{units_said_in, pieces_in, is_count, is_data_payload, is_status_payload, numbers_within, is_list_within, is_log_payload}
use Rattle.ipl_meaning.specs.PayloadLaws.{DataPayloadsAreSpelled, SpelledDataPasses, StatusPayloadsAreSpelled, SpelledStatusPasses, CommitPayloadsAreSpelled, SpelledCommitsPass, LogPayloadsAreSpelled, SpelledLogsPass}

-- ---- how many units are said

-- a payload that has room for a number says it
says : (payload : List ℕ) (units : ℕ) → 4 ≤ length payload → word_at 0 payload ≡ units → units_said_in payload ≡ Some units
says payload units size number =
    cond-true (leb 4 (length payload)) (Some (word_at 0 payload)) None (le-leb 4 (length payload) size) ∙ ap Some number

-- ---- data headers

counts_are : (xs : List ℕ) → list_all is_count xs ≡ true → All IsCount xs
counts_are [] is = All-nil IsCount
counts_are (x ∷ xs) is = let parts = and_parts _ _ is in All-cons IsCount x xs (leb-true x 16 parts.0) (counts_are xs parts.1)

counts_pass : (xs : List ℕ) → All IsCount xs → list_all is_count xs ≡ true
counts_pass [] each = refl
counts_pass (x ∷ xs) each = and_from _ _ (le-leb x 16 (All-head IsCount x xs each)) (counts_pass xs (All-tail IsCount x xs each))

pub data_payloads_are_spelled : DataPayloadsAreSpelled
data_payloads_are_spelled version payload all is =
    let a = and_parts _ _ is in
    let d = and_parts _ _ a.1 in
    (data_read version (word_at 0 payload) (pieces_in payload) payload (eqb-true (length payload) (20 + erases_size version) a.0) all
    refl refl (counts_are (pieces_in payload) d.0) (leb-true (get_or payload 19 0) 12 d.1)).0

-- what passes says a number of units
pub data_says : (version : ℕ) (payload : List ℕ) → is_data_payload version payload ≡ true → units_said_in payload ≡ Some (word_at 0 payload)
data_says version payload is =
    let size = eqb-true (length payload) (20 + erases_size version) (and_parts _ _ is).0 in
    says payload (word_at 0 payload) (omega (arith, size)) refl

pub spelled_data_passes : SpelledDataPasses
spelled_data_passes version units pieces payload it =
    let size = data_headers_have_sizes version payload units pieces it in
    let number = data_number version units pieces payload it in
    let (same, last) = data_parts version units pieces payload it in (
      and_from _ _ (eq-eqb (length payload) (20 + erases_size version) size)
          (and_from _ _ (ap (list_all is_count) same ∙ counts_pass pieces it.each) (le-leb (get_or payload 19 0) 12 (let few = it.few in omega (arith, few, last)))),
      says payload units (omega (arith, size)) number,
      same,
    )

-- ---- status headers

pub status_payloads_are_spelled : StatusPayloadsAreSpelled
status_payloads_are_spelled version places payload all is =
    let a = and_parts _ _ is in
    (status_spelled version places (word_at 0 payload) payload all a.0 refl a.1).0

status_room : (version : ℕ) (payload : List ℕ) → is_status_length version payload ≡ true → 4 ≤ length payload
status_room version payload is = room (leb 3 version) is
  where
    room : (later : Bool) → cond later (eqb (length payload) (9 + 4 * get_or payload 8 0)) (eqb (length payload) 4) ≡ true → 4 ≤ length payload
    room true long = let size = eqb-true (length payload) (9 + 4 * get_or payload 8 0) long in omega (arith, size)
    room false short = let size = eqb-true (length payload) 4 short in omega (arith, size)

-- what passes says a number of units
pub status_says : (version places : ℕ) (payload : List ℕ) → is_status_payload version places payload ≡ true → units_said_in payload ≡ Some (word_at 0 payload)
status_says version places payload is = says payload (word_at 0 payload) (status_room version payload (and_parts _ _ is).0) refl

pub spelled_status_passes : SpelledStatusPasses
spelled_status_passes version places units payload low it =
    let passes = status_passes version places units payload (omega (arith, low)) it in
    let size = status_headers_have_sizes version places payload units it in (
      and_from _ _ passes.0 (ap (λ (n : ℕ). may_be_retired places n (retired_in version payload)) passes.1 ∙ passes.2),
      says payload units (omega (arith, size)) passes.1,
      status_retired version places units payload (omega (arith, low)) it,
    )

-- ---- commit sectors

-- bytes of n numbers are the numbers' bytes
numbers_spelled : (n : ℕ) (bytes : List ℕ) → IsBytes bytes → length bytes ≡ 8 * n → bytes ≡ flat_map long (numbers_within n bytes)
numbers_spelled zero bytes all size = nil_from_length bytes (omega (arith, size))
numbers_spelled (suc n) bytes all size =
    let first : take 8 bytes ≡ long (long_at 0 bytes) = long_rebuilt 0 bytes (omega (arith, size)) all in
    let rest : drop 8 bytes ≡ flat_map long (numbers_within n (drop 8 bytes)) =
    numbers_spelled n (drop 8 bytes) (bytes-drop 8 bytes all) (omega (arith, length-drop 8 bytes, size)) in
    sym (take-append-drop 8 bytes) ∙ ap₂ (λ (x y : List ℕ). x ++ y) first rest

numbers_are_long : (n : ℕ) (bytes : List ℕ) → IsBytes bytes → All IsLong (numbers_within n bytes)
numbers_are_long zero bytes all = All-nil IsLong
numbers_are_long (suc n) bytes all =
    All-cons IsLong (long_at 0 bytes) (numbers_within n (drop 8 bytes)) (long_at-lt 0 bytes all) (numbers_are_long n (drop 8 bytes) (bytes-drop 8 bytes all))

numbers_count : (n : ℕ) (bytes : List ℕ) → length (numbers_within n bytes) ≡ n
numbers_count zero bytes = refl
numbers_count (suc n) bytes = let rest = numbers_count n (drop 8 bytes) in omega (arith, rest)

pub commit_payloads_are_spelled : CommitPayloadsAreSpelled
commit_payloads_are_spelled payload all is =
    let a = and_parts _ _ is in
    let b = and_parts _ _ a.1 in
    let whole : length payload % 8 ≡ 0 = eqb-true (length payload % 8) 0 a.0 in
    let some : 1 ≤ length payload / 8 = leb-true 1 (length payload / 8) b.0 in
    let most : length payload / 8 ≤ 60 = leb-true (length payload / 8) 60 b.1 in
    let count = numbers_count (length payload / 8) payload in
    record {
      bytes = numbers_spelled (length payload / 8) payload all (omega (arith, whole));
      some = omega (arith, count, some);
      most = omega (arith, count, most);
      each = numbers_are_long (length payload / 8) payload all;
    }

-- numbers that were written are read
numbers_again : (numbers : List ℕ) → All IsLong numbers → numbers_within (length numbers) (flat_map long numbers) ≡ numbers
numbers_again [] each = refl
numbers_again (n ∷ numbers) each =
    ap₂ (λ (x : ℕ) (xs : List ℕ). x ∷ xs)
    (long_again n (flat_map long numbers) (All-head IsLong n numbers each))
    (ap (numbers_within (length numbers)) (drop_at (long n) (flat_map long numbers) 8 (length-long n)) ∙ numbers_again numbers (All-tail IsLong n numbers each))

pub spelled_commits_pass : SpelledCommitsPass
spelled_commits_pass payload numbers it =
    let size : length payload ≡ 8 * length numbers = commits_have_sizes payload numbers it in
    let some = it.some in
    let most = it.most in
    let count : length payload / 8 ≡ length numbers = omega (arith, size) in (
      and_from _ _ (eq-eqb (length payload % 8) 0 (omega (arith, size)))
          (and_from _ _ (le-leb 1 (length payload / 8) (omega (arith, count, some))) (le-leb (length payload / 8) 60 (omega (arith, count, most)))),
      ap (λ (n : ℕ). numbers_within n payload) count ∙ ap (numbers_within (length numbers)) it.bytes ∙ numbers_again numbers it.each,
    )

-- ---- log sectors

more_spelled : (version : ℕ) (bytes : List ℕ) (r : Record) (rest : List ℕ) (records : List Record) → bytes ≡ record_bytes version r ++ rest → IsRecord version r → SpellsLog version rest records
    → SpellsLog version bytes (r ∷ records)
more_spelled version bytes r rest records e is it = record {
  bytes = e ∙ ap (λ (xs : List ℕ). record_bytes version r ++ xs) it.bytes;
  valid = All-cons (IsRecord version) r records is it.valid;
}

-- what is left of bytes are bytes
rest_bytes : (version : ℕ) (bytes : List ℕ) (r : Record) (rest : List ℕ) → IsBytes bytes → bytes ≡ record_bytes version r ++ rest → IsBytes rest
rest_bytes version bytes r rest all e =
    let left : drop (length (record_bytes version r)) bytes ≡ rest = ap (drop (length (record_bytes version r))) e ∙ drop_at (record_bytes version r) rest (length (record_bytes version r)) refl in
    subst IsBytes left (bytes-drop (length (record_bytes version r)) bytes all)

abbrev IsList : ℕ → List ℕ → Type 0
IsList version bytes = (records : List Record) × SpellsLog version bytes records

no_record : (version : ℕ) (bytes : List ℕ) → length bytes ≡ 0 → IsList version bytes
no_record version bytes none = ([], record { bytes = nil_from_length bytes none; valid = All-nil (IsRecord version) })

record_first : (version n : ℕ) (bytes : List ℕ) → IsBytes bytes → ((xs : List ℕ) → IsBytes xs → is_list_within version n xs ≡ true → IsList version xs)
    → (o : Option (Record × List ℕ)) → record_at version bytes ≡ o → option_map_or (λ (p : Record × List ℕ). is_list_within version n p.1) o false ≡ true → IsList version bytes
record_first version n bytes all later None e is = cc
record_first version n bytes all later (Some p) e is =
    let t = takes version bytes p.0 p.1 all e in
    let on = later p.1 (rest_bytes version bytes p.0 p.1 all t.spelled) is in
    (p.0 ∷ on.0, more_spelled version bytes p.0 p.1 on.0 t.spelled t.entry on.1)

-- bytes that pass are a list
list_spelled : (version n : ℕ) (bytes : List ℕ) → IsBytes bytes → is_list_within version n bytes ≡ true → IsList version bytes
list_spelled version zero bytes all is = no_record version bytes (eqb-true (length bytes) 0 is)
list_spelled version (suc n) bytes all is = elim (or_cases _ _ is) [
  | inl none ↦ no_record version bytes (eqb-true (length bytes) 0 none)
  | inr some ↦ record_first version n bytes all (λ xs bytes_too passes. list_spelled version n xs bytes_too passes) (record_at version bytes) refl some
]

pub log_payloads_are_spelled : LogPayloadsAreSpelled
unfolding is_log_payload
log_payloads_are_spelled version payload all is =
    let it = list_spelled version (length payload) payload all is in
    subst (λ (records : List Record). SpellsLog version payload records) (sym (records_list version it.0 payload it.1)) it.1

passes_with : (version n : ℕ) (bytes : List ℕ) (r : Record) (rest : List ℕ) → record_at version bytes ≡ Some (r, rest) → is_list_within version n rest ≡ true
    → is_list_within version (suc n) bytes ≡ true
passes_with version n bytes r rest e passes =
    or_right (eqb (length bytes) 0) _ (ap (λ (o : Option (Record × List ℕ)). option_map_or (λ (p : Record × List ℕ). is_list_within version n p.1) o false) e ∙ passes)

-- a list passes
list_passes : (version : ℕ) (records : List Record) (n : ℕ) (bytes : List ℕ) → SpellsLog version bytes records → length bytes ≤ n → is_list_within version n bytes ≡ true
list_passes version [] zero bytes it long_enough = eq-eqb (length bytes) 0 (ap length it.bytes)
list_passes version [] (suc n) bytes it long_enough = or_left (eqb (length bytes) 0) _ (eq-eqb (length bytes) 0 (ap length it.bytes))
list_passes version (r ∷ records) n bytes it long_enough =
    let first : record_at version bytes ≡ Some (r, log_bytes version records) = ap (record_at version) it.bytes ∙ again version r (log_bytes version records) (All-head (IsRecord version) r records it.valid) in
    let less = shorter version bytes r (log_bytes version records) first in
    more_passes n (log_bytes version records) first less long_enough
    (λ m short. list_passes version records m (log_bytes version records) (record { bytes = refl; valid = All-tail (IsRecord version) r records it.valid }) short)
  where
    more_passes : (n : ℕ) (rest : List ℕ) → record_at version bytes ≡ Some (r, rest) → length rest < length bytes → length bytes ≤ n
        → ((m : ℕ) → length rest ≤ m → is_list_within version m rest ≡ true) → is_list_within version n bytes ≡ true
    more_passes zero rest first less long_enough later = absurd (omega (arith, less, long_enough))
    more_passes (suc n) rest first less long_enough later = passes_with version n bytes r rest first (later n (omega (arith, less, long_enough)))

pub spelled_logs_pass : SpelledLogsPass
unfolding is_log_payload
spelled_logs_pass version payload records it = (list_passes version records (length payload) payload it (omega arith), records_list version records payload it)
