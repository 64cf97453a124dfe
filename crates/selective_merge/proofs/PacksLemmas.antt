-- What a merge carries, packed, and the log sectors of it.
use Rattle.std.proofs.Common.{◌≡◌, ℕ, zero, suc, ◌<◌, ◌+◌, List, [], ◌∷◌, ◌++◌, Bool, true, not, ◌&&◌, IsTrue, length, get_or, eqb, refl, sym, ◌∙◌, ap, subst, arith, inl, inr, false, ◌↔◌}
use Rattle.std.specs.Prelude.{slice_index_or}
use Rattle.std.specs.List.{All, Contains, flat_map, list_any}
use Rattle.std.proofs.lemmas.Bool.{cases_Bool, and_parts, eqb-true, eq-eqb}
use Rattle.std.proofs.lemmas.List.{length-map, get_or-map}
use Rattle.std.proofs.lemmas.List.Elements.{All-nil, All-cons, All-head, All-tail, All-append, All-weaker}
use Rattle.log_records.specs.View.{Versioned}
use Rattle.ipl_base.specs.declared.limits.TheConstants.{VERSION}
use Rattle.ipl_format.specs.Record.{Record, IsRecord, log_bytes}
use Rattle.ipl_meaning.specs.Layout.{Entry, records_of}
use Rattle.ipl_meaning.specs.Last.{carried}
use Rattle.ipl_meaning.specs.Steps.{entry_at}
use Rattle.ipl_meaning.specs.Values.{counts_for}
use Rattle.ipl_meaning.proofs.LastLemmas.{packs_are_the_list}
use Rattle.selective_merge.specs.Packs.{among, packs_of, payloads_of, log_sector, entries_from, payload_of}

-- ---- lists

all_left : {X : Type 0} (P : X → Type 0) (xs ys : List X) → All P (xs ++ ys) → All P xs
all_left P [] ys all = All-nil P
all_left P (x ∷ xs) ys all =
    All-cons P x xs (All-head P x (xs ++ ys) all)
    (all_left P xs ys (All-tail P x (xs ++ ys) all))

all_right : {X : Type 0} (P : X → Type 0) (xs ys : List X) → All P (xs ++ ys) → All P ys
all_right P [] ys all = all
all_right P (x ∷ xs) ys all = all_right P xs ys (All-tail P x (xs ++ ys) all)

abbrev joined : List (List Record) → List Record
joined packs = flat_map (λ (s : List Record). s) packs

all_of_each : (P : Record → Type 0) (packs : List (List Record)) → All P (joined packs)
    → All (All P) packs
all_of_each P [] all = All-nil (All P)
all_of_each P (records ∷ packs) all =
    All-cons (All P) records packs (all_left P records (joined packs) all)
    (all_of_each P packs (all_right P records (joined packs) all))

-- a number is among some exactly where they contain it
pub among_contains : (numbers : List ℕ) (n : ℕ) → IsTrue (among numbers n) → Contains numbers n
among_contains [] n is = absurd cc
among_contains (k ∷ numbers) n is = elim (cases_Bool (eqb k n)) [
  | inl here ↦ (0, omega arith, eqb-true _ _ here)
  | inr other ↦
      let (i, within, same) = among_contains numbers n (rw other at is) in
      (suc i, omega (arith, within), same)
]

among_at : (numbers : List ℕ) (n i : ℕ) → i < length numbers → get_or numbers i n ≡ n
    → among numbers n ≡ true
among_at [] n i low is = absurd (omega (arith, low))
among_at (k ∷ numbers) n zero low is = rw (eq-eqb k n is) refl
among_at (k ∷ numbers) n (suc i) low is = elim (cases_Bool (eqb k n)) [
  | inl here ↦ rw here refl
  | inr other ↦ rw other (among_at numbers n i (omega (arith, low)) is)
]

pub contains_among : (numbers : List ℕ) (n : ℕ) → Contains numbers n → IsTrue (among numbers n)
contains_among numbers n (i, low, is) = among_at numbers n i low is

-- two tests that say the same
same_test : (a b : Bool) → (IsTrue a → IsTrue b) → (IsTrue b → IsTrue a) → a ≡ b
same_test true true f g = refl
same_test true false f g = absurd (let is : false ≡ true = f refl in cc is)
same_test false true f g = absurd (let is : false ≡ true = g refl in cc is)
same_test false false f g = refl

-- so a test of whether they contain it is this one
pub among_test : (b : Bool) (numbers : List ℕ) (n : ℕ) → (IsTrue b ↔ Contains numbers n)
    → b ≡ among numbers n
among_test b numbers n is =
    same_test b (among numbers n) (λ passes. contains_among numbers n (is.0 passes))
    (λ there. is.1 (among_contains numbers n there))

-- ---- what is carried

-- it has what all records have, and its numbers are active
pub carried_all : (P : Record → Type 0) (active : ℕ → Bool) (records : List Record)
    → All P records → All (λ r. P r × IsTrue (active r.tid)) (carried active records)
carried_all P active [] all = All-nil (λ r. P r × IsTrue (active r.tid))
carried_all P active (r ∷ records) all =
    let later = carried_all P active records (All-tail P r records all) in
    elim (cases_Bool (active r.tid && not (list_any (counts_for active r.page r.slot) records))) [
      | inl kept ↦ rw kept (All-cons (λ r. P r × IsTrue (active r.tid)) r
          (carried active records) (All-head P r records all, (and_parts _ _ kept).0) later)
      | inr dropped ↦ rw dropped later
    ]

module _ (active : List ℕ) (records : List Record) where
  pub packs_join : joined (packs_of active records) ≡ carried (among active) records
  packs_join = packs_are_the_list (carried (among active) records)

  -- so do its packs
  pub packs_all : (P : Record → Type 0) → All P records
      → All (All (λ r. P r × Contains active r.tid)) (packs_of active records)
  packs_all P all = all_of_each (λ r. P r × Contains active r.tid) (packs_of active records)
      (subst (All (λ r. P r × Contains active r.tid)) (sym packs_join)
      (All-weaker (λ r. P r × IsTrue (among active r.tid)) (λ r. P r × Contains active r.tid)
      (λ r is. (is.0, among_contains active r.tid is.1)) (carried (among active) records)
      (carried_all P (among active) records all)))

-- ---- the log sectors

same_entry : (p u g : ℕ) (s t serial other : ℕ) (records : List Record) → s ≡ t → serial ≡ other
    → entry_at p s (log_sector u g serial (log_bytes VERSION records)) records
    ≡ entry_at p t (log_sector u g other (log_bytes VERSION records)) records
same_entry p u g s t serial other records is too = rw (is, too) refl

module _ (p u g : ℕ) where
  pub entries_length : (s serial : ℕ) (packs : List (List Record))
      → length (entries_from p u g s serial packs) ≡ length packs
  entries_length s serial [] = refl
  entries_length s serial (records ∷ packs) =
      let rest = entries_length (s + 1) (serial + 1) packs in omega (arith, rest)

  -- the i-th of them
  pub entry_is : (s serial : ℕ) (packs : List (List Record)) (i : ℕ) (d : Entry)
      → i < length packs → get_or (entries_from p u g s serial packs) i d
      ≡ entry_at p (s + i) (log_sector u g (serial + i) (log_bytes VERSION (slice_index_or packs i [])))
      (slice_index_or packs i [])
  entry_is s serial [] i d low = absurd (omega (arith, low))
  entry_is s serial (records ∷ packs) zero d low =
      same_entry p u g s (s + 0) serial (serial + 0) records (omega arith) (omega arith)
  entry_is s serial (records ∷ packs) (suc i) d low =
      entry_is (s + 1) (serial + 1) packs i d (omega (arith, low))
      ∙ same_entry p u g (s + 1 + i) (s + suc i) (serial + 1 + i) (serial + suc i)
      (slice_index_or packs i []) (omega arith) (omega arith)

  -- their records are those of the packs
  pub entries_records : (s serial : ℕ) (packs : List (List Record))
      → records_of (entries_from p u g s serial packs) ≡ joined packs
  entries_records s serial [] = refl
  entries_records s serial (records ∷ packs) =
      ap (λ (l : List Record). records ++ l) (entries_records (s + 1) (serial + 1) packs)

-- the i-th payload
pub payload_is : (packs : List (List Record)) (i : ℕ) → i < length packs
    → (slice_index_or (payloads_of packs) i (payload_of [])).bytes ≡ log_bytes VERSION (slice_index_or packs i [])
payload_is packs i low =
    ap (λ (p : Versioned). p.bytes) (get_or-map payload_of packs i [] (payload_of []) low)

pub payloads_length : (packs : List (List Record)) → length (payloads_of packs) ≡ length packs
payloads_length packs = length-map packs payload_of

-- what each entry's records have, all records have
pub all_records : (log : List Entry) → All (λ e. All (IsRecord VERSION) e.records) log
    → All (IsRecord VERSION) (records_of log)
all_records [] each = All-nil (IsRecord VERSION)
all_records (e ∷ log) each =
    All-append (IsRecord VERSION) e.records (records_of log)
    (All-head (λ (e : Entry). All (IsRecord VERSION) e.records) e log each)
    (all_records log (All-tail (λ (e : Entry). All (IsRecord VERSION) e.records) e log each))
