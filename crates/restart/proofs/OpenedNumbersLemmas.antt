-- The committed numbers that were found are those that the logs of the chart's layout have.
use Rattle.std.proofs.Common.{◌≡◌, ◌⊎◌, inl, inr, ◌<◌, ◌*◌, ◌/◌, ◌%◌, ◌==◌, ◌++◌, ℕ, zero, suc, Bool, List, [], ◌∷◌, Option, Some, None, refl, sym, ◌∙◌, ap, subst, arith}
use Rattle.std.specs.Prelude.{◌↔◌, IsTrue}
use Rattle.std.specs.List.{Contains}
use Rattle.std.proofs.lemmas.Bool.{cases_Bool, cases_eq, eq-eqb}
use Rattle.std.proofs.lemmas.Option.{same_Some}
use Rattle.ipl_format.specs.Record.{Record}
use Rattle.ipl_format.specs.Sector.{Sector}
use Rattle.log_records.specs.Reading.{records_of as records_in}
use Rattle.ipl_meaning.specs.Chart.{Chart}
use Rattle.ipl_meaning.specs.Layout.{Entry, records_of}
use Rattle.number_set.specs.Numbers.{AreRising}
use Rattle.number_set.proofs.NumberLemmas.{contains_cons, contains_here, contains_there, numbers_are_a_union, rising_with_numbers}
use Rattle.restart.specs.Joins.{Kept, committed_in, joined}
use Rattle.restart.specs.Keeps.{IsLogged, KeepsBelow}
use Rattle.restart.proofs.JoinLemmas.{IsNumberOf, committed_is_logged}
use Rattle.ipl_meaning.specs.First.{at}
use Rattle.ipl_meaning.specs.Chosen.{KeptHeader, Winner, header_at, current_at}
use Rattle.ipl_meaning.specs.LaidOut.{entry_of, entry_at, log_in, layout_in}
use Rattle.ipl_meaning.specs.Live.{live_at, live_in}
use Rattle.ipl_meaning.proofs.LiveLemmas.{live_from}
use Rattle.ipl_meaning.proofs.SortLemmas.{sorted_has, sorted_from}
use Rattle.restart.specs.Collected.{records_at, numbers_below, AreKept, AreCollected}
use Rattle.restart.specs.Shown.{ShowsHeaders}
use Rattle.restart.proofs.LogLemmas.{at_low}
use Rattle.restart.proofs.OpenLemmas.{to_chart}

-- ---- joined lists

contains_append_left : {X : Type 0} (xs ys : List X) (y : X) → Contains xs y → Contains (xs ++ ys) y
contains_append_left [] ys y has = absurd (let within = has.1 in omega (arith, within))
contains_append_left (x ∷ xs) ys y has = elim (contains_cons x xs y has) [
  | inl same ↦ subst (Contains (x ∷ (xs ++ ys))) same (contains_here x (xs ++ ys))
  | inr later ↦ contains_there x (xs ++ ys) y (contains_append_left xs ys y later)
]

contains_append_right : {X : Type 0} (xs ys : List X) (y : X) → Contains ys y → Contains (xs ++ ys) y
contains_append_right [] ys y has = has
contains_append_right (x ∷ xs) ys y has = contains_there x (xs ++ ys) y (contains_append_right xs ys y has)

contains_append : {X : Type 0} (xs ys : List X) (y : X) → Contains (xs ++ ys) y → Contains xs y ⊎ Contains ys y
contains_append [] ys y has = inr has
contains_append (x ∷ xs) ys y has = elim (contains_cons x (xs ++ ys) y has) [
  | inl same ↦ inl (subst (Contains (x ∷ xs)) same (contains_here x xs))
  | inr later ↦ elim (contains_append xs ys y later) [
    | inl before ↦ inl (contains_there x xs y before)
    | inr after ↦ inr after
  ]
]

-- a record of a log stands in one of its sectors
record_from : (log : List Entry) (r : Record) → Contains (records_of log) r
    → (e : Entry) × Contains log e × Contains e.records r
record_from [] r has = absurd (let within = has.1 in omega (arith, within))
record_from (e ∷ log) r has = elim (contains_append e.records (records_of log) r has) [
  | inl here ↦ (e, contains_here e log, here)
  | inr later ↦
      let (f, there, own) = record_from log r later in (f, contains_there e log f there, own)
]

record_to : (log : List Entry) (e : Entry) (r : Record) → Contains log e → Contains e.records r
    → Contains (records_of log) r
record_to [] e r has own = absurd (let within = has.1 in omega (arith, within))
record_to (f ∷ log) e r has own = elim (contains_cons f log e has) [
  | inl same ↦
      contains_append_left f.records (records_of log) r
      (subst (λ (x : Entry). Contains x.records r) (sym same) own)
  | inr later ↦ contains_append_right f.records (records_of log) r (record_to log e r later own)
]

-- ---- which numbers were found

-- the live log sector at one of the first n numbers has it in a record
abbrev pub IsLoggedAt : (ℕ → Option KeptHeader) → (ℕ → Option Winner) → Chart → ℕ → ℕ → Type 0
IsLoggedAt heads current c n tid =
    (k : ℕ) × (k < n) × (sector : Sector) × (live_at heads current c k ≡ Some sector)
    × IsNumberOf (records_in sector.version sector.payload) tid

no_numbers : AreRising []
no_numbers = λ i j d less within. absurd (omega (arith, within))

module _ (committed : List ℕ) (heads : ℕ → Option KeptHeader) (current : ℕ → Option Winner) (c : Chart) where
  at_sector : (o : Option Sector) (tid : ℕ) → IsNumberOf (records_at o) tid
      → (sector : Sector) × (o ≡ Some sector) × IsNumberOf (records_in sector.version sector.payload) tid
  at_sector None tid (r, has, is) = absurd (let within = has.1 in omega (arith, within))
  at_sector (Some sector) tid of_it = (sector, refl, of_it)

  found_from : (n tid : ℕ) → Contains (numbers_below committed heads current c n) tid
      → Contains committed tid × IsLoggedAt heads current c n tid
  unfolding numbers_below
  found_from zero tid has = absurd (let within = has.1 in omega (arith, within))
  found_from (suc n) tid has =
      let records = records_at (live_at heads current c n) in
      elim ((numbers_are_a_union (committed_in committed records) (numbers_below committed heads current c n) tid).0 has) [
        | inl new ↦
            let (there, logged) = (committed_is_logged committed records tid).0 new in
            let (sector, live, own) = at_sector (live_at heads current c n) tid logged in
            (there, (n, omega arith, sector, live, own))
        | inr before ↦
            let (there, (k, low, sector, live, own)) = found_from n tid before in
            (there, (k, omega (arith, low), sector, live, own))
      ]

  found_to : (n tid k : ℕ) (sector : Sector) → Contains committed tid → k < n → live_at heads current c k ≡ Some sector
      → IsNumberOf (records_in sector.version sector.payload) tid → Contains (numbers_below committed heads current c n) tid
  unfolding numbers_below
  found_to zero tid k sector there low live own = absurd (omega (arith, low))
  found_to (suc n) tid k sector there low live own =
      let records = records_at (live_at heads current c n) in
      let to : Contains (committed_in committed records) tid ⊎ Contains (numbers_below committed heads current c n) tid
      → Contains (joined committed records (numbers_below committed heads current c n)) tid =
      (numbers_are_a_union (committed_in committed records) (numbers_below committed heads current c n) tid).1 in
      elim (cases_eq k n) [
        | inl same ↦
            let here : live_at heads current c n ≡ Some sector = ap (live_at heads current c) (sym same) ∙ live in
            let logged : IsNumberOf records tid =
            subst (λ (o : Option Sector). IsNumberOf (records_at o) tid) (sym here) own in
            to (inl ((committed_is_logged committed records tid).1 (there, logged)))
        | inr other ↦ to (inr (found_to n tid k sector there (omega (arith, low, other)) live own))
      ]

  found_rises : (n : ℕ) → AreRising (numbers_below committed heads current c n)
  unfolding numbers_below
  found_rises zero = no_numbers
  found_rises (suc n) =
      rising_with_numbers (committed_in committed (records_at (live_at heads current c n)))
      (numbers_below committed heads current c n) (found_rises n)

-- ---- the logs of the layout

entry_from : (u k : ℕ) (o : Option Sector) (e : Entry) → entry_of u k o ≡ Some e
    → (sector : Sector) × (o ≡ Some sector) × (e.records ≡ records_in sector.version sector.payload)
entry_from u k None e is = absurd (cc is)
entry_from u k (Some sector) e is = elim (cases_Bool (sector.unit == u)) [
  | inl of_it ↦
      let made = rw of_it at is in (sector, refl, sym (ap (λ (x : Entry). x.records) (same_Some _ _ made)))
  | inr other ↦ absurd (let none : None ≡ Some e = rw other at is in cc none)
]

module _ (c : Chart) (places : ℕ) where
  logged_from : (u tid : ℕ) → IsLogged (log_in c places u) tid
      → IsLoggedAt (header_at c places) (current_at c places) c (places * 256) tid
  logged_from u tid (r, has, is) =
      let (e, there, own) = record_from (log_in c places u) r has in
      let it = sorted_from (entry_at c places u) (places * 256) e there in
      let (sector, live, records) = entry_from u it.number (live_in c places it.number) e it.here in
      (it.number, it.within, sector, live, (r, subst (λ (rs : List Record). Contains rs r) records own, is))

  logged_to : (k tid : ℕ) (sector : Sector) → k < places * 256 → live_in c places k ≡ Some sector
      → IsNumberOf (records_in sector.version sector.payload) tid → IsLogged (log_in c places sector.unit) tid
  logged_to k tid sector low live (r, has, is) =
      let entry : Entry = record {
        place = k / 256;
        number = k % 256;
        sector = sector;
        records = records_in sector.version sector.payload;
      } in
      let own : entry_of sector.unit k (Some sector) ≡ Some entry = rw (eq-eqb sector.unit sector.unit refl) refl in
      let here : entry_at c places sector.unit k ≡ Some entry = ap (entry_of sector.unit k) live ∙ own in
      (r, record_to (log_in c places sector.unit) entry r (sorted_has (entry_at c places sector.unit) (places * 256) k entry low here) has, is)

module _ (c : Chart) (places : ℕ) (heads : List (Option KeptHeader)) (current : List (Option Winner)) (status : Winner)
    (shows : ShowsHeaders c places heads current status) (numbers : List ℕ)
    (committed_are : (tid : ℕ) → IsTrue ((layout_in c places).committed tid) ↔ Contains numbers tid) where
  unit_there : (u : ℕ) (winner : Winner) → current_at c places u ≡ Some winner → u < (layout_in c places).count
  unit_there u winner is =
      let low = at_low current u winner (ap (λ (cur : ℕ → Option Winner). cur u) shows.current_are ∙ is) in
      omega (arith, low, shows.units_are)

  all_numbers : List ℕ
  all_numbers = numbers_below numbers (header_at c places) (current_at c places) c (places * 256)

  all_exact : KeepsBelow (layout_in c places).count (layout_in c places) all_numbers
  unfolding all_numbers
  all_exact tid = (
    λ has.
        let (there, (k, low, sector, live, own)) = found_from numbers (header_at c places) (current_at c places) c (places * 256) tid has in
        let unit = live_from c places k sector live in (
          (committed_are tid).1 there,
          (sector.unit, unit_there sector.unit unit.winner unit.current, logged_to c places k tid sector low live own),
        ),
    λ (is, (u, low, logged)).
        let (k, within, sector, live, own) = logged_from c places u tid logged in
        found_to numbers (header_at c places) (current_at c places) c (places * 256) tid k sector ((committed_are tid).0 is) within live own,
  )

  pub all_collected : (fits : Bool) (kept : Kept) → AreKept (numbers_below numbers (at heads) (at current) c (places * 256)) fits kept
      → AreCollected places c fits kept
  unfolding all_numbers
  all_collected fits kept are = record {
    found = all_numbers;
    rising = found_rises numbers (header_at c places) (current_at c places) c (places * 256);
    exact = all_exact;
    kept = to_chart c places heads current status shows
        (λ h cur st. AreKept (numbers_below numbers h cur c (places * 256)) fits kept) are;
  }
