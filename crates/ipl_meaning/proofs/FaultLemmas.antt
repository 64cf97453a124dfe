-- What single faults say.
use Rattle.std.proofs.Common.{ℕ, zero, suc, ◌≡◌, inl, inr, ◌*◌, ◌/◌, ◌%◌, ◌^◌, ◌<◌, ◌≤◌, nat_lt, nat_le, Bool, true, false, not, cond, ◌&&◌, ◌||◌, ◌==◌, List, Option, Some, None, refl, sym, ◌∙◌, ap, subst, arith}
use Rattle.std.specs.List.{list_any, count_by}
use Rattle.std.specs.Option.{option_or}
use Rattle.std.proofs.lemmas.Bool.{and_from, and_parts, and_cases, or_cases, not-false, eqb-true, leb-true, le-leb, cond-true, both_ways}
use Rattle.std.proofs.lemmas.Option.{same_Some}
use Rattle.ipl_base.specs.declared.fault.ImageFault.{ImageFault}
use Rattle.ipl_base.specs.declared.fault.ImageFault.TheVariants.{Geometry, NotFormatted, Missing, Chip, Spent, NoSpare, TooManyNumbers}
use Rattle.ipl_format.specs.Sector.{Sector}
use Rattle.ipl_meaning.specs.Chart.{Chart, IsStatusHeader}
use Rattle.ipl_base.specs.First.{first_below}
use Rattle.ipl_meaning.specs.First.{passes, count_below}
use Rattle.ipl_meaning.specs.FirstLaws.{IsFirst}
use Rattle.ipl_meaning.specs.Payloads.{is_log_payload}
use Rattle.ipl_meaning.specs.Chosen.{KeptHeader, Winner, header_at, units_told, current_at, status_at, units_at}
use Rattle.ipl_meaning.specs.Live.{sectors, noted_at, live_at, Mark, mark_of, mark_at, marks}
use Rattle.ipl_meaning.specs.Faults.{malformed, size_fault, not_formatted, keeps_units, status_geometry, says_other, other_geometry, missing, bad_header, header_fault, is_noted_payload, noted_test, noted_fault, first_noted_fault, clashes, shares_overflow, is_full, is_log_well, log_test, log_fault, first_log_fault, greatest_found, spent, overflows_found, no_spare, first_fault}
use Rattle.ipl_meaning.specs.FaultLaws.{well_at, is_overflow_of, HasLogCause, NotFormattedIsExact, MissingIsLeast, BadLogsAreFirst}
use Rattle.ipl_meaning.proofs.FirstLemmas.{first_is_first}
use Rattle.ipl_meaning.proofs.HeaderLemmas.{currents_are_chosen, none_is_current, statuses_are_chosen, none_is_status}
use Rattle.ipl_meaning.proofs.BelowLemmas.{any_there, count_all}
use Rattle.ipl_meaning.proofs.LiveLemmas.{overflow_from}
use Rattle.ipl_meaning.proofs.LaidLemmas.{mark_from}
use Rattle.ipl_meaning.proofs.OpeningPartLemmas.{if_none}

-- ---- a fault of another kind

or_other : (test : ImageFault → Bool) (a b : Option ImageFault) → passes test a ≡ false → passes test b ≡ false → passes test (option_or a b) ≡ false
or_other test None b first second = second
or_other test (Some x) b first second = first

below_other : (test : ImageFault → Bool) (f : ℕ → Option ImageFault) (n : ℕ) → ((k : ℕ) → passes test (f k) ≡ false) → passes test (first_below f n) ≡ false
below_other test f zero each = refl
below_other test f (suc n) each = or_other test (first_below f n) (f n) (below_other test f n each) (each n)

-- it is not the first of the two
later : (test : ImageFault → Bool) (a b : Option ImageFault) (fault : ImageFault) → passes test a ≡ false → test fault ≡ true → option_or a b ≡ Some fault
    → b ≡ Some fault
later test None b fault other is e = e
later test (Some x) b fault other is e = absurd (both_ways (test x) other (ap test (same_Some x fault e) ∙ is))

-- it is not the second
sooner : (test : ImageFault → Bool) (a b : Option ImageFault) (fault : ImageFault) → passes test b ≡ false → test fault ≡ true → option_or a b ≡ Some fault
    → a ≡ Some fault
sooner test (Some x) b fault other is e = e
sooner test None b fault other is e = absurd (both_ways (test fault) (sym (ap (passes test) e) ∙ other) is)

-- ---- kinds of faults

abbrev is_missing : ImageFault → Bool
is_missing Geometry = false
is_missing NotFormatted = false
is_missing (Missing u) = true
is_missing (Chip fault) = false
is_missing Spent = false
is_missing (NoSpare n) = false
is_missing TooManyNumbers = false

abbrev is_unformatted : ImageFault → Bool
is_unformatted Geometry = false
is_unformatted NotFormatted = true
is_unformatted (Missing u) = false
is_unformatted (Chip fault) = false
is_unformatted Spent = false
is_unformatted (NoSpare n) = false
is_unformatted TooManyNumbers = false

-- a test whose fault is of another kind
if_other : (test : ImageFault → Bool) (b : Bool) (fault : ImageFault) → test fault ≡ false → passes test (cond b None (Some fault)) ≡ false
if_other test true fault other = refl
if_other test false fault other = other

if_other_too : (test : ImageFault → Bool) (b : Bool) (fault : ImageFault) → test fault ≡ false → passes test (cond b (Some fault) None) ≡ false
if_other_too test true fault other = other
if_other_too test false fault other = refl

-- the tests after those of headers are of other kinds
module _ (test : ImageFault → Bool) (geometry : test Geometry ≡ false) (chip : (p s : ℕ) → test (malformed p s) ≡ false) (used : test Spent ≡ false)
    (in_overflow : (n : ℕ) → test (NoSpare n) ≡ false) (c : Chart) (places : ℕ) where
  size_other : passes test (size_fault places) ≡ false
  size_other = if_other test (nat_le 5 places && nat_le places 1028) Geometry geometry

  status_other : (o : Option Winner) → passes test (status_geometry places o) ≡ false
  status_other None = refl
  status_other (Some winner) = if_other test (keeps_units places (units_told places (Some winner))) Geometry geometry

  geometry_other : (units : ℕ) (o : Option Winner) → passes test (other_geometry units o) ≡ false
  geometry_other units None = refl
  geometry_other units (Some winner) = if_other_too test (says_other units winner.head.said) Geometry geometry

  header_other : (o : Option Winner) → passes test (bad_header o) ≡ false
  header_other None = refl
  header_other (Some winner) = if_other test winner.head.well (malformed winner.place 0) (chip winner.place 0)

  note_other : (units p s : ℕ) (o : Option Sector) → passes test (noted_test units p s o) ≡ false
  note_other units p s None = refl
  note_other units p s (Some sector) = if_other test (is_noted_payload units sector) (malformed p s) (chip p s)

  notes_other : (units : ℕ) (o : Option Winner) (s : ℕ) → passes test (noted_fault units c o s) ≡ false
  notes_other units None s = refl
  notes_other units (Some winner) s = note_other units winner.place s (noted_at c (Some winner) s)

  log_other : (heads : ℕ → Option KeptHeader) (earlier : List Mark) (k : ℕ) (o : Option Sector) → passes test (log_test heads earlier k o) ≡ false
  log_other heads earlier k None = refl
  log_other heads earlier k (Some sector) =
      if_other test (is_log_well (mark_of heads k sector) earlier sector.version sector.payload) (malformed (k / 256) (k % 256)) (chip (k / 256) (k % 256))

  logs_other : (k : ℕ) → passes test (log_fault (header_at c places) (current_at c places) c k) ≡ false
  logs_other k = log_other (header_at c places) (marks (header_at c places) (current_at c places) c k) k (live_at (header_at c places) (current_at c places) c k)

  abbrev last_two : Option ImageFault
  last_two = option_or (spent (greatest_found c places)) (option_or (no_spare (overflows_found c places)) None)

  rest_other : passes test (option_or (first_noted_fault c places) (option_or (first_log_fault c places) last_two)) ≡ false
  rest_other = or_other test (first_noted_fault c places) (option_or (first_log_fault c places) last_two)
      (below_other test (noted_fault (units_at c places) c (status_at c places)) sectors (notes_other (units_at c places) (status_at c places)))
      (or_other test (first_log_fault c places) last_two
      (below_other test (log_fault (header_at c places) (current_at c places) c) (places * 256) logs_other)
      (or_other test (spent (greatest_found c places)) (option_or (no_spare (overflows_found c places)) None)
      (if_other test (nat_lt (greatest_found c places) (2 ^ 63)) Spent used)
      (or_other test (no_spare (overflows_found c places)) None (if_other test (nat_le (overflows_found c places) 2) (NoSpare (overflows_found c places)) (in_overflow (overflows_found c places))) refl)))

  -- such a fault is a header's
  of_headers : (fault : ImageFault) → test fault ≡ true → first_fault c places ≡ Some fault → header_fault c places ≡ Some fault
  of_headers fault is e =
      sooner test (header_fault c places) (option_or (first_noted_fault c places) (option_or (first_log_fault c places) last_two)) fault rest_other is
      (later test (size_fault places) (option_or (header_fault c places) (option_or (first_noted_fault c places) (option_or (first_log_fault c places) last_two)))
      fault size_other is e)

-- ---- the headers' tests

module _ (c : Chart) (places : ℕ) where
  abbrev geometries : Option ImageFault
  geometries = first_below (λ u. other_geometry (units_at c places) (current_at c places u)) (units_at c places)

  abbrev missings : Option ImageFault
  missings = first_below (λ u. missing u (current_at c places u)) (units_at c places)

  abbrev headers : Option ImageFault
  headers = first_below (λ u. bad_header (current_at c places u)) (units_at c places)

  abbrev status : Option Winner
  status = status_at c places

  unformatted_other : (o : Option Winner) → passes is_missing (not_formatted o) ≡ false
  unformatted_other None = refl
  unformatted_other (Some winner) = refl

  missing_other : (u : ℕ) (o : Option Winner) → passes is_unformatted (missing u o) ≡ false
  missing_other u None = refl
  missing_other u (Some winner) = refl

  missing_found : (u : ℕ) → first_fault c places ≡ Some (Missing u) → missings ≡ Some (Missing u)
  missing_found u e =
      let fault : ImageFault = Missing u in
      let strange = status_other is_missing refl (λ p s. refl) refl (λ n. refl) c places in
      let geometry = geometry_other is_missing refl (λ p s. refl) refl (λ n. refl) c places in
      let header = header_other is_missing refl (λ p s. refl) refl (λ n. refl) c places in
      let all = of_headers is_missing refl (λ p s. refl) refl (λ n. refl) c places fault refl e in
      let after = later is_missing (not_formatted status) (option_or (status_geometry places status) (option_or geometries (option_or missings (option_or headers (option_or (bad_header status) None)))))
      fault (unformatted_other status) refl all in
      let then = later is_missing (status_geometry places status) (option_or geometries (option_or missings (option_or headers (option_or (bad_header status) None)))) fault (strange status) refl after in
      let next = later is_missing geometries (option_or missings (option_or headers (option_or (bad_header status) None))) fault
      (below_other is_missing (λ v. other_geometry (units_at c places) (current_at c places v)) (units_at c places) (λ v. geometry (units_at c places) (current_at c places v))) refl then in
      sooner is_missing missings (option_or headers (option_or (bad_header status) None)) fault
      (or_other is_missing headers (option_or (bad_header status) None)
      (below_other is_missing (λ v. bad_header (current_at c places v)) (units_at c places) (λ v. header (current_at c places v)))
      (or_other is_missing (bad_header status) None (header status) refl)) refl next

  unformatted_found : first_fault c places ≡ Some NotFormatted → not_formatted status ≡ Some NotFormatted
  unformatted_found e =
      let strange = status_other is_unformatted refl (λ p s. refl) refl (λ n. refl) c places in
      let geometry = geometry_other is_unformatted refl (λ p s. refl) refl (λ n. refl) c places in
      let header = header_other is_unformatted refl (λ p s. refl) refl (λ n. refl) c places in
      let all = of_headers is_unformatted refl (λ p s. refl) refl (λ n. refl) c places NotFormatted refl e in
      sooner is_unformatted (not_formatted status) (option_or (status_geometry places status) (option_or geometries (option_or missings (option_or headers (option_or (bad_header status) None)))))
      NotFormatted
      (or_other is_unformatted (status_geometry places status) (option_or geometries (option_or missings (option_or headers (option_or (bad_header status) None)))) (strange status)
      (or_other is_unformatted geometries (option_or missings (option_or headers (option_or (bad_header status) None)))
      (below_other is_unformatted (λ v. other_geometry (units_at c places) (current_at c places v)) (units_at c places) (λ v. geometry (units_at c places) (current_at c places v)))
      (or_other is_unformatted missings (option_or headers (option_or (bad_header status) None))
      (below_other is_unformatted (λ v. missing v (current_at c places v)) (units_at c places) (λ v. missing_other v (current_at c places v)))
      (or_other is_unformatted headers (option_or (bad_header status) None)
      (below_other is_unformatted (λ v. bad_header (current_at c places v)) (units_at c places) (λ v. header (current_at c places v)))
      (or_other is_unformatted (bad_header status) None (header status) refl)))))
      refl all

none_there : (o : Option Winner) → not_formatted o ≡ Some NotFormatted → o ≡ None
none_there None e = refl
none_there (Some winner) e = cc

missing_here : (v u : ℕ) (o : Option Winner) → missing v o ≡ Some (Missing u) → (o ≡ None) × (v ≡ u)
missing_here v u None e = (refl, cc)
missing_here v u (Some winner) e = cc

there_too : (v : ℕ) (o : Option Winner) → missing v o ≡ None → (winner : Winner) × (o ≡ Some winner)
there_too v None e = cc
there_too v (Some winner) e = (winner, refl)

pub missing_is_least : MissingIsLeast
missing_is_least c places u e =
    let first : IsFirst (λ v. missing v (current_at c places v)) (units_at c places) (Missing u) =
    first_is_first (λ v. missing v (current_at c places v)) (units_at c places) (Missing u) (missing_found c places u e) in
    let (none, same) = missing_here first.number u (current_at c places first.number) first.here in
    let low : u < units_at c places = omega (arith, same, first.within) in
    record {
      low = low;
      none = λ p head within here. none_is_current c places u p head low (sym (ap (current_at c places) same) ∙ none) within here;
      lower = λ v less.
          let there = there_too v (current_at c places v) (first.earlier v (omega (arith, less, same))) in
          let it = (currents_are_chosen c places v there.0 there.1).1 in
          (there.0.place, it.sector, it.counts);
    }

no_status : (c : Chart) (places : ℕ) → ((p : ℕ) (head : Sector) → p < places → c p 0 ≡ Some head → IsStatusHeader head → ⊥) → (o : Option Winner) → status_at c places ≡ o
    → not_formatted o ≡ Some NotFormatted
no_status c places none None is = refl
no_status c places none (Some winner) is =
    let it = statuses_are_chosen c places winner is in
    absurd (none winner.place it.sector it.counts.within it.counts.here it.counts.fits)

pub not_formatted_is_exact : NotFormattedIsExact
not_formatted_is_exact c places least most = (
  λ e p head within here. none_is_status c places p head (none_there (status_at c places) (unformatted_found c places e)) within here,
  λ none.
      let size : size_fault places ≡ None = cond-true (nat_le 5 places && nat_le places 1028) None (Some Geometry) (and_from _ _ (le-leb 5 places least) (le-leb places 1028 most)) in
      let first : not_formatted (status_at c places) ≡ Some NotFormatted = no_status c places none (status_at c places) refl in
      found_second (size_fault places) _ _ size (found_first (not_formatted (status_at c places)) _ first),
)
  where
    found_first : (a b : Option ImageFault) → a ≡ Some NotFormatted → option_or a b ≡ Some NotFormatted
    found_first a b is = ap (λ (o : Option ImageFault). option_or o b) is

    found_second : (a b d : Option ImageFault) → a ≡ None → b ≡ Some NotFormatted → option_or a (option_or b d) ≡ Some NotFormatted
    found_second a b d none is = ap (λ (o : Option ImageFault). option_or o (option_or b d)) none ∙ ap (λ (o : Option ImageFault). option_or o d) is

-- ---- log sectors

bad_here : (heads : ℕ → Option KeptHeader) (earlier : List Mark) (k : ℕ) (o : Option Sector) (fault : ImageFault) → log_test heads earlier k o ≡ Some fault
    → (sector : Sector) × (o ≡ Some sector) × (is_log_well (mark_of heads k sector) earlier sector.version sector.payload ≡ false) × (fault ≡ malformed (k / 256) (k % 256))
bad_here heads earlier k None fault e = cc
bad_here heads earlier k (Some sector) fault e =
    let parts = bad_parts (is_log_well (mark_of heads k sector) earlier sector.version sector.payload) (malformed (k / 256) (k % 256)) fault e in
    (sector, refl, parts.0, parts.1)
  where
    bad_parts : (b : Bool) (x y : ImageFault) → cond b None (Some x) ≡ Some y → (b ≡ false) × (y ≡ x)
    bad_parts true x y e = cc
    bad_parts false x y e = (refl, sym (same_Some x y e))

well_here : (heads : ℕ → Option KeptHeader) (earlier : List Mark) (k : ℕ) (o : Option Sector) (sector : Sector) → o ≡ Some sector → log_test heads earlier k o ≡ None
    → is_log_well (mark_of heads k sector) earlier sector.version sector.payload ≡ true
well_here heads earlier k o sector is e =
    if_none (is_log_well (mark_of heads k sector) earlier sector.version sector.payload) (malformed (k / 256) (k % 256)) (ap (log_test heads earlier k) (sym is) ∙ e)

-- why a log sector is not well
cause_of : (c : Chart) (places k : ℕ) (sector : Sector) → well_at c places k sector ≡ false → HasLogCause c places k sector
cause_of c places k sector bad =
    let mark : Mark = mark_of (header_at c places) k sector in
    let earlier : List Mark = marks (header_at c places) (current_at c places) c k in
    elim (and_cases (is_log_payload sector.version sector.payload) (not (list_any (clashes mark) earlier || is_full mark earlier)) bad) [
      | inl no_list ↦ inl no_list
      | inr rest ↦ elim (or_cases (list_any (clashes mark) earlier) (is_full mark earlier) (not-false (list_any (clashes mark) earlier || is_full mark earlier) rest)) [
        | inl clash ↦ inr (inl (
            let there = any_there (mark_at (header_at c places) (current_at c places) c) (clashes mark) k clash in
            let from = mark_from c places there.number there.value there.here in
            let same : ((there.value.unit == sector.unit) ≡ true) × ((there.value.serial == sector.serial) ≡ true) =
            and_parts (there.value.unit == sector.unit) (there.value.serial == sector.serial) there.passes in
            record {
              number = there.number;
              earlier = there.within;
              other = from.sector;
              live = from.live;
              unit = ap (λ (m : Mark). m.unit) from.is ∙ eqb-true there.value.unit sector.unit same.0;
              serial = ap (λ (m : Mark). m.serial) from.is ∙ eqb-true there.value.serial sector.serial same.1;
            }))
        | inr full ↦ inr (inr (
            let parts : (mark.in_overflow ≡ true) × (nat_le 16 (count_by (shares_overflow mark) earlier) ≡ true) =
            and_parts mark.in_overflow (nat_le 16 (count_by (shares_overflow mark) earlier)) full in
            let counted : count_by (shares_overflow mark) earlier ≡ count_below (is_overflow_of c places sector.unit) k =
            count_all (mark_at (header_at c places) (current_at c places) c) (shares_overflow mark) k in
            let many : 16 ≤ count_by (shares_overflow mark) earlier = leb-true 16 (count_by (shares_overflow mark) earlier) parts.1 in
            record { in_overflow = (overflow_from c places (k / 256) parts.0).1; many = subst (λ (n : ℕ). 16 ≤ n) counted many }))
      ]
    ]

pub bad_logs_are_first : BadLogsAreFirst
bad_logs_are_first c places fault e =
    let f : ℕ → Option ImageFault = log_fault (header_at c places) (current_at c places) c in
    let first : IsFirst f (places * 256) fault = first_is_first f (places * 256) fault e in
    let k : ℕ = first.number in
    let (sector, live, bad, named) = bad_here (header_at c places) (marks (header_at c places) (current_at c places) c k) k
    (live_at (header_at c places) (current_at c places) c k) fault first.here in (
      k,
      record {
        low = first.within;
        sector = sector;
        live = live;
        cause = cause_of c places k sector bad;
        named = named;
        earlier = λ j other less is. well_here (header_at c places) (marks (header_at c places) (current_at c places) c j) j
            (live_at (header_at c places) (current_at c places) c j) other is (first.earlier j less);
      },
    )
