-- From the tables of an opening to the chart.
use Rattle.std.proofs.Common.{◌≡◌, ◌≢◌, ◌⊎◌, inl, inr, ◌≤◌, ◌<◌, ◌+◌, ◌*◌, ℕ, zero, suc, Bool, true, false, ◌&&◌, ◌||◌, ◌==◌, nat_lt, List, [], ◌++◌, take, length, get_or, All, Option, Some, None, IfSome, unwrap_or, Result, refl, sym, ◌∙◌, ap, subst, arith}
use Rattle.std.specs.Result.{IsErrAnd}
use Rattle.std.specs.Option.{option_or}
use Rattle.std.specs.List.{Contains}
use Rattle.std.proofs.lemmas.List.Elements.{All-contains}
use Rattle.std.proofs.lemmas.Bool.{cases_eq, cases_Bool, eq-eqb, ne_eqb, eqb-true, le-leb, and_parts, cond-true, cond-false}
use Rattle.std.proofs.lemmas.Option.{cond_some}
use Rattle.std.proofs.lemmas.List.{take_at, length-take-le}
use Rattle.chip_trait.specs.Story.{Contents}
use Rattle.chip_trait.specs.Told.{Told}
use Rattle.ipl_base.specs.Places.{KeepsUnits, units_on}
use Rattle.ipl_format.specs.Numbers.{word_at}
use Rattle.ipl_base.specs.declared.fault.ImageFault.{ImageFault}
use Rattle.ipl_base.specs.declared.fault.ImageFault.TheVariants.{Geometry}
use Rattle.ipl_format.specs.Header.{IsWithin}
use Rattle.ipl_format.specs.Sector.{Sector}
use Rattle.ipl_meaning.specs.Chart.{Chart, chart_of}
use Rattle.ipl_meaning.specs.Layout.{Laid}
use Rattle.ipl_meaning.specs.Tables.{Places, OverflowLists, IsFree}
use Rattle.ipl_meaning.specs.First.{at, first_of, count_below}
use Rattle.ipl_meaning.specs.Chosen.{KeptHeader, Winner, is_head_payload, head_of, is_header, is_data_of, is_status, chosen, header_in, header_at, units_told, units_in, units_at, current_in, current_at, status_in, status_at}
use Rattle.ipl_meaning.specs.Live.{sectors, is_at, is_log_spot, is_overflow_place, Mark, marks, marks_in}
use Rattle.ipl_meaning.specs.Faults.{TellsImageFault, size_fault, keeps_units, status_geometry, header_tests, header_fault, fault_for, greatest_of_heads, greatest_of_notes, greatest_of_logs, greatest_found, spent_for, no_spare, holds_live}
use Rattle.ipl_meaning.specs.LaidOut.{no_sector, place_of, sector_of, retired_at, layout_in}
use Rattle.unit_layout.specs.Retired.{retired_in, may_be_retired}
use Rattle.ipl_meaning.specs.Payloads.{is_status_payload}
use Rattle.ipl_meaning.proofs.PayloadLemmas.{status_says}
use Rattle.unit_directory.proofs.AsideLemmas.{free_within}
use Rattle.ipl_format.specs.Whole.{IsWhole}
use Rattle.ipl_meaning.specs.OpeningLaws.{MayBeRead, IsByteChart}
use Rattle.ipl_meaning.proofs.ChosenLemmas.{chosen_is_best}
use Rattle.ipl_meaning.proofs.OpeningPartLemmas.{keeps_to}
use Rattle.ipl_meaning.proofs.ContentsLemmas.{whole_sectors_make_byte_charts}
use Rattle.ipl_meaning.proofs.NoFaultLemmas.{no_fault_lays}
use Rattle.ipl_meaning.proofs.TellsLemmas.{tells_exit, tells_past}
use Rattle.restart.specs.Bytes.{IsRestWhole}
use Rattle.restart.specs.Looks.{IsMissed}
use Rattle.restart.specs.Notes.{Notes, IsNoted}
use Rattle.ipl_meaning.specs.FoundLogs.{generation_of}
use Rattle.restart.specs.Filled.{is_home, is_used, erases_by, with_all_aside, AreUsed, AreErasedAsTold, AreAdopted}
use Rattle.restart.specs.Kept.{counted_in, retired_of}
use Rattle.restart.specs.Shown.{ShowsHeaders, AreChosen, HeadersCount, current_tests, is_held, number_by, fault_by}
use Rattle.ipl_meaning.specs.Opened.{IsUnused, IsOpened, IsOpenedLog}
use Rattle.ipl_meaning.proofs.ListLemmas.{count_alike}
use Rattle.restart.specs.Opened.{HasFree}
use Rattle.restart.specs.Counted.{AreHomes}
use Rattle.restart.proofs.CountLemmas.{said_by_header}
use Rattle.restart.proofs.RetireLemmas.{AreAside, all_aside}
use Rattle.restart.proofs.LookLemmas.{missed_not_image}

-- a read that failed tells nothing
pub missed_tells : {T : Type 0} {old new : Told} (r : Result T ImageFault) (fault : Option ImageFault) (e : ImageFault) → IsErrAnd r (λ y. y ≡ e) → IsMissed e old new → TellsImageFault fault r
missed_tells r fault e exit missed = tells_exit r fault e exit (λ image. let no = sym image ∙ missed_not_image missed in cc)

-- ---- headers

pub shows_from : (c : Chart) (places : ℕ) (heads : List (Option KeptHeader)) (current : List (Option Winner)) (status : Option Winner) (winner : Winner)
    → at heads ≡ header_at c places → length heads ≡ places → at current ≡ current_in (at heads) (length heads) → status ≡ status_in (at heads) places → status ≡ Some winner
    → length current ≡ units_told places (Some winner) → ShowsHeaders c places heads current winner
shows_from c places heads current status winner shown size currents its is count =
    let here : Some winner ≡ status_at c places = sym is ∙ its ∙ ap (λ (h : ℕ → Option KeptHeader). status_in h places) shown in
    record {
      units_are = count ∙ ap (units_told places) here;
      heads_are = shown;
      current_are = currents ∙ ap (current_in (at heads)) size ∙ ap (λ (h : ℕ → Option KeptHeader). current_in h places) shown;
      status_is = here;
    }

pub chosen_from : (places : ℕ) (heads : List (Option KeptHeader)) (current : List (Option Winner)) (status : Option Winner) (winner : Winner)
    → length heads ≡ places → at current ≡ current_in (at heads) (length heads) → status ≡ status_in (at heads) places → status ≡ Some winner
    → length current ≡ units_told places (Some winner) → AreChosen heads current winner
chosen_from places heads current status winner size currents its is count =
    let here : Some winner ≡ status_in (at heads) (length heads) = sym is ∙ its ∙ ap (status_in (at heads)) (sym size) in
    record {
      units_are = count ∙ ap (λ (n : ℕ). units_told n (Some winner)) (sym size) ∙ ap (units_told (length heads)) here;
      current_are = currents;
      status_is = here;
    }

-- where there is a status header that says as many units, the headers that count tell
pub headers_tell : {T : Type 0} (c : Chart) (places : ℕ) (heads : List (Option KeptHeader)) (current : List (Option Winner)) (winner : Winner) (r : Result T ImageFault)
    → ShowsHeaders c places heads current winner → KeepsUnits places (units_told places (Some winner))
    → TellsImageFault (first_of (current_tests (length current) (Some winner) (at current))) r → TellsImageFault (header_fault c places) r
headers_tell c places heads current winner r shows keeps tells =
    let kept : status_geometry places (Some winner) ≡ None =
    cond-true (keeps_units places (units_told places (Some winner))) None (Some Geometry) (keeps_to places (units_told places (Some winner)) keeps) in
    subst (λ (n : ℕ). TellsImageFault (first_of (header_tests places n (status_at c places) (current_at c places))) r) shows.units_are
    (subst (λ (cur : ℕ → Option Winner). TellsImageFault (first_of (header_tests places (length current) (status_at c places) cur)) r) shows.current_are
    (subst (λ (st : Option Winner). TellsImageFault (first_of (header_tests places (length current) st (at current))) r) shows.status_is
    (tells_past (status_geometry places (Some winner)) (first_of (current_tests (length current) (Some winner) (at current))) r kept tells)))

-- the places that a status header's sector lists may be retired
pub may_list : (places : ℕ) (sector : Option Sector) (winner : Winner) → header_in places sector ≡ Some winner.head → winner.head.kind ≡ 2 → winner.head.well ≡ true
    → may_be_retired places (units_told places (Some winner)) (retired_of sector) ≡ true
may_list places None winner is kind well = absurd (cc is)
may_list places (Some s) winner is kind well =
    let head : head_of places s ≡ winner.head = (cond_some (is_header s) (head_of places s) winner.head is).1 in
    let own_kind : s.kind ≡ 2 = ap (λ (h : KeptHeader). h.kind) head ∙ kind in
    let passes : is_status_payload s.version places s.payload ≡ true =
    ap (λ (k : ℕ). is_head_payload s.version places k s.payload) (sym own_kind) ∙ (ap (λ (h : KeptHeader). h.well) head ∙ well) in
    let units : word_at 0 s.payload ≡ units_told places (Some winner) =
    ap (λ (o : Option ℕ). unwrap_or o (units_on places)) (sym (status_says s.version places s.payload passes) ∙ ap (λ (h : KeptHeader). h.said) head) in
    ap (λ (n : ℕ). may_be_retired places n (retired_in s.version s.payload)) (sym units) ∙ (and_parts _ _ passes).1

-- the headers count that were chosen and tested
pub headers_count : (places : ℕ) (heads : List (Option KeptHeader)) (current rest : List (Option Winner)) (status : Option Winner) (winner : Winner) (sector : Option Sector)
    → AreChosen heads current winner → length current ≡ units_told places (Some winner) → KeepsUnits places (units_told places (Some winner))
    → ((u : ℕ) → u < length current → at current u ≢ None) → status ≡ Some winner → IfSome status (λ w. header_in places sector ≡ Some w.head) → winner.head.well ≡ true
    → HeadersCount places heads (current ++ rest) winner sector
headers_count places heads current rest status winner sector chosen count keeps there is kept well =
    let first : current ≡ counted_in places winner (current ++ rest) = sym (take_at current rest (units_told places (Some winner)) count) in
    let best = chosen_is_best is_status (at heads) (length heads) winner (sym chosen.status_is) in record {
      chosen = subst (λ (cur : List (Option Winner)). AreChosen heads cur winner) first chosen;
      keeps = keeps;
      there = λ u low. subst (λ (cur : List (Option Winner)). at cur u ≢ None) first (there u (omega (arith, low, count)));
      listed = may_list places sector winner (subst (λ (o : Option Winner). IfSome o (λ w. header_in places sector ≡ Some w.head)) is kept) (eqb-true winner.head.kind 2 best.of_kind) well;
    }

-- the headers that were found, of so many units
pub record AreFound (places : ℕ) (heads : List (Option KeptHeader)) (current : List (Option Winner)) (status : Winner) (sector : Option Sector) : Type 0 where
  pub chosen : AreChosen heads current status
  pub keeps : KeepsUnits places (length current)
  pub there : (u : ℕ) → u < length current → at current u ≢ None
  pub listed : may_be_retired places (length current) (retired_of sector) ≡ true

pub are_found : (places count : ℕ) (heads : List (Option KeptHeader)) (table : List (Option Winner)) (status : Winner) (sector : Option Sector)
    → count ≡ units_told places (Some status) → length table ≡ units_on places → HeadersCount places heads table status sector
    → AreFound places heads (take count table) status sector
are_found places count heads table status sector same size counts =
    let is : counted_in places status table ≡ take count table = ap (λ (n : ℕ). take n table) (sym same) in
    let all : length (take count table) ≡ units_told places (Some status) =
    length-take-le count table (omega (arith, same, size, counts.keeps.1)) ∙ same in record {
      chosen = subst (λ (cur : List (Option Winner)). AreChosen heads cur status) is counts.chosen;
      keeps = subst (KeepsUnits places) (sym all) counts.keeps;
      there = λ u low. subst (λ (cur : List (Option Winner)). at cur u ≢ None) is (counts.there u (omega (arith, low, all)));
      listed = subst (λ (n : ℕ). may_be_retired places n (retired_of sector) ≡ true) (sym all) counts.listed;
    }

pub shows_found : (c : Chart) (places count : ℕ) (heads : List (Option KeptHeader)) (table : List (Option Winner)) (status : Winner)
    → count ≡ units_told places (Some status) → ShowsHeaders c places heads (counted_in places status table) status
    → ShowsHeaders c places heads (take count table) status
shows_found c places count heads table status same shows =
    subst (λ (n : ℕ). ShowsHeaders c places heads (take n table) status) (sym same) shows

-- a header that counts stands on the chip
pub status_low : (heads : List (Option KeptHeader)) (current : List (Option Winner)) (winner : Winner) → AreChosen heads current winner → winner.place < length heads
status_low heads current winner chosen = (chosen_is_best is_status (at heads) (length heads) winner (sym chosen.status_is)).within

pub current_low : (heads : List (Option KeptHeader)) (current : List (Option Winner)) (status : Winner) → AreChosen heads current status
    → (u : ℕ) (winner : Winner) → at current u ≡ Some winner → winner.place < length heads
current_low heads current status counts u winner is =
    let n = length heads in
    let all : Option Winner = chosen (is_data_of u) (at heads) n in
    let found : current_in (at heads) n u ≡ Some winner = ap (λ (cur : ℕ → Option Winner). cur u) (sym counts.current_are) ∙ is in
    elim (cases_Bool (nat_lt u (units_in (at heads) n))) [
      | inl low ↦ (chosen_is_best (is_data_of u) (at heads) n winner
          (sym (cond-true (nat_lt u (units_in (at heads) n)) all None low) ∙ found)).within
      | inr past ↦ absurd (let no : None ≡ Some winner = sym (cond-false (nat_lt u (units_in (at heads) n)) all None past) ∙ found in cc no)
    ]

-- the header of each unit that counts stands at its place
pub are_homes : (heads : List (Option KeptHeader)) (current : List (Option Winner)) (status : Winner) → AreChosen heads current status → AreHomes (at heads) (at current)
are_homes heads current status counts u winner is =
    let n = length heads in
    let all : Option Winner = chosen (is_data_of u) (at heads) n in
    let found : current_in (at heads) n u ≡ Some winner = ap (λ (cur : ℕ → Option Winner). cur u) (sym counts.current_are) ∙ is in
    elim (cases_Bool (nat_lt u (units_in (at heads) n))) [
      | inl low ↦
          let best = chosen_is_best (is_data_of u) (at heads) n winner (sym (cond-true (nat_lt u (units_in (at heads) n)) all None low) ∙ found) in
          let parts = and_parts (winner.head.kind == 1) (winner.head.unit == u) best.of_kind in
          (best.here, eqb-true winner.head.kind 1 parts.0, eqb-true winner.head.unit u parts.1)
      | inr past ↦ absurd (let no : None ≡ Some winner = sym (cond-false (nat_lt u (units_in (at heads) n)) all None past) ∙ found in cc no)
    ]

-- ---- the rest

pub held_is : (heads : List (Option KeptHeader)) (notes : Notes) (lists : OverflowLists) (all : List Mark) → IsNoted notes lists all → (p : ℕ) → is_held heads notes p ≡ holds_live (at heads) all p
held_is heads notes lists all it p = ap (λ (b : Bool). is_overflow_place (at heads p) && b) (it.holds p)

pub end_tells : {T : Type 0} (draws : Bool) (heads : List (Option KeptHeader)) (notes : Notes) (lists : OverflowLists) (all : List Mark) (greatest number places : ℕ) (r : Result T ImageFault) → greatest ≡ number → length heads ≡ places → IsNoted notes lists all
    → TellsImageFault (option_or (spent_for draws greatest) (option_or (no_spare (count_below (is_held heads notes) (length heads))) None)) r
    → TellsImageFault (option_or (spent_for draws number) (option_or (no_spare (count_below (holds_live (at heads) all) places)) None)) r
end_tells draws heads notes lists all greatest number places r is size it tells =
    let count : count_below (is_held heads notes) (length heads) ≡ count_below (holds_live (at heads) all) places =
    count_alike (is_held heads notes) (holds_live (at heads) all) (length heads) (λ p low. held_is heads notes lists all it p) ∙ ap (count_below (holds_live (at heads) all)) size in
    subst (λ (n : ℕ). TellsImageFault (option_or (spent_for draws number) (option_or (no_spare n) None)) r) count
    (subst (λ (n : ℕ). TellsImageFault (option_or (spent_for draws n) (option_or (no_spare (count_below (is_held heads notes) (length heads))) None)) r) is tells)

pub number_is : (c : Chart) (heads : ℕ → Option KeptHeader) (current : ℕ → Option Winner) (status : Option Winner) (size places first least greatest : ℕ) → size ≡ places → first ≡ greatest_of_heads heads size
    → least ≡ greatest_of_notes first c status sectors → greatest ≡ greatest_of_logs least heads current c (places * 256) → greatest ≡ number_by c heads current status places
number_is c heads current status size places first least greatest same one two three =
    three ∙ ap (λ (n : ℕ). greatest_of_logs n heads current c (places * 256))
    (two ∙ ap (λ (n : ℕ). greatest_of_notes n c status sectors) (one ∙ ap (greatest_of_heads heads) same))

-- ---- to the chart

pub size_none : (places : ℕ) → 5 ≤ places → places ≤ 1028 → size_fault places ≡ None
size_none places least most = rw (le-leb 5 places least, le-leb places 1028 most) refl

or_parts : (a b : Bool) → (a || b) ≡ false → (a ≡ false) × (b ≡ false)
or_parts true b is = cc
or_parts false b is = (refl, is)

or_both : (a b : Bool) → a ≡ false → b ≡ false → (a || b) ≡ false
or_both a b one two = rw (one, two) refl

home_from : (current : ℕ → Option Winner) (n p u : ℕ) → is_home current n p ≡ false → u < n → is_at (current u) p ≡ false
home_from current zero p u is low = absurd (omega arith)
home_from current (suc n) p u is low = elim (cases_eq u n) [
  | inl same ↦ ap (λ (v : ℕ). is_at (current v) p) same ∙ (or_parts _ _ is).1
  | inr other ↦ home_from current n p u (or_parts _ _ is).0 (omega arith)
]

home_none : (current : ℕ → Option Winner) (n p : ℕ) → ((u : ℕ) → u < n → is_at (current u) p ≡ false) → is_home current n p ≡ false
home_none current zero p each = refl
home_none current (suc n) p each = or_both _ _ (home_none current n p (λ u low. each u (omega arith))) (each n (omega arith))

at_none : (o : Option Winner) (p : ℕ) → ((winner : Winner) → o ≡ Some winner → winner.place ≢ p) → is_at o p ≡ false
at_none None p apart = refl
at_none (Some winner) p apart = ne_eqb winner.place p (apart winner refl)

not_at : (o : Option Winner) (winner : Winner) (p : ℕ) → is_at o p ≡ false → o ≡ Some winner → winner.place ≡ p → ⊥
not_at o winner p none is same = let here : is_at (Some winner) p ≡ true = eq-eqb winner.place p same in let no = sym here ∙ ap (λ (q : Option Winner). is_at q p) (sym is) ∙ none in cc

-- the places that the status header lists
listed_by : (o : Option Sector) → retired_of o ≡ retired_in (unwrap_or o no_sector).version (unwrap_or o no_sector).payload
listed_by None = refl
listed_by (Some sector) = refl

retired_found : (c : Chart) (places : ℕ) (status : Winner) → Some status ≡ status_at c places → retired_of (c status.place 0) ≡ retired_at c places
retired_found c places status is =
    listed_by (c status.place 0)
    ∙ ap (λ (o : Option Winner). retired_in (sector_of c o).version (sector_of c o).payload) is

module _ (c : Chart) (places : ℕ) (heads : List (Option KeptHeader)) (current : List (Option Winner)) (status : Winner) (shows : ShowsHeaders c places heads current status) where
  pub to_chart : (P : (ℕ → Option KeptHeader) → (ℕ → Option Winner) → Option Winner → Type 0) → P (at heads) (at current) (Some status) → P (header_at c places) (current_at c places) (status_at c places)
  to_chart P it =
      subst (λ (h : ℕ → Option KeptHeader). P h (current_at c places) (status_at c places)) shows.heads_are
      (subst (λ (cur : ℕ → Option Winner). P (at heads) cur (status_at c places)) shows.current_are
      (subst (λ (st : Option Winner). P (at heads) (at current) st) shows.status_is it))

  rest_tells : {T : Type 0} (draws : Bool) (r : Result T ImageFault) → TellsImageFault (fault_by draws c (at heads) (at current) (Some status) places) r
      → TellsImageFault (fault_by draws c (header_at c places) (current_at c places) (status_at c places) places) r
  rest_tells draws r tells = to_chart (λ h cur st. TellsImageFault (fault_by draws c h cur st places) r) tells

  -- where the size and the headers are well, the rest tells the first fault
  pub all_tells : {T : Type 0} (draws : Bool) (r : Result T ImageFault) → 5 ≤ places → places ≤ 1028 → header_fault c places ≡ None
      → TellsImageFault (fault_by draws c (at heads) (at current) (Some status) places) r → TellsImageFault (fault_for draws c places) r
  all_tells draws r least most well tells = tells_past _ _ r (size_none places least most) (tells_past _ _ r well (rest_tells draws r tells))

  pub number_found : (n : ℕ) → n ≡ number_by c (at heads) (at current) (Some status) places → n ≡ greatest_found c places
  number_found n is = to_chart (λ h cur st. n ≡ number_by c h cur st places) is

  noted_found : (notes : Notes) (lists : OverflowLists) → IsNoted notes lists (marks (at heads) (at current) c (places * 256)) → IsNoted notes lists (marks_in c places (places * 256))
  noted_found notes lists it = to_chart (λ h cur st. IsNoted notes lists (marks h cur c (places * 256))) it

  -- a place is free exactly where it is unused
  module _ (notes : Notes) (lists : OverflowLists) (noted : IsNoted notes lists (marks (at heads) (at current) c (places * 256))) (d : Places) (most : ℕ) (used : AreUsed (is_used (at current) (length current) status.place (is_held heads notes)) places most d.in_use) (p : ℕ) (low : p < places) where
    abbrev units : ℕ
    units = length current

    held_found : is_held heads notes p ≡ holds_live (header_at c places) (marks_in c places (places * 256)) p
    held_found = held_is heads notes lists (marks_in c places (places * 256)) (noted_found notes lists noted) p
        ∙ ap (λ (h : ℕ → Option KeptHeader). holds_live h (marks_in c places (places * 256)) p) shows.heads_are

    unused_from : IsFree d p → IsUnused places c p
    unused_from free =
        let none : is_used (at current) units status.place (is_held heads notes) p ≡ false = sym (used.used_are p low) ∙ free in
        let parts = or_parts _ _ none in
        let first = or_parts _ _ parts.0 in record {
          not_home = λ u winner small is same.
              let within : u < units = omega (arith, small, shows.units_are) in
              not_at (at current u) winner p (home_from (at current) units p u first.0 within) (ap (λ (cur : ℕ → Option Winner). cur u) shows.current_are ∙ is) same;
          not_status = λ winner is same. not_at (Some status) winner p first.1 (shows.status_is ∙ is) same;
          not_held = sym held_found ∙ parts.1;
        }

    unused_to : IsUnused places c p → IsFree d p
    unused_to it =
        used.used_are p low ∙ or_both _ _
        (or_both _ _
        (home_none (at current) units p (λ u within. at_none (at current u) p (λ winner is. it.not_home u winner (omega (arith, within, shows.units_are)) (ap (λ (cur : ℕ → Option Winner). cur u) (sym shows.current_are) ∙ is))))
        (at_none (Some status) p (λ winner is. it.not_status winner (sym shows.status_is ∙ is))))
        (held_found ∙ it.not_held)

  -- the directory, once the places are retired that the status header lists
  pub opened : (notes : Notes) (lists : OverflowLists) → IsNoted notes lists (marks (at heads) (at current) c (places * 256)) → (filled d : Places) (listed : List ℕ) (sector : Option Sector) (most counter greatest : ℕ)
      → AreUsed (is_used (at current) (length current) status.place (is_held heads notes)) places most filled.in_use → AreAdopted (at current) (length current) (length current) filled
      → AreErasedAsTold (at heads) places filled → filled.retired ≡ [] → ((p : ℕ) (s : Sector) → c p 0 ≡ Some s → 1 ≤ s.kind)
      → d ≡ with_all_aside filled listed → listed ≡ retired_of sector → sector ≡ c status.place 0 → All (IsWithin places) listed
      → greatest ≡ number_by c (at heads) (at current) (Some status) places → counter ≡ greatest + 1 → ((u : ℕ) → u < units_at c places → IsOpenedLog places c u (get_or filled.written u 0))
      → IsOpened places c d counter
  opened notes lists noted filled d listed sector most counter greatest used adopted counted none kinds is these here within_all number next logs =
      let units : length current ≡ units_at c places = shows.units_are in
      let it = subst (AreAside filled listed) (sym is) (all_aside filled listed) in
      let same : listed ≡ retired_at c places = these ∙ (ap retired_of here ∙ retired_found c places status shows.status_is) in
      let low : (p : ℕ) → IsFree filled p → p < places = λ p free. let within = free_within filled p free in omega (arith, within, used.all) in
      let from = unused_from notes lists noted filled most used in
      let to = unused_to notes lists noted filled most used in record {
        units = ap length it.keeps.current ∙ adopted.units_are ∙ units;
        logs = ap length it.keeps.written ∙ adopted.logs_are ∙ units;
        all = it.keeps.all ∙ used.all;
        counts = ap length it.keeps.erases ∙ counted.counts;
        current = λ u less. ap (λ (xs : List ℕ). get_or xs u 0) it.keeps.current ∙ adopted.current_is u (omega (arith, less, units)) ∙ ap (λ (cur : ℕ → Option Winner). place_of (cur u)) shows.current_are;
        heads = ap length it.keeps.generations ∙ adopted.heads_are ∙ units;
        generation = λ u less. ap (λ (xs : List ℕ). get_or xs u 0) it.keeps.generations ∙ adopted.generation_is u (omega (arith, less, units)) ∙ ap (λ (cur : ℕ → Option Winner). generation_of (cur u)) shows.current_are;
        written = λ u less. subst (IsOpenedLog places c u) (sym (ap (λ (xs : List ℕ). get_or xs u 0) it.keeps.written)) (logs u less);
        erases = λ p within. ap (λ (xs : List ℕ). get_or xs p 0) it.keeps.erases ∙ counted.erases_are p within ∙ ap (λ (h : ℕ → Option KeptHeader). erases_by (h p)) shows.heads_are ∙ said_by_header c places p within (kinds p);
        free = λ p within. (
          λ free. let (was, other) = it.free p free in (from p within was, λ has. other (subst (λ (xs : List ℕ). Contains xs p) (sym same) has)),
          λ (unused, other). it.still p (to p within unused) (λ has. other (subst (λ (xs : List ℕ). Contains xs p) same has)),
        );
        retired = λ p. (
          λ has. elim (it.retired p has) [
            | inl before ↦ absurd (let within = before.1 in omega (arith, within, ap length none))
            | inr (has_it, free) ↦ (subst (λ (xs : List ℕ). Contains xs p) same has_it, from p (low p free) free)
          ],
          λ (has, unused). it.listed_are p (subst (λ (xs : List ℕ). Contains xs p) (sym same) has) (to p (All-contains (IsWithin places) listed p within_all (subst (λ (xs : List ℕ). Contains xs p) (sym same) has)) unused),
        );
        number = next ∙ ap (λ (n : ℕ). n + 1) (number_found greatest number);
      }

-- the same places are used, of as many
pub used_of : {used : ℕ → Bool} {m n most : ℕ} {in_use : List Bool} → m ≡ n → AreUsed used m most in_use → AreUsed used n most in_use
used_of {used} {m} {n} {most} {in_use} same it = subst (λ (k : ℕ). AreUsed used k most in_use) same it

-- whether told or not, a place may be taken, however many of the spare ones are worn, and that of the first unit isn't free
pub has_free : (heads : List (Option KeptHeader)) (current : List (Option Winner)) (status : Winner) (notes : Notes) (filled d : Places) (listed : List ℕ) (places count : ℕ) → KeepsUnits places (length current) → count ≤ 2
    → ((u : ℕ) (winner : Winner) → at current u ≡ Some winner → winner.place < places) → (at current 0 ≡ None → ⊥)
    → AreUsed (is_used (at current) (length current) status.place (is_held heads notes)) places (length current + 1 + count) filled.in_use → AreAdopted (at current) (length current) (length current) filled
    → filled.retired ≡ [] → d ≡ with_all_aside filled listed → HasFree d
has_free heads current status notes filled d listed places count keeps two within there used adopted none is =
    let it = subst (AreAside filled listed) (sym is) (all_aside filled listed) in record {
      ready = it.ready (record {
        enough = omega (arith, used.most_are, used.all, adopted.units_are, keeps.1, two);
        apart = λ p has. absurd (let low = has.1 in omega (arith, low, ap length none));
      });
      first = λ free. first_used (at current 0) refl (subst (λ (xs : List ℕ). IsFree filled (get_or xs 0 0)) it.keeps.current (it.free (get_or d.current 0 0) free).0);
    }
  where
    first_used : (o : Option Winner) → at current 0 ≡ o → IsFree filled (get_or filled.current 0 0) → ⊥
    first_used None is free = there is
    first_used (Some winner) is free =
        let place : get_or filled.current 0 0 ≡ winner.place = adopted.current_is 0 (omega (arith, keeps.0)) ∙ ap place_of is in
        let low = within 0 winner is in
        let here : IsFree filled winner.place = subst (λ (p : ℕ). IsFree filled p) place free in
        let none : is_used (at current) (length current) status.place (is_held heads notes) winner.place ≡ false = sym (used.used_are winner.place low) ∙ here in
        not_at (at current 0) winner winner.place (home_from (at current) (length current) winner.place 0 (or_parts _ _ (or_parts _ _ none).0).0 (omega (arith, keeps.0))) is refl

-- what was read beyond the headers is whole
pub rest_whole : (x : Contents) (places : ℕ) (heads : List (Option KeptHeader)) (current : List (Option Winner)) (status : Winner)
    → ((s : ℕ) → 1 ≤ s → s < 256 → IsWhole (x status.place s))
    → ((p s : ℕ) → s < 256 → p * 256 + s < places * 256 → is_log_spot (at heads) (at current) p s ≡ true → IsWhole (x p s))
    → IsRestWhole x places heads current status
rest_whole x places heads current status commits logs = λ p s low some within where_it_is. elim where_it_is [
  | inl here ↦ subst (λ (q : ℕ). IsWhole (x q s)) (sym here) (commits s some within)
  | inr spot ↦ logs p s within (omega (arith, low, within)) spot
]

-- what was read is whole, and so it is bytes
pub read_bytes : (x : Contents) (places : ℕ) (heads : List (Option KeptHeader)) (current : List (Option Winner)) (status : Winner) → ShowsHeaders (chart_of x) places heads current status
    → ((p : ℕ) → p < places → IsWhole (x p 0)) → IsRestWhole x places heads current status → IsByteChart places (chart_of x)
read_bytes x places heads current status shows first rest =
    whole_sectors_make_byte_charts x places (λ p s low within may. elim (cases_eq s 0) [
      | inl zero_s ↦ subst (λ (t : ℕ). IsWhole (x p t)) (sym zero_s) (first p low)
      | inr some ↦ rest p s low (omega (arith, some)) within (of_tables p s some may)
    ])
  where
    of_tables : (p s : ℕ) → s ≢ 0 → MayBeRead places (chart_of x) p s → (p ≡ status.place) ⊎ (is_log_spot (at heads) (at current) p s ≡ true)
    of_tables p s some (inl zero_s) = absurd (some zero_s)
    of_tables p s some (inr (inl here)) =
        let at_status : is_at (Some status) p ≡ true = ap (λ (o : Option Winner). is_at o p) shows.status_is ∙ here in inl (sym (eqb-true status.place p at_status))
    of_tables p s some (inr (inr spot)) =
        inr (subst (λ (h : ℕ → Option KeptHeader). is_log_spot h (at current) p s ≡ true) (sym shows.heads_are)
        (subst (λ (cur : ℕ → Option Winner). is_log_spot (header_at (chart_of x) places) cur p s ≡ true) (sym shows.current_are) spot))

-- where there is no fault, the contents are laid out
pub laid : (draws : Bool) (x : Contents) (places : ℕ) (heads : List (Option KeptHeader)) (current : List (Option Winner)) (status : Winner) → ShowsHeaders (chart_of x) places heads current status
    → ((p : ℕ) → p < places → IsWhole (x p 0)) → IsRestWhole x places heads current status
    → fault_for draws (chart_of x) places ≡ None → Laid places (chart_of x) (layout_in (chart_of x) places)
laid draws x places heads current status shows first rest none =
    no_fault_lays draws (chart_of x) places (read_bytes x places heads current status shows first rest) none
