-- A chart without a fault is laid out.
use Rattle.std.proofs.Common.{ℕ, zero, suc, ◌≡◌, inl, inr, ◌+◌, ◌*◌, ◌/◌, ◌%◌, ◌<◌, ◌≤◌, Bool, true, false, nat_le, ◌==◌, ◌&&◌, List, [], ◌∷◌, map, Option, Some, None, unwrap_or, refl, sym, ◌∙◌, ap, ap₂, subst, arith, cond, All}
use Rattle.std.specs.Prelude.{IsTrue, not, ◌||◌}
use Rattle.std.specs.List.{Contains, list_any, count_by}
use Rattle.std.specs.Option.{option_map}
use Rattle.std.proofs.lemmas.Bool.{cases_Bool, eqb-true, eq-eqb, ne_eqb, leb-false, and_parts, and_from, and_cases, or_parts, or_cases, or_left, or_right, not-true, not-false, cond-true, cond-false, both_ways}
use Rattle.std.proofs.lemmas.List.{length-map, get_or-map}
use Rattle.std.proofs.lemmas.Option.{same_Some, cond_some}
use Rattle.ipl_base.specs.declared.fault.ImageFault.TheVariants.{Geometry}
use Rattle.ipl_base.specs.Places.{KeepsUnits, units_on}
use Rattle.ipl_format.specs.Numbers.{IsBytes, word_at}
use Rattle.ipl_format.specs.Header.{SpellsDataHeader, SpellsStatusHeader}
use Rattle.ipl_format.specs.Record.{SpellsLog}
use Rattle.ipl_format.specs.Commit.{SpellsCommit}
use Rattle.ipl_format.specs.Mark.{SpellsMark}
use Rattle.ipl_format.specs.Sector.{Sector}
use Rattle.log_records.specs.Reading.{records_of}
use Rattle.ipl_meaning.specs.Chart.{Chart, IsLive}
use Rattle.ipl_meaning.specs.Last.{is_number}
use Rattle.ipl_meaning.specs.Layout.{Entry, Shape, IsEntry, IsHomeOrListed, IsInOverflow, IsLog, IsUnit, IsCommitSector, IsCommitted, IsStatus, IsMark, AreMarks, Layout, Laid}
use Rattle.unit_layout.specs.Mark.{is_mark_payload}
use Rattle.ipl_meaning.specs.First.{passes, count_below, joined_below}
use Rattle.ipl_meaning.specs.Payloads.{is_log_payload, pieces_in, numbers_in, is_data_payload, is_status_payload, is_commit_payload}
use Rattle.ipl_meaning.specs.Chosen.{KeptHeader, Winner, header_at, units_told, current_at, status_at, units_at, is_head_payload}
use Rattle.ipl_meaning.specs.Live.{is_at, sectors, is_commit_sector, commit_at, noted_at, is_overflow_place, live_at, Mark, mark_of, mark_at, marks}
use Rattle.ipl_meaning.specs.Faults.{malformed, not_formatted, status_geometry, says_other, other_geometry, missing, bad_header, is_noted_payload, noted_fault, clashes, shares_overflow, is_full, is_log_well, log_test, is_in, holds_live, fault_for}
use Rattle.ipl_meaning.specs.LaidOut.{numbers_of, committed_in, entry_of, entry_at, log_in, no_sector, place_of, sector_of, shape_in, layout_in}
use Rattle.ipl_meaning.specs.LiveLaws.{IsStatusNote}
use Rattle.ipl_meaning.specs.OpeningLaws.{IsByteChart, NoFaultIsLaid, NoFaultIsFresh, NoShapeFaultIsLaid}
use Rattle.unit_layout.proofs.MarkLemmas.{mark_told}
use Rattle.ipl_meaning.proofs.PayloadLemmas.{data_payloads_are_spelled, data_says, status_payloads_are_spelled, status_says, commit_payloads_are_spelled, spelled_commits_pass, log_payloads_are_spelled}
use Rattle.ipl_meaning.proofs.HeaderLemmas.{statuses_are_chosen}
use Rattle.ipl_meaning.proofs.BelowLemmas.{none_any, any_some, count_all, passing, passing_has, passing_count, joined_has, joined_from}
use Rattle.ipl_meaning.proofs.SortLemmas.{AreApart, sorted_has, sorted_all, sorted_rises}
use Rattle.ipl_meaning.proofs.LiveLemmas.{IsSeen, seen_spot, live_seen, sectors_are, commit_from, commit_to, note_to, IsHome, home_of, live_from, live_to, away_is_overflow}
use Rattle.ipl_meaning.proofs.LaidLemmas.{mark_to}
use Rattle.ipl_meaning.proofs.NumberLemmas.{found_below}
use Rattle.ipl_meaning.proofs.OpeningPartLemmas.{IsFormed, note_well, units_kept, formed_from, no_fault_parts, if_none}

-- ---- single tests

formatted_from : (o : Option Winner) → not_formatted o ≡ None → (winner : Winner) × (o ≡ Some winner)
formatted_from None e = cc
formatted_from (Some winner) e = (winner, refl)

there_from : (u : ℕ) (o : Option Winner) → missing u o ≡ None → (winner : Winner) × (o ≡ Some winner)
there_from u None e = cc
there_from u (Some winner) e = (winner, refl)

-- a unit's header says no other number
same_said : (units said : ℕ) (winner : Winner) → winner.head.said ≡ Some said → other_geometry units (Some winner) ≡ None → said ≡ units
same_said units said winner is e =
    let says : says_other units (Some said) ≡ false = ap (says_other units) (sym is) ∙ none_other (says_other units winner.head.said) e in
    eqb-true said units (not-false (said == units) says)
  where
    none_other : (b : Bool) → cond b (Some Geometry) None ≡ None → b ≡ false
    none_other true e = cc
    none_other false e = refl

header_well : (o : Option Winner) (winner : Winner) → o ≡ Some winner → bad_header o ≡ None → winner.head.well ≡ true
header_well o winner is e = if_none winner.head.well (malformed winner.place 0) (ap bad_header (sym is) ∙ e)

log_well : (heads : ℕ → Option KeptHeader) (earlier : List Mark) (k : ℕ) (o : Option Sector) (sector : Sector) → o ≡ Some sector → log_test heads earlier k o ≡ None
    → is_log_well (mark_of heads k sector) earlier sector.version sector.payload ≡ true
log_well heads earlier k o sector is e =
    if_none (is_log_well (mark_of heads k sector) earlier sector.version sector.payload) (malformed (k / 256) (k % 256)) (ap (log_test heads earlier k) (sym is) ∙ e)

-- ---- entries

-- what an entry is of
record IsEntryOf (u k : ℕ) (o : Option Sector) (e : Entry) : Type 0 where
  here : o ≡ Some e.sector
  unit : e.sector.unit ≡ u
  place : e.place ≡ k / 256
  number : e.number ≡ k % 256
  records : e.records ≡ records_of e.sector.version e.sector.payload

entry_from : (u k : ℕ) (o : Option Sector) (e : Entry) → entry_of u k o ≡ Some e → IsEntryOf u k o e
entry_from u k None e is = cc
entry_from u k (Some sector) e is =
    let made : Entry = record { place = k / 256; number = k % 256; sector = sector; records = records_of sector.version sector.payload } in
    let parts : ((sector.unit == u) ≡ true) × (made ≡ e) = cond_some (sector.unit == u) made e is in
    subst (IsEntryOf u k (Some sector)) parts.1 (record { here = refl; unit = eqb-true sector.unit u parts.0; place = refl; number = refl; records = refl })

entry_to : (u k : ℕ) (o : Option Sector) (sector : Sector) → o ≡ Some sector → sector.unit ≡ u
    → entry_of u k o ≡ Some (record { place = k / 256; number = k % 256; sector = sector; records = records_of sector.version sector.payload })
entry_to u k o sector is unit =
    ap (entry_of u k) is ∙ cond-true (sector.unit == u) (Some (record { place = k / 256; number = k % 256; sector = sector; records = records_of sector.version sector.payload })) None
    (eq-eqb sector.unit u unit)

-- the spot with the number k
abbrev spot_of : ℕ → ℕ × ℕ
spot_of k = (k / 256, k % 256)

spot_there : (ks : List ℕ) (k p s : ℕ) → Contains ks k → p ≡ k / 256 → s ≡ k % 256 → Contains (map spot_of ks) (p, s)
spot_there ks k p s (i, low, is) place number = (
  i,
  omega (arith, length-map ks spot_of, low),
  get_or-map spot_of ks i k (p, s) low ∙ (ap spot_of is ∙ ap₂ (λ (q t : ℕ). let spot : ℕ × ℕ = (q, t) in spot) (sym place) (sym number)),
)

-- ---- committed numbers

number_has : (tid : ℕ) (numbers : List ℕ) → list_any (is_number tid) numbers ≡ true → Contains numbers tid
number_has tid [] is = absurd (cc is)
number_has tid (n ∷ numbers) is = elim (or_cases _ _ is) [
  | inl first ↦ (0, omega arith, eqb-true n tid first)
  | inr later ↦ let (i, low, at) = number_has tid numbers later in (suc i, omega (arith, low), at)
]

has_number : (tid : ℕ) (numbers : List ℕ) → Contains numbers tid → list_any (is_number tid) numbers ≡ true
has_number tid [] (i, low, at) = absurd (omega (arith, low))
has_number tid (n ∷ numbers) (zero, low, at) = or_left _ _ (eq-eqb n tid at)
has_number tid (n ∷ numbers) (suc i, low, at) = or_right _ _ (has_number tid numbers (i, omega (arith, low), at))

-- ---- a chart without a fault

module _ (c : Chart) (places : ℕ) (bytes : IsByteChart places c) (formed : IsFormed c places) where
  abbrev heads : ℕ → Option KeptHeader
  heads = header_at c places

  abbrev current : ℕ → Option Winner
  current = current_at c places

  abbrev live : ℕ → Option Sector
  live k = live_at heads current c k

  abbrev all_marks : List Mark
  all_marks = marks heads current c (places * 256)

  -- ---- log sectors

  well : (k : ℕ) (sector : Sector) → k < places * 256 → live k ≡ Some sector → is_log_well (mark_of heads k sector) (marks heads current c k) sector.version sector.payload ≡ true
  well k sector low is = log_well heads (marks heads current c k) k (live k) sector is (formed.logs k low)

  -- a live sector stands on the chip
  low_from : (k : ℕ) (sector : Sector) → live k ≡ Some sector → k < places * 256
  low_from k sector is = let within = (live_from c places k sector is).live.within.0 in omega (arith, within)

  no_clash : (j k : ℕ) (first second : Sector) → j < k → k < places * 256 → live j ≡ Some first → live k ≡ Some second
      → clashes (mark_of heads k second) (mark_of heads j first) ≡ false
  no_clash j k first second before low is_first is_second =
      let parts = and_parts _ _ (well k second low is_second) in
      let rest = or_parts _ _ (not-true _ parts.1) in
      none_any (mark_at heads current c) (clashes (mark_of heads k second)) k rest.0 j (mark_of heads j first) before (mark_to c places j first is_first)

  entries_apart : (u : ℕ) → AreApart (entry_at c places u) (places * 256)
  entries_apart u j k d e before low first second same =
      let one = entry_from u j (live j) d first in
      let two = entry_from u k (live k) e second in
      both_ways (clashes (mark_of heads k e.sector) (mark_of heads j d.sector)) (no_clash j k d.sector e.sector before low one.here two.here)
      (and_from _ _ (eq-eqb d.sector.unit e.sector.unit (one.unit ∙ sym two.unit)) (eq-eqb d.sector.serial e.sector.serial same))

  -- ---- the log of a unit

  module _ (u : ℕ) (winner : Winner) (is : current u ≡ Some winner) where
    entry_is : (k : ℕ) (e : Entry) → k < places * 256 → entry_at c places u k ≡ Some e → IsEntry c places u winner.place winner.head.generation e
    entry_is k e low at =
        let of_it = entry_from u k (live k) e at in
        let found = live_from c places k e.sector of_it.here in
        let one : found.winner ≡ winner = same_Some found.winner winner (sym found.current ∙ (ap current of_it.unit ∙ is)) in
        let mine : IsLive c places u winner.place winner.head.generation (k / 256) (k % 256) e.sector =
        subst (λ (x : Winner). IsLive c places u x.place x.head.generation (k / 256) (k % 256) e.sector) one
        (subst (λ (v : ℕ). IsLive c places v found.winner.place found.winner.head.generation (k / 256) (k % 256) e.sector) of_it.unit found.live) in
        let here : IsLive c places u winner.place winner.head.generation e.place e.number e.sector =
        subst (λ (s : ℕ). IsLive c places u winner.place winner.head.generation e.place s e.sector) (sym of_it.number)
        (subst (λ (p : ℕ). IsLive c places u winner.place winner.head.generation p (k % 256) e.sector) (sym of_it.place) mine) in
        let list = (and_parts _ _ (well k e.sector low of_it.here)).0 in
        let stands : IsSeen c places (k / 256) (k % 256) e.sector = live_seen c places k e.sector of_it.here in
        record {
          live = here;
          records = subst (SpellsLog e.sector.version e.sector.payload) (sym of_it.records)
              (log_payloads_are_spelled e.sector.version e.sector.payload (bytes (k / 256) (k % 256) e.sector stands.within (omega arith) (inr (inr (seen_spot c places (k / 256) (k % 256) e.sector stands))) stands.here) list);
        }

    has_all : (p s : ℕ) (sector : Sector) → IsLive c places u winner.place winner.head.generation p s sector
        → (e : Entry) × Contains (log_in c places u) e × (e.place ≡ p) × (e.number ≡ s)
    has_all p s sector it =
        let k : ℕ = p * 256 + s in
        let place : k / 256 ≡ p = omega (arith, it.within) in
        let number : k % 256 ≡ s = omega (arith, it.within) in
        let low : k < places * 256 = omega (arith, it.within) in
        let mine : IsLive c places u winner.place winner.head.generation (k / 256) (k % 256) sector =
        subst (λ (t : ℕ). IsLive c places u winner.place winner.head.generation (k / 256) t sector) (sym number)
        (subst (λ (q : ℕ). IsLive c places u winner.place winner.head.generation q s sector) (sym place) it) in
        let here = live_to c places k u winner sector is mine in (
          record { place = k / 256; number = k % 256; sector = sector; records = records_of sector.version sector.payload },
          sorted_has (entry_at c places u) (places * 256) k _ low (entry_to u k (live k) sector here it.of_unit),
          place,
          number,
        )

    -- the unit's live sectors in overflow places
    abbrev is_overflow_of : Mark → Bool
    is_overflow_of mark = mark.in_overflow && (mark.unit == u)

    abbrev overflow_at : ℕ → Bool
    overflow_at k = passes is_overflow_of (mark_at heads current c k)

    -- there are at most 16, however far one counts
    few_of : (k : ℕ) (o : Option Sector) → live k ≡ o → k < places * 256 → count_below overflow_at k ≤ 16
        → count_below overflow_at k + cond (passes is_overflow_of (option_map (mark_of heads k) o)) 1 0 ≤ 16
    few_of k None at low few = omega (arith, few)
    few_of k (Some sector) at low few = elim (cases_Bool (is_overflow_of (mark_of heads k sector))) [
      | inr other ↦ rw other (omega (arith, few))
      | inl in_overflow ↦
          let mark : Mark = mark_of heads k sector in
          let earlier : List Mark = marks heads current c k in
          let parts : (mark.in_overflow ≡ true) × ((sector.unit == u) ≡ true) = and_parts mark.in_overflow (sector.unit == u) in_overflow in
          let tests : (is_log_payload sector.version sector.payload ≡ true) × (not (list_any (clashes mark) earlier || is_full mark earlier) ≡ true) =
          and_parts (is_log_payload sector.version sector.payload) (not (list_any (clashes mark) earlier || is_full mark earlier)) (well k sector low at) in
          let rest : (list_any (clashes mark) earlier ≡ false) × (is_full mark earlier ≡ false) =
          or_parts (list_any (clashes mark) earlier) (is_full mark earlier) (not-true (list_any (clashes mark) earlier || is_full mark earlier) tests.1) in
          let unit : sector.unit ≡ u = eqb-true sector.unit u parts.1 in
          let counted : count_by (shares_overflow mark) earlier ≡ count_below overflow_at k =
          ap (λ (v : ℕ). count_by (λ (other : Mark). other.in_overflow && (other.unit == v)) earlier) unit ∙ count_all (mark_at heads current c) is_overflow_of k in
          let not_full : nat_le 16 (count_by (shares_overflow mark) earlier) ≡ false =
          elim (and_cases mark.in_overflow (nat_le 16 (count_by (shares_overflow mark) earlier)) rest.1) [
            | inl at_home ↦ absurd (both_ways mark.in_overflow at_home parts.0)
            | inr less ↦ less
          ] in
          let less : count_by (shares_overflow mark) earlier < 16 = leb-false 16 (count_by (shares_overflow mark) earlier) not_full in
          rw in_overflow (omega (arith, less, counted))
    ]

    few : (k : ℕ) → k ≤ places * 256 → count_below overflow_at k ≤ 16
    few zero low = omega arith
    few (suc k) low = few_of k (live k) refl (omega arith) (few k (omega arith))

    listed_at : (k : ℕ) (e : Entry) → k < places * 256 → entry_at c places u k ≡ Some e → IsHomeOrListed (map spot_of (passing overflow_at (places * 256))) winner.place e
    listed_at k e low at away =
        let of_it = entry_from u k (live k) e at in
        let live_it = (entry_is k e low at).live in
        let in_overflow : is_overflow_place (heads (k / 256)) ≡ true = ap (λ (p : ℕ). is_overflow_place (heads p)) (sym of_it.place) ∙ away_is_overflow c places u winner.place winner.head.generation e.place e.number e.sector live_it away in
        let passes_it : overflow_at k ≡ true = ap (passes is_overflow_of) (mark_to c places k e.sector of_it.here) ∙ and_from _ _ in_overflow (eq-eqb e.sector.unit u of_it.unit) in
        spot_there (passing overflow_at (places * 256)) k e.place e.number (passing_has overflow_at (places * 256) k low passes_it) of_it.place of_it.number

    is_log : IsLog c places u winner.place winner.head.generation (log_in c places u)
    is_log = record {
      each = sorted_all (entry_at c places u) (places * 256) (IsEntry c places u winner.place winner.head.generation) entry_is;
      all = has_all;
      rising = sorted_rises (entry_at c places u) (places * 256) (entries_apart u);
      spots = map spot_of (passing overflow_at (places * 256));
      few = let count = few (places * 256) (omega arith) in
          omega (arith, length-map (passing overflow_at (places * 256)) spot_of, passing_count overflow_at (places * 256), count);
      listed = sorted_all (entry_at c places u) (places * 256) (IsHomeOrListed (map spot_of (passing overflow_at (places * 256))) winner.place) listed_at;
    }

    -- an entry that doesn't stand at home stands on a overflow
    in_overflow_at : (k : ℕ) (e : Entry) → k < places * 256 → entry_at c places u k ≡ Some e → IsInOverflow (passing (holds_live heads all_marks) places) winner.place e
    in_overflow_at k e low at away =
        let of_it = entry_from u k (live k) e at in
        let live_it = (entry_is k e low at).live in
        let in_overflow = away_is_overflow c places u winner.place winner.head.generation e.place e.number e.sector live_it away in
        let marked = any_some (mark_at heads current c) (is_in e.place) (places * 256) k (mark_of heads k e.sector) low (mark_to c places k e.sector of_it.here)
        (eq-eqb (k / 256) e.place (sym of_it.place)) in
        passing_has (holds_live heads all_marks) places e.place live_it.within.0 (and_from _ _ in_overflow marked)

  -- ---- one unit

  -- a unit has a current header
  record HasHome (u : ℕ) : Type 0 where
    winner : Winner
    is : current u ≡ Some winner
    home : IsHome c places u winner

  has_home : (u : ℕ) → u < units_at c places → HasHome u
  has_home u low =
      let there = there_from u (current u) (formed.there u low) in
      record { winner = there.0; is = there.1; home = home_of c places u there.0 there.1 }

  sector_is : (o : Option Winner) (winner : Winner) (sector : Sector) → o ≡ Some winner → c winner.place 0 ≡ Some sector → sector_of c o ≡ sector
  sector_is o winner sector is here = ap (sector_of c) is ∙ ap (λ (x : Option Sector). unwrap_or x no_sector) here

  unit_is : (u : ℕ) → u < units_at c places → IsUnit c places (units_at c places) u (shape_in c places u)
  unit_is u low =
      let it = has_home u low in
      let head : Sector = it.home.sector in
      let here : c it.winner.place 0 ≡ Some head = it.home.chosen.here in
      let generation : it.winner.head.generation ≡ head.generation = ap (λ (h : KeptHeader). h.generation) it.home.kept in
      let well_is : is_head_payload head.version places head.kind head.payload ≡ true =
      ap (λ (h : KeptHeader). h.well) (sym it.home.kept) ∙ header_well (current u) it.winner it.is (formed.headers u low) in
      let passes_it : is_data_payload head.version head.payload ≡ true =
      ap (λ (kind : ℕ). is_head_payload head.version places kind head.payload) (sym it.home.chosen.fits.0) ∙ well_is in
      let said : word_at 0 head.payload ≡ units_at c places = same_said (units_at c places) (word_at 0 head.payload) it.winner
      (ap (λ (h : KeptHeader). h.said) it.home.kept ∙ data_says head.version head.payload passes_it)
      (ap (other_geometry (units_at c places)) (sym it.is) ∙ formed.geometries u low) in
      let shape : Shape = record { home = it.winner.place; head = head; pieces = pieces_in head.payload; log = log_in c places u } in
      let same : shape ≡ shape_in c places u = ap₂ (λ (p : ℕ) (s : Sector). let x : Shape = record { home = p; head = s; pieces = pieces_in s.payload; log = log_in c places u } in x)
      (sym (ap place_of it.is)) (sym (sector_is (current u) it.winner head it.is here)) in
      subst (IsUnit c places (units_at c places) u) same (record {
        chosen = it.home.chosen;
        counts = subst (λ (n : ℕ). SpellsDataHeader head.version n (pieces_in head.payload) head.payload) said
            (data_payloads_are_spelled head.version head.payload (bytes it.winner.place 0 head it.home.chosen.within (omega arith) (inl refl) here) passes_it);
        log = subst (λ (g : ℕ). IsLog c places u it.winner.place g (log_in c places u)) generation (is_log u it.winner it.is);
      })

  in_overflow : (u : ℕ) → u < units_at c places → All (IsInOverflow (passing (holds_live heads all_marks) places) (shape_in c places u).home) (shape_in c places u).log
  in_overflow u low =
      let it = has_home u low in
      subst (λ (p : ℕ). All (IsInOverflow (passing (holds_live heads all_marks) places) p) (log_in c places u)) (sym (ap place_of it.is))
      (sorted_all (entry_at c places u) (places * 256) (IsInOverflow (passing (holds_live heads all_marks) places) it.winner.place) (in_overflow_at u it.winner it.is))

  -- ---- the status place

  module _ (winner : Winner) (is : status_at c places ≡ Some winner) where
    at_status : is_at (status_at c places) winner.place ≡ true
    at_status = ap (λ (o : Option Winner). is_at o winner.place) is ∙ eq-eqb winner.place winner.place refl

    abbrev units : ℕ
    units = units_at c places

    -- a sector of the place holds bytes
    has_bytes : (s : ℕ) (sector : Sector) → s < 256 → c winner.place s ≡ Some sector → IsBytes sector.payload
    has_bytes s sector low here =
        bytes winner.place s sector (statuses_are_chosen c places winner is).counts.within low (inr (inl at_status)) here

    note_passes : (s : ℕ) (sector : Sector) → s < 256 → IsStatusNote c winner s sector → is_noted_payload units sector ≡ true
    note_passes s sector low it =
        note_well units winner.place s (noted_at c (Some winner) s) sector (note_to c winner s sector it)
        (ap (λ (o : Option Winner). noted_fault units c o s) (sym is) ∙ formed.notes s (omega (arith, low, sectors_are)))

    commit_spelled : (s : ℕ) (sector : Sector) → IsCommitSector c winner.place winner.head.generation s sector → SpellsCommit sector.payload (numbers_in sector.payload)
    commit_spelled s sector it =
        let passes_it : is_commit_payload sector.payload ≡ true =
        sym (cond-true (is_commit_sector sector) (is_commit_payload sector.payload) (is_mark_payload units sector.payload) (eq-eqb sector.kind 6 it.kind))
        ∙ note_passes s sector it.where_it_is.1 (inl it) in
        commit_payloads_are_spelled sector.payload (has_bytes s sector it.where_it_is.1 it.here) passes_it

    -- as many units as the status header says may be kept
    kept_units : KeepsUnits places units
    kept_units = subst (KeepsUnits places) (sym (ap (units_told places) is)) (units_kept places winner (ap (status_geometry places) (sym is) ∙ formed.geometry))

    close_spelled : (s : ℕ) (sector : Sector) → IsMark c winner.place winner.head.generation s sector → SpellsMark units sector.payload
    close_spelled s sector it =
        let most = formed.most in
        let (some, kept, few) = kept_units in
        let passes_it : is_mark_payload units sector.payload ≡ true =
        sym (cond-false (is_commit_sector sector) (is_commit_payload sector.payload) (is_mark_payload units sector.payload)
        (ne_eqb sector.kind 6 (λ same. omega (arith, same, it.kind))))
        ∙ note_passes s sector it.where_it_is.1 (inr it) in
        mark_told units sector.payload (has_bytes s sector it.where_it_is.1 it.here) some passes_it

    told_from : (tid s : ℕ) (o : Option Sector) → s < sectors → commit_at c (Some winner) s ≡ o → Contains (numbers_of o) tid → IsCommitted c winner.place winner.head.generation tid
    told_from tid s None low at has = absurd (let some = has.1 in omega (arith, some))
    told_from tid s (Some sector) low at has =
        let of_it = commit_from c winner s sector (omega (arith, low, sectors_are)) at in
        record { number = s; sector = sector; is = of_it; numbers = numbers_in sector.payload; spelled = commit_spelled s sector of_it; has = has }

    abbrev numbers_at : ℕ → List ℕ
    numbers_at s = numbers_of (commit_at c (Some winner) s)

    told : (tid : ℕ) → IsTrue (committed_in c (Some winner) tid) → IsCommitted c winner.place winner.head.generation tid
    told tid so =
        let (s, low, has) = joined_from numbers_at sectors tid (number_has tid (joined_below numbers_at sectors) so) in
        told_from tid s (commit_at c (Some winner) s) low refl has

    all_told : (tid : ℕ) → IsCommitted c winner.place winner.head.generation tid → IsTrue (committed_in c (Some winner) tid)
    all_told tid it =
        let here = commit_to c winner it.number it.sector it.is in
        let numbers : numbers_in it.sector.payload ≡ it.numbers = (spelled_commits_pass it.sector.payload it.numbers it.spelled).1 in
        let has : Contains (numbers_at it.number) tid = subst (λ (xs : List ℕ). Contains xs tid) (sym (ap numbers_of here ∙ numbers)) it.has in
        has_number tid (joined_below numbers_at sectors) (joined_has numbers_at sectors it.number tid (omega (arith, it.is.where_it_is, sectors_are)) has)

    status_is : IsStatus c winner.place winner.head.generation (committed_in c (Some winner))
    status_is = record { spelled = λ s sector it. (numbers_in sector.payload, commit_spelled s sector it); told = told; all_told = all_told }

    laid_with : Laid places c (layout_in c places)
    laid_with =
        let it = statuses_are_chosen c places winner is in
        let head : Sector = it.sector in
        let here : c winner.place 0 ≡ Some head = it.counts.here in
        let generation : winner.head.generation ≡ head.generation = ap (λ (h : KeptHeader). h.generation) it.head in
        let well_is : is_head_payload head.version places head.kind head.payload ≡ true =
        ap (λ (h : KeptHeader). h.well) (sym it.head) ∙ header_well (status_at c places) winner is formed.header in
        let passes_it : is_status_payload head.version places head.payload ≡ true =
        ap (λ (kind : ℕ). is_head_payload head.version places kind head.payload) (sym it.counts.fits) ∙ well_is in
        let told : units ≡ units_told places (Some winner) = ap (units_told places) is in
        let said : units ≡ word_at 0 head.payload = told ∙ ap (λ (o : Option ℕ). unwrap_or o (units_on places))
        (ap (λ (h : KeptHeader). h.said) it.head ∙ status_says head.version places head.payload passes_it) in
        let layout : Layout = record { status = winner.place; head = head; committed = committed_in c (Some winner); count = units_at c places; units = shape_in c places } in
        let same : layout ≡ layout_in c places = ap₂ (λ (o : Option Winner) (s : Sector). let x : Layout = record { status = place_of o; head = s; committed = committed_in c o; count = units_at c places; units = shape_in c places } in x)
        (sym is) (sym (sector_is (status_at c places) winner head is here)) in
        subst (Laid places c) same (record {
          least = formed.least;
          most = formed.most;
          count = kept_units;
          chosen = it.counts;
          counts = subst (λ (n : ℕ). SpellsStatusHeader head.version places n head.payload) (sym said)
              (status_payloads_are_spelled head.version places head.payload (bytes winner.place 0 head it.counts.within (omega arith) (inl refl) here) passes_it);
          commits = subst (λ (g : ℕ). IsStatus c winner.place g (committed_in c (Some winner))) generation status_is;
          marks = subst (λ (g : ℕ). AreMarks c winner.place g units) generation close_spelled;
          each = unit_is;
          overflows = passing (holds_live heads all_marks) places;
          two = omega (arith, passing_count (holds_live heads all_marks) places, formed.few_overflows);
          in_overflow = in_overflow;
        })

  -- a chart that passes all tests but that of the numbers is laid out
  pub laid_from : Laid places c (layout_in c places)
  laid_from = let there = formatted_from (status_at c places) formed.formatted in laid_with there.0 there.1

-- whether numbers will be drawn or not
pub no_fault_lays : (draws : Bool) (c : Chart) (places : ℕ) → IsByteChart places c → fault_for draws c places ≡ None
    → Laid places c (layout_in c places)
no_fault_lays draws c places bytes none = laid_from c places bytes (formed_from c places draws none)

pub no_fault_is_laid : NoFaultIsLaid
no_fault_is_laid = no_fault_lays true

pub no_shape_fault_is_laid : NoShapeFaultIsLaid
no_shape_fault_is_laid = no_fault_lays false

pub no_fault_is_fresh : NoFaultIsFresh
no_fault_is_fresh c places it laid none number found =
    let below = found_below c places it laid number found in
    let fresh = (no_fault_parts c places none).fresh in
    omega (arith, below, fresh)
