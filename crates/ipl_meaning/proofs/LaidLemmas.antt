-- A chart that is laid out has no fault.
use Rattle.std.proofs.Common.{ℕ, suc, ◌≡◌, ◌≢◌, inl, inr, ◌+◌, ◌*◌, ◌/◌, ◌%◌, ◌^◌, ◌<◌, ◌≤◌, Bool, true, false, ◌==◌, List, length, map, get_or, Option, Some, None, refl, sym, ◌∙◌, ap, ap₂, subst, arith, cond}
use Rattle.std.specs.List.{Contains, count_by}
use Rattle.std.specs.Option.{option_map}
use Rattle.std.proofs.lemmas.Bool.{cases_Bool, cases_lt, cases_order, eqb-true, eq-eqb, ne_eqb, lt-leb, and_parts, and_from, and_left, and_right, or_from, not_from_true, not_from_false, cond-true, cond-false}
use Rattle.std.proofs.lemmas.List.{get_or_default, length-map, get_or-map}
use Rattle.std.proofs.lemmas.List.Elements.{All-contains}
use Rattle.std.proofs.lemmas.Option.{same_Some}
use Rattle.ipl_base.specs.declared.fault.ImageFault.TheVariants.{Geometry}
use Rattle.ipl_base.specs.Places.{KeepsUnits}
use Rattle.ipl_format.specs.Record.{SpellsLog}
use Rattle.ipl_format.specs.Sector.{Sector}
use Rattle.ipl_meaning.specs.Chart.{Chart, IsLive, IsOverflow}
use Rattle.ipl_meaning.specs.Layout.{Entry, AllRise, IsEntry, IsHomeOrListed, IsInOverflow, Layout, Laid, IsLiveIn}
use Rattle.ipl_meaning.specs.Found.{IsAbove}
use Rattle.unit_layout.specs.Mark.{is_mark_payload}
use Rattle.ipl_meaning.specs.First.{passes, count_below}
use Rattle.ipl_meaning.specs.Payloads.{units_said_in, is_data_payload, is_status_payload, is_commit_payload, is_log_payload}
use Rattle.ipl_meaning.specs.Chosen.{KeptHeader, Winner, head_of, header_at, units_told, current_at, status_at, units_at, is_head_payload}
use Rattle.ipl_meaning.specs.Live.{sectors, is_commit_sector, noted_at, is_overflow_place, live_at, Mark, mark_of, mark_at, marks}
use Rattle.ipl_meaning.specs.Faults.{malformed, not_formatted, keeps_units, status_geometry, says_other, other_geometry, missing, bad_header, is_noted_payload, noted_test, noted_fault, clashes, shares_overflow, is_full, is_log_well, log_test, greatest_found, is_in, holds_live, overflows_found}
use Rattle.ipl_meaning.specs.LiveLaws.{IsStatusNote}
use Rattle.ipl_meaning.specs.OpeningLaws.{IsByteChart, LaidHasNoFault, LaidHasNoShapeFault, LaidIsFineOrSpent, LaidSaysItsUnits}
use Rattle.unit_layout.proofs.MarkLemmas.{mark_passes}
use Rattle.ipl_meaning.proofs.PayloadLemmas.{spelled_data_passes, spelled_status_passes, spelled_commits_pass, spelled_logs_pass}
use Rattle.ipl_meaning.proofs.HeaderLemmas.{current_low}
use Rattle.ipl_meaning.proofs.BelowLemmas.{any_none, any_there, count_all, count_within}
use Rattle.ipl_meaning.proofs.LiveLemmas.{sectors_are, note_from, overflow_from, home_apart, live_from}
use Rattle.ipl_meaning.proofs.NumberLemmas.{status_is, units_are, home_is, number_found}
use Rattle.ipl_meaning.proofs.OpeningPartLemmas.{IsFormed, keeps_to, no_fault_from, shape_from, spent_from}

-- ---- marks

-- what a mark is of
pub record IsMarkOf (c : Chart) (places k : ℕ) (mark : Mark) : Type 0 where
  pub sector : Sector
  pub live : live_at (header_at c places) (current_at c places) c k ≡ Some sector
  pub is : mark_of (header_at c places) k sector ≡ mark

mark_from_live : (c : Chart) (places k : ℕ) (mark : Mark) (o : Option Sector) → live_at (header_at c places) (current_at c places) c k ≡ o
    → option_map (mark_of (header_at c places) k) o ≡ Some mark → IsMarkOf c places k mark
mark_from_live c places k mark None live is = absurd (cc is)
mark_from_live c places k mark (Some sector) live is = record { sector = sector; live = live; is = same_Some _ _ is }

pub mark_from : (c : Chart) (places k : ℕ) (mark : Mark) → mark_at (header_at c places) (current_at c places) c k ≡ Some mark → IsMarkOf c places k mark
mark_from c places k mark is = mark_from_live c places k mark (live_at (header_at c places) (current_at c places) c k) refl is

pub mark_to : (c : Chart) (places k : ℕ) (sector : Sector) → live_at (header_at c places) (current_at c places) c k ≡ Some sector
    → mark_at (header_at c places) (current_at c places) c k ≡ Some (mark_of (header_at c places) k sector)
mark_to c places k sector is = ap (option_map (mark_of (header_at c places) k)) is

pub passes_from : {A : Type 0} (test : A → Bool) (o : Option A) → passes test o ≡ true → (a : A) × (o ≡ Some a) × (test a ≡ true)
passes_from test None is = absurd (cc is)
passes_from test (Some a) is = (a, refl, is)

-- ---- entries by rising serial

pub rise_once : (log : List Entry) (a b : Entry) → AllRise log → Contains log a → Contains log b → a.sector.serial ≡ b.sector.serial → a ≡ b
rise_once log a b rise (i, low, first) (j, less, second) same = elim (cases_order i j) [
  | inl at ↦ sym first ∙ (get_or_default log i a b low ∙ (ap (λ (n : ℕ). get_or log n b) at ∙ second))
  | inr other ↦ elim other [
    | inl before ↦ absurd (
        let below = rise i j a before less in
        let one = ap (λ (e : Entry). e.sector.serial) first in
        let two = ap (λ (e : Entry). e.sector.serial) (get_or_default log j a b less ∙ second) in
        omega (arith, below, one, two, same))
    | inr after ↦ absurd (
        let below = rise j i b after low in
        let one = ap (λ (e : Entry). e.sector.serial) (get_or_default log i b a low ∙ first) in
        let two = ap (λ (e : Entry). e.sector.serial) second in
        omega (arith, below, one, two, same))
  ]
]

-- ---- payloads

own_units : (units said : ℕ) (o : Option ℕ) → o ≡ Some said → said ≡ units → says_other units o ≡ false
own_units units said o is same = ap (says_other units) is ∙ not_from_true (said == units) (eq-eqb said units same)

noted_none : (units p s : ℕ) (o : Option Sector) → ((sector : Sector) → o ≡ Some sector → is_noted_payload units sector ≡ true) → noted_test units p s o ≡ None
noted_none units p s None each = refl
noted_none units p s (Some sector) each = cond-true (is_noted_payload units sector) None (Some (malformed p s)) (each sector refl)

log_none : (heads : ℕ → Option KeptHeader) (earlier : List Mark) (k : ℕ) (o : Option Sector)
    → ((sector : Sector) → o ≡ Some sector → is_log_well (mark_of heads k sector) earlier sector.version sector.payload ≡ true) → log_test heads earlier k o ≡ None
log_none heads earlier k None each = refl
log_none heads earlier k (Some sector) each =
    cond-true (is_log_well (mark_of heads k sector) earlier sector.version sector.payload) None (Some (malformed (k / 256) (k % 256))) (each sector refl)

-- the number of a spot
abbrev pub number_of_spot : ℕ × ℕ → ℕ
number_of_spot spot = spot.0 * 256 + spot.1

spot_listed : (spots : List (ℕ × ℕ)) (p s k : ℕ) → Contains spots (p, s) → p * 256 + s ≡ k → Contains (map number_of_spot spots) k
spot_listed spots p s k (i, low, is) same =
    (i, omega (arith, length-map spots number_of_spot, low), get_or-map number_of_spot spots i (p, s) k low ∙ (ap number_of_spot is ∙ same))

module _ (c : Chart) (places : ℕ) (it : Layout) (laid : Laid places c it) where
  abbrev heads : ℕ → Option KeptHeader
  heads = header_at c places

  abbrev current : ℕ → Option Winner
  current = current_at c places

  abbrev live : ℕ → Option Sector
  live k = live_at heads current c k

  abbrev own : ℕ → Winner
  own u = record { place = (it.units u).home; head = head_of places (it.units u).head }

  -- ---- live sectors and entries

  -- a live sector's entry in the log of its unit
  record IsListedAs (u k : ℕ) (sector : Sector) : Type 0 where
    low : u < it.count
    entry : Entry
    has : Contains (it.units u).log entry
    place : entry.place ≡ k / 256
    number : entry.number ≡ k % 256
    sector_is : entry.sector ≡ sector
    spelled : SpellsLog entry.sector.version entry.sector.payload entry.records

  live_in : (k : ℕ) (sector : Sector) → live k ≡ Some sector → (sector.unit < it.count) × IsLiveIn c places it sector.unit (k / 256) (k % 256) sector
  live_in k sector is =
      let found = live_from c places k sector is in
      let low : sector.unit < it.count = let less = current_low c places sector.unit found.winner found.current in omega (arith, less, units_are c places it laid) in
      let one : found.winner ≡ own sector.unit = same_Some found.winner (own sector.unit) (sym found.current ∙ home_is c places it laid sector.unit low) in
      (low, subst (λ (x : Winner). IsLive c places sector.unit x.place x.head.generation (k / 256) (k % 256) sector) one found.live)

  listed_own : (k : ℕ) (sector : Sector) → live k ≡ Some sector → IsListedAs sector.unit k sector
  listed_own k sector is =
      let (low, counts) = live_in k sector is in
      let log = (laid.each sector.unit low).log in
      let (e, has, place, number) = log.all (k / 256) (k % 256) sector counts in
      let of_it = All-contains (IsEntry c places sector.unit (it.units sector.unit).home (it.units sector.unit).head.generation) (it.units sector.unit).log e log.each has in
      record {
        low = low;
        entry = e;
        has = has;
        place = place;
        number = number;
        sector_is = same_Some e.sector sector (sym of_it.live.here ∙ (ap₂ c place number ∙ counts.here));
        spelled = of_it.records;
      }

  listed : (u k : ℕ) (sector : Sector) → live k ≡ Some sector → sector.unit ≡ u → IsListedAs u k sector
  listed u k sector is same = subst (λ (v : ℕ). IsListedAs v k sector) same (listed_own k sector is)

  -- a sector in an overflow place doesn't stand at its unit's home
  away : (u p : ℕ) → u < it.count → is_overflow_place (heads p) ≡ true → p ≢ (it.units u).home
  away u p low in_overflow same =
      home_apart c places u (it.units u).home (it.units u).head (laid.each u low).chosen (subst (IsOverflow c) same (overflow_from c places p in_overflow).1)

  -- ---- one live log sector

  module _ (k : ℕ) (sector : Sector) (is : live k ≡ Some sector) where
    abbrev mark : Mark
    mark = mark_of heads k sector

    mine : IsListedAs sector.unit k sector
    mine = listed_own k sector is

    is_list : is_log_payload sector.version sector.payload ≡ true
    is_list = ap (λ (s : Sector). is_log_payload s.version s.payload) (sym mine.sector_is) ∙ (spelled_logs_pass mine.entry.sector.version mine.entry.sector.payload mine.entry.records mine.spelled).0

    -- an earlier one with its unit and serial would be the same entry
    no_clash : (j : ℕ) (other : Mark) → j < k → mark_at heads current c j ≡ Some other → clashes mark other ≡ false
    no_clash j other before at = elim (cases_Bool (clashes mark other)) [
      | inr apart ↦ apart
      | inl clash ↦
          let from = mark_from c places j other at in
          let same = and_parts _ _ clash in
          let unit : from.sector.unit ≡ sector.unit = ap (λ (m : Mark). m.unit) from.is ∙ eqb-true _ _ same.0 in
          let serial : from.sector.serial ≡ sector.serial = ap (λ (m : Mark). m.serial) from.is ∙ eqb-true _ _ same.1 in
          let theirs = listed sector.unit j from.sector from.live unit in
          let log = (laid.each sector.unit mine.low).log in
          let one : theirs.entry ≡ mine.entry = rise_once (it.units sector.unit).log theirs.entry mine.entry log.rising theirs.has mine.has
          (ap (λ (s : Sector). s.serial) theirs.sector_is ∙ (serial ∙ ap (λ (s : Sector). s.serial) (sym mine.sector_is))) in
          let place : j / 256 ≡ k / 256 = sym theirs.place ∙ (ap (λ (e : Entry). e.place) one ∙ mine.place) in
          let number : j % 256 ≡ k % 256 = sym theirs.number ∙ (ap (λ (e : Entry). e.number) one ∙ mine.number) in
          absurd (omega (arith, before, place, number))
    ]

    -- this unit's in overflow places
    abbrev shares : ℕ → Bool
    shares j = passes (shares_overflow mark) (mark_at heads current c j)

    -- each of these is one of the unit's spots
    shares_listed : (j : ℕ) → shares j ≡ true → Contains (map number_of_spot (laid.each sector.unit mine.low).log.spots) j
    shares_listed j passes_it =
        let (other, at, shared) = passes_from (shares_overflow mark) (mark_at heads current c j) passes_it in
        let from = mark_from c places j other at in
        let same = and_parts _ _ shared in
        let in_overflow : is_overflow_place (heads (j / 256)) ≡ true = ap (λ (m : Mark). m.in_overflow) from.is ∙ same.0 in
        let unit : from.sector.unit ≡ sector.unit = ap (λ (m : Mark). m.unit) from.is ∙ eqb-true _ _ same.1 in
        let theirs = listed sector.unit j from.sector from.live unit in
        let log = (laid.each sector.unit mine.low).log in
        let spot = All-contains (IsHomeOrListed log.spots (it.units sector.unit).home) (it.units sector.unit).log theirs.entry log.listed theirs.has
        (λ at_home. away sector.unit (j / 256) mine.low in_overflow (sym theirs.place ∙ at_home)) in
        spot_listed log.spots theirs.entry.place theirs.entry.number j spot (omega (arith, theirs.place, theirs.number))

    not_full : is_full mark (marks heads current c k) ≡ false
    not_full = elim (cases_Bool mark.in_overflow) [
      | inr at_home ↦ and_left mark.in_overflow _ at_home
      | inl in_overflow ↦
          let log = (laid.each sector.unit mine.low).log in
          let here : shares k ≡ true = ap (passes (shares_overflow mark)) (mark_to c places k sector is) ∙ and_from _ _ in_overflow (eq-eqb sector.unit sector.unit refl) in
          let among : count_below shares (suc k) ≤ length (map number_of_spot log.spots) = count_within shares (suc k) (map number_of_spot log.spots) (λ j low is_one. shares_listed j is_one) in
          let one_more : count_below shares (suc k) ≡ count_below shares k + 1 = ap (λ (b : Bool). count_below shares k + cond b 1 0) here in
          let counted : count_by (shares_overflow mark) (marks heads current c k) ≡ count_below shares k = count_all (mark_at heads current c) (shares_overflow mark) k in
          let few : count_by (shares_overflow mark) (marks heads current c k) < 16 = omega (arith, among, one_more, counted, log.few, length-map log.spots number_of_spot) in
          and_right mark.in_overflow _ (lt-leb 16 (count_by (shares_overflow mark) (marks heads current c k)) few)
    ]

    is_well : is_log_well mark (marks heads current c k) sector.version sector.payload ≡ true
    is_well = and_from _ _ is_list (not_from_false _ (or_from _ _
        (any_none (mark_at heads current c) (clashes mark) k (λ j other before at. no_clash j other before at)) not_full))

  -- ---- all of it

  -- an overflow place with live sectors is one of the overflows
  held_listed : (p : ℕ) → p < places → holds_live heads (marks heads current c (places * 256)) p ≡ true → Contains laid.overflows p
  held_listed p low holds =
      let parts = and_parts _ _ holds in
      let there = any_there (mark_at heads current c) (is_in p) (places * 256) parts.1 in
      let from = mark_from c places there.number there.value there.here in
      let at : there.number / 256 ≡ p = ap (λ (m : Mark). m.place) from.is ∙ eqb-true _ _ there.passes in
      let theirs = listed_own there.number from.sector from.live in
      let overflow = All-contains (IsInOverflow laid.overflows (it.units from.sector.unit).home) (it.units from.sector.unit).log theirs.entry
      (laid.in_overflow from.sector.unit theirs.low) theirs.has
      (λ at_home. away from.sector.unit p theirs.low parts.0 (sym at ∙ (sym theirs.place ∙ at_home))) in
      subst (Contains laid.overflows) (theirs.place ∙ at) overflow

  abbrev status : Winner
  status = record { place = it.status; head = head_of places it.head }

  abbrev units : ℕ
  units = units_at c places

  unit_low : (u : ℕ) → u < units → u < it.count
  unit_low u low = omega (arith, low, units_are c places it laid)

  status_passes : (is_status_payload it.head.version places it.head.payload ≡ true) × (units_said_in it.head.payload ≡ Some it.count)
  status_passes = let it_is = spelled_status_passes it.head.version places it.count it.head.payload laid.most laid.counts in (it_is.0, it_is.1)

  data_passes : (u : ℕ) → u < units → (is_data_payload (it.units u).head.version (it.units u).head.payload ≡ true) × (units_said_in (it.units u).head.payload ≡ Some it.count)
  data_passes u low =
      let it_is = spelled_data_passes (it.units u).head.version it.count (it.units u).pieces (it.units u).head.payload (laid.each u (unit_low u low)).counts in (it_is.0, it_is.1)

  status_kept : status_geometry places (Some status) ≡ None
  status_kept = cond-true (keeps_units places (units_told places (Some status))) None (Some Geometry)
      (keeps_to places (units_told places (Some status)) (subst (KeepsUnits places)
      (sym (units_are c places it laid) ∙ ap (units_told places) (status_is c places it laid)) laid.count))

  data_geometry : (u : ℕ) → u < units → other_geometry units (Some (own u)) ≡ None
  data_geometry u low = cond-false (says_other units (units_said_in (it.units u).head.payload)) (Some Geometry) None
      (own_units units it.count (units_said_in (it.units u).head.payload) (data_passes u low).1 (sym (units_are c places it laid)))

  status_good : bad_header (Some status) ≡ None
  status_good = cond-true (is_head_payload it.head.version places it.head.kind it.head.payload) None (Some (malformed it.status 0))
      (ap (λ (kind : ℕ). is_head_payload it.head.version places kind it.head.payload) laid.chosen.fits ∙ status_passes.0)

  data_good : (u : ℕ) → u < units → bad_header (Some (own u)) ≡ None
  data_good u low = cond-true (is_head_payload (it.units u).head.version places (it.units u).head.kind (it.units u).head.payload) None (Some (malformed (it.units u).home 0))
      (ap (λ (kind : ℕ). is_head_payload (it.units u).head.version places kind (it.units u).head.payload) (laid.each u (unit_low u low)).chosen.fits.0 ∙ (data_passes u low).0)

  -- a commit sector spells its numbers, and a close mark its units
  noted_passes : (s : ℕ) (sector : Sector) → IsStatusNote c status s sector → is_noted_payload units sector ≡ true
  noted_passes s sector (inl commit) =
      let spelled = laid.commits.spelled s sector commit in
      cond-true (is_commit_sector sector) (is_commit_payload sector.payload) (is_mark_payload units sector.payload) (eq-eqb sector.kind 6 commit.kind)
      ∙ (spelled_commits_pass sector.payload spelled.0 spelled.1).0
  noted_passes s sector (inr close) =
      let most = laid.most in
      let (some, kept, few) = laid.count in
      cond-false (is_commit_sector sector) (is_commit_payload sector.payload) (is_mark_payload units sector.payload)
      (ne_eqb sector.kind 6 (λ same. omega (arith, same, close.kind)))
      ∙ (ap (λ (n : ℕ). is_mark_payload n sector.payload) (units_are c places it laid)
      ∙ mark_passes it.count sector.payload some (omega (arith, kept, most)) (laid.marks s sector close))

  note_good : (s : ℕ) → s < sectors → noted_fault units c (Some status) s ≡ None
  note_good s low = noted_none units it.status s (noted_at c (Some status) s) (λ sector at.
      noted_passes s sector (note_from c status s sector (omega (arith, low, sectors_are)) at))

  fresh : IsByteChart places c → IsAbove places c it (2 ^ 63) → greatest_found c places < 2 ^ 63
  fresh bytes above = elim (number_found c places it laid bytes) [
    | inl none ↦ omega (arith, none)
    | inr found ↦ above (greatest_found c places) found
  ]

  few_overflows : overflows_found c places ≤ 2
  few_overflows =
      let among = count_within (holds_live heads (marks heads current c (places * 256))) places laid.overflows held_listed in
      omega (arith, among, laid.two)

  pub is_formed : IsFormed c places
  is_formed =
      let status_here : status_at c places ≡ Some status = status_is c places it laid in
      let home_here : (u : ℕ) → u < units → current u ≡ Some (own u) = λ u low. home_is c places it laid u (unit_low u low) in
      record {
        least = laid.least;
        most = laid.most;
        formatted = ap not_formatted status_here;
        geometry = ap (status_geometry places) status_here ∙ status_kept;
        geometries = λ u low. ap (other_geometry units) (home_here u low) ∙ data_geometry u low;
        there = λ u low. ap (missing u) (home_here u low);
        headers = λ u low. ap bad_header (home_here u low) ∙ data_good u low;
        header = ap bad_header status_here ∙ status_good;
        notes = λ s low. ap (λ (o : Option Winner). noted_fault units c o s) status_here ∙ note_good s low;
        logs = λ k low. log_none heads (marks heads current c k) k (live k) (λ sector at. is_well k sector at);
        few_overflows = few_overflows;
      }

pub laid_has_no_fault : LaidHasNoFault
laid_has_no_fault c places it bytes laid above = no_fault_from c places (record { formed = is_formed c places it laid; fresh = fresh c places it laid bytes above })

pub laid_has_no_shape_fault : LaidHasNoShapeFault
laid_has_no_shape_fault c places it laid = shape_from c places (is_formed c places it laid)

pub laid_is_fine_or_spent : LaidIsFineOrSpent
laid_is_fine_or_spent c places it laid = elim (cases_lt (greatest_found c places) (2 ^ 63)) [
  | inl low ↦ inl (no_fault_from c places (record { formed = is_formed c places it laid; fresh = low }))
  | inr high ↦ inr (spent_from c places (is_formed c places it laid) high)
]

pub laid_says_its_units : LaidSaysItsUnits
laid_says_its_units c places it laid = units_are c places it laid
