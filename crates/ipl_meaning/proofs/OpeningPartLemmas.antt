-- No fault is no fault of each kind.
use Rattle.std.proofs.Common.{ℕ, ◌≡◌, ◌+◌, ◌*◌, ◌^◌, ◌<◌, ◌≤◌, nat_lt, nat_le, Bool, true, false, cond, ◌&&◌, Option, Some, None, refl, sym, ◌∙◌, ap}
use Rattle.std.specs.Option.{option_or}
use Rattle.std.proofs.lemmas.Bool.{leb-true, ltb-true, le-leb, lt-ltb, le-ltb, and_parts, and_from, cond-true, cond-false}
use Rattle.ipl_base.specs.declared.fault.ImageFault.{ImageFault}
use Rattle.ipl_base.specs.declared.fault.ImageFault.TheVariants.{Geometry, Spent, NoSpare}
use Rattle.ipl_format.specs.Sector.{Sector}
use Rattle.ipl_meaning.specs.Chart.{Chart}
use Rattle.ipl_base.specs.First.{first_below}
use Rattle.ipl_meaning.specs.Chosen.{Winner, header_at, current_at, status_at, units_told, units_at}
use Rattle.ipl_meaning.specs.Live.{sectors}
use Rattle.ipl_meaning.specs.Faults.{malformed, size_fault, not_formatted, keeps_units, status_geometry, other_geometry, missing, bad_header, header_fault, is_noted_payload, noted_test, noted_fault, first_noted_fault, log_fault, first_log_fault, greatest_found, spent, spent_for, overflows_found, no_spare, fault_for, first_fault, shape_fault}
use Rattle.ipl_base.proofs.FirstLemmas.{or_none, first_none, none_before}
use Rattle.ipl_base.specs.Places.{KeepsUnits}

-- ---- six that are not there

pub six_parts : {A : Type 0} (a b d f g h : Option A) → option_or a (option_or b (option_or d (option_or f (option_or g (option_or h None))))) ≡ None
    → (a ≡ None) × (b ≡ None) × (d ≡ None) × (f ≡ None) × (g ≡ None) × (h ≡ None)
six_parts a b d f g h e =
    let p = or_none a (option_or b (option_or d (option_or f (option_or g (option_or h None))))) e in
    let q = or_none b (option_or d (option_or f (option_or g (option_or h None)))) p.1 in
    let r = or_none d (option_or f (option_or g (option_or h None))) q.1 in
    let s = or_none f (option_or g (option_or h None)) r.1 in
    let t = or_none g (option_or h None) s.1 in
    let u = or_none h None t.1 in
    (p.0, q.0, r.0, s.0, t.0, u.0)

six_none : {A : Type 0} (a b d f g h : Option A) → a ≡ None → b ≡ None → d ≡ None → f ≡ None → g ≡ None → h ≡ None
    → option_or a (option_or b (option_or d (option_or f (option_or g (option_or h None))))) ≡ None
six_none a b d f g h p q r s t u = rw (p, q, r, s, t, u) refl

pub if_none : {A : Type 0} (b : Bool) (x : A) → cond b None (Some x) ≡ None → b ≡ true
if_none true x e = refl
if_none false x e = cc

-- a commit sector or close mark that passed
pub note_well : (units p s : ℕ) (o : Option Sector) (sector : Sector) → o ≡ Some sector → noted_test units p s o ≡ None → is_noted_payload units sector ≡ true
note_well units p s o sector is e = if_none (is_noted_payload units sector) (malformed p s) (ap (noted_test units p s) (sym is) ∙ e)

-- ---- how many units are kept

keeps_from : (places units : ℕ) → keeps_units places units ≡ true → KeepsUnits places units
keeps_from places units is =
    let a = and_parts (nat_le 1 units) (nat_le (units + 4) places && nat_le places (units + 4 + 64)) is in
    let b = and_parts (nat_le (units + 4) places) (nat_le places (units + 4 + 64)) a.1 in
    (leb-true 1 units a.0, leb-true (units + 4) places b.0, leb-true places (units + 4 + 64) b.1)

pub keeps_to : (places units : ℕ) → KeepsUnits places units → keeps_units places units ≡ true
keeps_to places units it =
    and_from (nat_le 1 units) _ (le-leb 1 units it.0)
    (and_from (nat_le (units + 4) places) _ (le-leb (units + 4) places it.1) (le-leb places (units + 4 + 64) it.2))

-- the status header says a number that may be kept
pub units_kept : (places : ℕ) (winner : Winner) → status_geometry places (Some winner) ≡ None → KeepsUnits places (units_told places (Some winner))
units_kept places winner e = keeps_from places (units_told places (Some winner)) (if_none (keeps_units places (units_told places (Some winner))) Geometry e)

-- ---- the parts

-- each test passes but that of the numbers
pub record IsFormed (c : Chart) (places : ℕ) : Type 0 where
  pub least : 5 ≤ places
  pub most : places ≤ 1028
  pub formatted : not_formatted (status_at c places) ≡ None
  pub geometry : status_geometry places (status_at c places) ≡ None
  pub geometries : (u : ℕ) → u < units_at c places → other_geometry (units_at c places) (current_at c places u) ≡ None
  pub there : (u : ℕ) → u < units_at c places → missing u (current_at c places u) ≡ None
  pub headers : (u : ℕ) → u < units_at c places → bad_header (current_at c places u) ≡ None
  pub header : bad_header (status_at c places) ≡ None
  pub notes : (s : ℕ) → s < sectors → noted_fault (units_at c places) c (status_at c places) s ≡ None
  pub logs : (k : ℕ) → k < places * 256 → log_fault (header_at c places) (current_at c places) c k ≡ None
  pub few_overflows : overflows_found c places ≤ 2

-- each test passes
pub record HasNoFault (c : Chart) (places : ℕ) : Type 0 where
  pub formed : IsFormed c places
  pub fresh : greatest_found c places < 2 ^ 63

module _ (c : Chart) (places : ℕ) where
  abbrev geometries_fault : Option ImageFault
  geometries_fault = first_below (λ u. other_geometry (units_at c places) (current_at c places u)) (units_at c places)

  abbrev missing_fault : Option ImageFault
  missing_fault = first_below (λ u. missing u (current_at c places u)) (units_at c places)

  abbrev headers_fault : Option ImageFault
  headers_fault = first_below (λ u. bad_header (current_at c places u)) (units_at c places)

  pub formed_from : (draws : Bool) → fault_for draws c places ≡ None → IsFormed c places
  formed_from draws e =
      let all = six_parts (size_fault places) (header_fault c places) (first_noted_fault c places) (first_log_fault c places)
      (spent_for draws (greatest_found c places)) (no_spare (overflows_found c places)) e in
      let heads = six_parts (not_formatted (status_at c places)) (status_geometry places (status_at c places)) geometries_fault missing_fault headers_fault
      (bad_header (status_at c places)) all.1 in
      let bounds = and_parts (nat_le 5 places) (nat_le places 1028) (if_none (nat_le 5 places && nat_le places 1028) Geometry all.0) in
      record {
        least = leb-true 5 places bounds.0;
        most = leb-true places 1028 bounds.1;
        formatted = heads.0;
        geometry = heads.1;
        geometries = none_before (λ u. other_geometry (units_at c places) (current_at c places u)) (units_at c places) heads.2;
        there = none_before (λ u. missing u (current_at c places u)) (units_at c places) heads.3;
        headers = none_before (λ u. bad_header (current_at c places u)) (units_at c places) heads.4;
        header = heads.5;
        notes = none_before (noted_fault (units_at c places) c (status_at c places)) sectors all.2;
        logs = none_before (log_fault (header_at c places) (current_at c places) c) (places * 256) all.3;
        few_overflows = leb-true (overflows_found c places) 2 (if_none (nat_le (overflows_found c places) 2) (NoSpare (overflows_found c places)) all.5);
      }

  pub no_fault_parts : first_fault c places ≡ None → HasNoFault c places
  no_fault_parts e =
      let all = six_parts (size_fault places) (header_fault c places) (first_noted_fault c places) (first_log_fault c places) (spent (greatest_found c places))
      (no_spare (overflows_found c places)) e in
      record {
        formed = formed_from true e;
        fresh = ltb-true (greatest_found c places) (2 ^ 63) (if_none (nat_lt (greatest_found c places) (2 ^ 63)) Spent all.4);
      }

  module _ (it : IsFormed c places) where
    size_passes : size_fault places ≡ None
    size_passes = cond-true (nat_le 5 places && nat_le places 1028) None (Some Geometry) (and_from _ _ (le-leb 5 places it.least) (le-leb places 1028 it.most))

    headers_pass : header_fault c places ≡ None
    headers_pass = six_none (not_formatted (status_at c places)) (status_geometry places (status_at c places)) geometries_fault missing_fault headers_fault (bad_header (status_at c places))
        it.formatted
        it.geometry
        (first_none (λ u. other_geometry (units_at c places) (current_at c places u)) (units_at c places) it.geometries)
        (first_none (λ u. missing u (current_at c places u)) (units_at c places) it.there)
        (first_none (λ u. bad_header (current_at c places u)) (units_at c places) it.headers)
        it.header

    notes_pass : first_noted_fault c places ≡ None
    notes_pass = first_none (noted_fault (units_at c places) c (status_at c places)) sectors it.notes

    logs_pass : first_log_fault c places ≡ None
    logs_pass = first_none (log_fault (header_at c places) (current_at c places) c) (places * 256) it.logs

    -- numbers that are used up are then the one fault
    pub spent_from : 2 ^ 63 ≤ greatest_found c places → first_fault c places ≡ Some Spent
    spent_from high = rw (size_passes, headers_pass, notes_pass, logs_pass, cond-false (nat_lt (greatest_found c places) (2 ^ 63)) None (Some Spent) (le-ltb (greatest_found c places) (2 ^ 63) high)) refl

  -- whatever the numbers are
  pub shape_from : IsFormed c places → shape_fault c places ≡ None
  shape_from it = six_none (size_fault places) (header_fault c places) (first_noted_fault c places) (first_log_fault c places) None
      (no_spare (overflows_found c places))
      (size_passes it)
      (headers_pass it)
      (notes_pass it)
      (logs_pass it)
      refl
      (cond-true (nat_le (overflows_found c places) 2) None (Some (NoSpare (overflows_found c places))) (le-leb (overflows_found c places) 2 it.few_overflows))

  pub no_fault_from : HasNoFault c places → first_fault c places ≡ None
  no_fault_from all = six_none (size_fault places) (header_fault c places) (first_noted_fault c places) (first_log_fault c places) (spent (greatest_found c places))
      (no_spare (overflows_found c places))
      (size_passes all.formed)
      (headers_pass all.formed)
      (notes_pass all.formed)
      (logs_pass all.formed)
      (cond-true (nat_lt (greatest_found c places) (2 ^ 63)) None (Some Spent) (lt-ltb (greatest_found c places) (2 ^ 63) all.fresh))
      (cond-true (nat_le (overflows_found c places) 2) None (Some (NoSpare (overflows_found c places))) (le-leb (overflows_found c places) 2 all.formed.few_overflows))
