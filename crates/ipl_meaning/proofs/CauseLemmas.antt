-- Each fault comes where its cause is.
use Rattle.std.proofs.Common.{ℕ, ◌≡◌, ◌≢◌, ◌⊎◌, inl, inr, ◌/◌, ◌%◌, ◌^◌, nat_lt, nat_le, Bool, true, false, cond, ◌&&◌, Option, Some, None, unwrap_or, refl, sym, ◌∙◌, ap, subst, arith, ◌==◌}
use Rattle.std.specs.Option.{option_or}
use Rattle.std.proofs.lemmas.Bool.{cases_lt, and_cases, leb-false, ltb-false, eq-eqb, not-true, both_ways}
use Rattle.std.proofs.lemmas.Option.{same_Some}
use Rattle.ipl_base.specs.declared.fault.ImageFault.{ImageFault}
use Rattle.ipl_base.specs.declared.fault.ImageFault.TheVariants.{Geometry, NotFormatted, Missing, Spent, NoSpare}
use Rattle.ipl_format.specs.Sector.{Sector}
use Rattle.ipl_meaning.specs.Chart.{Chart, IsDataHeader, IsStatusHeader}
use Rattle.ipl_base.specs.First.{first_below}
use Rattle.ipl_base.specs.Places.{units_on}
use Rattle.ipl_meaning.specs.FirstLaws.{IsFirst}
use Rattle.ipl_meaning.specs.Payloads.{units_said_in}
use Rattle.ipl_meaning.specs.Chosen.{KeptHeader, Winner, units_told, current_at, status_at, units_at}
use Rattle.ipl_meaning.specs.ChosenLaws.{IsWinnerOf}
use Rattle.ipl_meaning.specs.Live.{sectors, noted_at}
use Rattle.ipl_meaning.specs.Faults.{malformed, size_fault, not_formatted, keeps_units, status_geometry, says_other, other_geometry, missing, bad_header, header_fault, is_noted_payload, noted_test, noted_fault, first_noted_fault, first_log_fault, greatest_found, spent, overflows_found, no_spare, first_fault}
use Rattle.ipl_meaning.specs.FaultLaws.{IsFirstBadLog}
use Rattle.ipl_meaning.specs.CauseLaws.{HeaderCounts, IsCaused, FaultsAreCaused}
use Rattle.ipl_meaning.proofs.FirstLemmas.{first_is_first}
use Rattle.ipl_meaning.proofs.HeaderLemmas.{currents_are_chosen, statuses_are_chosen, none_is_status}
use Rattle.ipl_meaning.proofs.OpeningPartLemmas.{note_well, keeps_to}
use Rattle.ipl_meaning.proofs.FaultLemmas.{missing_is_least, bad_logs_are_first}

or_some : {A : Type 0} (a b : Option A) (x : A) → option_or a b ≡ Some x → (a ≡ Some x) ⊎ (b ≡ Some x)
or_some None b x e = inr e
or_some (Some y) b x e = inl e

-- a test that told
if_some : {A : Type 0} (b : Bool) (x y : A) → cond b None (Some x) ≡ Some y → (b ≡ false) × (x ≡ y)
if_some true x y e = cc
if_some false x y e = (refl, same_Some x y e)

if_some_too : {A : Type 0} (b : Bool) (x y : A) → cond b (Some x) None ≡ Some y → (b ≡ true) × (x ≡ y)
if_some_too true x y e = (refl, same_Some x y e)
if_some_too false x y e = cc

unformatted_some : (o : Option Winner) (fault : ImageFault) → not_formatted o ≡ Some fault → (o ≡ None) × (NotFormatted ≡ fault)
unformatted_some None fault e = (refl, same_Some NotFormatted fault e)
unformatted_some (Some winner) fault e = cc

status_some : (places : ℕ) (o : Option Winner) (fault : ImageFault) → status_geometry places o ≡ Some fault
    → (winner : Winner) × (o ≡ Some winner) × (keeps_units places (units_told places (Some winner)) ≡ false) × (Geometry ≡ fault)
status_some places None fault e = cc
status_some places (Some winner) fault e =
    let parts = if_some (keeps_units places (units_told places (Some winner))) Geometry fault e in (winner, refl, parts.0, parts.1)

geometry_some : (units : ℕ) (o : Option Winner) (fault : ImageFault) → other_geometry units o ≡ Some fault
    → (winner : Winner) × (o ≡ Some winner) × (says_other units winner.head.said ≡ true) × (Geometry ≡ fault)
geometry_some units None fault e = cc
geometry_some units (Some winner) fault e =
    let parts = if_some_too (says_other units winner.head.said) Geometry fault e in (winner, refl, parts.0, parts.1)

-- another number that is said
other_said : (units : ℕ) (o : Option ℕ) → says_other units o ≡ true → (said : ℕ) × (o ≡ Some said) × (said ≢ units)
other_said units None is = absurd (cc is)
other_said units (Some said) is = (said, refl, λ same. both_ways (said == units) (not-true (said == units) is) (eq-eqb said units same))

missing_some : (u : ℕ) (o : Option Winner) (fault : ImageFault) → missing u o ≡ Some fault → Missing u ≡ fault
missing_some u None fault e = same_Some (Missing u) fault e
missing_some u (Some winner) fault e = cc

header_some : (o : Option Winner) (fault : ImageFault) → bad_header o ≡ Some fault → (winner : Winner) × (o ≡ Some winner) × (winner.head.well ≡ false) × (malformed winner.place 0 ≡ fault)
header_some None fault e = cc
header_some (Some winner) fault e = let parts = if_some winner.head.well (malformed winner.place 0) fault e in (winner, refl, parts.0, parts.1)

note_some : (units p s : ℕ) (o : Option Sector) (fault : ImageFault) → noted_test units p s o ≡ Some fault
    → (sector : Sector) × (o ≡ Some sector) × (is_noted_payload units sector ≡ false) × (malformed p s ≡ fault)
note_some units p s None fault e = cc
note_some units p s (Some sector) fault e =
    let parts = if_some (is_noted_payload units sector) (malformed p s) fault e in (sector, refl, parts.0, parts.1)

module _ (c : Chart) (places : ℕ) (fault : ImageFault) where
  size_cause : size_fault places ≡ Some fault → IsCaused c places fault
  size_cause e =
      let parts = if_some (nat_le 5 places && nat_le places 1028) Geometry fault e in
      subst (IsCaused c places) parts.1 (elim (and_cases (nat_le 5 places) (nat_le places 1028) parts.0) [
        | inl few ↦ inl (leb-false 5 places few)
        | inr many ↦ inr (inl (leb-false places 1028 many))
      ])

  -- ---- headers

  -- where the status header says no number, a chip with enough places keeps as many units as without spare places
  wrong_cause : (winner : Winner) (it : IsWinnerOf c places IsStatusHeader winner) (o : Option ℕ) → units_said_in it.sector.payload ≡ o
      → keeps_units places (unwrap_or o (units_on places)) ≡ false → IsCaused c places Geometry
  wrong_cause winner it None said bad = elim (cases_lt places 5) [
    | inl few ↦ inl few
    | inr enough ↦ absurd (both_ways (keeps_units places (units_on places)) bad (keeps_to places (units_on places) (omega arith, omega arith, omega arith)))
  ]
  wrong_cause winner it (Some units) said bad = inr (inr (inl (record {
    place = winner.place;
    head = it.sector;
    counts = it.counts;
    units = units;
    said = said;
    refused = λ keeps. both_ways (keeps_units places units) bad (keeps_to places units keeps);
  })))

  bad_cause : (winner : Winner) (Fits : Sector → Type 0) → ((it : IsWinnerOf c places Fits winner) → HeaderCounts c places winner.place it.sector)
      → IsWinnerOf c places Fits winner → winner.head.well ≡ false → IsCaused c places (malformed winner.place 0)
  bad_cause winner Fits counts it bad = inl (refl, record { head = it.sector; counts = counts it; bad = ap (λ (h : KeptHeader). h.well) (sym it.head) ∙ bad })

  status_cause : status_geometry places (status_at c places) ≡ Some fault → IsCaused c places fault
  status_cause e =
      let (winner, is, bad, same) = status_some places (status_at c places) fault e in
      let it = statuses_are_chosen c places winner is in
      let said : winner.head.said ≡ units_said_in it.sector.payload = ap (λ (h : KeptHeader). h.said) it.head in
      subst (IsCaused c places) same (wrong_cause winner it (units_said_in it.sector.payload) refl
      (ap (λ (o : Option ℕ). keeps_units places (unwrap_or o (units_on places))) (sym said) ∙ bad))

  unit_cause : (u : ℕ) → other_geometry (units_at c places) (current_at c places u) ≡ Some fault → IsCaused c places fault
  unit_cause u e =
      let (winner, is, says, same) = geometry_some (units_at c places) (current_at c places u) fault e in
      let (low, it) = currents_are_chosen c places u winner is in
      let (units, said, other) = other_said (units_at c places) winner.head.said says in
      subst (IsCaused c places) same (inr (inr (inr (record {
        unit = u;
        low = low;
        place = winner.place;
        head = it.sector;
        counts = it.counts;
        units = units;
        said = ap (λ (h : KeptHeader). h.said) (sym it.head) ∙ said;
        other = other;
      }))))

  status_bad : bad_header (status_at c places) ≡ Some fault → IsCaused c places fault
  status_bad e =
      let (winner, is, bad, same) = header_some (status_at c places) fault e in
      subst (IsCaused c places) same (bad_cause winner IsStatusHeader (λ x. inl x.counts) (statuses_are_chosen c places winner is) bad)

  unit_bad : (u : ℕ) → bad_header (current_at c places u) ≡ Some fault → IsCaused c places fault
  unit_bad u e =
      let (winner, is, bad, same) = header_some (current_at c places u) fault e in
      let it = currents_are_chosen c places u winner is in
      subst (IsCaused c places) same (bad_cause winner (IsDataHeader u) (λ x. inr (u, it.0, x.counts)) it.1 bad)

  unformatted : not_formatted (status_at c places) ≡ Some fault → IsCaused c places fault
  unformatted e =
      let (none, same) = unformatted_some (status_at c places) fault e in
      subst (IsCaused c places) same (λ p head within here. none_is_status c places p head none within here)

  abbrev geometries : ℕ → Option ImageFault
  geometries u = other_geometry (units_at c places) (current_at c places u)

  abbrev missings : ℕ → Option ImageFault
  missings u = missing u (current_at c places u)

  abbrev headers : ℕ → Option ImageFault
  headers u = bad_header (current_at c places u)

  units_missing : first_fault c places ≡ Some fault → first_below missings (units_at c places) ≡ Some fault → IsCaused c places fault
  units_missing whole e =
      let first : IsFirst missings (units_at c places) fault = first_is_first missings (units_at c places) fault e in
      let same : Missing first.number ≡ fault = missing_some first.number (current_at c places first.number) fault first.here in
      subst (IsCaused c places) same (missing_is_least c places first.number (whole ∙ ap Some (sym same)))

  header_cause : first_fault c places ≡ Some fault → header_fault c places ≡ Some fault → IsCaused c places fault
  header_cause whole e = elim (or_some (not_formatted (status_at c places)) (option_or (status_geometry places (status_at c places)) (option_or (first_below geometries (units_at c places))
      (option_or (first_below missings (units_at c places)) (option_or (first_below headers (units_at c places)) (option_or (bad_header (status_at c places)) None))))) fault e) [
        | inl here ↦ unformatted here
        | inr rest ↦ elim (or_some (status_geometry places (status_at c places)) (option_or (first_below geometries (units_at c places))
            (option_or (first_below missings (units_at c places)) (option_or (first_below headers (units_at c places)) (option_or (bad_header (status_at c places)) None)))) fault rest) [
              | inl here ↦ status_cause here
              | inr more ↦ elim (or_some (first_below geometries (units_at c places))
                  (option_or (first_below missings (units_at c places)) (option_or (first_below headers (units_at c places)) (option_or (bad_header (status_at c places)) None))) fault more) [
                    | inl here ↦ let first : IsFirst geometries (units_at c places) fault = first_is_first geometries (units_at c places) fault here in unit_cause first.number first.here
                    | inr last ↦ elim (or_some (first_below missings (units_at c places)) (option_or (first_below headers (units_at c places)) (option_or (bad_header (status_at c places)) None)) fault last) [
                      | inl here ↦ units_missing whole here
                      | inr spelled ↦ elim (or_some (first_below headers (units_at c places)) (option_or (bad_header (status_at c places)) None) fault spelled) [
                        | inl here ↦ let first : IsFirst headers (units_at c places) fault = first_is_first headers (units_at c places) fault here in unit_bad first.number first.here
                        | inr status ↦ elim (or_some (bad_header (status_at c places)) None fault status) [
                          | inl here ↦ status_bad here
                          | inr nothing ↦ absurd (cc nothing)
                        ]
                      ]
                    ]
                  ]
            ]
      ]

  -- ---- sectors

  abbrev units : ℕ
  units = units_at c places

  note_of : (o : Option Winner) → status_at c places ≡ o → (first : IsFirst (noted_fault units c o) sectors fault) → IsCaused c places fault
  note_of None is first = absurd (let none = first.here in cc none)
  note_of (Some winner) is first =
      let (sector, here, bad, same) = note_some units winner.place first.number (noted_at c (Some winner) first.number) fault first.here in
      subst (IsCaused c places) same (inr (inl (record {
        status = winner;
        here = is;
        at = refl;
        low = first.within;
        sector = sector;
        counts = here;
        bad = bad;
        earlier = λ t other less at. note_well units winner.place t (noted_at c (Some winner) t) other at (first.earlier t less);
      })))

  note_cause : first_noted_fault c places ≡ Some fault → IsCaused c places fault
  note_cause e = note_of (status_at c places) refl (first_is_first (noted_fault units c (status_at c places)) sectors fault e)

  log_cause : first_log_fault c places ≡ Some fault → IsCaused c places fault
  log_cause e =
      let it = bad_logs_are_first c places fault e in
      let k : ℕ = it.0 in
      let named : fault ≡ malformed (k / 256) (k % 256) = it.1.named in
      subst (IsCaused c places) (sym named) (inr (inr (k, refl, refl, subst (IsFirstBadLog c places k) named it.1)))

  spent_cause : spent (greatest_found c places) ≡ Some fault → IsCaused c places fault
  spent_cause e =
      let parts = if_some (nat_lt (greatest_found c places) (2 ^ 63)) Spent fault e in
      subst (IsCaused c places) parts.1 (ltb-false (greatest_found c places) (2 ^ 63) parts.0)

  no_spare_cause : no_spare (overflows_found c places) ≡ Some fault → IsCaused c places fault
  no_spare_cause e =
      let parts = if_some (nat_le (overflows_found c places) 2) (NoSpare (overflows_found c places)) fault e in
      subst (IsCaused c places) parts.1 (leb-false (overflows_found c places) 2 parts.0, refl)

  is_caused : first_fault c places ≡ Some fault → IsCaused c places fault
  is_caused e = elim (or_some (size_fault places) (option_or (header_fault c places) (option_or (first_noted_fault c places) (option_or (first_log_fault c places)
      (option_or (spent (greatest_found c places)) (option_or (no_spare (overflows_found c places)) None))))) fault e) [
        | inl here ↦ size_cause here
        | inr rest ↦ elim (or_some (header_fault c places) (option_or (first_noted_fault c places) (option_or (first_log_fault c places)
            (option_or (spent (greatest_found c places)) (option_or (no_spare (overflows_found c places)) None)))) fault rest) [
              | inl here ↦ header_cause e here
              | inr more ↦ elim (or_some (first_noted_fault c places) (option_or (first_log_fault c places)
                  (option_or (spent (greatest_found c places)) (option_or (no_spare (overflows_found c places)) None))) fault more) [
                    | inl here ↦ note_cause here
                    | inr last ↦ elim (or_some (first_log_fault c places) (option_or (spent (greatest_found c places)) (option_or (no_spare (overflows_found c places)) None)) fault last) [
                      | inl here ↦ log_cause here
                      | inr numbers ↦ elim (or_some (spent (greatest_found c places)) (option_or (no_spare (overflows_found c places)) None) fault numbers) [
                        | inl here ↦ spent_cause here
                        | inr few_overflows ↦ elim (or_some (no_spare (overflows_found c places)) None fault few_overflows) [
                          | inl here ↦ no_spare_cause here
                          | inr nothing ↦ absurd (cc nothing)
                        ]
                      ]
                    ]
                  ]
            ]
      ]

pub faults_are_caused : FaultsAreCaused
faults_are_caused c places fault e = is_caused c places fault e
