-- The greatest number found.
use Rattle.std.proofs.Common.{ℕ, ◌≡◌, ◌⊎◌, inl, inr, ◌+◌, ◌*◌, ◌/◌, ◌%◌, ◌<◌, ◌≤◌, List, [], map, max, Option, Some, None, unwrap_or, refl, sym, ◌∙◌, ap, ap₂, subst, arith, zero, suc, ◌∷◌}
use Rattle.std.specs.List.{Contains}
use Rattle.std.proofs.Math.Nat.{le-max_left, le-max_right}
use Rattle.std.proofs.lemmas.Bool.{cases_Bool, eq-eqb, ne_eqb, leb-true, le-leb, and_parts, and_from, cond-true, cond-false}
use Rattle.std.proofs.lemmas.Option.{same_Some}
use Rattle.std.proofs.lemmas.List.{length-map, get_or-map}
use Rattle.ipl_base.specs.Places.{units_on}
use Rattle.ipl_format.specs.Sector.{Sector}
use Rattle.ipl_format.specs.Record.{Record, SpellsLog}
use Rattle.ipl_format.specs.Commit.{SpellsCommit}
use Rattle.log_records.specs.Reading.{records_of}
use Rattle.ipl_meaning.specs.Chart.{Chart, IsHeader}
use Rattle.ipl_meaning.specs.Layout.{Layout, Laid}
use Rattle.ipl_meaning.specs.Found.{IsLogSpot, IsRead, Mentions, IsFoundNumber}
use Rattle.ipl_meaning.specs.Payloads.{numbers_in, is_commit_payload, is_log_payload, numbers_told, tid_of, tids_told}
use Rattle.ipl_meaning.specs.Chosen.{KeptHeader, Winner, head_of, header_at, units_told, current_at, status_at, units_at}
use Rattle.ipl_meaning.specs.Live.{sectors, is_commit_sector, noted_at, seen, seen_at}
use Rattle.ipl_meaning.specs.LiveLaws.{IsStatusNote}
use Rattle.ipl_meaning.specs.Faults.{head_number, numbers_noted, noted_number, log_number, greatest_of_heads, greatest_of_notes, greatest_found}
use Rattle.ipl_meaning.specs.OpeningLaws.{IsByteChart, GreatestIsAbove, GreatestIsFound}
use Rattle.ipl_meaning.proofs.PayloadLemmas.{spelled_status_passes, spelled_commits_pass, spelled_logs_pass, log_payloads_are_spelled}
use Rattle.ipl_meaning.proofs.HeaderLemmas.{header_there, header_kept, current_low, chosen_are_current, chosen_are_status}
use Rattle.ipl_meaning.proofs.BelowLemmas.{max_cases, least-le, each-le, greatest_from, greatest_of-least, greatest_of-each, greatest_of_from}
use Rattle.ipl_meaning.proofs.LiveLemmas.{seen_spot, sectors_are, MayStand, IsSeen, seen_from, seen_to, note_from, note_to}

-- ---- lists of records

map_has : (records : List Record) (r : Record) → Contains records r → Contains (map tid_of records) r.tid
map_has records r (k, within, is) = (k, omega (arith, length-map records tid_of, within), get_or-map tid_of records k r r.tid within ∙ ap tid_of is)

-- a number of a list of records is a record's
tids_from : (records : List Record) (n : ℕ) → Contains (map tid_of records) n → (r : Record) × Contains records r × (r.tid ≡ n)
tids_from [] n (k, within, is) = absurd (omega (arith, within))
tids_from (r ∷ records) n (zero, within, is) = (r, (0, omega arith, refl), is)
tids_from (r ∷ records) n (suc k, within, is) =
    let it = tids_from records n (k, omega (arith, within), is) in
    let (i, low, here) = it.1 in
    (it.0, (suc i, omega (arith, low), here), it.2)

-- ---- what each sector mentions is at most its greatest number

commit_has : (sector : Sector) (numbers : List ℕ) → SpellsCommit sector.payload numbers → numbers_told sector.payload ≡ numbers
commit_has sector numbers it =
    let read = spelled_commits_pass sector.payload numbers it in
    cond-true (is_commit_payload sector.payload) (numbers_in sector.payload) [] read.0 ∙ read.1

noted_has : (sector : Sector) (numbers : List ℕ) → sector.kind ≡ 6 → SpellsCommit sector.payload numbers → numbers_noted sector ≡ numbers
noted_has sector numbers kind it =
    cond-true (is_commit_sector sector) (numbers_told sector.payload) [] (eq-eqb sector.kind 6 kind) ∙ commit_has sector numbers it

-- a close mark has none
close_has : (sector : Sector) → sector.kind ≡ 7 → numbers_noted sector ≡ []
close_has sector kind =
    cond-false (is_commit_sector sector) (numbers_told sector.payload) [] (ne_eqb sector.kind 6 (λ same. omega (arith, same, kind)))

log_has : (sector : Sector) (records : List Record) → SpellsLog sector.version sector.payload records → tids_told sector.version sector.payload ≡ map tid_of records
log_has sector records it =
    let read = spelled_logs_pass sector.version sector.payload records it in
    cond-true (is_log_payload sector.version sector.payload) (map tid_of (records_of sector.version sector.payload)) [] read.0 ∙ ap (map tid_of) read.1

head-le : (places : ℕ) (sector : Sector) (n : ℕ) → IsHeader sector → Mentions sector n → n ≤ head_number (Some (head_of places sector))
head-le places sector n kind mentions = elim mentions [
  | inl own ↦ omega (arith, own, le-max_left sector.generation sector.serial)
  | inr other ↦ elim other [
    | inl own ↦ omega (arith, own, le-max_right sector.generation sector.serial)
    | inr inner ↦ elim inner [
      | inl commit ↦ absurd (omega (arith, kind.1, commit.0))
      | inr log ↦ absurd (omega (arith, kind.1, log.0))
    ]
  ]
]

noted-le : (sector : Sector) (n : ℕ) → 6 ≤ sector.kind → Mentions sector n → n ≤ noted_number (Some sector)
noted-le sector n kind mentions =
    let least = greatest_of-least (max sector.generation sector.serial) (numbers_noted sector) in
    elim mentions [
      | inl own ↦ omega (arith, own, le-max_left sector.generation sector.serial, least)
      | inr other ↦ elim other [
        | inl own ↦ omega (arith, own, le-max_right sector.generation sector.serial, least)
        | inr inner ↦ elim inner [
          | inl commit ↦ greatest_of-each (max sector.generation sector.serial) (numbers_noted sector) n
              (subst (λ (xs : List ℕ). Contains xs n) (sym (noted_has sector commit.1 commit.0 commit.2)) commit.3)
          | inr log ↦ absurd (omega (arith, kind, log.0))
        ]
      ]
    ]

log-le : (sector : Sector) (n : ℕ) → sector.kind ≡ 5 → Mentions sector n → n ≤ log_number (Some sector)
log-le sector n kind mentions =
    let least = greatest_of-least (max sector.generation sector.serial) (tids_told sector.version sector.payload) in
    elim mentions [
      | inl own ↦ omega (arith, own, le-max_left sector.generation sector.serial, least)
      | inr other ↦ elim other [
        | inl own ↦ omega (arith, own, le-max_right sector.generation sector.serial, least)
        | inr inner ↦ elim inner [
          | inl commit ↦ absurd (omega (arith, kind, commit.0))
          | inr log ↦ greatest_of-each (max sector.generation sector.serial) (tids_told sector.version sector.payload) n
              (subst (λ (xs : List ℕ). Contains xs n) (sym (log_has sector log.1 log.2))
              (subst (Contains (map tid_of log.1)) log.5 (map_has log.1 log.3 log.4)))
        ]
      ]
    ]

-- ---- on a chart that is laid out

module _ (c : Chart) (places : ℕ) (it : Layout) (laid : Laid places c it) where
  abbrev status : Winner
  status = record { place = it.status; head = head_of places it.head }

  pub status_is : status_at c places ≡ Some status
  status_is = chosen_are_status c places it.status it.head laid.chosen

  -- the status header says how many units there are
  pub units_are : units_at c places ≡ it.count
  units_are = ap (units_told places) status_is
      ∙ ap (λ (o : Option ℕ). unwrap_or o (units_on places)) (spelled_status_passes it.head.version places it.count it.head.payload laid.most laid.counts).1

  abbrev home : ℕ → Winner
  home u = record { place = (it.units u).home; head = head_of places (it.units u).head }

  pub home_is : (u : ℕ) → u < it.count → current_at c places u ≡ Some (home u)
  home_is u low = chosen_are_current c places u (it.units u).home (it.units u).head (omega (arith, low, units_are)) (laid.each u low).chosen

  abbrev heads_greatest : ℕ
  heads_greatest = greatest_of_heads (header_at c places) places

  abbrev notes_greatest : ℕ
  notes_greatest = greatest_of_notes heads_greatest c (status_at c places) sectors

  notes-le : notes_greatest ≤ greatest_found c places
  notes-le = least-le notes_greatest (λ j. log_number (seen_at (header_at c places) (current_at c places) c j)) (places * 256)

  heads-le : heads_greatest ≤ greatest_found c places
  heads-le = let more = least-le heads_greatest (λ s. noted_number (noted_at c (status_at c places) s)) sectors in omega (arith, more, notes-le)

  header_below : (p : ℕ) (sector : Sector) (n : ℕ) → p < places → c p 0 ≡ Some sector → IsHeader sector → Mentions sector n → n ≤ greatest_found c places
  header_below p sector n low here kind mentions =
      let kept : header_at c places p ≡ Some (head_of places sector) =
      header_kept c places p sector low here (and_from _ _ (le-leb 1 sector.kind kind.0) (le-leb sector.kind 3 kind.1)) in
      let own = head-le places sector n kind mentions in
      let same : head_number (header_at c places p) ≡ head_number (Some (head_of places sector)) = ap head_number kept in
      let among : head_number (header_at c places p) ≤ heads_greatest = each-le 0 (λ q. head_number (header_at c places q)) places p low in
      omega (arith, own, same, among, heads-le)

  -- a commit sector or a close mark is of a kind above the log sectors', and stands in its place
  noted_kind : (s : ℕ) (sector : Sector) → IsStatusNote c status s sector → (6 ≤ sector.kind) × (s < 256)
  noted_kind s sector (inl commit) = (omega (arith, commit.kind), commit.where_it_is.1)
  noted_kind s sector (inr close) = (omega (arith, close.kind), close.where_it_is.1)

  note_below : (s : ℕ) (sector : Sector) (n : ℕ) → IsStatusNote c status s sector → Mentions sector n → n ≤ greatest_found c places
  note_below s sector n is mentions =
      let (kind, low) = noted_kind s sector is in
      let kept : noted_at c (status_at c places) s ≡ Some sector = ap (λ (o : Option Winner). noted_at c o s) status_is ∙ note_to c status s sector is in
      let own = noted-le sector n kind mentions in
      let same : noted_number (noted_at c (status_at c places) s) ≡ noted_number (Some sector) = ap noted_number kept in
      let among : noted_number (noted_at c (status_at c places) s) ≤ notes_greatest =
      each-le heads_greatest (λ t. noted_number (noted_at c (status_at c places) t)) sectors s (omega (arith, low, sectors_are)) in
      omega (arith, own, same, among, notes-le)

  may_from : (p s : ℕ) → IsLogSpot c it p s → MayStand c places p s
  may_from p s (inl (u, low, same, high)) = inl (u, home u, home_is u low, same, high)
  may_from p s (inr over) = inr over

  log_below : (p s : ℕ) (sector : Sector) (n : ℕ) → p < places → s < 256 → c p s ≡ Some sector → sector.kind ≡ 5 → IsLogSpot c it p s → Mentions sector n
      → n ≤ greatest_found c places
  log_below p s sector n low within here kind spot mentions =
      let k : ℕ = p * 256 + s in
      let place : k / 256 ≡ p = omega (arith, within) in
      let number : k % 256 ≡ s = omega (arith, within) in
      let stands : IsSeen c places p s sector = record { within = low; may = may_from p s spot; here = here; kind = kind } in
      let kept : seen_at (header_at c places) (current_at c places) c k ≡ Some sector =
      ap₂ (λ (q t : ℕ). seen (header_at c places) (current_at c places) c q t) place number ∙ seen_to c places p s sector stands in
      let own = log-le sector n kind mentions in
      let same : log_number (seen_at (header_at c places) (current_at c places) c k) ≡ log_number (Some sector) = ap log_number kept in
      let among : log_number (seen_at (header_at c places) (current_at c places) c k) ≤ greatest_found c places =
      each-le notes_greatest (λ j. log_number (seen_at (header_at c places) (current_at c places) c j)) (places * 256) k (omega (arith, low, within)) in
      omega (arith, own, same, among)

  pub found_below : (n : ℕ) → IsFoundNumber places c it n → n ≤ greatest_found c places
  found_below n (p, s, sector, read, mentions) = elim read [
    | inl header ↦ header_below p sector n header.1 header.2 header.3 mentions
    | inr other ↦ elim other [
      | inl note ↦ note_below s sector n note.1 mentions
      | inr log ↦ log_below p s sector n log.0 log.1 log.2 log.3 log.4 mentions
    ]
  ]

  -- ---- and it is one of them

  abbrev IsNumber : ℕ → Type 0
  IsNumber n = (n ≡ 0) ⊎ IsFoundNumber places c it n

  -- a sector's own numbers
  own_found : (p s : ℕ) (sector : Sector) → IsRead places c it p s sector → IsFoundNumber places c it (max sector.generation sector.serial)
  own_found p s sector read = elim (max_cases sector.generation sector.serial) [
    | inl generation ↦ (p, s, sector, read, inl generation)
    | inr serial ↦ (p, s, sector, read, inr (inl serial))
  ]

  head_found : (p : ℕ) (o : Option KeptHeader) → header_at c places p ≡ o → IsNumber (head_number o)
  head_found p None is = inl refl
  head_found p (Some head) is =
      let there = header_there c places p head is in
      let kinds = and_parts _ _ there.of_kind in
      let read : IsRead places c it p 0 there.sector = inl (refl, there.within, there.here, (leb-true 1 there.sector.kind kinds.0, leb-true there.sector.kind 3 kinds.1)) in
      inr (subst (λ (h : KeptHeader). IsFoundNumber places c it (max h.generation h.serial)) there.kept (own_found p 0 there.sector read))

  -- a number of its payload is a commit sector's
  told_found : (s : ℕ) (sector : Sector) (n : ℕ) → IsStatusNote c status s sector → Contains (numbers_noted sector) n → IsFoundNumber places c it n
  told_found s sector n (inl commit) told =
      let spelled = laid.commits.spelled s sector commit in
      let has : Contains spelled.0 n = subst (λ (xs : List ℕ). Contains xs n) (noted_has sector spelled.0 commit.kind spelled.1) told in
      (it.status, s, sector, inr (inl (refl, inl commit)), inr (inr (inl (commit.kind, spelled.0, spelled.1, has))))
  told_found s sector n (inr close) told =
      let none : Contains [] n = subst (λ (xs : List ℕ). Contains xs n) (close_has sector close.kind) told in
      absurd (omega (arith, none.1))

  note_found : (s : ℕ) (o : Option Sector) → s < 256 → noted_at c (Some status) s ≡ o → IsNumber (noted_number o)
  note_found s None low is = inl refl
  note_found s (Some sector) low is =
      let of_it = note_from c status s sector low is in
      let read : IsRead places c it it.status s sector = inr (inl (refl, of_it)) in
      elim (greatest_of_from (max sector.generation sector.serial) (numbers_noted sector)) [
        | inl own ↦ inr (subst (IsFoundNumber places c it) (sym own) (own_found it.status s sector read))
        | inr told ↦ inr (told_found s sector (noted_number (Some sector)) of_it told)
      ]

  spot_back : (p s : ℕ) → MayStand c places p s → IsLogSpot c it p s
  spot_back p s (inl (u, winner, is, same, high)) =
      let low : u < it.count = let less = current_low c places u winner is in omega (arith, less, units_are) in
      let one : winner ≡ home u = same_Some winner (home u) (sym is ∙ home_is u low) in
      inl (u, low, same ∙ ap (λ (x : Winner). x.place) one, high)
  spot_back p s (inr over) = inr over

  log_found : IsByteChart places c → (k : ℕ) (o : Option Sector) → seen_at (header_at c places) (current_at c places) c k ≡ o → IsNumber (log_number o)
  log_found bytes k None is = inl refl
  log_found bytes k (Some sector) is =
      let stands = seen_from c places (k / 256) (k % 256) sector is in
      let read : IsRead places c it (k / 256) (k % 256) sector =
      inr (inr (stands.within, omega arith, stands.here, stands.kind, spot_back (k / 256) (k % 256) stands.may)) in
      elim (greatest_of_from (max sector.generation sector.serial) (tids_told sector.version sector.payload)) [
        | inl own ↦ inr (subst (IsFoundNumber places c it) (sym own) (own_found (k / 256) (k % 256) sector read))
        | inr told ↦ elim (cases_Bool (is_log_payload sector.version sector.payload)) [
          | inl list ↦
              let spelled = log_payloads_are_spelled sector.version sector.payload (bytes (k / 256) (k % 256) sector stands.within (omega arith) (inr (inr (seen_spot c places (k / 256) (k % 256) sector stands))) stands.here) list in
              let from = tids_from (records_of sector.version sector.payload) (log_number (Some sector))
              (subst (λ (xs : List ℕ). Contains xs (log_number (Some sector))) (log_has sector (records_of sector.version sector.payload) spelled) told) in
              inr (k / 256, k % 256, sector, read, inr (inr (inr (stands.kind, records_of sector.version sector.payload, spelled, from.0, from.1, from.2))))
          | inr other ↦
              let none : Contains [] (log_number (Some sector)) = subst (λ (xs : List ℕ). Contains xs (log_number (Some sector)))
              (cond-false (is_log_payload sector.version sector.payload) (map tid_of (records_of sector.version sector.payload)) [] other) told in
              absurd (omega (arith, none.1))
        ]
      ]

  pub number_found : IsByteChart places c → IsNumber (greatest_found c places)
  number_found bytes = elim (greatest_from notes_greatest (λ j. log_number (seen_at (header_at c places) (current_at c places) c j)) (places * 256)) [
    | inr log ↦ subst IsNumber (sym log.2) (log_found bytes log.0 (seen_at (header_at c places) (current_at c places) c log.0) refl)
    | inl earlier ↦ elim (greatest_from heads_greatest (λ s. noted_number (noted_at c (status_at c places) s)) sectors) [
      | inr note ↦
          let kept : noted_at c (Some status) note.0 ≡ noted_at c (status_at c places) note.0 =
          ap (λ (o : Option Winner). noted_at c o note.0) (sym status_is) in
          subst IsNumber (sym (earlier ∙ note.2)) (note_found note.0 (noted_at c (status_at c places) note.0) (omega (arith, note.1, sectors_are)) kept)
      | inl before ↦ elim (greatest_from 0 (λ p. head_number (header_at c places p)) places) [
        | inr header ↦ subst IsNumber (sym (earlier ∙ (before ∙ header.2))) (head_found header.0 (header_at c places header.0) refl)
        | inl none ↦ inl (earlier ∙ (before ∙ none))
      ]
    ]
  ]

pub greatest_is_above : GreatestIsAbove
greatest_is_above c places it laid n found = let below = found_below c places it laid n found in omega (arith, below)

pub greatest_is_found : GreatestIsFound
greatest_is_found c places it bytes laid = number_found c places it laid bytes
