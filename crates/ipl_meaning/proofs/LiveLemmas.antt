-- The sectors that count beside the headers, as they are found and as they are meant.
use Rattle.std.proofs.Common.{ℕ, ◌≡◌, ◌≢◌, ◌⊎◌, inl, inr, ◌/◌, ◌%◌, ◌<◌, ◌≤◌, Bool, true, false, nat_le, ◌==◌, ◌&&◌, ◌||◌, Option, Some, None, refl, sym, ◌∙◌, ap, arith, cond}
use Rattle.std.proofs.lemmas.Bool.{cases_Bool, eqb-true, eq-eqb, leb-true, le-leb, and_parts, and_from, or_cases, or_left, or_right, and_left, cond-true, cond-false}
use Rattle.std.proofs.lemmas.Option.{same_Some, cond_some}
use Rattle.ipl_format.specs.Sector.{Sector}
use Rattle.ipl_meaning.specs.Chart.{Chart, IsChosen, IsDataHeader, IsOverflow, IsLive}
use Rattle.ipl_meaning.specs.Chosen.{KeptHeader, Winner, head_of, header_at, current_at, units_at}
use Rattle.ipl_meaning.specs.Live.{live_at, sectors, kept, is_commit_sector, is_commit_of, is_close_mark, is_noted_of, is_at, is_generation, is_log_spot_of, is_log_spot, is_log, seen, seen_at, is_overflow_place, is_place_of, is_live, noted_at}
use Rattle.ipl_meaning.specs.LiveLaws.{SectorsAre256, FoundCommitsCount, CommitsAreFound, FoundNotesCount, NotesAreFound, NotedCommitsCount, FoundLogsAreLive, LiveLogsAreFound}
use Rattle.ipl_meaning.proofs.HeaderLemmas.{header_there, header_kept, currents_are_chosen}

pub sectors_are : SectorsAre256
unfolding sectors
sectors_are = refl

-- ---- a sector that is kept

pub kept_from : (test : Sector → Bool) (o : Option Sector) (sector : Sector) → kept test o ≡ Some sector → (o ≡ Some sector) × (test sector ≡ true)
kept_from test None sector is = cc
kept_from test (Some other) sector is =
    let parts : (test other ≡ true) × (other ≡ sector) = cond_some (test other) other sector is in
    (ap Some parts.1, ap test (sym parts.1) ∙ parts.0)

pub kept_to : (test : Sector → Bool) (o : Option Sector) (sector : Sector) → o ≡ Some sector → test sector ≡ true → kept test o ≡ Some sector
kept_to test o sector is passes = ap (kept test) is ∙ ap (λ (b : Bool). cond b (Some sector) None) passes

-- ---- commit sectors

pub commit_from : FoundCommitsCount
commit_from c winner s sector low is = elim (cases_Bool (nat_le 1 s)) [
  | inl some ↦
      let parts = kept_from (is_commit_of winner.head.generation) (c winner.place s) sector (rw some at is) in
      let of_it = and_parts _ _ parts.1 in
      record {
        here = parts.0;
        kind = eqb-true sector.kind 6 of_it.0;
        of_generation = eqb-true sector.generation winner.head.generation of_it.1;
        where_it_is = (leb-true 1 s some, low);
      }
  | inr zero_ ↦ absurd (let none : None ≡ Some sector = rw zero_ at is in cc none)
]

pub commit_to : CommitsAreFound
commit_to c winner s sector it =
    let found : kept (is_commit_of winner.head.generation) (c winner.place s) ≡ Some sector =
    kept_to (is_commit_of winner.head.generation) (c winner.place s) sector it.here
    (and_from _ _ (eq-eqb sector.kind 6 it.kind) (eq-eqb sector.generation winner.head.generation it.of_generation)) in
    rw (le-leb 1 s it.where_it_is.0) found

-- ---- commit sectors and close marks

pub note_from : FoundNotesCount
note_from c winner s sector low is = elim (cases_Bool (nat_le 1 s)) [
  | inl some ↦
      let parts = kept_from (is_noted_of winner.head.generation) (c winner.place s) sector (rw some at is) in
      let of_it = and_parts (is_commit_sector sector || is_close_mark sector) (sector.generation == winner.head.generation) parts.1 in
      let generation : sector.generation ≡ winner.head.generation = eqb-true sector.generation winner.head.generation of_it.1 in
      let within : (1 ≤ s) × (s < 256) = (leb-true 1 s some, low) in
      elim (or_cases (is_commit_sector sector) (is_close_mark sector) of_it.0) [
        | inl commit ↦ inl (record { here = parts.0; kind = eqb-true sector.kind 6 commit; of_generation = generation; where_it_is = within })
        | inr close ↦ inr (record { here = parts.0; kind = eqb-true sector.kind 7 close; of_generation = generation; where_it_is = within })
      ]
  | inr zero_ ↦ absurd (let none : None ≡ Some sector = rw zero_ at is in cc none)
]

noted_to : (c : Chart) (winner : Winner) (s : ℕ) (sector : Sector) → 1 ≤ s → c winner.place s ≡ Some sector
    → (is_commit_sector sector || is_close_mark sector) ≡ true → sector.generation ≡ winner.head.generation
    → noted_at c (Some winner) s ≡ Some sector
noted_to c winner s sector some here kind generation =
    let found : kept (is_noted_of winner.head.generation) (c winner.place s) ≡ Some sector =
    kept_to (is_noted_of winner.head.generation) (c winner.place s) sector here
    (and_from _ _ kind (eq-eqb sector.generation winner.head.generation generation)) in
    rw (le-leb 1 s some) found

pub note_to : NotesAreFound
note_to c winner s sector (inl it) =
    noted_to c winner s sector it.where_it_is.0 it.here (or_left _ _ (eq-eqb sector.kind 6 it.kind)) it.of_generation
note_to c winner s sector (inr it) =
    noted_to c winner s sector it.where_it_is.0 it.here (or_right _ _ (eq-eqb sector.kind 7 it.kind)) it.of_generation

-- of what is noted the commit sectors are kept
noted_commit : (generation : ℕ) (o : Option Sector) → kept is_commit_sector (kept (is_noted_of generation) o) ≡ kept (is_commit_of generation) o
noted_commit generation None = refl
noted_commit generation (Some sector) = elim (cases_Bool (is_commit_sector sector)) [
  | inl commit ↦
      let same : is_noted_of generation sector ≡ is_commit_of generation sector =
      ap (λ (b : Bool). (b || is_close_mark sector) && (sector.generation == generation)) commit
      ∙ sym (ap (λ (b : Bool). b && (sector.generation == generation)) commit) in
      ap (λ (b : Bool). kept is_commit_sector (cond b (Some sector) None)) same ∙ stays commit (is_commit_of generation sector)
  | inr other ↦
      goes other (is_noted_of generation sector) ∙ sym (cond-false (is_commit_of generation sector) (Some sector) None (and_left _ _ other))
]
  where
    stays : is_commit_sector sector ≡ true → (b : Bool) → kept is_commit_sector (cond b (Some sector) None) ≡ cond b (Some sector) None
    stays commit true = cond-true (is_commit_sector sector) (Some sector) None commit
    stays commit false = refl

    goes : is_commit_sector sector ≡ false → (b : Bool) → kept is_commit_sector (cond b (Some sector) None) ≡ None
    goes other true = cond-false (is_commit_sector sector) (Some sector) None other
    goes other false = refl

pub noted_commits : NotedCommitsCount
noted_commits c None s = refl
noted_commits c (Some winner) s = elim (cases_Bool (nat_le 1 s)) [
  | inl some ↦ rw some (noted_commit winner.head.generation (c winner.place s))
  | inr zero_ ↦ rw zero_ refl
]

-- ---- current headers

-- the current header of a unit stands at its place
pub record IsHome (c : Chart) (places u : ℕ) (winner : Winner) : Type 0 where
  pub low : u < units_at c places
  pub sector : Sector
  pub chosen : IsChosen c places (IsDataHeader u) winner.place sector
  pub kept : winner.head ≡ head_of places sector
  pub head : header_at c places winner.place ≡ Some (head_of places sector)

pub home_of : (c : Chart) (places u : ℕ) (winner : Winner) → current_at c places u ≡ Some winner → IsHome c places u winner
home_of c places u winner is =
    let it = currents_are_chosen c places u winner is in
    let of_it = it.1 in
    let kind = of_it.counts.fits.0 in record {
      low = it.0;
      sector = of_it.sector;
      chosen = of_it.counts;
      kept = of_it.head;
      head = header_kept c places winner.place of_it.sector of_it.counts.within of_it.counts.here
          (and_from _ _ (le-leb 1 of_it.sector.kind (omega (arith, kind))) (le-leb of_it.sector.kind 3 (omega (arith, kind))));
    }

-- an overflow place is in the table
pub overflow_head : (c : Chart) (places p : ℕ) → p < places → (over : IsOverflow c p) → header_at c places p ≡ Some (head_of places over.0)
overflow_head c places p low (head, here, kind) =
    header_kept c places p head low here (and_from _ _ (le-leb 1 head.kind (omega (arith, kind))) (le-leb head.kind 3 (omega (arith, kind))))

pub overflow_to : (c : Chart) (places p : ℕ) → p < places → IsOverflow c p → is_overflow_place (header_at c places p) ≡ true
overflow_to c places p low over = ap is_overflow_place (overflow_head c places p low over) ∙ eq-eqb over.0.kind 3 over.2

overflow_of : (c : Chart) (places p : ℕ) (o : Option KeptHeader) → header_at c places p ≡ o → is_overflow_place o ≡ true → (p < places) × IsOverflow c p
overflow_of c places p None at is = absurd (cc is)
overflow_of c places p (Some head) at is =
    let it = header_there c places p head at in
    (it.within, (it.sector, it.here, ap (λ (h : KeptHeader). h.kind) it.kept ∙ eqb-true head.kind 3 is))

pub overflow_from : (c : Chart) (places p : ℕ) → is_overflow_place (header_at c places p) ≡ true → (p < places) × IsOverflow c p
overflow_from c places p is = overflow_of c places p (header_at c places p) refl is

-- a home is no overflow place
pub home_apart : (c : Chart) (places u p : ℕ) (sector : Sector) → IsChosen c places (IsDataHeader u) p sector → IsOverflow c p → ⊥
home_apart c places u p sector it (head, here, kind) =
    let same : head ≡ sector = same_Some head sector (sym here ∙ it.here) in
    let data_kind = it.fits.0 in
    omega (arith, kind, data_kind, ap (λ (s : Sector). s.kind) same)

-- ---- where log sectors may stand

abbrev pub MayStand : Chart → ℕ → ℕ → ℕ → Type 0
MayStand c places p s =
    ((u : ℕ) × (winner : Winner) × (current_at c places u ≡ Some winner) × (p ≡ winner.place) × (241 ≤ s)) ⊎ (IsOverflow c p × (1 ≤ s))

at_from : (o : Option Winner) (p : ℕ) → is_at o p ≡ true → (winner : Winner) × (o ≡ Some winner) × (winner.place ≡ p)
at_from None p is = absurd (cc is)
at_from (Some winner) p is = (winner, refl, eqb-true winner.place p is)

spot_of : (c : Chart) (places p s : ℕ) (o : Option KeptHeader) → header_at c places p ≡ o → is_log_spot_of (current_at c places) p s o ≡ true
    → (p < places) × MayStand c places p s
spot_of c places p s None at is = absurd (cc is)
spot_of c places p s (Some head) at is =
    let it = header_there c places p head at in (
      it.within,
      elim (or_cases _ _ is) [
        | inl over ↦
            let parts = and_parts _ _ over in
            inr ((it.sector, it.here, ap (λ (h : KeptHeader). h.kind) it.kept ∙ eqb-true head.kind 3 parts.0), leb-true 1 s parts.1)
        | inr home ↦
            let parts = and_parts _ _ home in
            let rest = and_parts _ _ parts.1 in
            let there = at_from (current_at c places head.unit) p rest.1 in
            inl (head.unit, there.0, there.1, sym there.2, leb-true 241 s rest.0)
      ],
    )

pub spot_from : (c : Chart) (places p s : ℕ) → is_log_spot (header_at c places) (current_at c places) p s ≡ true → (p < places) × MayStand c places p s
spot_from c places p s is = spot_of c places p s (header_at c places p) refl is

home_spot : (c : Chart) (places p s u : ℕ) (winner : Winner) → current_at c places u ≡ Some winner → p ≡ winner.place → 241 ≤ s
    → is_log_spot (header_at c places) (current_at c places) p s ≡ true
home_spot c places p s u winner is same high =
    let it = home_of c places u winner is in
    let fits = it.chosen.fits in
    let here : is_at (current_at c places it.sector.unit) p ≡ true =
    ap (λ (v : ℕ). is_at (current_at c places v) p) fits.1 ∙ (ap (λ (o : Option Winner). is_at o p) is ∙ eq-eqb winner.place p (sym same)) in
    ap (is_log_spot_of (current_at c places) p s) (ap (header_at c places) same ∙ it.head)
    ∙ or_right _ _ (and_from _ _ (eq-eqb it.sector.kind 1 fits.0) (and_from _ _ (le-leb 241 s high) here))

pub spot_to : (c : Chart) (places p s : ℕ) → p < places → MayStand c places p s → is_log_spot (header_at c places) (current_at c places) p s ≡ true
spot_to c places p s low may = elim may [
  | inl home ↦ home_spot c places p s home.0 home.1 home.2 home.3 home.4
  | inr over ↦ ap (is_log_spot_of (current_at c places) p s) (overflow_head c places p low over.0)
      ∙ or_left _ _ (and_from _ _ (eq-eqb over.0.0.kind 3 over.0.2) (le-leb 1 s over.1))
]

-- a log sector that is seen
pub record IsSeen (c : Chart) (places p s : ℕ) (sector : Sector) : Type 0 where
  pub within : p < places
  pub may : MayStand c places p s
  pub here : c p s ≡ Some sector
  pub kind : sector.kind ≡ 5

pub seen_from : (c : Chart) (places p s : ℕ) (sector : Sector) → seen (header_at c places) (current_at c places) c p s ≡ Some sector → IsSeen c places p s sector
seen_from c places p s sector is = elim (cases_Bool (is_log_spot (header_at c places) (current_at c places) p s)) [
  | inl spot ↦
      let there = spot_from c places p s spot in
      let parts = kept_from is_log (c p s) sector (sym (cond-true (is_log_spot (header_at c places) (current_at c places) p s) (kept is_log (c p s)) None spot) ∙ is) in
      record { within = there.0; may = there.1; here = parts.0; kind = eqb-true sector.kind 5 parts.1 }
  | inr other ↦ absurd (let none : None ≡ Some sector = sym (cond-false (is_log_spot (header_at c places) (current_at c places) p s) (kept is_log (c p s)) None other) ∙ is in cc none)
]

pub seen_to : (c : Chart) (places p s : ℕ) (sector : Sector) → IsSeen c places p s sector → seen (header_at c places) (current_at c places) c p s ≡ Some sector
seen_to c places p s sector it =
    cond-true (is_log_spot (header_at c places) (current_at c places) p s) (kept is_log (c p s)) None (spot_to c places p s it.within it.may)
    ∙ kept_to is_log (c p s) sector it.here (eq-eqb sector.kind 5 it.kind)

pub seen_spot : (c : Chart) (places p s : ℕ) (sector : Sector) → IsSeen c places p s sector → is_log_spot (header_at c places) (current_at c places) p s ≡ true
seen_spot c places p s sector it = spot_to c places p s it.within it.may

-- ---- live log sectors

generation_from : (o : Option Winner) (generation : ℕ) → is_generation o generation ≡ true → (winner : Winner) × (o ≡ Some winner) × (winner.head.generation ≡ generation)
generation_from None generation is = absurd (cc is)
generation_from (Some winner) generation is = (winner, refl, eqb-true winner.head.generation generation is)

place_from : (o : Option KeptHeader) (u : ℕ) → is_place_of o u ≡ true → (head : KeptHeader) × (o ≡ Some head) × ((head.kind ≡ 3) ⊎ (head.unit ≡ u))
place_from None u is = absurd (cc is)
place_from (Some head) u is = (
  head,
  refl,
  elim (or_cases _ _ is) [
    | inl over ↦ inl (eqb-true head.kind 3 over)
    | inr home ↦ inr (eqb-true head.unit u home)
  ],
)

-- it stands at home, or in an overflow place
live_where : (c : Chart) (places p s u : ℕ) (winner : Winner) → MayStand c places p s → is_place_of (header_at c places p) u ≡ true → current_at c places u ≡ Some winner
    → ((p ≡ winner.place) × (241 ≤ s)) ⊎ (IsOverflow c p × (1 ≤ s))
live_where c places p s u winner (inr over) of_unit is = inr over
live_where c places p s u winner (inl (v, other, v_is, same, high)) of_unit is =
    let it = home_of c places v other v_is in
    let fits = it.chosen.fits in
    let place = place_from (header_at c places p) u of_unit in
    let head : head_of places it.sector ≡ place.0 = same_Some _ _ (sym it.head ∙ (ap (header_at c places) (sym same) ∙ place.1)) in
    elim place.2 [
      | inl over ↦ absurd (omega (arith, over, fits.0, ap (λ (h : KeptHeader). h.kind) head))
      | inr unit ↦
          let u_is : v ≡ u = sym fits.1 ∙ (ap (λ (h : KeptHeader). h.unit) head ∙ unit) in
          let one : other ≡ winner = same_Some other winner (sym v_is ∙ (ap (current_at c places) u_is ∙ is)) in
          inl (same ∙ ap (λ (x : Winner). x.place) one, high)
    ]

pub live_from : FoundLogsAreLive
live_from c places k sector is =
    let parts = kept_from (is_live (header_at c places) (current_at c places) (k / 256)) (seen_at (header_at c places) (current_at c places) c k) sector is in
    let it = seen_from c places (k / 256) (k % 256) sector parts.0 in
    let tests = and_parts _ _ parts.1 in
    let of_it = generation_from (current_at c places sector.unit) sector.generation tests.1 in
    record {
      winner = of_it.0;
      current = of_it.1;
      live = record {
        here = it.here;
        kind = it.kind;
        of_unit = refl;
        of_generation = sym of_it.2;
        within = (it.within, omega arith);
        counts = live_where c places (k / 256) (k % 256) sector.unit of_it.0 it.may tests.0 of_it.1;
      };
    }

-- the place is one of its unit
place_to : (c : Chart) (places p s u : ℕ) (winner : Winner) → p < places → current_at c places u ≡ Some winner
    → ((p ≡ winner.place) × (241 ≤ s)) ⊎ (IsOverflow c p × (1 ≤ s)) → is_place_of (header_at c places p) u ≡ true
place_to c places p s u winner low is (inl (same, high)) =
    let it = home_of c places u winner is in
    ap (λ (o : Option KeptHeader). is_place_of o u) (ap (header_at c places) same ∙ it.head) ∙ or_right _ _ (eq-eqb it.sector.unit u it.chosen.fits.1)
place_to c places p s u winner low is (inr (over, some)) =
    ap (λ (o : Option KeptHeader). is_place_of o u) (overflow_head c places p low over) ∙ or_left _ _ (eq-eqb over.0.kind 3 over.2)

may_to : (c : Chart) (places p s u : ℕ) (winner : Winner) → current_at c places u ≡ Some winner → ((p ≡ winner.place) × (241 ≤ s)) ⊎ (IsOverflow c p × (1 ≤ s))
    → MayStand c places p s
may_to c places p s u winner is (inl (same, high)) = inl (u, winner, is, same, high)
may_to c places p s u winner is (inr over) = inr over

pub live_to : LiveLogsAreFound
live_to c places k u winner sector is it =
    let stands : seen_at (header_at c places) (current_at c places) c k ≡ Some sector = seen_to c places (k / 256) (k % 256) sector (record {
      within = it.within.0;
      may = may_to c places (k / 256) (k % 256) u winner is it.counts;
      here = it.here;
      kind = it.kind;
    }) in
    let place : is_place_of (header_at c places (k / 256)) sector.unit ≡ true =
    ap (is_place_of (header_at c places (k / 256))) it.of_unit ∙ place_to c places (k / 256) (k % 256) u winner it.within.0 is it.counts in
    let generation : is_generation (current_at c places sector.unit) sector.generation ≡ true =
    ap (λ (v : ℕ). is_generation (current_at c places v) sector.generation) it.of_unit
    ∙ (ap (λ (o : Option Winner). is_generation o sector.generation) is ∙ eq-eqb winner.head.generation sector.generation (sym it.of_generation)) in
    kept_to (is_live (header_at c places) (current_at c places) (k / 256)) (seen_at (header_at c places) (current_at c places) c k) sector stands (and_from _ _ place generation)

-- a live log sector that doesn't stand at home stands in an overflow place, and only such a one
pub away_is_overflow : (c : Chart) (places u home generation p s : ℕ) (sector : Sector) → IsLive c places u home generation p s sector → p ≢ home
    → is_overflow_place (header_at c places p) ≡ true
away_is_overflow c places u home generation p s sector it away = elim it.counts [
  | inl at_home ↦ absurd (away at_home.0)
  | inr over ↦ overflow_to c places p it.within.0 over.0
]

-- it stands where an opening reads
pub live_seen : (c : Chart) (places k : ℕ) (sector : Sector) → live_at (header_at c places) (current_at c places) c k ≡ Some sector → IsSeen c places (k / 256) (k % 256) sector
live_seen c places k sector is =
    seen_from c places (k / 256) (k % 256) sector (kept_from (is_live (header_at c places) (current_at c places) (k / 256)) (seen_at (header_at c places) (current_at c places) c k) sector is).0
