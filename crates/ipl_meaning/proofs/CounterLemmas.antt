-- What the counter draws is new, and it stays above all that is found.
use Rattle.std.proofs.Common.{◌≡◌, ◌≢◌, ◌⊎◌, ℕ, ◌<◌, ◌≤◌, Some, None, inl, inr, refl, sym, ◌∙◌, ap, arith, get_or}
use Rattle.std.proofs.lemmas.Bool.{cases_Bool, cases_eq, eq-eqb, ne_eqb}
use Rattle.std.proofs.lemmas.List.Elements.{Contains-get_or}
use Rattle.chip_trait.specs.Chart.{with_sector}
use Rattle.ipl_format.specs.Sector.{Sector}
use Rattle.ipl_meaning.specs.Chart.{Chart, IsHeader}
use Rattle.ipl_meaning.specs.Layout.{Layout, IsCommitSector, IsMark, IsLiveIn}
use Rattle.ipl_meaning.specs.Steps.{with_log, with_committed, with_unit, with_status}
use Rattle.ipl_meaning.specs.Found.{IsLogSpot, IsRead, MentionsBelow, IsAbove, IsPlaceBelow}
use Rattle.ipl_meaning.specs.CounterLaws.{NewGenerationsWakeNothing, NewSerialsAreGreatest, NewNumbersWait, NewSerialsPassTheStatus, LogSectorsKeepTheCounter, CommitSectorsKeepTheCounter, HeadersKeepTheCounter, BarePlacesKeepTheCounter}
use Rattle.ipl_meaning.proofs.PutLemmas.{new_or_old}

-- what is read is below
pub read_below : (places : ℕ) (c : Chart) (it : Layout) (next p s : ℕ) (sector : Sector) → IsAbove places c it next → IsRead places c it p s sector → MentionsBelow next sector
read_below places c it next p s sector above read n mentions = above n (p, s, sector, read, mentions)

-- a live sector is read
live_is_read : (places : ℕ) (c : Chart) (it : Layout) (u q t : ℕ) (other : Sector) → u < it.count → IsLiveIn c places it u q t other → IsRead places c it q t other
live_is_read places c it u q t other low live = inr (inr (live.within.0, live.within.1, live.here, live.kind, elim live.counts [ inl at_home ↦ inl (u, low, at_home.0, at_home.1) | inr over ↦ inr over ]))

pub new_generations_wake_nothing : NewGenerationsWakeNothing
new_generations_wake_nothing places c it next generation u p q s sector above new live = elim live.counts [
  | inl at_home ↦ at_home
  | inr over ↦ absurd (
      let below : sector.generation < next = read_below places c it next q s sector above (inr (inr (live.within.0, live.within.1, live.here, live.kind, inr over))) sector.generation (inl refl) in
      omega (arith, below, live.of_generation, new))
]

pub new_serials_are_greatest : NewSerialsAreGreatest
new_serials_are_greatest places c it next serial above new = (
  λ q other low there fits.
      let below : other.serial < next = read_below places c it next q 0 other above (inl (refl, low, there, fits)) other.serial (inr (inl refl)) in omega (arith, below, new),
  λ u q t other low live.
      let below : other.serial < next = read_below places c it next q t other above (live_is_read places c it u q t other low live) other.serial (inr (inl refl)) in omega (arith, below, new),
)

-- a commit sector or a mark of the status place
abbrev pub IsOfStatus : Chart → ℕ → ℕ → ℕ → Sector → Type 0
IsOfStatus c status generation s sector = IsCommitSector c status generation s sector ⊎ IsMark c status generation s sector

-- it stands there, behind the header, and is of a kind
pub of_status_here : (c : Chart) (status generation s : ℕ) (sector : Sector) → IsOfStatus c status generation s sector
    → (c status s ≡ Some sector) × (1 ≤ s) × ((sector.kind ≡ 5) ⊎ (sector.kind ≡ 6) ⊎ (sector.kind ≡ 7))
of_status_here c status generation s sector (inl w) = (w.here, w.where_it_is.0, inr (inl w.kind))
of_status_here c status generation s sector (inr w) = (w.here, w.where_it_is.0, inr (inr w.kind))

-- it is one of another, where it stands and the generation is the same
of_status_there : (c y : Chart) (status other generation own s : ℕ) (sector : Sector) → c status s ≡ Some sector → own ≡ generation
    → IsOfStatus y other own s sector → IsOfStatus c status generation s sector
of_status_there c y status other generation own s sector there same (inl w) =
    inl (record { here = there; kind = w.kind; of_generation = w.of_generation ∙ same; where_it_is = w.where_it_is })
of_status_there c y status other generation own s sector there same (inr w) =
    inr (record { here = there; kind = w.kind; of_generation = w.of_generation ∙ same; where_it_is = w.where_it_is })

pub new_serials_pass_the_status : NewSerialsPassTheStatus
new_serials_pass_the_status places c it next serial above new = (
  λ s sector w. passed s sector (inr w),
  λ s sector w. passed s sector (inl w),
)
  where
    passed : (s : ℕ) (sector : Sector) → IsOfStatus c it.status it.head.generation s sector → sector.serial < serial
    passed s sector w =
        let below : sector.serial < next = read_below places c it next it.status s sector above (inr (inl (refl, w))) sector.serial (inr (inl refl)) in
        omega (arith, below, new)

pub new_numbers_wait : NewNumbersWait
new_numbers_wait places c it next tid laid above new = (
  elim (cases_Bool (it.committed tid)) [
    | inl is_so ↦
        let w = laid.commits.told tid is_so in
        let below : tid < next = read_below places c it next it.status w.number w.sector above (inr (inl (refl, inl w.is))) tid
        (inr (inr (inl (w.is.kind, w.numbers, w.spelled, w.has)))) in
        absurd (omega (arith, below, new))
    | inr is_not ↦ is_not
  ],
  λ u low k none within i d inside is.
      let e = get_or (it.units u).log k none in
      let was = (laid.each u low).log.each k none within in
      let r = get_or e.records i d in
      let below : r.tid < next = read_below places c it next e.place e.number e.sector above (live_is_read places c it u e.place e.number e.sector low was.live) r.tid
      (inr (inr (inr (was.live.kind, e.records, was.records, r, Contains-get_or e.records i d inside, refl)))) in
      omega (arith, below, new, is),
)

-- where all that is read now was read before, or is below
above_by : (places : ℕ) (c y : Chart) (it jt : Layout) (next : ℕ) → ((q t : ℕ) (x : Sector) → IsRead places y jt q t x → MentionsBelow next x ⊎ IsRead places c it q t x) → IsAbove places c it next → IsAbove places y jt next
above_by places c y it jt next each above n (q, t, x, read, mentions) = elim (each q t x read) [
  | inl below ↦ below n mentions
  | inr old ↦ above n (q, t, x, old, mentions)
]

-- a sector that is no header
module _ (places : ℕ) (c : Chart) (it jt : Layout) (p s : ℕ) (sector : Sector) (free : c p s ≡ None) (no_header : s ≢ 0) (next : ℕ) (below : MentionsBelow next sector)
    (status : jt.status ≡ it.status) (head : jt.head ≡ it.head) (count : jt.count ≡ it.count) (homes : (u : ℕ) → (jt.units u).home ≡ (it.units u).home) where
  abbrev y : Chart
  y = with_sector c p s sector

  new_below : (x : Sector) → sector ≡ x → MentionsBelow next x
  new_below x is = rw is at below

  header_before : (q : ℕ) (x : Sector) → y q 0 ≡ Some x → c q 0 ≡ Some x
  header_before q x there = elim (new_or_old c p s sector free q 0 x there) [ inl new ↦ absurd (no_header (sym new.1)) | inr old ↦ old ]

  spot_before : (q t : ℕ) → IsLogSpot y jt q t → IsLogSpot c it q t
  spot_before q t (inl (u, low, at_home, region)) = inl (u, rw count at low, at_home ∙ homes u, region)
  spot_before q t (inr (over, number)) = inr ((over.0, header_before q over.0 over.1, over.2), number)

  read_before : (q t : ℕ) (x : Sector) → IsRead places y jt q t x → MentionsBelow next x ⊎ IsRead places c it q t x
  read_before q t x (inl (header, low, there, fits)) = inr (inl (header, low, header_before q x there, fits))
  read_before q t x (inr (inl (at_status, w))) = elim (new_or_old c p s sector free jt.status t x (of_status_here y jt.status jt.head.generation t x w).0) [
    | inl new ↦ inl (new_below x new.2)
    | inr old ↦ inr (inr (inl (
      at_status ∙ status,
      of_status_there c y it.status jt.status it.head.generation jt.head.generation t x (ap (λ (z : ℕ). c z t) (sym status) ∙ old)
          (ap (λ (z : Sector). z.generation) head) w,
    )))
  ]
  read_before q t x (inr (inr (low, small, there, kind, spot))) = elim (new_or_old c p s sector free q t x there) [
    | inl new ↦ inl (new_below x new.2)
    | inr old ↦ inr (inr (inr (low, small, old, kind, spot_before q t spot)))
  ]

  above_with : IsAbove places c it next → IsAbove places y jt next
  above_with = above_by places c y it jt next read_before

pub log_sectors_keep_the_counter : LogSectorsKeepTheCounter
log_sectors_keep_the_counter places c it u p s sector records next may below =
    above_with places c it (with_log it u (record { place = p; number = s; sector = sector; records = records })) p s sector may.free (λ none. elim may.counts [ inl at_home ↦ omega (arith, at_home.1) | inr over ↦ omega (arith, over.1) ]) next below refl refl refl
    (λ v. elim (cases_eq v u) [ inl same ↦ rw (same, eq-eqb u u refl) refl | inr apart ↦ rw (ne_eqb v u apart) refl ])

pub commit_sectors_keep_the_counter : CommitSectorsKeepTheCounter
commit_sectors_keep_the_counter places c it s sector numbers committed next may below =
    above_with places c it (with_committed it committed) it.status s sector may.free (λ none. omega (arith, may.where_it_is.0)) next below refl refl refl (λ v. refl)

-- a header, after which homes and status are as before, or at the place
module _ (places : ℕ) (c : Chart) (it jt : Layout) (p : ℕ) (head : Sector) (free : c p 0 ≡ None) (is_header : IsHeader head) (next : ℕ) (below : MentionsBelow next head) (all_below : IsPlaceBelow next c p)
    (status : (jt.status ≡ p) ⊎ ((jt.status ≡ it.status) × (jt.head ≡ it.head))) (count : jt.count ≡ it.count) (homes : (u : ℕ) → ((jt.units u).home ≡ p) ⊎ ((jt.units u).home ≡ (it.units u).home)) where
  abbrev z : Chart
  z = with_sector c p 0 head

  -- a log sector, a commit sector or a mark was there before
  old_there : (q t : ℕ) (x : Sector) → z q t ≡ Some x → (x.kind ≡ 5) ⊎ (x.kind ≡ 6) ⊎ (x.kind ≡ 7) → c q t ≡ Some x
  old_there q t x there kind = elim (new_or_old c p 0 head free q t x there) [
    | inl new ↦ absurd (let same = ap (λ (z : Sector). z.kind) new.2 in elim kind [
      | inl five ↦ omega (arith, same, five, is_header.1)
      | inr (inl six) ↦ omega (arith, same, six, is_header.1)
      | inr (inr seven) ↦ omega (arith, same, seven, is_header.1)
    ])
    | inr old ↦ old
  ]

  at_place : (q t : ℕ) (x : Sector) → q ≡ p → c q t ≡ Some x → (x.kind ≡ 5) ⊎ (x.kind ≡ 6) ⊎ (x.kind ≡ 7) → MentionsBelow next x
  at_place q t x at there kind = all_below t x (rw at at there) kind

  spot_or_place : (q t : ℕ) → IsLogSpot z jt q t → (q ≡ p) ⊎ IsLogSpot c it q t
  spot_or_place q t (inl (u, low, at_home, region)) = elim (homes u) [ inl at ↦ inl (at_home ∙ at) | inr same ↦ inr (inl (u, rw count at low, at_home ∙ same, region)) ]
  spot_or_place q t (inr (over, number)) = elim (new_or_old c p 0 head free q 0 over.0 over.1) [ inl new ↦ inl new.0 | inr old ↦ inr (inr ((over.0, old, over.2), number)) ]

  read_then : (q t : ℕ) (x : Sector) → IsRead places z jt q t x → MentionsBelow next x ⊎ IsRead places c it q t x
  read_then q t x (inl (header, low, there, fits)) = elim (new_or_old c p 0 head free q 0 x there) [
    | inl new ↦ inl (rw new.2 at below)
    | inr old ↦ inr (inl (header, low, old, fits))
  ]
  read_then q t x (inr (inl (at_status, w))) =
      let (there, number, kind) = of_status_here z jt.status jt.head.generation t x w in
      let old = old_there jt.status t x there kind in
      elim status [
        | inl at ↦ inl (at_place jt.status t x at old kind)
        | inr same ↦ inr (inr (inl (
          at_status ∙ same.0,
          of_status_there c z it.status jt.status it.head.generation jt.head.generation t x (ap (λ (z : ℕ). c z t) (sym same.0) ∙ old)
              (ap (λ (z : Sector). z.generation) same.1) w,
        )))
      ]
  read_then q t x (inr (inr (low, small, there, kind, spot))) =
      let old = old_there q t x there (inl kind) in
      elim (spot_or_place q t spot) [
        | inl at ↦ inl (at_place q t x at old (inl kind))
        | inr before ↦ inr (inr (inr (low, small, old, kind, before)))
      ]

  above_then : IsAbove places c it next → IsAbove places z jt next
  above_then = above_by places c z it jt next read_then

pub headers_keep_the_counter : HeadersKeepTheCounter
headers_keep_the_counter places c it p head next free is_header below all_below above = (
  λ u fresh home. above_then places c it (with_unit it u fresh) p head free is_header next below all_below (inr (refl, refl)) refl
      (λ v. elim (cases_eq v u) [ inl same ↦ inl (rw (same, eq-eqb u u refl) home) | inr apart ↦ inr (rw (ne_eqb v u apart) refl) ]) above,
  λ committed. above_then places c it (with_status it p head committed) p head free is_header next below all_below (inl refl) refl (λ v. inr refl) above,
  λ over. above_then places c it it p head free is_header next below all_below (inr (refl, refl)) refl (λ v. inr refl) above,
)

pub bare_places_keep_the_counter : BarePlacesKeepTheCounter
bare_places_keep_the_counter places c it p y next not_status not_home same bare = above_by places c y it it next read_still
  where
    back : (q t : ℕ) (x : Sector) → q ≢ p → y q t ≡ Some x → c q t ≡ Some x
    back q t x apart there = sym (same q t apart) ∙ there

    has_header : (q : ℕ) (x : Sector) → y q 0 ≡ Some x → q ≢ p
    has_header q x there at = let none : y q 0 ≡ None = rw at bare in cc (there, none)

    spot_still : (q t : ℕ) → IsLogSpot y it q t → (q ≢ p) × IsLogSpot c it q t
    spot_still q t (inl (u, low, at_home, region)) = ((λ at. not_home u low (sym at_home ∙ at)), inl (u, low, at_home, region))
    spot_still q t (inr (over, number)) = let apart = has_header q over.0 over.1 in (apart, inr ((over.0, back q 0 over.0 apart over.1, over.2), number))

    read_still : (q t : ℕ) (x : Sector) → IsRead places y it q t x → MentionsBelow next x ⊎ IsRead places c it q t x
    read_still q t x (inl (header, low, there, fits)) = inr (inl (header, low, back q 0 x (has_header q x there) there, fits))
    read_still q t x (inr (inl (at_status, w))) =
        inr (inr (inl (
          at_status,
          of_status_there c y it.status it.status it.head.generation it.head.generation t x
              (back it.status t x not_status (of_status_here y it.status it.head.generation t x w).0) refl w,
        )))
    read_still q t x (inr (inr (low, small, there, kind, spot))) = let (apart, before) = spot_still q t spot in inr (inr (inr (low, small, back q t x apart there, kind, before)))
