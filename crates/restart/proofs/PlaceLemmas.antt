-- A new status place, in all tables.
use Rattle.std.proofs.Common.{◌≡◌, ◌⊎◌, ◌<◌, ◌≤◌, ◌+◌, ℕ, Bool, true, false, List, length, slice_index, slice_set, Some, None, inl, inr, refl, sym, ◌∙◌, ap, subst, arith}
use Rattle.std.specs.List.{Contains}
use Rattle.std.proofs.lemmas.Bool.{cases_eq, cases_lt}
use Rattle.std.proofs.lemmas.List.{length-set, set_past}
use Rattle.chip_trait.specs.Lawful.{Clean, age}
use Rattle.chip_trait.specs.Told.{History, Told}
use Rattle.ipl_format.specs.Sector.{Sector}
use Rattle.ipl_meaning.proofs.StandsLemmas.{pages_then}
use Rattle.ipl_meaning.specs.Legible.{Legible}
use Rattle.ipl_meaning.specs.Chart.{Chart, chart_of}
use Rattle.ipl_meaning.specs.Layout.{Layout}
use Rattle.ipl_meaning.specs.Mirrors.{Mirrors, NoneIsLost}
use Rattle.ipl_meaning.specs.Rests.{now}
use Rattle.ipl_meaning.specs.Steps.{KeepsPages}
use Rattle.ipl_meaning.specs.Tables.{IsFree, with_use, with_erased, Places, StatusTable, Tables}
use Rattle.ipl_meaning.specs.TableSteps.{taken}
use Rattle.ipl_meaning.proofs.IdleLemmas.{idle_places_do_not_count}
use Rattle.ipl_meaning.proofs.IdleFollowLemmas.{places_may_be_taken}
use Rattle.ipl_meaning.proofs.MirrorLemmas.{free_places_are_idle}
use Rattle.txn_status.specs.Adding.{HasStatus}
use Rattle.txn_status.specs.Status.{parts_of, switched_to}
use Rattle.txn_status.specs.Switching.{IsTaken, MayKeep, FitsHeader, IsSwitched, IsReadyToSwitch, Switched, Switches}
use Rattle.unit_io.specs.Steps.{RestsAgreeing}
use Rattle.unit_directory.specs.Free.{AreNext, aside}
use Rattle.unit_directory.specs.Laws.{UsesTake, DisusesGiveBack}
use Rattle.unit_io.specs.Charts.{Charts, IsCleared}
use Rattle.place_taking.proofs.TurnLemmas.{given_back}
use Rattle.place_taking.specs.Takes.{with_places}
use Rattle.selective_merge.specs.Known.{KnowsPlaces}
use Rattle.selective_merge.proofs.KnownLemmas.{known_places_may_be_aside}
use Rattle.selective_merge.proofs.TakenLemmas.{aside_mirrors, cleared_mirrors}
use Rattle.restart.specs.Renewed.{HasTables, with_tables, MayRenew, Renews}
use Rattle.restart.proofs.ReadyLemmas.{resting_layouts_say}

-- the directory with the place as the status place, erased once more, and the old one free
abbrev pub moved : Places → ℕ → ℕ → Places
moved d p old = with_use (with_erased (with_use d p true) p) old false

-- how often the place was erased then
abbrev pub erases_then : Places → ℕ → ℕ
erases_then d p = slice_index (with_erased d p).erases p

-- to free what is no place of the chip changes nothing
none_used : (d : Places) (p : ℕ) → length d.in_use ≤ p → with_use d p false ≡ d
none_used d p past =
    ap (λ (l : List Bool). record d { in_use = l }) (set_past d.in_use p false past)

-- a place that was free, taken, erased and given back counts one erase more
pub erased_back : (d : Places) (p : ℕ) → IsFree d p
    → with_use (with_erased (with_use d p true) p) p false ≡ with_erased d p
erased_back d p free = ap (λ (e : Places). with_erased e p) (given_back d p free)

-- what was done to the tables
pub record IsMovedTo (p : ℕ) (d : Places) (status : StatusTable) (next : ℕ) (kept : List ℕ)
    (after : Places) (new : StatusTable) (drawn : ℕ) : Type 0 where
  pub places_is : after ≡ moved d p status.place
  pub status_is : new ≡ switched_to status.most p next kept
  pub drawn_is : drawn ≡ next + 1 + parts_of kept

-- by the calls of the directory, one after the other
pub moved_to : (p old : ℕ) (d taken_one after : Places) (status new : StatusTable) (next drawn : ℕ)
    (kept : List ℕ) → taken_one ≡ with_erased (with_use d p true) p → old ≡ status.place
    → after ≡ with_use taken_one old false
    → new ≡ switched_to status.most p next kept → drawn ≡ next + 1 + parts_of kept
    → IsMovedTo p d status next kept after new drawn
moved_to p old d taken_one after status new next drawn kept first at then_is is many = record {
  places_is = rw (then_is, first, at) refl;
  status_is = is;
  drawn_is = many;
}

module _ (takes : UsesTake) (gives_back : DisusesGiveBack) (places p : ℕ) (d : Places)
    (status : StatusTable) (next : ℕ) (kept : List ℕ) (sized : length d.in_use ≡ places)
    (free : IsFree d p) (within : p < places) where
  -- ---- what the tables ask of the place

  module _ (it : Layout) (t : Tables) (has : HasTables t d status next)
      (may : MayRenew it t kept) where
    free_there : IsFree t.places p
    free_there = subst (λ (e : Places). IsFree e p) (sym has.places_is) free

    pub has_status : HasStatus (taken t p) status next
    has_status = record { status_is = has.status_is; next_is = has.next_is }

    pub fits_header : FitsHeader (taken t p) p (length d.current) (erases_then d p) d.retired
    fits_header = record {
      counts = record {
        units_are = ap (λ (e : Places). length e.current) has.places_is;
        erases_are = ap (λ (e : Places). erases_then e p) has.places_is;
      };
      retired_are = ap (λ (e : Places). e.retired) has.places_is;
    }

    -- nothing checks there then
    none_there : (c y : Chart) → IsCleared p c y → (s : ℕ) (sector : Sector) → y p s ≡ Some sector → ⊥
    none_there c y cleared s sector here =
        absurd (let e : Some sector ≡ None = sym here ∙ cleared.bare s in cc)

    -- once it was cleared
    is_taken : (c y : Chart) → Mirrors places c it t → IsCleared p c y
        → IsTaken places y it (taken t p) p
    unfolding free_there
    is_taken c y mirrors cleared =
        let idle = free_places_are_idle places c it t p mirrors free_there in record {
          idle = record {
            not_status = idle.not_status;
            not_home = idle.not_home;
            no_live = λ u low s sector live. none_there c y cleared s sector live.here;
          };
          not_overflow = mirrors.directory.not_overflow p free_there;
          in_use = λ still. let gone = ((takes t.places p).free p).0 still in gone.1 refl;
          bare = cleared.bare;
        }

    may_keep : MayKeep (taken t p) kept
    may_keep = record { below = may.may.below; waits = may.may.waits }

    pub ready : (h k : History) (m : Legible) → Mirrors places (now h) it t
        → RestsAgreeing places m it (taken t p) k → IsCleared p (now h) (now k)
        → ((s : ℕ) → age k.story p s ≡ Clean) → IsReadyToSwitch places k it (taken t p) m p kept
    ready h k m mirrors there cleared clean = record {
      rests = there.rests;
      agrees = there.agrees;
      says = resting_layouts_say places k it m there.rests there.agrees.mirrors.laid;
      taken = is_taken (now h) (now k) mirrors cleared;
      clean = clean;
      may = may_keep;
      keeps = may.keeps;
    }

    -- all pages show the same once it was cleared
    still_shown : (c y : Chart) → Mirrors places c it t → IsCleared p c y → KeepsPages places c it y it
    unfolding free_there
    still_shown c y mirrors cleared =
        (idle_places_do_not_count places c it p y mirrors.laid
        (free_places_are_idle places c it t p mirrors free_there) cleared.others (record {
          unit_header = λ u low sector here fits. absurd (none_there c y cleared 0 sector here);
          status = λ sector here fits. absurd (none_there c y cleared 0 sector here);
          no_live = λ u low s sector live. none_there c y cleared s sector live.here;
        })).1

  -- ---- the tables then

  module _ (after : Places) (new : StatusTable) (drawn : ℕ)
      (is : IsMovedTo p d status next kept after new drawn) where
    pub then_free : (q : ℕ) → IsFree after q → IsFree (with_use d p true) q ⊎ (q ≡ status.place)
    then_free q free_then =
        let then_is : IsFree (moved d p status.place) q =
        subst (λ (e : Places). IsFree e q) is.places_is free_then in
        elim (cases_lt status.place (length (with_use d p true).in_use)) [
          | inl low ↦ ((gives_back (with_use d p true) status.place low).free q).0 then_is
          | inr past ↦ inl (subst (λ (e : Places). IsFree e q)
              (none_used (with_use d p true) status.place past) then_is)
        ]

    -- of the directory that the tables have
    places_then : (t : Tables) → HasTables t d status next → after ≡ moved t.places p status.place
    places_then t has =
        is.places_is ∙ ap (λ (e : Places). moved e p status.place) (sym has.places_is)

    pub switched : (t : Tables) → HasTables t d status next
        → IsSwitched (taken t p) (with_tables t after new drawn) p next kept
    switched t has = record {
      renewed = record {
        current = ap (λ (e : Places). e.current) (places_then t has);
        written = ap (λ (e : Places). e.written) (places_then t has);
        generations = ap (λ (e : Places). e.generations) (places_then t has);
        masks = ap (λ (e : Places). e.masks) (places_then t has);
        erases = ap (λ (e : Places). e.erases) (places_then t has);
        retired = ap (λ (e : Places). e.retired) (places_then t has);
        all = ap (λ (e : Places). length e.in_use) (places_then t has)
            ∙ length-set (slice_set t.places.in_use p true) status.place false;
        free = λ q free_then. elim (then_free q free_then) [
          | inl before ↦ inl
              (subst (λ (e : Places). IsFree (with_use e p true) q) (sym has.places_is) before)
          | inr old ↦ inr (old ∙ sym (ap (λ (s : StatusTable). s.place) has.status_is))
        ];
        overflow = refl;
        place = ap (λ (s : StatusTable). s.place) is.status_is;
        generation = ap (λ (s : StatusTable). s.generation) is.status_is;
        first = ap (λ (s : StatusTable). s.first) is.status_is;
        next = let old = has.next_is in let new_is = is.drawn_is in omega (arith, old, new_is);
        active = refl;
      };
      has = record {
        status_is = is.status_is
            ∙ ap (λ (most : ℕ). switched_to most p next kept) (sym (ap (λ (s : StatusTable). s.most) has.status_is));
        next_is = is.drawn_is;
      };
    }

    at_place : p ≡ new.place
    at_place = sym (ap (λ (s : StatusTable). s.place) is.status_is)

    -- it was cleared, and the status switched to it
    pub renewed_there : (it : Layout) (t : Tables) (has : HasTables t d status next)
        (may : MayRenew it t kept) (c y z : Chart) → Mirrors places c it t → IsCleared p c y
        → Switches places (length d.current) (erases_then d p) d.retired status next p kept y z
        → Switched places c z it (with_tables t after new drawn) new.place next kept
    renewed_there it t has may c y z mirrors cleared made =
        let then : Tables = with_tables t after new drawn in
        let there = places_may_be_taken places y it t p
        (cleared_mirrors places c y it t p mirrors (free_there it t has may) cleared) within in
        let done = made it (taken t p) then there (has_status it t has may)
        (fits_header it t has may) (is_taken it t has may c y mirrors cleared)
        (may_keep it t has may) (switched t has) in
        subst (λ (q : ℕ). Switched places c z it then q next kept) at_place (record {
          head = done.head;
          is_head = done.is_head;
          mirrors = done.mirrors;
          unmarked = done.unmarked;
          pages = λ keeps. pages_then places c y z it it _ refl (still_shown it t has may c y mirrors cleared) (done.pages keeps);
        })

    -- what was free before is free then, but for the place, and so is the old one
    freed : (q : ℕ) → IsFree (with_use d p true) q ⊎ ((q ≡ status.place) × (q < places))
        → IsFree after q
    freed q either =
        subst (λ (e : Places). IsFree e q) (sym is.places_is)
        (elim (cases_lt status.place (length (with_use d p true).in_use)) [
          | inl low ↦ ((gives_back (with_use d p true) status.place low).free q).1 (elim either [
            | inl before ↦ inl before
            | inr old ↦ inr old.0
          ])
          | inr past ↦ subst (λ (e : Places). IsFree e q)
              (sym (none_used (with_use d p true) status.place past)) (elim either [
                | inl before ↦ before
                | inr old ↦
                    let as_many = length-set d.in_use p true in
                    absurd (omega (arith, old.0, old.1, past, as_many, sized))
              ])
        ])

    -- no place is lost
    pub none_lost : (t : Tables) → HasTables t d status next → NoneIsLost places t
        → NoneIsLost places (with_tables t after new drawn)
    none_lost t has none q low used = elim (cases_eq q p) [
      | inl at ↦ inr (inl (at ∙ at_place))
      | inr other ↦
          let busy : ¬ IsFree t.places q = λ free_q. used (freed q (inl
          (((takes d p).free q).1
          (subst (λ (e : Places). IsFree e q) has.places_is free_q, other)))) in
          elim (none q low busy) [
            | inl home ↦ inl (subst (λ (l : List ℕ). Contains l q)
                (ap (λ (e : Places). e.current) has.places_is
                ∙ sym (ap (λ (e : Places). e.current) is.places_is)) home)
            | inr (inl old) ↦ absurd (used (freed q
                (inr (old ∙ ap (λ (s : StatusTable). s.place) has.status_is, low))))
            | inr (inr (inl there)) ↦ inr (inr (inl there))
            | inr (inr (inr retired)) ↦ inr (inr (inr (subst (λ (l : List ℕ). Contains l q)
                (ap (λ (e : Places). e.retired) has.places_is
                ∙ sym (ap (λ (e : Places). e.retired) is.places_is)) retired)))
          ]
    ]

-- ---- places that were found worn before

-- the tables with them set aside
module _ (first : Places) (worn : List ℕ) (in_turn : AreNext first worn) (status : StatusTable)
    (next : ℕ) (t : Tables) (has : HasTables t first status next) where
  in_tables : AreNext t.places worn
  in_tables = subst (λ (e : Places). AreNext e worn) (sym has.places_is) in_turn

  pub has_between : HasTables (with_places t (aside first worn)) (aside first worn) status next
  has_between = record {
    places_is = refl;
    status_is = has.status_is;
    next_is = has.next_is;
  }

  pub mirrors_between : (places : ℕ) (c : Chart) (it : Layout) → Mirrors places c it t
      → Mirrors places c it (with_places t (aside first worn))
  mirrors_between places c it mirrors =
      subst (λ (e : Places). Mirrors places c it (with_places t (aside e worn))) has.places_is
      (aside_mirrors places c it t worn mirrors in_tables)

  pub known_between : (places : ℕ) → KnowsPlaces places t
      → KnowsPlaces places (with_places t (aside first worn))
  known_between places known =
      subst (λ (e : Places). KnowsPlaces places (with_places t (aside e worn))) has.places_is
      (known_places_may_be_aside places t worn known in_tables)

  pub may_between : (it : Layout) (kept : List ℕ) → MayRenew it t kept
      → MayRenew it (with_places t (aside first worn)) kept
  may_between it kept may = record {
    keeps = may.keeps;
    may = record { below = may.may.below; waits = may.may.waits };
  }

-- what is told of the contents
pub renews_told : (takes : UsesTake) (gives_back : DisusesGiveBack) (places p : ℕ) (first : Places)
    (worn : List ℕ) (in_turn : AreNext first worn) (status : StatusTable) (next : ℕ) (kept : List ℕ)
    (sized : length (aside first worn).in_use ≡ places) (free : IsFree (aside first worn) p)
    (within : p < places) (after : Places) (new : StatusTable) (drawn : ℕ)
    (is : IsMovedTo p (aside first worn) status next kept after new drawn) (old mid told : Told)
    → Charts (IsCleared p) old mid
    → Charts (Switches places (length (aside first worn).current) (erases_then (aside first worn) p)
    (aside first worn).retired status next p kept) mid told
    → Charts (Renews places first status next kept after new drawn) old told
renews_told takes gives_back places p first worn in_turn status next kept sized free within after new
    drawn is old mid told clears switches x told_x =
    let (y, told_y, cleared) = clears x told_x in
    let (z, told_z, made) = switches y told_y in (
      z,
      told_z,
      λ it t has mirrors may. renewed_there takes gives_back places p (aside first worn) status next
          kept sized free within after new drawn is it (with_places t (aside first worn))
          (has_between first worn in_turn status next t has)
          (may_between first worn in_turn status next t has it kept may) (chart_of x) (chart_of y)
          (chart_of z) (mirrors_between first worn in_turn status next t has places (chart_of x) it
          mirrors) cleared made,
    )
