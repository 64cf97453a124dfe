-- The places that the tables know, once the status has a new one.
use Rattle.std.proofs.Common.{◌≡◌, ◌<◌, ℕ, true, false, List, length, slice_set, inl, inr, refl, sym, ◌∙◌, ap, subst, arith}
use Rattle.std.specs.List.{AllPairs, Contains}
use Rattle.std.proofs.lemmas.List.{length-set}
use Rattle.ipl_base.specs.declared.fault.ChipFault.{ChipFault}
use Rattle.ipl_base.specs.Places.{KeepsUnits}
use Rattle.ipl_meaning.specs.Mirrors.{AreApart}
use Rattle.ipl_meaning.specs.Tables.{IsFree, with_erased, Places, StatusTable, Tables, overflow_places}
use Rattle.selective_merge.specs.Known.{IsNamed, KnowsPlaces}
use Rattle.selective_merge.proofs.KnownLemmas.{known_places_may_be_aside}
use Rattle.place_taking.specs.Takes.{IsAsideFrom, with_places}
use Rattle.place_taking.proofs.HomeLemmas.{homes_same, homes_then}
use Rattle.selective_merge.specs.Moving.{Holds}
use Rattle.unit_directory.specs.Free.{aside}
use Rattle.unit_directory.specs.Laws.{UsesTake, DisusesGiveBack}
use Rattle.restart.specs.Renewed.{HasTables, with_tables, IsGivenBack}
use Rattle.restart.proofs.PlaceLemmas.{IsMovedTo, none_lost, then_free}

module _ (takes : UsesTake) (gives_back : DisusesGiveBack) (places p : ℕ) (d : Places)
    (status : StatusTable) (next : ℕ) (kept : List ℕ) (sized : length d.in_use ≡ places)
    (free : IsFree d p) (within : p < places)
    (after : Places) (new : StatusTable) (drawn : ℕ) (is : IsMovedTo p d status next kept after new drawn)
    (t : Tables) (has : HasTables t d status next) (known : KnowsPlaces places t) where
  -- what is named isn't free
  busy : (q : ℕ) → IsNamed t q → ¬ IsFree d q
  busy q named free_q =
      known.used q named (subst (λ (e : Places). IsFree e q) (sym has.places_is) free_q)

  -- so the new place isn't named, and the old one is
  unnamed : ¬ IsNamed t p
  unnamed named = busy p named free

  old_is : status.place ≡ t.status.place
  old_is = sym (ap (λ (s : StatusTable). s.place) has.status_is)

  homes : after.current ≡ t.places.current
  homes =
      ap (λ (e : Places). e.current) is.places_is
      ∙ sym (ap (λ (e : Places). e.current) has.places_is)

  -- a place that was named, and isn't the old status place
  still_busy : (q : ℕ) → IsNamed t q → ¬ (q ≡ t.status.place) → ¬ IsFree after q
  still_busy q named apart free_q = elim (then_free takes gives_back places p d status next kept
      sized free within after new drawn is q free_q) [
        | inl before ↦ busy q named (((takes d p).free q).0 before).0
        | inr old ↦ apart (old ∙ old_is)
      ]

  place_is : new.place ≡ p
  place_is = ap (λ (s : StatusTable). s.place) is.status_is

  used_then : (q : ℕ) → IsNamed (with_tables t after new drawn) q → ¬ IsFree after q
  used_then q (inl home) =
      let was : Contains t.places.current q =
      subst (λ (l : List ℕ). Contains l q) homes home in
      still_busy q (inl was)
      (λ at. known.status_apart.0 (subst (Contains t.places.current) at was))
  used_then q (inr (inl at)) = λ free_q. elim (then_free takes gives_back places p d status next
      kept sized free within after new drawn is q free_q) [
        | inl before ↦ (((takes d p).free q).0 before).1 (at ∙ place_is)
        | inr old ↦ unnamed (inr (inl (sym (at ∙ place_is) ∙ old ∙ old_is)))
      ]
  used_then q (inr (inr there)) = still_busy q (inr (inr there))
      (λ at. known.status_apart.1 (subst (Contains (overflow_places t)) at there))

  -- a retired place was retired: it is neither free nor named
  retired_then : (q : ℕ) → Contains after.retired q
      → (¬ IsNamed (with_tables t after new drawn) q) × (¬ IsFree after q)
  retired_then q has_q =
      let was = known.retired_apart q (subst (λ (l : List ℕ). Contains l q)
      (ap (λ (e : Places). e.retired) is.places_is
      ∙ sym (ap (λ (e : Places). e.retired) has.places_is)) has_q) in (
        λ named. elim named [
          | inl home ↦ was.0 (inl (subst (λ (l : List ℕ). Contains l q) homes home))
          | inr (inl at) ↦ was.1 (subst (λ (e : Places). IsFree e q) (sym has.places_is)
              (subst (IsFree d) (sym (at ∙ place_is)) free))
          | inr (inr there) ↦ was.0 (inr (inr there))
        ],
        λ free_q. elim (then_free takes gives_back places p d status next kept sized free within
            after new drawn is q free_q) [
              | inl before ↦ was.1 (subst (λ (e : Places). IsFree e q) (sym has.places_is)
                  (((takes d p).free q).0 before).0)
              | inr old ↦ was.0 (inr (inl (old ∙ old_is)))
            ],
      )

  pub known_renewed : KnowsPlaces places (with_tables t after new drawn)
  known_renewed = record {
    suits = record {
      all = ap (λ (e : Places). length e.in_use) is.places_is
          ∙ length-set (slice_set d.in_use p true) status.place false
          ∙ length-set d.in_use p true
          ∙ sym (ap (λ (e : Places). length e.in_use) has.places_is) ∙ known.suits.all;
      units = subst (λ (l : List ℕ). KeepsUnits places (length l)) (sym homes) known.suits.units;
      overflow = known.suits.overflow ∙ sym (ap (λ (l : List ℕ). length l) homes);
      sized = known.suits.sized;
    };
    none_lost = none_lost takes gives_back places p d status next kept sized free within after new drawn
        is t has known.none_lost;
    used = used_then;
    retired_apart = retired_then;
    homes_apart = subst (AllPairs AreApart) (sym homes) known.homes_apart;
    overflows_apart = known.overflows_apart;
    no_home = λ q there home. known.no_home q there
        (subst (λ (l : List ℕ). Contains l q) homes home);
    status_apart = (
      λ home. unnamed (inl (subst (λ (l : List ℕ). Contains l p) homes
          (subst (Contains after.current) place_is home))),
      λ there. unnamed (inr (inr (subst (Contains (overflow_places t)) place_is there))),
    );
    two = known.two;
    status_placed = omega (arith, place_is, within);
  }

-- and where nothing has changed but the counter
pub known_same : (places : ℕ) (t : Tables) (after : Places) (new : StatusTable) (drawn : ℕ)
    → after ≡ t.places → new ≡ t.status → KnowsPlaces places t
    → KnowsPlaces places (with_tables t after new drawn)
known_same places t after new drawn same still known =
    subst (λ (e : Places). KnowsPlaces places (with_tables t e new drawn)) (sym same)
    (subst (λ (s : StatusTable). KnowsPlaces places (with_tables t t.places s drawn)) (sym still)
    (record {
      suits = record {
        all = known.suits.all;
        units = known.suits.units;
        overflow = known.suits.overflow;
        sized = known.suits.sized;
      };
      none_lost = known.none_lost;
      used = known.used;
      retired_apart = known.retired_apart;
      homes_apart = known.homes_apart;
      overflows_apart = known.overflows_apart;
      no_home = known.no_home;
      status_apart = known.status_apart;
      two = known.two;
      status_placed = known.status_placed;
    }))

-- how often a place was erased is all the same
known_erased : (places : ℕ) (t : Tables) (p : ℕ) → KnowsPlaces places t
    → KnowsPlaces places (with_tables t (with_erased t.places p) t.status t.next)
known_erased places t p known = record {
  suits = record {
    all = known.suits.all;
    units = known.suits.units;
    overflow = known.suits.overflow;
    sized = known.suits.sized;
  };
  none_lost = known.none_lost;
  used = known.used;
  retired_apart = known.retired_apart;
  homes_apart = known.homes_apart;
  overflows_apart = known.overflows_apart;
  no_home = known.no_home;
  status_apart = known.status_apart;
  two = known.two;
  status_placed = known.status_placed;
}

-- they know each place where some were found worn
pub known_aside : (places : ℕ) (t : Tables) (after : Places) (new : StatusTable) (drawn : ℕ)
    → IsAsideFrom t.places after → new ≡ t.status → KnowsPlaces places t
    → KnowsPlaces places (with_tables t after new drawn)
known_aside places t after new drawn from still known =
    known_same places (with_places t (aside t.places from.worn)) after new drawn from.places_is still
    (known_places_may_be_aside places t from.worn known from.in_turn)

-- and where the new one was given back
pub known_back : (places : ℕ) (t : Tables) (after : Places) (new : StatusTable) (drawn : ℕ) (fault : ChipFault)
    → IsGivenBack t.places fault after → new ≡ t.status → KnowsPlaces places t
    → KnowsPlaces places (with_tables t after new drawn)
known_back places t after new drawn fault (inl from) still known =
    known_aside places t after new drawn from still known
known_back places t after new drawn fault (inr (stopped, (mid, p, from, next_free, erased))) still known =
    known_same places (with_tables t (with_erased mid p) t.status t.next) after new drawn erased still
    (known_erased places (with_tables t mid t.status t.next) p
    (known_aside places t mid t.status t.next from refl known))

-- ---- what a call leaves of them

-- tables that know each place hold
pub held_same : (places : ℕ) (t : Tables) → KnowsPlaces places t → Holds places t t
held_same places t known = record {
  units = refl;
  homes = homes_same t.places t.places refl refl;
  active = refl;
  status = refl;
  known = known;
}

-- what holds after two calls
pub held_then : (places : ℕ) (t between after : Tables) → Holds places t between
    → Holds places between after → Holds places t after
held_then places t between after first second = record {
  units = second.units ∙ first.units;
  homes = homes_then t.places between.places after.places first.homes second.homes;
  active = second.active ∙ first.active;
  status = second.status ∙ first.status;
  known = second.known;
}
