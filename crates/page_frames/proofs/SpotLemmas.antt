-- Spots for log sectors, and the tables once one is written there.
use Rattle.std.proofs.Common.{◌≡◌, ◌<◌, ◌+◌, ℕ, List, [], ◌∷◌, ◌++◌, length, slice_index, inl, inr, refl, sym, ◌∙◌, ap, subst, arith}
use Rattle.std.specs.List.{AllPairs, Contains}
use Rattle.std.proofs.lemmas.List.{length-set, length-map, set-get_or}
use Rattle.std.proofs.lemmas.List.Elements.{All-contains}
use Rattle.ipl_meaning.specs.Mirrors.{AreApart}
use Rattle.ipl_meaning.specs.Tables.{Tables, IsCountedClean, overflow_places, spots_of, with_written, with_mask, first_log, written_of}
use Rattle.ipl_meaning.specs.TableSteps.{after_overflow_log, with_next, with_next_spot}
use Rattle.ipl_meaning.proofs.CountedLemmas.{same_places}
use Rattle.ipl_meaning.proofs.KnownLogLemmas.{counted_few}
use Rattle.unit_directory.specs.Directory.{IsSoundDirectory}
use Rattle.overflow.specs.Lists.{IsPlaceOf, IsUnused, IsSoundOverflow, after_add}
use Rattle.overflow.specs.Laws.{FirstSpotsAreAdded}
use Rattle.place_taking.specs.Homes.{KeepsHomes}
use Rattle.place_taking.proofs.HomeLemmas.{homes_same, homes_then}
use Rattle.selective_merge.specs.Known.{Suits, IsNamed, KnowsPlaces}
use Rattle.selective_merge.specs.Moving.{Holds}
use Rattle.selective_merge.proofs.HeldLemmas.{homes_moved}
use Rattle.selective_merge.specs.Spotting.{IsHomeSpot, IsSpotFor}
use Rattle.page_frames.specs.Writing.{IsAfterLog}

-- ---- a spot

-- it was counted as clean
pub spot_counted : (t : Tables) (u p s : ℕ) → u < length t.places.current → IsSpotFor t u p s
    → IsCountedClean t p s
spot_counted t u p s low (inl home) =
    let few = counted_few (slice_index t.places.written u) (omega (arith, home.left)) in
    (omega (arith, home.left, home.sector), inl (u, low, home.place, omega (arith, home.sector, few)))
spot_counted t u p s low (inr over) = (over.within.1, inr (inl (s, over.first, omega arith)))

-- it is a sector of the chip
pub spot_within : (places : ℕ) (t : Tables) (u p s : ℕ) → Suits places t → u < length t.places.current
    → IsSoundDirectory t.places → IsSoundOverflow t.overflow → IsSpotFor t u p s
    → (p < places) × (s < 256)
spot_within places t u p s suits low directory overflow (inl home) =
    let within = directory.within u low in (
      omega (arith, within, home.place, suits.all),
      omega (arith, home.left, home.sector),
    )
spot_within places t u p s suits low directory overflow (inr over) =
    let within = All-contains (IsPlaceOf t.overflow.places) t.overflow.in_use (p, s)
    overflow.placed over.first in
    (omega (arith, within, suits.sized), over.within.1)

-- one that isn't at home
pub elsewhere_within : (t : Tables) (u p s : ℕ) → IsSpotFor t u p s → ¬ IsHomeSpot t u p s
    → IsSoundOverflow t.overflow
    → (length (spots_of t u) < 16) × (p < t.overflow.places) × (s < 256)
elsewhere_within t u p s (inl home) other overflow = absurd (other home)
elsewhere_within t u p s (inr over) other overflow = (
  over.few,
  All-contains (IsPlaceOf t.overflow.places) t.overflow.in_use (p, s) overflow.placed
      over.first,
  over.within.1,
)

-- and isn't used yet
pub elsewhere_unused : (t : Tables) (u p s : ℕ) → IsSpotFor t u p s → ¬ IsHomeSpot t u p s
    → IsUnused t.overflow.in_use p s
elsewhere_unused t u p s (inl home) other = absurd (other home)
elsewhere_unused t u p s (inr over) other = (s, over.first, omega arith)

-- it stays one where a number is drawn
pub spot_drawn : (t : Tables) (n u p s : ℕ) → IsSpotFor t u p s → IsSpotFor (with_next t n) u p s
spot_drawn t n u p s (inl home) =
    inl (record { left = home.left; place = home.place; sector = home.sector })
spot_drawn t n u p s (inr over) =
    inr (record { first = over.first; within = over.within; few = over.few })

-- ---- the tables once it is written

pub spot_of_log : (t after : Tables) (u p s mask next : ℕ) → IsAfterLog t after u p s mask next
    → IsSpotFor t u p s
spot_of_log t after u p s mask next (inl (home, is)) = inl home
spot_of_log t after u p s mask next (inr (over, is)) = inr over

-- a spot that isn't at home is one of an overflow place
pub after_overflow : (t after : Tables) (u p s mask : ℕ) → FirstSpotsAreAdded → IsSpotFor t u p s
    → ¬ IsHomeSpot t u p s → AllPairs AreApart (overflow_places t)
    → after.overflow ≡ after_add t.overflow u p s mask → after.places ≡ t.places
    → after.status ≡ t.status → after.next ≡ t.next → after.active ≡ t.active
    → IsAfterLog t after u p s mask t.next
after_overflow t after u p s mask adds (inl home) other apart overflow places status next active =
    absurd (other home)
after_overflow t after u p s mask adds (inr spot) other apart overflow places status next active = inr (
  spot,
  tables_are (overflow ∙ adds t u p s mask t.next apart spot.first) places status next active,
)
  where
    tables_are : after.overflow ≡ (after_overflow_log t u p s mask t.next).overflow
        → after.places ≡ t.places → after.status ≡ t.status → after.next ≡ t.next
        → after.active ≡ t.active → after ≡ after_overflow_log t u p s mask t.next
    tables_are one two three four five = λ i. record {
      places = two i;
      overflow = one i;
      status = three i;
      next = four i;
      active = five i;
    }

-- a number was drawn before
pub drawn_before : (t after : Tables) (n u p s mask next : ℕ) → IsAfterLog (with_next t n) after u p s mask next
    → IsAfterLog t after u p s mask next
drawn_before t after n u p s mask next (inl (home, is)) =
    inl (record { left = home.left; place = home.place; sector = home.sector }, is)
drawn_before t after n u p s mask next (inr (over, is)) =
    inr (record { first = over.first; within = over.within; few = over.few }, is)

pub log_active : (t after : Tables) (u p s mask next : ℕ) → IsAfterLog t after u p s mask next
    → after.active ≡ t.active
log_active t after u p s mask next (inl (home, is)) = ap (λ (x : Tables). x.active) is
log_active t after u p s mask next (inr (over, is)) = ap (λ (x : Tables). x.active) is

pub log_current : (t after : Tables) (u p s mask next : ℕ) → IsAfterLog t after u p s mask next
    → after.places.current ≡ t.places.current
log_current t after u p s mask next (inl (home, is)) = ap (λ (x : Tables). x.places.current) is
log_current t after u p s mask next (inr (over, is)) = ap (λ (x : Tables). x.places.current) is

pub log_next : (t after : Tables) (u p s mask next : ℕ) → IsAfterLog t after u p s mask next
    → after.next ≡ next
log_next t after u p s mask next (inl (home, is)) = ap (λ (x : Tables). x.next) is
log_next t after u p s mask next (inr (over, is)) = ap (λ (x : Tables). x.next) is

pub log_status : (t after : Tables) (u p s mask next : ℕ) → IsAfterLog t after u p s mask next
    → after.status ≡ t.status
log_status t after u p s mask next (inl (home, is)) = ap (λ (x : Tables). x.status) is
log_status t after u p s mask next (inr (over, is)) = ap (λ (x : Tables). x.status) is

-- the tables know each place where a number is drawn
pub known_drawn : (places : ℕ) (t : Tables) (n : ℕ) → KnowsPlaces places t
    → KnowsPlaces places (with_next t n)
known_drawn places t n known = record {
  suits = record {
    all = known.suits.all;
    units = known.suits.units;
    overflow = known.suits.overflow;
    sized = known.suits.sized;
  };
  none_lost = known.none_lost;
  used = known.used;
  retired_apart = known.retired_apart;
  homes_apart = known.homes_apart;
  overflows_apart = known.overflows_apart;
  no_home = known.no_home;
  status_apart = known.status_apart;
  two = known.two;
  status_placed = known.status_placed;
}

pub holds_drawn : (places : ℕ) (t : Tables) (n : ℕ) → KnowsPlaces places t
    → Holds places t (with_next t n)
holds_drawn places t n known =
    record {
      units = refl;
      homes = homes_same t.places t.places refl refl;
      active = refl;
      status = refl;
      known = known_drawn places t n known;
    }

pub holds_then : (places : ℕ) (t between after : Tables) → Holds places t between
    → Holds places between after → Holds places t after
holds_then places t between after first second = record {
  units = second.units ∙ first.units;
  homes = homes_then t.places between.places after.places first.homes second.homes;
  active = second.active ∙ first.active;
  status = second.status ∙ first.status;
  known = second.known;
}

-- a unit with one log sector more was known, and each other one stays as it was
pub log_homes : (t after : Tables) (u p s mask next : ℕ) → IsAfterLog t after u p s mask next
    → KeepsHomes t.places after.places
log_homes t after u p s mask next (inl (home, is)) =
    homes_moved t.places after.places u (slice_index t.places.current u) (written_of t u + 1)
    (ap (λ (x : Tables). x.places.current) is ∙ sym (set-get_or t.places.current u 0))
    (ap (λ (x : Tables). x.places.written) is) (omega (arith, home.left))
log_homes t after u p s mask next (inr (over, is)) =
    homes_same t.places after.places (ap (λ (x : Tables). x.places.current) is)
    (ap (λ (x : Tables). x.places.written) is)

-- the same places are a unit's, the status place or an overflow place
module _ (places : ℕ) (t : Tables) (u p s mask next : ℕ) (known : KnowsPlaces places t) where
  home_known : KnowsPlaces places (record {
    places = with_mask (with_written t.places u) u (first_log t u) mask;
    overflow = t.overflow;
    status = t.status;
    next = next;
    active = t.active;
  })
  home_known = record {
    suits = record {
      all = known.suits.all;
      units = known.suits.units;
      overflow = known.suits.overflow;
      sized = known.suits.sized;
    };
    none_lost = known.none_lost;
    used = known.used;
    retired_apart = known.retired_apart;
    homes_apart = known.homes_apart;
    overflows_apart = known.overflows_apart;
    no_home = known.no_home;
    status_apart = known.status_apart;
    two = known.two;
    status_placed = known.status_placed;
  }

  abbrev over : Tables
  over = after_overflow_log t u p s mask next

  back : (q : ℕ) → Contains (overflow_places over) q → Contains (overflow_places t) q
  back q has = subst (λ (l : List ℕ). Contains l q) (same_places p t.overflow.in_use) has

  there : (q : ℕ) → Contains (overflow_places t) q → Contains (overflow_places over) q
  there q has = subst (λ (l : List ℕ). Contains l q) (sym (same_places p t.overflow.in_use)) has

  named_before : (q : ℕ) → IsNamed over q → IsNamed t q
  named_before q (inl home) = inl home
  named_before q (inr (inl status)) = inr (inl status)
  named_before q (inr (inr has)) = inr (inr (back q has))

  overflow_known : KnowsPlaces places over
  overflow_known = record {
    suits = record {
      all = known.suits.all;
      units = known.suits.units;
      overflow = omega (
        arith,
        known.suits.overflow,
        length-set t.overflow.spots u (spots_of t u ++ (p, s) ∷ []),
      );
      sized = known.suits.sized;
    };
    none_lost = λ q low used. elim (known.none_lost q low used) [
      | inl home ↦ inl home
      | inr rest ↦ elim rest [
        | inl status ↦ inr (inl status)
        | inr others ↦ elim others [
          | inl has ↦ inr (inr (inl (there q has)))
          | inr retired ↦ inr (inr (inr retired))
        ]
      ]
    ];
    used = λ q named. known.used q (named_before q named);
    retired_apart = λ q has. (
      λ named. (known.retired_apart q has).0 (named_before q named),
      (known.retired_apart q has).1,
    );
    homes_apart = known.homes_apart;
    overflows_apart = subst (λ (l : List ℕ). AllPairs AreApart l)
        (sym (same_places p t.overflow.in_use)) known.overflows_apart;
    no_home = λ q has. known.no_home q (back q has);
    status_apart = (known.status_apart.0, λ has. known.status_apart.1 (back t.status.place has));
    two = omega (arith, known.two, length-map t.overflow.in_use (with_next_spot p));
    status_placed = known.status_placed;
  }

  pub log_known : (after : Tables) → IsAfterLog t after u p s mask next → KnowsPlaces places after
  log_known after (inl (home, is)) = rw is home_known
  log_known after (inr (spot, is)) = rw is overflow_known

  pub log_holds : (after : Tables) → IsAfterLog t after u p s mask next → Holds places t after
  log_holds after is = record {
    units = ap length (log_current t after u p s mask next is);
    homes = log_homes t after u p s mask next is;
    active = log_active t after u p s mask next is;
    status = log_status t after u p s mask next is;
    known = log_known after is;
  }

-- the first clean log sector at home is used, and its mask is set
pub after_home : (t after : Tables) (u p s mask : ℕ) → IsHomeSpot t u p s
    → after ≡ record {
      places = with_mask (with_written t.places u) u s mask;
      overflow = t.overflow;
      status = t.status;
      next = t.next;
      active = t.active;
    }
    → IsAfterLog t after u p s mask t.next
after_home t after u p s mask home is = inl (
  home,
  is ∙ ap (λ (n : ℕ). record {
    places = with_mask (with_written t.places u) u n mask;
    overflow = t.overflow;
    status = t.status;
    next = t.next;
    active = t.active;
  }) home.sector,
)
