-- How the tables follow places that change, and places that are taken.
use Rattle.std.proofs.Common.{◌≡◌, ◌≢◌, ℕ, ◌<◌, ◌≤◌, get_or, set, None, inl, inr, refl, sym, ◌∙◌, arith, eqb, true}
use Rattle.std.specs.List.{Contains}
use Rattle.std.proofs.lemmas.Bool.{cases_eq, eq-eqb, ne_eqb}
use Rattle.std.proofs.lemmas.List.{length-set, get_or-set_same, get_or-set_other}
use Rattle.ipl_format.specs.Sector.{Sector}
use Rattle.ipl_meaning.specs.Chart.{Chart}
use Rattle.ipl_meaning.specs.Layout.{Layout, IsLiveIn}
use Rattle.ipl_meaning.specs.Steps.{SameBut, SameOff, IsIdle, ComesToNothing}
use Rattle.ipl_meaning.specs.Tables.{IsFree, one_more, inserted, Tables, overflow_places, IsCountedClean}
use Rattle.ipl_meaning.specs.Mirrors.{Mirrors}
use Rattle.ipl_meaning.specs.TableSteps.{with_next, with_erases, taken}
use Rattle.ipl_meaning.specs.MovingLaws.{TablesFollowIdlePlaces, PlacesMayBeTaken, CountsAreFree, RetiredAreFree, PlacesMayBeRetired}
use Rattle.ipl_meaning.proofs.IdleLemmas.{idle_places_do_not_count, mark_back}
use Rattle.ipl_meaning.proofs.CounterLemmas.{bare_places_keep_the_counter}
use Rattle.ipl_meaning.proofs.MirrorLemmas.{map_contains}
use Rattle.ipl_meaning.proofs.KnownLogLemmas.{logs_still}

-- none of its sectors is counted as clean
pub counted_apart : (places : ℕ) (c : Chart) (it : Layout) (t : Tables) (p : ℕ) → Mirrors places c it t → IsIdle places c it p → ¬ Contains (overflow_places t) p → (q n : ℕ) → IsCountedClean t q n → q ≢ p
counted_apart places c it t p mirrors idle not_overflow q n (small, inl (v, less, is, first)) at = let low : v < it.count = omega (arith, less, mirrors.directory.units) in idle.not_home v low (sym (mirrors.directory.current v low) ∙ sym is ∙ at)
counted_apart places c it t p mirrors idle not_overflow q n (small, inr (inl (first, is, above))) at = not_overflow (rw at at (map_contains t.overflow.in_use q first is))
counted_apart places c it t p mirrors idle not_overflow q n (small, inr (inr (is, above))) at = idle.not_status (sym mirrors.status.place ∙ sym is ∙ at)

module _ (places : ℕ) (c : Chart) (it : Layout) (t : Tables) (p : ℕ) (y : Chart) (next : ℕ) (mirrors : Mirrors places c it t) (idle : IsIdle places c it p) (not_overflow : ¬ Contains (overflow_places t) p)
    (same : SameBut p c y) (bare : y p 0 ≡ None) (more : t.next ≤ next) where
  nothing : ComesToNothing places y it p
  nothing = record {
    unit_header = λ u low head there. absurd (cc (there, bare));
    status = λ head there. absurd (cc (there, bare));
    no_live = λ u low s sector live. elim live.counts [
      | inl at_home ↦ idle.not_home u low (sym at_home.0)
      | inr over ↦ let there = over.0.1 in cc (there, bare)
    ];
  }

  live_apart : (v q s : ℕ) (x : Sector) → v < it.count → IsLiveIn y places it v q s x → q ≢ p
  live_apart v q s x low live at = nothing.no_live v low s x (rw at at live)

  was_apart : (v q s : ℕ) (x : Sector) → v < it.count → IsLiveIn c places it v q s x → q ≢ p
  was_apart v q s x low live at = idle.no_live v low s x (rw at at live)

  live_then : (v q s : ℕ) (x : Sector) → q ≢ p → IsLiveIn c places it v q s x → IsLiveIn y places it v q s x
  live_then v q s x apart live = record {
    here = same q s apart ∙ live.here;
    kind = live.kind;
    of_unit = live.of_unit;
    of_generation = live.of_generation;
    within = live.within;
    counts = elim live.counts [ inl at_home ↦ inl at_home | inr over ↦ inr ((over.0.0, same q 0 apart ∙ over.0.1, over.0.2), over.1) ];
  }

  live_before : (v q s : ℕ) (x : Sector) → q ≢ p → IsLiveIn y places it v q s x → IsLiveIn c places it v q s x
  live_before v q s x apart live = record {
    here = sym (same q s apart) ∙ live.here;
    kind = live.kind;
    of_unit = live.of_unit;
    of_generation = live.of_generation;
    within = live.within;
    counts = elim live.counts [ inl at_home ↦ inl at_home | inr over ↦ inr ((over.0.0, sym (same q 0 apart) ∙ over.0.1, over.0.2), over.1) ];
  }

  apart_off : SameOff (eqb p) c y
  apart_off q s off = same q s (λ at. let on : eqb p q ≡ true = eq-eqb p q (sym at) in cc (on, off))

  idle_followed : Mirrors places y it (with_next t next)
  idle_followed = record {
    laid = (idle_places_do_not_count places c it p y mirrors.laid idle same nothing).0;
    directory = let was = mirrors.directory in record { units = was.units; logs = was.logs; all = was.all; counts = was.counts; current = was.current; heads = was.heads; generation = was.generation; not_home = was.not_home; not_status = was.not_status; not_overflow = was.not_overflow };
    overflow = let was = mirrors.overflow in record {
      units = was.units;
      listed = λ v q n x low live away. was.listed v q n x low (live_before v q n x (live_apart v q n x low live) live) away;
      only = λ v q n low is.
          let (away, x, live) = was.only v q n low is in
          (away, x, live_then v q n x (was_apart v q n x low live) live);
      once = was.once;
      few = was.few;
      in_overflow = was.in_overflow;
      headed = λ q is. let (within, over) = was.headed q is in (within, (over.0, same q 0 (λ at. not_overflow (rw at at is)) ∙ over.1, over.2));
      two = was.two;
      apart = was.apart;
    };
    status = let was = mirrors.status in record { place = was.place; generation = was.generation; numbers = was.numbers };
    numbers = let was = mirrors.numbers in record {
      above = bare_places_keep_the_counter places c it p y next idle.not_status idle.not_home same bare (λ n found. let low = was.above n found in omega (arith, low, more));
      below = λ k none within. let low = was.below k none within in omega (arith, low, more);
      once = was.once;
      waits = was.waits;
    };
    masks = let was = mirrors.masks in record { units = was.units; lists = was.lists; sectors = was.sectors; home = was.home; elsewhere = was.elsewhere };
    logs = logs_still c y it it (mark_back (eqb p) c y apart_off it.status it.head.generation (ne_eqb p it.status (λ at. idle.not_status (sym at))))
        refl (λ v. refl) (λ v. refl)
        (λ v n low some none. some (sym (same (it.units v).home n (idle.not_home v low)) ∙ none)) t (with_next t next) (λ v. refl) mirrors.logs;
    counted_clean = λ q n is. same q n (counted_apart places c it t p mirrors idle not_overflow q n is) ∙ mirrors.counted_clean q n is;
  }

pub tables_follow_idle_places : TablesFollowIdlePlaces
tables_follow_idle_places places c it t p y next mirrors idle not_overflow same bare more = idle_followed places c it t p y next mirrors idle not_overflow same bare more

module _ (places : ℕ) (c : Chart) (it : Layout) (t : Tables) (p : ℕ) (mirrors : Mirrors places c it t) (low : p < places) where
  free_before : (q : ℕ) → IsFree (taken t p).places q → IsFree t.places q
  free_before q free = elim (cases_eq q p) [
    | inl at ↦ absurd (
        let is : get_or (set t.places.in_use p true) q true ≡ true = rw at (get_or-set_same t.places.in_use p true true (omega (arith, low, mirrors.directory.all))) in cc (is, free))
    | inr apart ↦ sym (get_or-set_other t.places.in_use p q true true apart) ∙ free
  ]

  place_taken : Mirrors places c it (taken t p)
  place_taken = record {
    laid = mirrors.laid;
    directory = let was = mirrors.directory in record {
      units = was.units;
      logs = was.logs;
      all = length-set t.places.in_use p true ∙ was.all;
      counts = length-set t.places.erases p (one_more (get_or t.places.erases p 0)) ∙ was.counts;
      current = was.current;
      heads = was.heads;
      generation = was.generation;
      not_home = λ q free. was.not_home q (free_before q free);
      not_status = λ q free. was.not_status q (free_before q free);
      not_overflow = λ q free. was.not_overflow q (free_before q free);
    };
    overflow = let was = mirrors.overflow in record { units = was.units; listed = was.listed; only = was.only; once = was.once; few = was.few; in_overflow = was.in_overflow; headed = was.headed; two = was.two; apart = was.apart };
    status = let was = mirrors.status in record { place = was.place; generation = was.generation; numbers = was.numbers };
    numbers = let was = mirrors.numbers in record { above = was.above; below = was.below; once = was.once; waits = was.waits };
    masks = let was = mirrors.masks in record { units = was.units; lists = was.lists; sectors = was.sectors; home = was.home; elsewhere = was.elsewhere };
    logs = let was = mirrors.logs in record { unmarked = was.unmarked; whole = was.whole };
    counted_clean = mirrors.counted_clean;
  }

pub places_may_be_taken : PlacesMayBeTaken
places_may_be_taken places c it t p mirrors low = place_taken places c it t p mirrors low

pub counts_are_free : CountsAreFree
counts_are_free places c it t erases mirrors sized = record {
  laid = mirrors.laid;
  directory = let was = mirrors.directory in record {
    units = was.units;
    logs = was.logs;
    all = was.all;
    counts = sized;
    current = was.current;
    heads = was.heads;
    generation = was.generation;
    not_home = was.not_home;
    not_status = was.not_status;
    not_overflow = was.not_overflow;
  };
  overflow = let was = mirrors.overflow in record { units = was.units; listed = was.listed; only = was.only; once = was.once; few = was.few; in_overflow = was.in_overflow; headed = was.headed; two = was.two; apart = was.apart };
  status = let was = mirrors.status in record { place = was.place; generation = was.generation; numbers = was.numbers };
  numbers = let was = mirrors.numbers in record { above = was.above; below = was.below; once = was.once; waits = was.waits };
  masks = let was = mirrors.masks in record { units = was.units; lists = was.lists; sectors = was.sectors; home = was.home; elsewhere = was.elsewhere };
  logs = let was = mirrors.logs in record { unmarked = was.unmarked; whole = was.whole };
  counted_clean = mirrors.counted_clean;
}

pub retired_are_free : RetiredAreFree
retired_are_free places c it t retired mirrors = record {
  laid = mirrors.laid;
  directory = let was = mirrors.directory in record {
    units = was.units;
    logs = was.logs;
    all = was.all;
    counts = was.counts;
    current = was.current;
    heads = was.heads;
    generation = was.generation;
    not_home = was.not_home;
    not_status = was.not_status;
    not_overflow = was.not_overflow;
  };
  overflow = let was = mirrors.overflow in record { units = was.units; listed = was.listed; only = was.only; once = was.once; few = was.few; in_overflow = was.in_overflow; headed = was.headed; two = was.two; apart = was.apart };
  status = let was = mirrors.status in record { place = was.place; generation = was.generation; numbers = was.numbers };
  numbers = let was = mirrors.numbers in record { above = was.above; below = was.below; once = was.once; waits = was.waits };
  masks = let was = mirrors.masks in record { units = was.units; lists = was.lists; sectors = was.sectors; home = was.home; elsewhere = was.elsewhere };
  logs = let was = mirrors.logs in record { unmarked = was.unmarked; whole = was.whole };
  counted_clean = mirrors.counted_clean;
}

pub places_may_be_retired : PlacesMayBeRetired
places_may_be_retired places c it t p mirrors low =
    retired_are_free places c it (with_erases (taken t p) t.places.erases) (inserted p t.places.retired)
    (counts_are_free places c it (taken t p) t.places.erases (places_may_be_taken places c it t p mirrors low) mirrors.directory.counts)
