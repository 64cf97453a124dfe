-- Tables with one number more or less, and free places.
use Rattle.std.proofs.Common.{Bool, List, [], arith, cond, eqb, false, get_or, inl, inr, length, length-append, not, refl, slice_index_or, subst, suc, sym, true, zero, ℕ, ◌++◌, ◌+◌, ◌<◌, ◌∷◌, ◌≡◌, ◌≤◌, ◌⊎◌}
use Rattle.std.specs.List.{All, AllPairs, Contains, count_by, filter, list_any}
use Rattle.std.proofs.lemmas.Bool.{cases_Bool, eq-eqb, both_ways}
use Rattle.std.proofs.lemmas.List.{length-map}
use Rattle.std.proofs.lemmas.List.Elements.{All-filter, All-push, All-weaker, Contains-append_left, Contains-append_right}
use Rattle.std.proofs.lemmas.List.Kept.{AllPairs-filter}
use Rattle.std.proofs.lemmas.List.Quantifiers.{all_pairs_push}
use Rattle.std.proofs.lemmas.List.Sums.{sum_by-cons}
use Rattle.std.proofs.lemmas.Map.Steps.{le-length_from_below}
use Rattle.ipl_meaning.specs.Chart.{Chart}
use Rattle.ipl_meaning.specs.Layout.{Layout}
use Rattle.ipl_meaning.specs.Mirrors.{AreApart, Mirrors}
use Rattle.ipl_meaning.specs.Tables.{Tables, overflow_places, place_of}
use Rattle.ipl_meaning.proofs.CounterLemmas.{new_numbers_wait}
use Rattle.store_laws.specs.Fits.{with_active, is_another, without_active}
use Rattle.store_laws.specs.FittingLaws.{SparesAreFreeOrRetired, APlaceIsFree}
use Rattle.store_laws.proofs.ElementLemmas.{contains_there, any_there}

-- ---- the tables mirror the chart still

-- whose numbers are other ones
pub others_mirror : (places : ℕ) (c : Chart) (it : Layout) (t : Tables) (next : ℕ) (active : List ℕ)
    → Mirrors places c it t → t.next ≤ next → All (λ n. n < next) active → AllPairs AreApart active
    → All (λ n. it.committed n ≡ false) active
    → Mirrors places c it (record t { next = next; active = active })
others_mirror places c it t next active was later below once waits = record {
  laid = was.laid;
  directory = record {
    units = was.directory.units;
    logs = was.directory.logs;
    all = was.directory.all;
    counts = was.directory.counts;
    current = was.directory.current;
    heads = was.directory.heads;
    generation = was.directory.generation;
    not_home = was.directory.not_home;
    not_status = was.directory.not_status;
    not_overflow = was.directory.not_overflow;
  };
  overflow = record {
    units = was.overflow.units;
    listed = was.overflow.listed;
    only = was.overflow.only;
    once = was.overflow.once;
    few = was.overflow.few;
    in_overflow = was.overflow.in_overflow;
    headed = was.overflow.headed;
    two = was.overflow.two;
    apart = was.overflow.apart;
  };
  status = record { place = was.status.place; generation = was.status.generation; numbers = was.status.numbers };
  numbers = record {
    above = λ n found. let low = was.numbers.above n found in omega (arith, low, later);
    below = below;
    once = once;
    waits = waits;
  };
  masks = record {
    units = was.masks.units;
    lists = was.masks.lists;
    sectors = was.masks.sectors;
    home = was.masks.home;
    elsewhere = was.masks.elsewhere;
  };
  logs = record { unmarked = was.logs.unmarked; whole = was.logs.whole };
  counted_clean = was.counted_clean;
}

pub begun_mirrors : (places : ℕ) (c : Chart) (it : Layout) (t : Tables) (tid : ℕ) → Mirrors places c it t
    → t.next ≤ tid → Mirrors places c it (with_active t tid)
begun_mirrors places c it t tid was later =
    others_mirror places c it t (tid + 1) (t.active ++ tid ∷ []) was (omega (arith, later))
    (All-push (λ n. n < tid + 1) t.active tid
    (All-weaker (λ n. n < t.next) (λ n. n < tid + 1) (λ n low. omega (arith, low, later)) t.active
    was.numbers.below) (omega arith))
    (all_pairs_push AreApart t.active tid was.numbers.once
    (λ k d within same. let low = was.numbers.below k d within in omega (arith, low, same, later)))
    (All-push (λ n. it.committed n ≡ false) t.active tid was.numbers.waits
    (new_numbers_wait places c it t.next tid was.laid was.numbers.above later).0)

pub ended_mirrors : (places : ℕ) (c : Chart) (it : Layout) (t : Tables) (tid : ℕ) → Mirrors places c it t
    → Mirrors places c it (without_active t tid)
ended_mirrors places c it t tid was =
    others_mirror places c it t t.next (filter (is_another tid) t.active) was (omega arith)
    (All-filter (is_another tid) (λ n. n < t.next) t.active was.numbers.below)
    (AllPairs-filter AreApart (is_another tid) t.active was.numbers.once)
    (All-filter (is_another tid) (λ n. it.committed n ≡ false) t.active was.numbers.waits)

-- ---- free places

-- the places of units, the status place, the overflow places and the retired ones
abbrev taken : Tables → List ℕ
taken t = t.status.place ∷ (t.places.current ++ (overflow_places t ++ t.places.retired))

-- how many these are, at most
few_taken : (places : ℕ) (c : Chart) (it : Layout) (t : Tables) → Mirrors places c it t
    → length (taken t) ≤ 3 + it.count + length t.places.retired
few_taken places c it t mirrors =
    let all = length-append t.places.current (overflow_places t ++ t.places.retired) in
    let others = length-append (overflow_places t) t.places.retired in
    let overflow = length-map t.overflow.in_use place_of in
    omega (arith, all, others, overflow, mirrors.directory.units, mirrors.overflow.two)

is_taken : (t : Tables) (q : ℕ)
    → Contains t.places.current q ⊎ (q ≡ t.status.place) ⊎ Contains (overflow_places t) q ⊎ Contains t.places.retired q
    → Contains (taken t) q
is_taken t q (inl current) =
    contains_there t.status.place (t.places.current ++ (overflow_places t ++ t.places.retired)) q
    (Contains-append_left t.places.current (overflow_places t ++ t.places.retired) q current)
is_taken t q (inr (inl status)) = (0, omega arith, sym status)
is_taken t q (inr (inr (inl overflow))) =
    contains_there t.status.place (t.places.current ++ (overflow_places t ++ t.places.retired)) q
    (Contains-append_right t.places.current (overflow_places t ++ t.places.retired) q
    (Contains-append_left (overflow_places t) t.places.retired q overflow))
is_taken t q (inr (inr (inr retired))) =
    contains_there t.status.place (t.places.current ++ (overflow_places t ++ t.places.retired)) q
    (Contains-append_right t.places.current (overflow_places t ++ t.places.retired) q
    (Contains-append_right (overflow_places t) t.places.retired q retired))

-- the free places, the first having this number
abbrev free_from : List Bool → ℕ → List ℕ
free_from [] n = []
free_from (true ∷ in_use) n = free_from in_use (suc n)
free_from (false ∷ in_use) n = n ∷ free_from in_use (suc n)

abbrev free_if : Bool → ℕ
free_if used = cond (not used) 1 0

free_length : (in_use : List Bool) (n : ℕ) → length (free_from in_use n) ≡ count_by not in_use
free_length [] n = refl
free_length (true ∷ in_use) n =
    omega (arith, free_length in_use (suc n), sum_by-cons free_if true in_use)
free_length (false ∷ in_use) n =
    omega (arith, free_length in_use (suc n), sum_by-cons free_if false in_use)

free_there : (in_use : List Bool) (n i : ℕ) → get_or in_use i true ≡ false → Contains (free_from in_use n) (n + i)
free_there [] n i free = absurd (let e : true ≡ false = free in cc)
free_there (true ∷ in_use) n zero free = absurd (let e : true ≡ false = free in cc)
free_there (true ∷ in_use) n (suc i) free =
    subst (Contains (free_from in_use (suc n))) (omega arith) (free_there in_use (suc n) i free)
free_there (false ∷ in_use) n zero free = (0, omega arith, omega arith)
free_there (false ∷ in_use) n (suc i) free =
    contains_there n (free_from in_use (suc n)) (n + suc i)
    (subst (Contains (free_from in_use (suc n))) (omega arith) (free_there in_use (suc n) i free))

pub spares_are_free_or_retired : SparesAreFreeOrRetired
spares_are_free_or_retired places c it t mirrors none_lost =
    let free = free_from t.places.in_use 0 in
    let among : (q : ℕ) → q < places → list_any (eqb q) (free ++ taken t) ≡ true = λ q low.
    any_there (eqb q) (free ++ taken t) q (elim (cases_Bool (slice_index_or t.places.in_use q true)) [
      | inl used ↦ Contains-append_right free (taken t) q
          (is_taken t q (none_lost q low (λ is. both_ways (slice_index_or t.places.in_use q true) is used)))
      | inr is ↦ Contains-append_left free (taken t) q
          (subst (Contains free) (omega arith) (free_there t.places.in_use 0 q is))
    ]) (eq-eqb q q refl) in
    omega (
      arith,
      le-length_from_below (free ++ taken t) places among,
      length-append free (taken t),
      free_length t.places.in_use 0,
      few_taken places c it t mirrors,
      mirrors.laid.count,
    )

-- a place that is counted as free is there
one_free : (in_use : List Bool) → 0 < count_by not in_use
    → (i : ℕ) × (i < length in_use) × (get_or in_use i true ≡ false)
one_free [] some = absurd (omega (arith, some))
one_free (false ∷ in_use) some = (0, omega arith, refl)
one_free (true ∷ in_use) some =
    let (i, low, free) = one_free in_use (omega (arith, some, sum_by-cons free_if true in_use)) in
    (suc i, omega (arith, low), free)

pub a_place_is_free : APlaceIsFree
a_place_is_free places c it t mirrors none_lost few =
    let (p, low, free) = one_free t.places.in_use
    (omega (arith, few, spares_are_free_or_retired places c it t mirrors none_lost)) in
    (p, omega (arith, low, mirrors.directory.all), free)
