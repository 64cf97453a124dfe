-- Places that are found worn and set aside.
use Rattle.std.proofs.Common.{◌≡◌, ◌≢◌, ◌<◌, ◌+◌, ℕ, Bool, true, false, not, cond, List, [], ◌∷◌, ◌++◌, length, get_or, slice_set, inl, inr, refl, sym, ◌∙◌, ap, subst, arith}
use Rattle.std.specs.Prelude.{◌⊎◌}
use Rattle.std.specs.List.{Contains}
use Rattle.std.proofs.lemmas.Bool.{cases_lt}
use Rattle.std.proofs.lemmas.List.{get_or-set_same, get_or-set_other, get_or_past, length-set}
use Rattle.std.proofs.lemmas.List.Sums.{sum_by-set}
use Rattle.ipl_base.specs.Places.{spares_on}
use Rattle.ipl_meaning.specs.Tables.{Places, IsFree}
use Rattle.number_set.proofs.NumberLemmas.{contains_cons, contains_here, contains_there}
use Rattle.unit_directory.specs.Free.{free_count, put_aside, aside, AreNext, IsNextFree}
use Rattle.unit_directory.specs.Laws.{ReadyPlacesLeaveOne, ReadyPlacesStay, NextPlacesAreAside, NextPlacesLeaveReady}
use Rattle.unit_directory.proofs.RetiredLemmas.{inserted_has, inserted_keeps, inserted_from, length_inserted}

-- ---- one place

-- a free place is one of the chip's
pub free_within : (it : Places) (p : ℕ) → IsFree it p → p < length it.in_use
free_within it p free = elim (cases_lt p (length it.in_use)) [
  | inl there ↦ there
  | inr past ↦ let e : true ≡ false = sym (get_or_past it.in_use p true past) ∙ free in cc
]

-- what is free then was free, and is another place
pub free_but : (it : Places) (p q : ℕ) → IsFree (put_aside it p) q → (q ≢ p) × IsFree it q
free_but it p q free =
    let apart : q ≢ p = λ same.
    let here : get_or (slice_set it.in_use p true) p true ≡ false =
    subst (λ (k : ℕ). IsFree (put_aside it p) k) same free in
    let low : p < length it.in_use =
    omega (arith, free_within (put_aside it p) p here, length-set it.in_use p true) in
    let e : true ≡ false = sym (get_or-set_same it.in_use p true true low) ∙ here in cc in
    (apart, sym (get_or-set_other it.in_use p q true true apart) ∙ free)

pub free_still : (it : Places) (p q : ℕ) → q ≢ p → IsFree it q → IsFree (put_aside it p) q
free_still it p q apart free = get_or-set_other it.in_use p q true true apart ∙ free

abbrev count_if : Bool → ℕ
count_if used = cond (not used) 1 0

-- one is free less
one_less : (it : Places) (p : ℕ) → IsFree it p
    → free_count (put_aside it p).in_use + 1 ≡ free_count it.in_use
one_less it p free =
    let was : count_if (get_or it.in_use p true) ≡ 1 = ap count_if free in
    omega (
      arith,
      sum_by-set count_if it.in_use p true true (free_within it p free),
      was,
    )

same_spares : (it : Places) (p : ℕ)
    → spares_on (length (put_aside it p).in_use) (length it.current)
    ≡ spares_on (length it.in_use) (length it.current)
same_spares it p =
    ap (λ (n : ℕ). spares_on n (length it.current)) (length-set it.in_use p true)

pub ready_places_leave_one : ReadyPlacesLeaveOne
ready_places_leave_one it ready few = omega (arith, ready.enough, few)

pub ready_places_stay : ReadyPlacesStay
ready_places_stay it p ready free =
    let longer = length_inserted p it.retired (λ has. ready.apart p has free) in record {
      ready = record {
        enough = omega (arith, ready.enough, one_less it p free, same_spares it p, longer);
        apart = λ q has is.
            let (other, was) = free_but it p q is in
            elim (inserted_from p it.retired q has) [
              | inl this ↦ other (sym this)
              | inr before ↦ ready.apart q before was
            ];
      };
      more = longer;
    }

-- ---- several, one after the other

none_contained : (q : ℕ) → ¬ Contains [] q
none_contained q has = omega (arith, has.1)

pub next_places_are_aside : NextPlacesAreAside
next_places_are_aside it [] next = record {
  was_free = λ q has. absurd (none_contained q has);
  free = λ q. (λ is. (is, none_contained q), λ both. both.0);
  retired = λ q. (
    λ has. inl has,
    λ either. elim either [
      | inl has ↦ has
      | inr none ↦ absurd (none_contained q none)
    ],
  );
  current = refl;
  all = refl;
  erases = refl;
  written = refl;
  generations = refl;
  masks = refl;
}
next_places_are_aside it (p ∷ worn) next =
    let rest = next_places_are_aside (put_aside it p) worn next.1 in record {
      was_free = λ q has. elim (contains_cons p worn q has) [
        | inl this ↦ subst (IsFree it) this next.0.free
        | inr later ↦ (free_but it p q (rest.was_free q later)).1
      ];
      free = λ q. (
        λ is. free_first q ((rest.free q).0 is),
        λ both. (rest.free q).1 (
          free_still it p q (λ same. both.1 (subst (Contains (p ∷ worn)) (sym same)
              (contains_here p worn))) both.0,
          λ has. both.1 (contains_there p worn q has),
        ),
      );
      retired = λ q. (
        λ has. retired_first q ((rest.retired q).0 has),
        λ either. (rest.retired q).1 (retired_then q either),
      );
      current = rest.current;
      all = rest.all ∙ length-set it.in_use p true;
      erases = rest.erases;
      written = rest.written;
      generations = rest.generations;
      masks = rest.masks;
    }
  where
    free_first : (q : ℕ) → IsFree (put_aside it p) q × ¬ Contains worn q
        → IsFree it q × ¬ Contains (p ∷ worn) q
    free_first q is =
        let (other, was) = free_but it p q is.0 in (
          was,
          λ has. elim (contains_cons p worn q has) [
            | inl this ↦ other (sym this)
            | inr later ↦ is.1 later
          ],
        )

    retired_first : (q : ℕ) → Contains (put_aside it p).retired q ⊎ Contains worn q
        → Contains it.retired q ⊎ Contains (p ∷ worn) q
    retired_first q (inl has) = elim (inserted_from p it.retired q has) [
      | inl this ↦ inr (subst (Contains (p ∷ worn)) this (contains_here p worn))
      | inr before ↦ inl before
    ]
    retired_first q (inr later) = inr (contains_there p worn q later)

    retired_then : (q : ℕ) → Contains it.retired q ⊎ Contains (p ∷ worn) q
        → Contains (put_aside it p).retired q ⊎ Contains worn q
    retired_then q (inl before) = inl (inserted_keeps p it.retired q before)
    retired_then q (inr has) = elim (contains_cons p worn q has) [
      | inl this ↦ inl (subst (Contains (put_aside it p).retired) this (inserted_has p it.retired))
      | inr later ↦ inr later
    ]

pub next_places_leave_ready : NextPlacesLeaveReady
next_places_leave_ready it [] ready next =
    record { ready = ready; fewer = omega arith; more = omega arith }
next_places_leave_ready it (p ∷ worn) ready next =
    let one = ready_places_stay it p ready next.0.free in
    let rest = next_places_leave_ready (put_aside it p) worn one.ready next.1 in record {
      ready = rest.ready;
      fewer = omega (arith, rest.fewer, one_less it p next.0.free);
      more = omega (arith, rest.more, one.more);
    }

-- ---- one more, behind the others

pub aside_last : (it : Places) (worn : List ℕ) (p : ℕ)
    → aside it (worn ++ p ∷ []) ≡ put_aside (aside it worn) p
aside_last it [] p = refl
aside_last it (q ∷ worn) p = aside_last (put_aside it q) worn p

pub next_last : (it : Places) (worn : List ℕ) (p : ℕ) → AreNext it worn
    → IsNextFree (aside it worn) p → AreNext it (worn ++ p ∷ [])
next_last it [] p next last = (last, tt)
next_last it (q ∷ worn) p next last = (next.0, next_last (put_aside it q) worn p next.1 last)
