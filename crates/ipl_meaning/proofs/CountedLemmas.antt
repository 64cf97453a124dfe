-- What is counted as clean shrinks.
use Rattle.std.proofs.Common.{◌≡◌, ℕ, ◌<◌, ◌≤◌, ◌+◌, List, [], ◌∷◌, length, map, get_or, slice_index, inl, inr, refl, sym, ◌∙◌, ap, subst, arith, true, eqb}
use Rattle.std.specs.List.{AllPairs, Contains}
use Rattle.std.proofs.lemmas.Bool.{cases_Bool, cases_eq, cases_lt, eq-eqb}
use Rattle.std.proofs.lemmas.List.{get_or-set_same, get_or-set_other, length-map, get_or-map, get_or_default}
use Rattle.std.proofs.lemmas.List.Elements.{Contains-get_or}
use Rattle.ipl_meaning.specs.Chart.{Chart, IsOverflow}
use Rattle.ipl_meaning.specs.Layout.{Layout}
use Rattle.ipl_meaning.specs.Tables.{Tables, place_of, first_log, clean_from}
use Rattle.ipl_meaning.specs.Mirrors.{AreApart, Mirrors}
use Rattle.ipl_meaning.specs.TableSteps.{after_home_log, after_overflow_log, after_commit, with_next_spot, CountedShrink}
use Rattle.ipl_meaning.specs.FollowingLaws.{CountedFollow}
use Rattle.ipl_meaning.proofs.MirrorLemmas.{map_contains}
use Rattle.ipl_meaning.proofs.ApartLemmas.{home_not_over, home_not_status, homes_apart, status_not_over}
use Rattle.ipl_meaning.proofs.KnownLogLemmas.{counted_few}

pub same_places : (p : ℕ) (l : List (ℕ × ℕ)) → map place_of (map (with_next_spot p) l) ≡ map place_of l
same_places p [] = refl
same_places p (o ∷ l) = elim (cases_Bool (eqb o.0 p)) [
  | inl here ↦ rw here (ap (λ (k : List ℕ). o.0 ∷ k) (same_places p l))
  | inr apart ↦ rw apart (ap (λ (k : List ℕ). o.0 ∷ k) (same_places p l))
]

-- an overflow place with its next spot was one with a spot
spot_before : (p : ℕ) (l : List (ℕ × ℕ)) (q first : ℕ) → Contains (map (with_next_spot p) l) (q, first) → (old : ℕ) × Contains l (q, old) × (old ≤ first) × (q ≡ p → first ≡ old + 1)
spot_before p l q first (k, within, is) =
    let o = get_or l k (q, first) in
    let inside : k < length l = omega (arith, within, length-map l (with_next_spot p)) in
    let same : with_next_spot p o ≡ (q, first) = sym (get_or-map (with_next_spot p) l k (q, first) (q, first) inside) ∙ is in
    elim (cases_Bool (eqb o.0 p)) [
      | inl here ↦
          let both : ◌≡◌ {A = ℕ × ℕ} (o.0, o.1 + 1) (q, first) = rw here at same in
          let place : o.0 ≡ q = ap (λ (z : ℕ × ℕ). z.0) both in
          let number : o.1 + 1 ≡ first = ap (λ (z : ℕ × ℕ). z.1) both in
          let listed : Contains l o = Contains-get_or l k (q, first) inside in
          (o.1, subst (λ (z : ℕ). Contains l (z, o.1)) place listed, omega (arith, number), λ _. sym number)
      | inr apart ↦
          let both : o ≡ (q, first) = rw apart at same in
          let place : o.0 ≡ q = ap (λ (z : ℕ × ℕ). z.0) both in (
            first,
            subst (Contains l) both (Contains-get_or l k (q, first) inside),
            omega arith,
            λ at. absurd (
                let is_so : eqb o.0 p ≡ true = eq-eqb o.0 p (place ∙ at) in cc (is_so, apart)),
          )
    ]

-- a place has one spot, where places are apart
one_spot : (l : List (ℕ × ℕ)) (p a b : ℕ) → AllPairs AreApart (map place_of l) → Contains l (p, a) → Contains l (p, b) → a ≡ b
one_spot l p a b apart (i, in_i, is) (j, in_j, is_too) = elim (cases_eq i j) [
  | inl same ↦
      let both : ◌≡◌ {A = ℕ × ℕ} (p, a) (p, b) = sym is ∙ get_or_default l i (p, a) (p, b) in_i ∙ ap (λ (k : ℕ). get_or l k (p, b)) same ∙ is_too in
      ap (λ (z : ℕ × ℕ). z.1) both
  | inr other ↦ absurd (elim (cases_lt i j) [
    | inl less ↦ apart i j p less (omega (arith, in_j, length-map l place_of)) (at_p i a in_i is ∙ sym (at_p j b in_j is_too))
    | inr more ↦ apart j i p (omega (arith, more, other)) (omega (arith, in_i, length-map l place_of)) (at_p j b in_j is_too ∙ sym (at_p i a in_i is))
  ])
]
  where
    at_p : (k n : ℕ) → k < length l → get_or l k (p, n) ≡ (p, n) → get_or (map place_of l) k p ≡ p
    at_p k n within is = get_or-map place_of l k (p, n) p within ∙ ap place_of is

module _ (places : ℕ) (c : Chart) (it : Layout) (t : Tables) (mirrors : Mirrors places c it t) where
  overflow_headed : (q first : ℕ) → Contains t.overflow.in_use (q, first) → IsOverflow c q
  overflow_headed q first is = (mirrors.overflow.headed q (map_contains t.overflow.in_use q first is)).1

  home_of : (v q : ℕ) → v < length t.places.current → q ≡ slice_index t.places.current v → (v < it.count) × (q ≡ (it.units v).home)
  home_of v q less is = let low : v < it.count = omega (arith, less, mirrors.directory.units) in (low, is ∙ mirrors.directory.current v low)

  pub home_counted : (u mask next : ℕ) → u < it.count → slice_index t.places.written u < 15
      → CountedShrink t (after_home_log t u mask next) (slice_index t.places.current u) (first_log t u)
  home_counted u mask next low left q n (small, inl (v, less, is, first)) = elim (cases_eq v u) [
    | inl same ↦
        let mine : slice_index (after_home_log t u mask next).places.written u ≡ slice_index t.places.written u + 1 = get_or-set_same t.places.written u (slice_index t.places.written u + 1) 0 (omega (arith, low, mirrors.directory.logs)) in
        let few = counted_few (slice_index t.places.written u) (omega (arith, left)) in
        let one_more = counted_few (slice_index t.places.written u + 1) (omega (arith, left)) in
        let above : first_log t u + 1 ≤ n = let one = rw (same, mine, one_more) at first in omega (arith, one) in
        ((small, inl (v, less, is, rw (same, few) (omega (arith, above)))), λ _ there. omega (arith, above, there))
    | inr apart ↦
        let above : clean_from t v ≤ n = rw (get_or-set_other t.places.written u v (slice_index t.places.written u + 1) 0 apart) at first in
        let (inside, home) = home_of v q less is in
        ((small, inl (v, less, is, above)), λ same _. apart (homes_apart places c it mirrors.laid v u inside low (sym home ∙ same ∙ mirrors.directory.current u low)))
  ]
  home_counted u mask next low left q n (small, inr (inl (first, is, above))) = (
    (small, inr (inl (first, is, above))),
    λ same _. home_not_over places c it mirrors.laid u low (let over = overflow_headed q first is in rw (same ∙ mirrors.directory.current u low) at over),
  )
  home_counted u mask next low left q n (small, inr (inr (is, above))) = (
    (small, inr (inr (is, above))),
    λ same _. home_not_status places c it mirrors.laid u low (sym (mirrors.directory.current u low) ∙ sym same ∙ is ∙ mirrors.status.place),
  )

  pub overflow_counted : (u p s mask next : ℕ) → Contains t.overflow.in_use (p, s) → CountedShrink t (after_overflow_log t u p s mask next) p s
  overflow_counted u p s mask next spot q n (small, inl (v, less, is, first)) =
      let (inside, home) = home_of v q less is in
      ((small, inl (v, less, is, first)), λ same _. home_not_over places c it mirrors.laid v inside (let over = overflow_headed p s spot in rw (sym same ∙ home) at over))
  overflow_counted u p s mask next spot q n (small, inr (inl (first, is, above))) =
      let (old, listed, less, is_next) = spot_before p t.overflow.in_use q first is in (
        (small, inr (inl (old, listed, omega (arith, less, above)))),
        λ same there.
            let one : old ≡ s = one_spot t.overflow.in_use p old s mirrors.overflow.apart (subst (λ (z : ℕ). Contains t.overflow.in_use (z, old)) same listed) spot in
            omega (arith, one, is_next same, above, there),
      )
  overflow_counted u p s mask next spot q n (small, inr (inr (is, above))) = (
    (small, inr (inr (is, above))),
    λ same _. status_not_over places c it mirrors.laid (let over = overflow_headed p s spot in rw (sym same ∙ is ∙ mirrors.status.place) at over),
  )

  pub commit_counted : (numbers active : List ℕ) (next : ℕ) → CountedShrink t (after_commit t numbers next active) it.status t.status.first
  commit_counted numbers active next q n (small, inl (v, less, is, first)) =
      let (inside, home) = home_of v q less is in
      ((small, inl (v, less, is, first)), λ same _. home_not_status places c it mirrors.laid v inside (sym home ∙ same))
  commit_counted numbers active next q n (small, inr (inl (first, is, above))) = (
    (small, inr (inl (first, is, above))),
    λ same _. status_not_over places c it mirrors.laid (let over = overflow_headed q first is in rw same at over),
  )
  commit_counted numbers active next q n (small, inr (inr (is, above))) = ((small, inr (inr (is, omega (arith, above)))), λ _ there. omega (arith, above, there))

pub counted_follow : CountedFollow
counted_follow places c it t mirrors = (home_counted places c it t mirrors, overflow_counted places c it t mirrors, commit_counted places c it t mirrors)
