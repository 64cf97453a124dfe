-- What counts as clean once the tables changed, by the places that they know.
use Rattle.std.proofs.Common.{◌≡◌, ◌≢◌, ◌⊎◌, ◌<◌, ◌≤◌, ◌+◌, ℕ, zero, suc, true, List, [], ◌∷◌, length, map, get_or, slice_index, eqb, inl, inr, sym, ◌∙◌, ap, subst, arith}
use Rattle.std.specs.List.{AllPairs, Contains}
use Rattle.std.proofs.lemmas.Bool.{cases_Bool, cases_eq, cases_lt, eq-eqb}
use Rattle.std.proofs.lemmas.List.{get_or-set_same, get_or-set_other, length-map, length-set, get_or-map, get_or_default}
use Rattle.std.proofs.lemmas.List.Elements.{All-contains, Contains-get_or, Contains-append_cases}
use Rattle.ipl_base.specs.declared.limits.TheConstants.{FIRST_LOG_SECTOR, LOG_SECTORS}
use Rattle.ipl_meaning.specs.Mirrors.{AreApart}
use Rattle.ipl_meaning.specs.Tables.{IsFree, Tables, place_of, first_log, clean_from, IsCountedClean}
use Rattle.ipl_meaning.specs.TableSteps.{IsMoved, IsRenewed, CountedShrink, after_home_log, after_overflow_log, after_commit, taken, with_next, with_next_spot, with_overflow}
use Rattle.ipl_meaning.proofs.KnownLogLemmas.{counted_few}
use Rattle.ipl_meaning.proofs.MirrorLemmas.{map_contains}
use Rattle.unit_directory.specs.Free.{AreNext, aside}
use Rattle.unit_directory.proofs.AsideLemmas.{next_places_are_aside}
use Rattle.place_taking.specs.Takes.{with_places}
use Rattle.place_taking.proofs.JoinLemmas.{counted_alike}
use Rattle.selective_merge.specs.Known.{IsNamed, KnowsPlaces}

-- ---- lists

-- two units' places, where places are apart
homes_differ : (l : List ℕ) (u v : ℕ) → AllPairs AreApart l → u < length l → v < length l
    → v ≢ u → slice_index l v ≢ slice_index l u
homes_differ l u v apart low less other same = elim (cases_lt v u) [
  | inl before ↦ apart v u 0 before low same
  | inr behind ↦ apart u v 0 (omega (arith, behind, other)) less (sym same)
]

-- an overflow place with its next spot was one with a spot
spot_before : (p : ℕ) (l : List (ℕ × ℕ)) (q first : ℕ)
    → Contains (map (with_next_spot p) l) (q, first)
    → (old : ℕ) × Contains l (q, old) × (old ≤ first) × (q ≡ p → first ≡ old + 1)
spot_before p l q first (k, within, is) =
    let o = get_or l k (q, first) in
    let inside : k < length l = omega (arith, within, length-map l (with_next_spot p)) in
    let same : with_next_spot p o ≡ (q, first) =
    sym (get_or-map (with_next_spot p) l k (q, first) (q, first) inside) ∙ is in
    elim (cases_Bool (eqb o.0 p)) [
      | inl here ↦
          let both : ◌≡◌ {A = ℕ × ℕ} (o.0, o.1 + 1) (q, first) = rw here at same in
          let place : o.0 ≡ q = ap (λ (z : ℕ × ℕ). z.0) both in
          let number : o.1 + 1 ≡ first = ap (λ (z : ℕ × ℕ). z.1) both in
          let listed : Contains l o = Contains-get_or l k (q, first) inside in (
            o.1,
            subst (λ (z : ℕ). Contains l (z, o.1)) place listed,
            omega (arith, number),
            λ _. sym number,
          )
      | inr apart ↦
          let both : o ≡ (q, first) = rw apart at same in
          let place : o.0 ≡ q = ap (λ (z : ℕ × ℕ). z.0) both in (
            first,
            subst (Contains l) both (Contains-get_or l k (q, first) inside),
            omega arith,
            λ at. absurd (
                let is_so : eqb o.0 p ≡ true = eq-eqb o.0 p (place ∙ at) in cc (is_so, apart)),
          )
    ]

-- a place has one spot, where places are apart
one_spot : (l : List (ℕ × ℕ)) (p a b : ℕ) → AllPairs AreApart (map place_of l)
    → Contains l (p, a) → Contains l (p, b) → a ≡ b
one_spot l p a b apart (i, in_i, is) (j, in_j, is_too) = elim (cases_eq i j) [
  | inl same ↦
      let both : ◌≡◌ {A = ℕ × ℕ} (p, a) (p, b) = sym is ∙ get_or_default l i (p, a) (p, b) in_i
      ∙ ap (λ (k : ℕ). get_or l k (p, b)) same ∙ is_too in
      ap (λ (z : ℕ × ℕ). z.1) both
  | inr other ↦ absurd (elim (cases_lt i j) [
    | inl less ↦ apart i j p less (omega (arith, in_j, length-map l place_of))
        (at_p i a in_i is ∙ sym (at_p j b in_j is_too))
    | inr more ↦ apart j i p (omega (arith, more, other))
        (omega (arith, in_i, length-map l place_of)) (at_p j b in_j is_too ∙ sym (at_p i a in_i is))
  ])
]
  where
    at_p : (k n : ℕ) → k < length l → get_or l k (p, n) ≡ (p, n)
        → get_or (map place_of l) k p ≡ p
    at_p k n within is = get_or-map place_of l k (p, n) p within ∙ ap place_of is

-- ---- the tables

module _ (places : ℕ) (t : Tables) (known : KnowsPlaces places t) where
  -- a unit's place is one of the units'
  is_home : (v q : ℕ) → v < length t.places.current → q ≡ slice_index t.places.current v
      → Contains t.places.current q
  is_home v q less is =
      subst (Contains t.places.current) (sym is) (Contains-get_or t.places.current v 0 less)

  -- what counts as clean stands at a place that is known
  counted_named : (q n : ℕ) → IsCountedClean t q n → IsNamed t q
  counted_named q n (small, inl (v, less, is, above)) = inl (is_home v q less is)
  counted_named q n (small, inr (inl (first, is, above))) =
      inr (inr (map_contains t.overflow.in_use q first is))
  counted_named q n (small, inr (inr (is, above))) = inr (inl is)

  -- and so not at one that is free
  pub counted_in_use : (q n : ℕ) → IsCountedClean t q n → ¬ IsFree t.places q
  counted_in_use q n counted = known.used q (counted_named q n counted)

  pub free_apart : (p q n : ℕ) → IsFree t.places p → IsCountedClean t q n → q ≢ p
  free_apart p q n free counted same =
      counted_in_use q n counted (subst (λ (k : ℕ). IsFree t.places k) (sym same) free)

  -- ---- a sector that was written

  -- the first log sector at a unit's home
  pub home_shrinks : (u mask next : ℕ) → u < length t.places.current
      → length t.places.written ≡ length t.places.current
      → slice_index t.places.written u < LOG_SECTORS
      → CountedShrink t (after_home_log t u mask next) (slice_index t.places.current u) (first_log t u)
  home_shrinks u mask next low logs left q n (small, inl (v, less, is, first)) = elim (cases_eq v u) [
    | inl same ↦
        let mine : slice_index (after_home_log t u mask next).places.written u
        ≡ slice_index t.places.written u + 1 =
        get_or-set_same t.places.written u (slice_index t.places.written u + 1) 0
        (omega (arith, logs, low)) in
        let few = counted_few (slice_index t.places.written u) (omega (arith, left)) in
        let one_more = counted_few (slice_index t.places.written u + 1) (omega (arith, left)) in
        let above : first_log t u + 1 ≤ n =
        let one = rw (same, mine, one_more) at first in omega (arith, one) in (
          (small, inl (v, less, is, rw (same, few) (omega (arith, above)))),
          λ _ there. omega (arith, above, there),
        )
    | inr apart ↦
        let above : clean_from t v ≤ n =
        rw (get_or-set_other t.places.written u v (slice_index t.places.written u + 1) 0 apart)
        at first in (
          (small, inl (v, less, is, above)),
          λ same _. homes_differ t.places.current u v known.homes_apart low less
              apart (sym is ∙ same),
        )
  ]
  home_shrinks u mask next low logs left q n (small, inr (inl (first, is, above))) = (
    (small, inr (inl (first, is, above))),
    λ same _. known.no_home q (map_contains t.overflow.in_use q first is)
        (is_home u q low same),
  )
  home_shrinks u mask next low logs left q n (small, inr (inr (is, above))) = (
    (small, inr (inr (is, above))),
    λ same _. known.status_apart.0 (is_home u t.status.place low (sym is ∙ same)),
  )

  -- the first clean sector of an overflow place
  pub overflow_shrinks : (u p s mask next : ℕ) → Contains t.overflow.in_use (p, s)
      → CountedShrink t (after_overflow_log t u p s mask next) p s
  overflow_shrinks u p s mask next spot q n (small, inl (v, less, is, first)) = (
    (small, inl (v, less, is, first)),
    λ same _. known.no_home p (map_contains t.overflow.in_use p s spot)
        (is_home v p less (sym same ∙ is)),
  )
  overflow_shrinks u p s mask next spot q n (small, inr (inl (first, is, above))) =
      let (old, listed, less, is_next) = spot_before p t.overflow.in_use q first is in (
        (small, inr (inl (old, listed, omega (arith, less, above)))),
        λ same there.
            let one : old ≡ s = one_spot t.overflow.in_use p old s known.overflows_apart
            (subst (λ (z : ℕ). Contains t.overflow.in_use (z, old)) same listed) spot in
            omega (arith, one, is_next same, above, there),
      )
  overflow_shrinks u p s mask next spot q n (small, inr (inr (is, above))) = (
    (small, inr (inr (is, above))),
    λ same _. known.status_apart.1 (map_contains t.overflow.in_use t.status.place s
        (subst (λ (z : ℕ). Contains t.overflow.in_use (z, s)) (sym same ∙ is) spot)),
  )

  -- the first clean sector of the status place
  pub commit_shrinks : (numbers active : List ℕ) (next : ℕ)
      → CountedShrink t (after_commit t numbers next active) t.status.place t.status.first
  commit_shrinks numbers active next q n (small, inl (v, less, is, first)) = (
    (small, inl (v, less, is, first)),
    λ same _. known.status_apart.0 (is_home v t.status.place less (sym same ∙ is)),
  )
  commit_shrinks numbers active next q n (small, inr (inl (first, is, above))) = (
    (small, inr (inl (first, is, above))),
    λ same _. known.status_apart.1 (map_contains t.overflow.in_use t.status.place first
        (subst (λ (z : ℕ). Contains t.overflow.in_use (z, first)) same is)),
  )
  commit_shrinks numbers active next q n (small, inr (inr (is, above))) =
      ((small, inr (inr (is, omega (arith, above)))), λ _ there. omega (arith, above, there))

  -- ---- a place that was free, erased and written

  -- what is counted so still, and stands at a place in use; or stands there from this sector on
  abbrev pub StaysOrIsFrom : ℕ → ℕ → ℕ → ℕ → Type 0
  StaysOrIsFrom p from q n =
      (IsCountedClean t q n × (¬ IsFree t.places q)) ⊎ ((q ≡ p) × (from ≤ n))

  stays : (p from q n : ℕ) → IsCountedClean t q n → StaysOrIsFrom p from q n
  stays p from q n counted = inl (counted, counted_in_use q n counted)

  -- a unit's new place
  pub merged_clean : (after : Tables) (u p used next : ℕ) → u < length t.places.current
      → length t.places.written ≡ length t.places.current
      → IsMoved (with_next (taken t p) next) after u p used → (q n : ℕ) → IsCountedClean after q n
      → StaysOrIsFrom p (FIRST_LOG_SECTOR + used) q n
  merged_clean after u p used next low logs moved q n (small, inl (v, less, is, first)) =
      let there : v < length t.places.current = omega (
        arith,
        less,
        ap (λ (l : List ℕ). length l) moved.current,
        length-set t.places.current u p,
      ) in
      elim (cases_eq v u) [
        | inl same ↦
            let at : q ≡ p = is ∙ ap (slice_index after.places.current) same
            ∙ ap (λ (l : List ℕ). slice_index l u) moved.current
            ∙ get_or-set_same t.places.current u p 0 low in
            let count : slice_index after.places.written u ≡ used =
            ap (λ (l : List ℕ). slice_index l u) moved.written
            ∙ get_or-set_same t.places.written u used 0
            (omega (arith, logs, low)) in
            let from : FIRST_LOG_SECTOR + used ≤ n =
            rw (same, count, counted_few used moved.few) at first in
            inr (at, from)
        | inr apart ↦
            let count : slice_index after.places.written v ≡ slice_index t.places.written v =
            ap (λ (l : List ℕ). slice_index l v) moved.written
            ∙ get_or-set_other t.places.written u v used 0 apart in
            let home : q ≡ slice_index t.places.current v =
            is ∙ ap (λ (l : List ℕ). slice_index l v) moved.current
            ∙ get_or-set_other t.places.current u v p 0 apart in
            stays p _ q n (small, inl (v, there, home, rw count at first))
      ]
  merged_clean after u p used next low logs moved q n (small, inr (inl (first, is, above))) =
      stays p _ q n (
        small,
        inr (inl (
          first,
          All-contains (Contains t.overflow.in_use)
              after.overflow.in_use (q, first) moved.some is,
          above,
        )),
      )
  merged_clean after u p used next low logs moved q n (small, inr (inr (is, above))) =
      stays p _ q n (small, inr (inr (rw moved.status at is, rw moved.status at above)))

  -- a new overflow place
  pub opened_clean : (p next : ℕ) → (q n : ℕ)
      → IsCountedClean (with_overflow (taken t p) p next) q n → StaysOrIsFrom p 1 q n
  opened_clean p next q n (small, inl (v, less, is, above)) =
      stays p 1 q n (small, inl (v, less, is, above))
  opened_clean p next q n (small, inr (inl (first, is, above))) =
      elim (Contains-append_cases t.overflow.in_use ((p, 1) ∷ []) (q, first) is) [
        | inl old ↦ stays p 1 q n (small, inr (inl (first, old, above)))
        | inr (zero, _, new) ↦
            let place : p ≡ q = ap (λ (z : ℕ × ℕ). z.0) new in
            let number : 1 ≡ first = ap (λ (z : ℕ × ℕ). z.1) new in
            inr (sym place, omega (arith, number, above))
        | inr (suc k, within, new) ↦ absurd (omega (arith, within))
      ]
  opened_clean p next q n (small, inr (inr (is, above))) =
      stays p 1 q n (small, inr (inr (is, above)))

  -- the status place
  pub renewed_clean : (after : Tables) (p own from next : ℕ)
      → IsRenewed (with_next (taken t p) next) after p own from → (q n : ℕ)
      → IsCountedClean after q n → StaysOrIsFrom p from q n
  renewed_clean after p own from next renewed q n (small, inl (v, less, is, above)) =
      let there : v < length t.places.current =
      omega (arith, less, ap (λ (l : List ℕ). length l) renewed.current) in
      let home : q ≡ slice_index t.places.current v = rw renewed.current at is in
      let first : clean_from t v ≤ n = rw renewed.written at above in
      stays p from q n (small, inl (v, there, home, first))
  renewed_clean after p own from next renewed q n (small, inr (inl (first, is, above))) =
      let listed : Contains t.overflow.in_use (q, first) = rw renewed.overflow at is in
      stays p from q n (small, inr (inl (first, listed, above)))
  renewed_clean after p own from next renewed q n (small, inr (inr (is, above))) =
      let first : from ≤ n = rw renewed.first at above in
      inr (is ∙ renewed.place, first)

-- ---- places that were set aside before

module _ (places : ℕ) (t : Tables) (known : KnowsPlaces places t) (worn : List ℕ)
    (in_turn : AreNext t.places worn) where
  -- the tables without them count the same
  pub counted_before : (q n : ℕ) → IsCountedClean (with_places t (aside t.places worn)) q n
      → IsCountedClean t q n
  counted_before =
      let facts = next_places_are_aside t.places worn in_turn in
      counted_alike t (aside t.places worn) facts.current facts.written

  -- and what stays so stands at a place that was in use before
  pub stays_before : (p from q n : ℕ)
      → (IsCountedClean (with_places t (aside t.places worn)) q n
      × (¬ IsFree (aside t.places worn) q)) ⊎ ((q ≡ p) × (from ≤ n))
      → StaysOrIsFrom places t known p from q n
  stays_before p from q n (inl was) =
      let counted = counted_before q n was.0 in
      inl (counted, counted_in_use places t known q n counted)
  stays_before p from q n (inr here) = inr here
