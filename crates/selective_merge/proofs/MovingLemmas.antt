-- A unit that moves, in the tables.
use Rattle.std.proofs.Common.{◌≡◌, ◌≢◌, ◌⊎◌, ◌<◌, ◌≤◌, ◌+◌, ℕ, zero, suc, true, false, List, [], ◌∷◌, length, map, get_or, slice_index, slice_set, Option, Some, None, IfSome, inl, inr, refl, sym, ◌∙◌, ap, subst, arith}
use Rattle.std.specs.List.{AllPairs, Contains}
use Rattle.std.proofs.lemmas.Bool.{cases_Bool, cases_eq}
use Rattle.std.proofs.lemmas.List.{get_or-set_same, get_or-map, get_or-set_other, length-map, length-set, set-set}
use Rattle.std.proofs.lemmas.List.Elements.{Contains-get_or}
use Rattle.ipl_meaning.specs.Mirrors.{AreApart}
use Rattle.ipl_meaning.specs.Tables.{Places, IsFree, StatusTable, OverflowLists, Tables, overflow_places, place_of, with_written, with_masks}
use Rattle.ipl_meaning.specs.TableSteps.{IsMoved, with_next}
use Rattle.overflow.specs.Laws.{DropsMove}
use Rattle.overflow.specs.Lists.{IsSoundOverflow, after_drop, places_left, listed}
use Rattle.unit_directory.specs.Directory.{no_masks}
use Rattle.place_taking.specs.Counts.{KeepsCounts}
use Rattle.place_taking.proofs.CountedLemmas.{keeps_counts_then, keeps_given_back}
use Rattle.selective_merge.specs.Packs.{among}
use Rattle.selective_merge.proofs.PacksLemmas.{among_contains, contains_among}
use Rattle.selective_merge.specs.Moving.{places_moved, Frees, NoneIsLostBut, TellsUnit}

-- ---- the directory

module _ (it : Places) (u p generation i : ℕ) (d : Places) (is : d ≡ places_moved it u p generation i) where
  pub moved_unit : u < length it.current → u < length d.current
  moved_unit low =
      omega (arith, low, ap (λ (x : Places). length x.current) is, length-set it.current u p)

  written_there : u < length it.written → slice_index d.written u ≡ i
  written_there low =
      ap (λ (x : Places). slice_index x.written u) is ∙ get_or-set_same it.written u i 0 low

  pub moved_left : u < length it.written → i < 15 → slice_index d.written u < 15
  moved_left low few = omega (arith, few, written_there low)

  pub moved_more : (next : Places) → u < length it.written → next ≡ with_written d u
      → next ≡ places_moved it u p generation (i + 1)
  moved_more next low then_is =
      let logs : slice_set d.written u (slice_index d.written u + 1)
      ≡ slice_set it.written u (i + 1) =
      ap (λ (n : ℕ). slice_set d.written u (n + 1)) (written_there low)
      ∙ ap (λ (x : Places). slice_set x.written u (i + 1)) is ∙ set-set it.written u i (i + 1) in
      then_is
      ∙ ap (λ (x : Places). record x {
        written = slice_set d.written u (slice_index d.written u + 1);
      }) is
      ∙ ap (λ (l : List ℕ). record (places_moved it u p generation i) { written = l }) logs

  pub moved_counts : KeepsCounts it d
  moved_counts = subst (KeepsCounts it) (sym is) (record {
    counts = refl;
    free = (keeps_given_back it (slice_index it.current u)).free;
  })

  pub moved_all : (n : ℕ) → u < length it.current → i ≡ n → d ≡ places_moved it u p generation n
  moved_all n low same = is ∙ ap (places_moved it u p generation) same

-- and what is free besides
pub frees_counts : (before after : Places) (place : Option ℕ) → Frees before after place → KeepsCounts before after
frees_counts before after place frees = record { counts = frees.erases; free = frees.still }

-- the unit moved, two places are free besides, and masks were set
pub home_counts : (it d first second after : Places) (u p generation used : ℕ) (one two : Option ℕ)
    (masks : List ℕ) → d ≡ places_moved it u p generation used → Frees d first one → Frees first second two
    → after ≡ with_masks second u masks → KeepsCounts it after
home_counts it d first second after u p generation used one two masks home frees others is =
    subst (KeepsCounts it) (sym is) (keeps_same (keeps_counts_then it first second
    (keeps_counts_then it d first (moved_counts it u p generation used d home) (frees_counts d first one frees))
    (frees_counts first second two others)))
  where
    keeps_same : KeepsCounts it second → KeepsCounts it (with_masks second u masks)
    keeps_same keeps = record { counts = keeps.counts; free = keeps.free }

-- ---- the tables

listed_at : (left : List (Option ℕ)) (i q : ℕ) → get_or left i None ≡ Some q
    → Contains (listed left) q
listed_at [] i q is = absurd (cc is)
listed_at (None ∷ left) zero q is = absurd (cc is)
listed_at (None ∷ left) (suc i) q is = listed_at left i q is
listed_at (Some k ∷ left) zero q is = (0, omega arith, let e : k ≡ q = cc is in e)
listed_at (Some k ∷ left) (suc i) q is =
    let (j, within, same) = listed_at left i q is in (suc j, omega (arith, within), same)

listed_in : (left : List (Option ℕ)) (q : ℕ) → Contains (listed left) q
    → (i : ℕ) × (i < length left) × (get_or left i None ≡ Some q)
listed_in [] q (i, within, same) = absurd (omega (arith, within))
listed_in (None ∷ left) q has =
    let (i, within, same) = listed_in left q has in (suc i, omega (arith, within), same)
listed_in (Some k ∷ left) q (zero, within, same) = (0, omega arith, ap Some same)
listed_in (Some k ∷ left) q (suc i, within, same) =
    let (j, less, is) = listed_in left q (i, omega (arith, within), same) in
    (suc j, omega (arith, less), is)

other_default : (l : List ℕ) (i d : ℕ) → i < length l → get_or l i d ≡ get_or l i 0
other_default [] i d within = absurd (omega (arith, within))
other_default (x ∷ l) zero d within = refl
other_default (x ∷ l) (suc i) d within = other_default l i d (omega (arith, within))

-- as many places as before
pub in_use_moved : (it : Places) (u p generation used : ℕ) (d : Places)
    → d ≡ places_moved it u p generation used
    → length d.in_use ≡ length it.in_use
in_use_moved it u p generation used d is = ap (λ (x : Places). length x.in_use) is
    ∙ length-set it.in_use (slice_index it.current u) false

-- an overflow place that is left is one of the chip's
pub left_within : DropsMove → (it : OverflowLists) (u : ℕ) (left : List (Option ℕ)) (i n : ℕ)
    → IsSoundOverflow it → listed left ≡ places_left it u → it.places ≡ n
    → IfSome (get_or left i None) (λ p. p < n)
left_within drops it u left i n sound is sized = case (get_or left i None) refl
  where
    case : (o : Option ℕ) → get_or left i None ≡ o → IfSome o (λ p. p < n)
    case None at = tt
    case (Some q) at =
        let (j, low, same) = ((drops it u).left q (subst (λ (l : List ℕ). Contains l q) is
        (listed_at left i q at))).0 in
        let less : j < length it.in_use = omega (arith, low, length-map it.in_use place_of) in
        let there = sound.placed j (0, 0) less in
        let placed : place_of (get_or it.in_use j (0, 0)) ≡ q =
        sym (get_or-map place_of it.in_use j (0, 0) q less) ∙ same in
        omega (arith, there, placed, sized)

-- with other masks it is the same
pub frees_masked : (before after last : Places) (o : Option ℕ) (u : ℕ) (masks : List ℕ)
    → last ≡ with_masks after u masks → Frees before after o → Frees before last o
frees_masked before after last o u masks same is = rw same (record {
  current = is.current;
  written = is.written;
  generations = is.generations;
  erases = is.erases;
  retired = is.retired;
  all = is.all;
  free = is.free;
  still = is.still;
  gone = is.gone;
  count = is.count;
})

-- the generation of a unit that moved, and its masks
pub unit_told : (before after : Tables) (one two last : Places) (u p generation used : ℕ) (masks : List ℕ)
    (left right : Option ℕ) → one ≡ places_moved before.places u p generation used
    → Frees one two left → Frees two last right → two.masks ≡ one.masks → last.masks ≡ two.masks
    → after.places ≡ with_masks last u masks → after.overflow ≡ after_drop before.overflow u
    → TellsUnit before after u generation masks
unit_told before after one two last u p generation used masks left right home first second here there is dropped = record {
  generation_is = ap (λ (x : Places). x.generations) is ∙ second.generations ∙ first.generations
      ∙ ap (λ (x : Places). x.generations) home;
  home = ap (λ (x : Places). x.masks) is
      ∙ ap (λ (l : List (List ℕ)). slice_set l u masks) (there ∙ here ∙ ap (λ (x : Places). x.masks) home)
      ∙ set-set before.places.masks u no_masks masks;
  elsewhere = ap (λ (o : OverflowLists). o.masks) dropped;
}

-- what is so once a unit moved: the home first, then the overflow places that are left
pub record HasMovedTo (t after : Tables) (u p generation used : ℕ) (one two : Places)
    (left : List (Option ℕ)) : Type 0 where
  pub home : one ≡ places_moved t.places u p generation used
  pub dropped : after.overflow ≡ after_drop t.overflow u
  pub left_is : listed left ≡ places_left t.overflow u
  pub first : Frees one two (get_or left 0 None)
  pub second : Frees two after.places (get_or left 1 None)
  pub status : after.status ≡ t.status
  pub next : after.next ≡ t.next
  pub active : after.active ≡ t.active
  pub few : length after.overflow.in_use ≤ 2

module _ (drops : DropsMove) (t after : Tables) (u p generation used : ℕ) (one two : Places)
    (left : List (Option ℕ)) (is : HasMovedTo t after u p generation used one two left) where
  current_is : after.places.current ≡ slice_set t.places.current u p
  current_is = is.second.current ∙ is.first.current ∙ ap (λ (x : Places). x.current) is.home

  pub retired_is : after.places.retired ≡ t.places.retired
  retired_is = is.second.retired ∙ is.first.retired ∙ ap (λ (x : Places). x.retired) is.home

  gone : (q : ℕ) → Contains (listed left) q
      → Contains (overflow_places t) q × ¬ Contains (overflow_places after) q
  gone q has =
      let there = (drops t.overflow u).left q
      (subst (λ (l : List ℕ). Contains l q) is.left_is has) in (there.0, rw is.dropped there.1)

  -- the tables once the unit moved
  pub is_moved : used ≤ 15 → AllPairs AreApart (overflow_places t) → IsMoved t after u p used
  is_moved few apart =
      let moves = drops t.overflow u in record {
        current = current_is;
        written = is.second.written ∙ is.first.written
            ∙ ap (λ (x : Places). x.written) is.home;
        few = few;
        all = is.second.all ∙ is.first.all ∙ ap (λ (x : Places). length x.in_use) is.home
            ∙ length-set t.places.in_use (slice_index t.places.current u) false;
        erases = is.second.erases ∙ is.first.erases ∙ ap (λ (x : Places). x.erases) is.home;
        retired = retired_is;
        sized = ap (λ (x : OverflowLists). x.places) is.dropped;
        free = λ q free. elim (is.second.free q free) [
          | inl was ↦ elim (is.first.free q was) [
            | inl before ↦ elim (cases_eq q (slice_index t.places.current u)) [
              | inl same ↦ inr (inl same)
              | inr other ↦ inl (sym (get_or-set_other t.places.in_use
                  (slice_index t.places.current u) q false true other)
                  ∙ (ap (λ (x : Places). get_or x.in_use q true) (sym is.home) ∙ before))
            ]
            | inr some ↦ inr (inr (gone q (listed_at left 0 q some)))
          ]
          | inr some ↦ inr (inr (gone q (listed_at left 1 q some)))
        ];
        spots = ap (λ (x : OverflowLists). x.spots) is.dropped;
        some = rw is.dropped moves.some;
        two = is.few;
        apart = rw is.dropped (moves.apart apart);
        named = λ v q s other there in_lists.
            rw is.dropped (moves.named v q s other there in_lists);
        status = is.status;
        next = omega (arith, is.next);
        active = is.active;
      }

  -- no place is lost
  module _ (places : ℕ) (low : u < length t.places.current) (within : p < places)
      (all : length t.places.in_use ≡ places) (many : length left ≡ 2) (q : ℕ) (less : q < places)
      (used_still : ¬ IsFree after.places q) where
    many_one : length one.in_use ≡ length t.places.in_use
    many_one = ap (λ (x : Places). length x.in_use) is.home
        ∙ length-set t.places.in_use (slice_index t.places.current u) false

    not_one : ¬ IsFree one q
    not_one free = used_still (is.second.still q (is.first.still q free))

    not_left : (i : ℕ) → i < 2 → get_or left i None ≡ Some q → ⊥
    not_left zero few at =
        used_still (is.second.still q (is.first.gone q at (omega (arith, less, all, many_one))))
    not_left (suc zero) few at =
        let same = is.first.all in
        used_still (is.second.gone q at (omega (arith, less, all, many_one, same)))
    not_left (suc (suc i)) few at = omega (arith, few)

    moved_other : (v : ℕ) → q ≢ slice_index t.places.current u → get_or t.places.current v q ≡ q
        → get_or (slice_set t.places.current u p) v q ≡ q
    moved_other v apart at = elim (cases_eq v u) [
      | inl same ↦ absurd (apart (sym at ∙ (ap (λ n. get_or t.places.current n q) same
          ∙ other_default t.places.current u q low)))
      | inr other ↦ get_or-set_other t.places.current u v p q other ∙ at
    ]

    named_still : q ≢ slice_index t.places.current u
        → Contains t.places.current q ⊎ (q ≡ t.status.place) ⊎ Contains (overflow_places t) q
        ⊎ Contains t.places.retired q
        → Contains after.places.current q ⊎ (q ≡ after.status.place)
        ⊎ Contains (overflow_places after) q ⊎ Contains after.places.retired q
    named_still apart (inl (v, there, at)) =
        inl (rw current_is (
          v,
          omega (arith, there, length-set t.places.current u p),
          moved_other v apart at,
        ))
    named_still apart (inr (inl at)) =
        inr (inl (at ∙ sym (ap (λ (s : StatusTable). s.place) is.status)))
    named_still apart (inr (inr (inr retired))) =
        inr (inr (inr (subst (λ (l : List ℕ). Contains l q) (sym retired_is) retired)))
    named_still apart (inr (inr (inl over))) =
        elim (cases_Bool (among (overflow_places after) q)) [
          | inl kept ↦ inr (inr (inl (among_contains (overflow_places after) q kept)))
          | inr none ↦
              let lost : ¬ Contains (overflow_places after) q = λ has.
              let e : true ≡ false = sym (contains_among (overflow_places after) q has) ∙ none in cc in
              let there = (drops t.overflow u).all_left q over
              (subst (λ (o : OverflowLists). ¬ Contains (map place_of o.in_use) q) is.dropped lost) in
              let (i, few, at) = listed_in left q
              (subst (λ (l : List ℕ). Contains l q) (sym is.left_is) there) in
              absurd (not_left i (omega (arith, few, many)) at)
        ]

    here : Contains after.places.current p
    here = rw current_is (subst (λ (n : ℕ). Contains (slice_set t.places.current u p) n)
        (get_or-set_same t.places.current u p 0 low)
        (Contains-get_or (slice_set t.places.current u p) u 0
        (omega (arith, low, length-set t.places.current u p))))

    pub none_lost : NoneIsLostBut p places t
        → Contains after.places.current q ⊎ (q ≡ after.status.place)
        ⊎ Contains (overflow_places after) q ⊎ Contains after.places.retired q
    none_lost none = elim (cases_eq q p) [
      | inl same ↦ inl (subst (Contains after.places.current) (sym same) here)
      | inr other ↦ elim (cases_eq q (slice_index t.places.current u)) [
        | inl old ↦ absurd (not_one (rw (is.home, old)
            (get_or-set_same t.places.in_use (slice_index t.places.current u) false true
            (omega (arith, less, all, old)))))
        | inr apart ↦ named_still apart (none q less other (λ free. not_one (rw is.home
            (get_or-set_other t.places.in_use (slice_index t.places.current u) q false true apart
            ∙ free))))
      ]
    ]

-- a counter that stood lower
pub moved_from : (t after : Tables) (u p used low high : ℕ) → low ≤ high
    → IsMoved (with_next t high) after u p used → IsMoved (with_next t low) after u p used
moved_from t after u p used low high less moved = record {
  current = moved.current;
  written = moved.written;
  few = moved.few;
  all = moved.all;
  erases = moved.erases;
  retired = moved.retired;
  sized = moved.sized;
  free = moved.free;
  spots = moved.spots;
  some = moved.some;
  two = moved.two;
  apart = moved.apart;
  named = moved.named;
  status = moved.status;
  next = let next = moved.next in omega (arith, next, less);
  active = moved.active;
}
