-- The overflow places that hold live log sectors come into use one after another.
use Rattle.std.proofs.Common.{◌≡◌, ◌≢◌, inl, inr, ◌≤◌, ◌<◌, ◌+◌, ◌*◌, ℕ, zero, suc, Bool, true, false, not, ◌&&◌, ◌||◌, ◌==◌, nat_lt, cond, List, [], ◌∷◌, ◌++◌, map, length, Option, Some, None, refl, sym, ◌∙◌, ap, subst, arith}
use Rattle.std.specs.List.{All, list_any}
use Rattle.std.proofs.lemmas.Bool.{cases_Bool, cases_eq, cases_lt, eq-eqb, ne_eqb, eqb-true, lt-ltb}
use Rattle.std.proofs.lemmas.List.{length-map, length_push, map_push}
use Rattle.std.proofs.lemmas.List.Elements.{All-map, All-push, All-weaker}
use Rattle.std.proofs.lemmas.List.Folds.{list_any-append}
use Rattle.ipl_meaning.specs.First.{at, with_one, all_below, count_below}
use Rattle.ipl_meaning.specs.Chosen.{KeptHeader}
use Rattle.ipl_meaning.specs.Live.{is_overflow_place}
use Rattle.ipl_meaning.specs.FoundLogs.{overflow_at}
use Rattle.ipl_meaning.specs.Tables.{OverflowLists, place_of}
use Rattle.overflow.specs.Lists.{names_place, clean_behind, as_used, has_room_for, AreUnused}
use Rattle.restart.specs.Notes.{Notes, holds_one, is_held, held_place, listed, IsBefore, AreInUse}

-- ---- the numbers below n that pass a test

abbrev pub placed : (ℕ → Bool) → ℕ → Option ℕ
placed holds p = cond (holds p) (Some p) None

abbrev has : ℕ → List ℕ → Bool
has p places = list_any (λ q. q == p) places

or_none : (b : Bool) → (b || false) ≡ b
or_none true = refl
or_none false = refl

has_one : (holds : ℕ → Bool) (p k : ℕ) (xs : List ℕ) → has p (with_one xs (placed holds k)) ≡ (has p xs || (holds k && (k == p)))
has_one holds p k xs = elim (cases_Bool (holds k)) [
  | inl here ↦ rw here (list_any-append (λ q. q == p) xs (k ∷ []) ∙ ap (λ b. has p xs || b) (or_none (k == p)))
  | inr none ↦ rw none (sym (or_none (has p xs)))
]

none_past : (holds : ℕ → Bool) (p n : ℕ) → n ≤ p → has p (all_below (placed holds) n) ≡ false
none_past holds p zero low = refl
none_past holds p (suc n) low =
    has_one holds p n (all_below (placed holds) n)
    ∙ rw (none_past holds p n (omega (arith, low)), ne_eqb n p (λ same. absurd (omega (arith, same, low)))) (no (holds n))
  where
    no : (b : Bool) → (false || (b && false)) ≡ false
    no true = refl
    no false = refl

pub has_all : (holds : ℕ → Bool) (p n : ℕ) → p < n → has p (all_below (placed holds) n) ≡ holds p
has_all holds p zero low = absurd (omega (arith, low))
has_all holds p (suc n) low = has_one holds p n (all_below (placed holds) n) ∙ elim (cases_eq n p) [
  | inl same ↦
      rw (none_past holds p n (omega (arith, same)), eq-eqb n p same) (one (holds n) ∙ ap holds same)
  | inr other ↦
      rw (has_all holds p n (omega (arith, low, other)), ne_eqb n p other) (none (holds p) (holds n))
]
  where
    one : (b : Bool) → (false || (b && true)) ≡ b
    one true = refl
    one false = refl

    none : (a b : Bool) → (a || (b && false)) ≡ a
    none true true = refl
    none true false = refl
    none false true = refl
    none false false = refl

all_same : {A : Type 0} (f g : ℕ → Option A) (n : ℕ) → ((k : ℕ) → k < n → f k ≡ g k) → all_below f n ≡ all_below g n
all_same f g zero same = refl
all_same f g (suc n) same = rw (all_same f g n (λ k low. same k (omega (arith, low))), same n (omega arith)) refl

-- one more that is greater than all
one_more : (before after : ℕ → Bool) (p n : ℕ) → p < n → before p ≡ false → after p ≡ true
    → ((q : ℕ) → q ≢ p → after q ≡ before q) → ((q : ℕ) → p < q → before q ≡ false)
    → all_below (placed after) n ≡ all_below (placed before) n ++ p ∷ []
one_more before after p zero low was is same last = absurd (omega (arith, low))
one_more before after p (suc n) low was is same last = elim (cases_eq n p) [
  | inl this ↦
      let now : after n ≡ true = ap after this ∙ is in
      let then : before n ≡ false = ap before this ∙ was in
      rw (now, then)
      (ap (λ l. l ++ n ∷ []) (all_same (placed after) (placed before) n
      (λ k less. ap (λ (b : Bool). let o : Option ℕ = cond b (Some k) None in o) (same k (λ e. absurd (omega (arith, e, less, this))))))
      ∙ ap (λ k. all_below (placed before) n ++ k ∷ []) this)
  | inr other ↦
      let then : before n ≡ false = last n (omega (arith, low, other)) in
      let now : after n ≡ false = same n other ∙ then in
      rw (now, then) (one_more before after p n (omega (arith, low, other)) was is same last)
]

length_one : (holds : ℕ → Bool) (k : ℕ) (xs : List ℕ) → length (with_one xs (placed holds k)) ≡ length xs + cond (holds k) 1 0
length_one holds k xs = elim (cases_Bool (holds k)) [
  | inl here ↦ rw here (length_push xs k)
  | inr none ↦ rw none (omega arith)
]

pub length_all : (holds : ℕ → Bool) (n : ℕ) → length (all_below (placed holds) n) ≡ count_below holds n
length_all holds zero = refl
length_all holds (suc n) =
    length_one holds n (all_below (placed holds) n) ∙ ap (λ (k : ℕ). k + cond (holds n) 1 0) (length_all holds n)

count_grows : (before after : ℕ → Bool) (n : ℕ) → ((q : ℕ) → before q ≡ true → after q ≡ true)
    → count_below before n ≤ count_below after n
count_grows before after zero more = omega arith
count_grows before after (suc n) more =
    let rest = count_grows before after n more in
    elim (cases_Bool (before n)) [
      | inl here ↦ rw (here, more n here) (omega (arith, rest))
      | inr none ↦ rw none (omega (arith, rest))
    ]

-- each with another value
mapped_all : (holds : ℕ → Bool) (l : List (ℕ × ℕ)) (n : ℕ)
    → map place_of l ≡ all_below (placed holds) n → map as_used l ≡ all_below (overflow_at holds) n
mapped_all holds l n is =
    again l ∙ ap (map (λ (p : ℕ). (p, 256))) is ∙ over n
  where
    again : (xs : List (ℕ × ℕ)) → map as_used xs ≡ map (λ (p : ℕ). (p, 256)) (map place_of xs)
    again [] = refl
    again (x ∷ xs) = ap (λ ys. (x.0, 256) ∷ ys) (again xs)

    over : (k : ℕ) → map (λ (p : ℕ). (p, 256)) (all_below (placed holds) k) ≡ all_below (overflow_at holds) k
    over zero = refl
    over (suc k) = elim (cases_Bool (holds k)) [
      | inl here ↦ rw here (map_push (λ (p : ℕ). (p, 256)) (all_below (placed holds) k) k ∙ ap (λ ys. ys ++ (k, 256) ∷ []) (over k))
      | inr none ↦ rw none (over k)
    ]

-- ---- places in use, by their places alone

named_places : (p : ℕ) (l : List (ℕ × ℕ)) → names_place p l ≡ has p (map place_of l)
named_places p [] = refl
named_places p (o ∷ l) = ap (λ b. (o.0 == p) || b) (named_places p l)

same_places : (p s : ℕ) (l : List (ℕ × ℕ)) → map place_of (map (clean_behind p s) l) ≡ map place_of l
same_places p s [] = refl
same_places p s (o ∷ l) = elim (cases_Bool (o.0 == p)) [
  | inl here ↦ rw here (ap (λ xs. o.0 ∷ xs) (same_places p s l))
  | inr apart ↦ rw apart (ap (λ xs. o.0 ∷ xs) (same_places p s l))
]

still_before : (p s : ℕ) (l : List (ℕ × ℕ)) → All (IsBefore (p * 256 + s)) l → All (IsBefore (p * 256 + s + 1)) (map (clean_behind p s) l)
still_before p s l firsts =
    All-map (IsBefore (p * 256 + s + 1)) (clean_behind p s) l
    (All-weaker (IsBefore (p * 256 + s)) (λ o. IsBefore (p * 256 + s + 1) (clean_behind p s o)) each l firsts)
  where
    each : (o : ℕ × ℕ) → IsBefore (p * 256 + s) o → IsBefore (p * 256 + s + 1) (clean_behind p s o)
    each o before = elim (cases_Bool (o.0 == p)) [
      | inl here ↦ let at_p : o.0 ≡ p = eqb-true o.0 p here in rw here (omega (arith, before, at_p))
      | inr apart ↦ rw apart (omega (arith, before))
    ]

pub before_more : (k : ℕ) (l : List (ℕ × ℕ)) → All (IsBefore k) l → All (IsBefore (k + 1)) l
before_more k l firsts = All-weaker (IsBefore k) (IsBefore (k + 1)) (λ o before. omega (arith, before)) l firsts

pub unused_from : (p s : ℕ) (l : List (ℕ × ℕ)) → All (IsBefore (p * 256 + s)) l → AreUnused l p s
unused_from p s l firsts =
    All-weaker (IsBefore (p * 256 + s)) (λ o. o.0 ≡ p → o.1 ≤ s) (λ o before at_p. omega (arith, before, at_p)) l firsts

-- ---- one log sector more

pub found_before : (in_overflow : Bool) (lists : OverflowLists) (u p s mask : ℕ) → 1 ≤ s
    → All (IsBefore (p * 256 + s)) lists.in_use → All (IsBefore (p * 256 + s + 1)) (listed in_overflow lists u p s mask).in_use
found_before false lists u p s mask least firsts = before_more (p * 256 + s) lists.in_use firsts
found_before true lists u p s mask least firsts = elim (cases_Bool (names_place p lists.in_use)) [
  | inl here ↦ rw here (still_before p s lists.in_use firsts)
  | inr none ↦ elim (cases_Bool (nat_lt (length lists.in_use) 2)) [
    | inl few ↦ rw (none, few) (still_before p s (lists.in_use ++ (p, 1) ∷ [])
        (All-push (IsBefore (p * 256 + s)) lists.in_use (p, 1) firsts (omega (arith, least))))
    | inr full ↦ rw (none, full) (before_more (p * 256 + s) lists.in_use firsts)
  ]
]

module _ (heads : List (Option KeptHeader)) (old new : Notes) (lists : OverflowLists) (in_overflow : Bool) (u p s mask : ℕ)
    (over : is_overflow_place (at heads p) ≡ in_overflow) (low : p < length heads) (below : s < 256)
    (holds : (q : ℕ) → holds_one new q ≡ (holds_one old q || (p == q)))
    (before : (q : ℕ) → holds_one old q ≡ true → q * 256 < p * 256 + s)
    (left : new.left ≡ (old.left || (in_overflow && not (has_room_for lists p))))
    (so_far : AreInUse heads old lists) where
  held_same : (q : ℕ) → q ≢ p → is_held heads new q ≡ is_held heads old q
  held_same q other =
      ap (λ b. is_overflow_place (at heads q) && b)
      (holds q ∙ rw (ne_eqb p q (λ e. other (sym e))) (or_none (holds_one old q)))

  held_more : (q : ℕ) → is_held heads old q ≡ true → is_held heads new q ≡ true
  held_more q was = elim (cases_eq q p) [
    | inl same ↦
        let now : holds_one new q ≡ true = holds q ∙ rw (eq-eqb p q (sym same)) (or_true (holds_one old q)) in
        rw now (both (is_overflow_place (at heads q)) (holds_one old q) was)
    | inr other ↦ held_same q other ∙ was
  ]
    where
      or_true : (b : Bool) → (b || true) ≡ true
      or_true true = refl
      or_true false = refl

      both : (a b : Bool) → (a && b) ≡ true → (a && true) ≡ true
      both true b is = refl
      both false b is = is

  more_still : old.left ≡ true → 3 ≤ count_below (is_held heads new) (length heads)
  more_still was =
      let grows = count_grows (is_held heads old) (is_held heads new) (length heads) held_more in
      let three = so_far.more was in omega (arith, grows, three)

  -- where the place was held already, or is none that may be, the same are
  same_all : is_held heads new p ≡ is_held heads old p
      → all_below (held_place heads new) (length heads) ≡ all_below (held_place heads old) (length heads)
  same_all same = all_same (held_place heads new) (held_place heads old) (length heads) (λ q _.
      ap (λ (b : Bool). let o : Option ℕ = cond b (Some q) None in o) (elim (cases_eq q p) [
        | inl this ↦ subst (λ r. is_held heads new r ≡ is_held heads old r) (sym this) same
        | inr other ↦ held_same q other
      ]))

  held_now : in_overflow ≡ true → is_held heads new p ≡ true
  held_now here = rw (over, here, holds p, eq-eqb p p refl) (or_right (holds_one old p))
    where
      or_right : (b : Bool) → (true && (b || true)) ≡ true
      or_right true = refl
      or_right false = refl

  -- a place that isn't in use, while none was left out, holds none yet
  not_held : old.left ≡ false → names_place p lists.in_use ≡ false → is_held heads old p ≡ false
  not_held none absent =
      sym (has_all (is_held heads old) p (length heads) low)
      ∙ ap (has p) (sym (so_far.all none)) ∙ sym (named_places p lists.in_use) ∙ absent

  is_last : (q : ℕ) → p < q → is_held heads old q ≡ false
  is_last q past = elim (cases_Bool (holds_one old q)) [
    | inl held ↦ absurd (let high = before q held in omega (arith, high, past, below))
    | inr none ↦ rw none (and_false (is_overflow_place (at heads q)))
  ]
    where
      and_false : (b : Bool) → (b && false) ≡ false
      and_false true = refl
      and_false false = refl

  one_all : old.left ≡ false → in_overflow ≡ true → names_place p lists.in_use ≡ false
      → all_below (held_place heads new) (length heads) ≡ map place_of lists.in_use ++ p ∷ []
  one_all none here absent =
      one_more (is_held heads old) (is_held heads new) p (length heads) low (not_held none absent) (held_now here) held_same is_last
      ∙ ap (λ l. l ++ p ∷ []) (sym (so_far.all none))

  left_parts : (a b : Bool) → (a || b) ≡ false → (a ≡ false) × (b ≡ false)
  left_parts true b is = absurd (cc)
  left_parts false b is = (refl, is)

  pub found_in_use : AreInUse heads new (listed in_overflow lists u p s mask)
  found_in_use = elim (cases_Bool in_overflow) [
    | inl here ↦ in_one here
    | inr home ↦ at_home home
  ]
    where
      at_home : in_overflow ≡ false → AreInUse heads new (listed in_overflow lists u p s mask)
      at_home home =
          let same : new.left ≡ old.left = left ∙ rw home (or_none old.left) in
          let held : is_held heads new p ≡ is_held heads old p = rw (over, home) refl in
          rw home (record {
            all = λ none. so_far.all (sym same ∙ none) ∙ sym (same_all held);
            more = λ some. more_still (sym same ∙ some);
          })

      in_one : in_overflow ≡ true → AreInUse heads new (listed in_overflow lists u p s mask)
      in_one here = elim (cases_Bool (names_place p lists.in_use)) [
        | inl named ↦
            let same : new.left ≡ old.left = left ∙ rw (here, named) (or_none old.left) in
            rw (here, named) (record {
              all = λ none.
                  let was : is_held heads old p ≡ true =
                  sym (has_all (is_held heads old) p (length heads) low)
                  ∙ ap (has p) (sym (so_far.all (sym same ∙ none))) ∙ sym (named_places p lists.in_use) ∙ named in
                  same_places p s lists.in_use ∙ so_far.all (sym same ∙ none) ∙ sym (same_all (held_now here ∙ sym was));
              more = λ some. more_still (sym same ∙ some);
            })
        | inr absent ↦ elim (cases_Bool (nat_lt (length lists.in_use) 2)) [
          | inl few ↦
              let same : new.left ≡ old.left = left ∙ rw (here, absent, few) (or_none old.left) in
              rw (here, absent, few) (record {
                all = λ none. same_places p s (lists.in_use ++ (p, 1) ∷ []) ∙ map_push place_of lists.in_use (p, 1)
                    ∙ sym (one_all (sym same ∙ none) here absent);
                more = λ some. more_still (sym same ∙ some);
              })
          | inr full ↦
              let some : new.left ≡ true = left ∙ rw (here, absent, full) (all_true old.left) in
              rw (here, absent, full) (record {
                all = λ none. absurd (let no : true ≡ false = sym some ∙ none in cc);
                more = λ _. elim (cases_Bool old.left) [
                  | inl was ↦ more_still was
                  | inr none ↦
                      let count = length_all (is_held heads new) (length heads) in
                      let all = ap length (one_all none here absent) in
                      let size = length_push (map place_of lists.in_use) p in
                      let places = length-map lists.in_use place_of in
                      let two : 2 ≤ length lists.in_use = elim (cases_lt (length lists.in_use) 2) [
                        | inl fewer ↦ absurd (let no : true ≡ false = sym (lt-ltb (length lists.in_use) 2 fewer) ∙ full in cc)
                        | inr enough ↦ enough
                      ] in
                      omega (arith, count, all, size, places, two)
                ];
              })
        ]
      ]
        where
          all_true : (b : Bool) → (b || true) ≡ true
          all_true true = refl
          all_true false = refl

-- where nothing is noted yet
pub first_in_use : (heads : List (Option KeptHeader)) (notes : Notes) (lists : OverflowLists) → ((p : ℕ) → holds_one notes p ≡ false)
    → notes.left ≡ false → lists.in_use ≡ [] → AreInUse heads notes lists
first_in_use heads notes lists holds none idle = record {
  all = λ _. ap (map place_of) idle ∙ sym (nothing (length heads));
  more = λ some. absurd (let no : true ≡ false = sym some ∙ none in cc);
}
  where
    nothing : (n : ℕ) → all_below (held_place heads notes) n ≡ []
    nothing zero = refl
    nothing (suc n) = rw holds (off (is_overflow_place (at heads n)) ∙ nothing n)
      where
        off : (b : Bool) → with_one (all_below (held_place heads notes) n) (cond (b && false) (Some n) None) ≡ all_below (held_place heads notes) n
        off true = refl
        off false = refl

-- ---- at the end

pub none_left : (heads : List (Option KeptHeader)) (notes : Notes) (lists : OverflowLists) → AreInUse heads notes lists
    → count_below (is_held heads notes) (length heads) ≤ 2 → notes.left ≡ false
none_left heads notes lists it two = elim (cases_Bool notes.left) [
  | inl some ↦ absurd (let three = it.more some in omega (arith, three, two))
  | inr none ↦ none
]

pub used_in_use : (heads : List (Option KeptHeader)) (notes : Notes) (lists : OverflowLists) → AreInUse heads notes lists
    → count_below (is_held heads notes) (length heads) ≤ 2
    → map as_used lists.in_use ≡ all_below (overflow_at (is_held heads notes)) (length heads)
used_in_use heads notes lists it two = mapped_all (is_held heads notes) lists.in_use (length heads) (it.all (none_left heads notes lists it two))
