-- Live log sectors in overflow places, listed one after another.
use Rattle.std.proofs.Common.{◌≡◌, inl, inr, ℕ, zero, suc, ◌+◌, ◌<◌, ◌≤◌, nat_lt, Bool, true, false, ◌&&◌, ◌==◌, cond, List, [], ◌∷◌, ◌++◌, map, length, get_or, set, Option, Some, None, refl, sym, ◌∙◌, ap, arith, get_or-set_same, get_or-set_other, length-set}
use Rattle.std.specs.List.{filter}
use Rattle.std.proofs.lemmas.Bool.{cases_Bool, cases_eq, eq-eqb, ne_eqb}
use Rattle.std.proofs.lemmas.List.{append-nil, map-append, length_push}
use Rattle.std.proofs.lemmas.List.Elements.{filter-append}
use Rattle.ipl_meaning.specs.Tables.{OverflowLists}
use Rattle.overflow.specs.Lists.{spots_in, masks_at, names_place, after_find, has_room_for}
use Rattle.ipl_meaning.specs.First.{with_one, all_below}
use Rattle.ipl_meaning.specs.Live.{Mark}
use Rattle.ipl_meaning.specs.FoundLogs.{spot_of}
use Rattle.restart.specs.Notes.{listed, is_overflow_of, spot_in, overflow_spots}

-- ---- one spot more

pub and_none : (b : Bool) → (b && false) ≡ false
and_none true = refl
and_none false = refl

-- where there is room for it, a log sector that is found is its unit's last
pub found_lists : (lists : OverflowLists) (u p s mask : ℕ) → has_room_for lists p ≡ true
    → ((after_find lists u p s mask).spots ≡ set lists.spots u (spots_in lists u ++ (p, s) ∷ []))
    × ((after_find lists u p s mask).masks ≡ set lists.masks u (masks_at lists u ++ mask ∷ []))
found_lists lists u p s mask room = elim (cases_Bool (names_place p lists.in_use)) [
  | inl here ↦ rw here (refl, refl)
  | inr none ↦ elim (cases_Bool (nat_lt (length lists.in_use) 2)) [
    | inl few ↦ rw (none, few) (refl, refl)
    | inr full ↦ absurd (let no : true ≡ false = sym room ∙ rw (none, full) refl in cc)
  ]
]

-- and where there is none, nothing changes
pub left_out : (lists : OverflowLists) (u p s mask : ℕ) → has_room_for lists p ≡ false → after_find lists u p s mask ≡ lists
left_out lists u p s mask room = elim (cases_Bool (names_place p lists.in_use)) [
  | inl here ↦ absurd (let no : true ≡ false = sym (rw here refl) ∙ room in cc)
  | inr none ↦ elim (cases_Bool (nat_lt (length lists.in_use) 2)) [
    | inl few ↦ absurd (let no : true ≡ false = sym (rw (none, few) refl) ∙ room in cc)
    | inr full ↦ rw (none, full) refl
  ]
]

-- it is its unit's, and no other's
pub listed_spots : (in_overflow : Bool) (lists : OverflowLists) (unit p s mask u : ℕ) → unit < length lists.spots
    → spots_in (listed in_overflow lists unit p s mask) u
    ≡ with_one (spots_in lists u) (cond ((in_overflow && has_room_for lists p) && (unit == u)) (Some (p, s)) None)
listed_spots false lists unit p s mask u low = refl
listed_spots true lists unit p s mask u low = elim (cases_Bool (has_room_for lists p)) [
  | inr none ↦ rw none (ap (λ (l : OverflowLists). spots_in l u) (left_out lists unit p s mask none))
  | inl room ↦
      let more : List (ℕ × ℕ) = spots_in lists unit ++ (p, s) ∷ [] in
      let is : (after_find lists unit p s mask).spots ≡ set lists.spots unit more = (found_lists lists unit p s mask room).0 in
      elim (cases_eq unit u) [
        | inl same ↦
            rw (room, eq-eqb unit u same)
            (ap (λ l. get_or l u []) is
            ∙ ap (λ (v : ℕ). get_or (set lists.spots unit more) v []) (sym same)
            ∙ get_or-set_same lists.spots unit more [] low
            ∙ ap (λ (v : ℕ). spots_in lists v ++ (p, s) ∷ []) same)
        | inr other ↦
            rw (room, ne_eqb unit u other)
            (ap (λ l. get_or l u []) is
            ∙ get_or-set_other lists.spots unit u more [] (λ e. other (sym e)))
      ]
]

one_length : {A : Type 0} (xs : List A) (b : Bool) (x : A)
    → length (with_one xs (cond b (Some x) None)) ≡ length xs + cond b 1 0
one_length xs true x = length_push xs x
one_length xs false x = omega arith

-- at most one more
pub listed_fewer : (in_overflow : Bool) (lists : OverflowLists) (unit p s mask u : ℕ) → unit < length lists.spots
    → length (spots_in (listed in_overflow lists unit p s mask) u)
    ≤ length (spots_in lists u) + cond (in_overflow && (unit == u)) 1 0
listed_fewer in_overflow lists unit p s mask u low =
    let size = ap length (listed_spots in_overflow lists unit p s mask u low)
    ∙ one_length (spots_in lists u) ((in_overflow && has_room_for lists p) && (unit == u)) (p, s) in
    let less = fewer in_overflow (has_room_for lists p) (unit == u) in omega (arith, size, less)
  where
    fewer : (a b d : Bool) → cond ((a && b) && d) 1 0 ≤ cond (a && d) 1 0
    fewer true true true = omega arith
    fewer true true false = omega arith
    fewer true false true = omega arith
    fewer true false false = omega arith
    fewer false b d = omega arith

-- of as many units
pub listed_places : (in_overflow : Bool) (lists : OverflowLists) (unit p s mask : ℕ)
    → (listed in_overflow lists unit p s mask).places ≡ lists.places
listed_places false lists unit p s mask = refl
listed_places true lists unit p s mask = elim (cases_Bool (names_place p lists.in_use)) [
  | inl here ↦ rw here refl
  | inr none ↦ elim (cases_Bool (nat_lt (length lists.in_use) 2)) [
    | inl few ↦ rw (none, few) refl
    | inr full ↦ rw (none, full) refl
  ]
]

pub listed_units : (in_overflow : Bool) (lists : OverflowLists) (unit p s mask : ℕ)
    → length (listed in_overflow lists unit p s mask).spots ≡ length lists.spots
listed_units false lists unit p s mask = refl
listed_units true lists unit p s mask = elim (cases_Bool (has_room_for lists p)) [
  | inl room ↦ ap length (found_lists lists unit p s mask room).0 ∙ length-set lists.spots unit (spots_in lists unit ++ (p, s) ∷ [])
  | inr none ↦ ap (λ (l : OverflowLists). length l.spots) (left_out lists unit p s mask none)
]

-- ---- the spots of marks

-- with one mark more
pub spots_push : (u : ℕ) (marks : List Mark) (mark : Mark)
    → overflow_spots u (marks ++ mark ∷ []) ≡ with_one (overflow_spots u marks) (spot_of u (Some mark))
spots_push u marks mark =
    ap (map spot_in) (filter-append (is_overflow_of u) marks (mark ∷ []))
    ∙ map-append spot_in (filter (is_overflow_of u) marks) (filter (is_overflow_of u) (mark ∷ []))
    ∙ last (is_overflow_of u mark) refl
  where
    last : (b : Bool) → is_overflow_of u mark ≡ b
        → overflow_spots u marks ++ map spot_in (filter (is_overflow_of u) (mark ∷ []))
        ≡ with_one (overflow_spots u marks) (spot_of u (Some mark))
    last true is = rw is refl
    last false is = rw is (append-nil (overflow_spots u marks))

spots_one : (u : ℕ) (marks : List Mark) (o : Option Mark)
    → with_one (overflow_spots u marks) (spot_of u o) ≡ overflow_spots u (with_one marks o)
spots_one u marks None = refl
spots_one u marks (Some mark) = sym (spots_push u marks mark)

-- they are those that are found by rising number
pub spots_all : (u : ℕ) (f : ℕ → Option Mark) (n : ℕ)
    → all_below (λ k. spot_of u (f k)) n ≡ overflow_spots u (all_below f n)
spots_all u f zero = refl
spots_all u f (suc n) =
    ap (λ (xs : List (ℕ × ℕ)). with_one xs (spot_of u (f n))) (spots_all u f n)
    ∙ spots_one u (all_below f n) (f n)
