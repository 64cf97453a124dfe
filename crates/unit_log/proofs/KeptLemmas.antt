-- Log sectors, put in by their serials.
use Rattle.std.proofs.Common.{◌≡◌, ◌≢◌, ◌⊎◌, ℕ, zero, suc, ◌<◌, ◌≤◌, ◌+◌, ◌==◌, true, false, nat_lt, List, [], ◌∷◌, length, inl, inr, refl, sym, ◌∙◌, ap, ap₂, subst, arith}
use Rattle.std.specs.List.{Contains, All, insert}
use Rattle.std.proofs.lemmas.Bool.{cases_Bool, or_parts, eq-eqb, ltb-true, ltb-false}
use Rattle.std.proofs.lemmas.List.Elements.{All-cons, All-nil, All-weaker, All-contains, All-contains_itself}
use Rattle.std.proofs.lemmas.List.Kept.{AllPairs-cons}
use Rattle.unit_log.specs.declared.scratch.LogSector.{LogSector}
use Rattle.unit_log.specs.Kept.{has_serial, rank_of, with_kept, IsBefore, HaveRisingSerials}

pub contains_cons : {X : Type 0} (x : X) (xs : List X) (y : X) → Contains (x ∷ xs) y
    → (x ≡ y) ⊎ Contains xs y
contains_cons x xs y (zero, _, is) = inl is
contains_cons x xs y (suc k, within, is) = inr (k, omega (arith, within), is)

pub contains_here : {X : Type 0} (x : X) (xs : List X) → Contains (x ∷ xs) x
contains_here x xs = (0, omega arith, refl)

pub contains_there : {X : Type 0} (x : X) (xs : List X) (y : X) → Contains xs y
    → Contains (x ∷ xs) y
contains_there x xs y (k, within, is) = (suc k, omega (arith, within), is)

pub with_kept_has : (x : LogSector) (l : List LogSector) → Contains (with_kept x l) x
with_kept_has x [] = contains_here x []
with_kept_has x (y ∷ l) = elim (cases_Bool (nat_lt y.serial x.serial)) [
  | inl less ↦ rw less (contains_there y (with_kept x l) x (with_kept_has x l))
  | inr more ↦ rw more (contains_here x (y ∷ l))
]

pub with_kept_keeps : (x : LogSector) (l : List LogSector) (z : LogSector) → Contains l z
    → Contains (with_kept x l) z
with_kept_keeps x [] z is = contains_there x [] z is
with_kept_keeps x (y ∷ l) z is = elim (cases_Bool (nat_lt y.serial x.serial)) [
  | inl less ↦ rw less (elim (contains_cons y l z is) [
    | inl same ↦ subst (Contains (y ∷ with_kept x l)) same (contains_here y (with_kept x l))
    | inr later ↦ contains_there y (with_kept x l) z (with_kept_keeps x l z later)
  ])
  | inr more ↦ rw more (contains_there x (y ∷ l) z is)
]

pub with_kept_from : (x : LogSector) (l : List LogSector) (z : LogSector)
    → Contains (with_kept x l) z → (x ≡ z) ⊎ Contains l z
with_kept_from x [] z is = contains_cons x [] z is
with_kept_from x (y ∷ l) z is = elim (cases_Bool (nat_lt y.serial x.serial)) [
  | inl less ↦ elim (contains_cons y (with_kept x l) z (rw less at is)) [
    | inl same ↦ inr (subst (Contains (y ∷ l)) same (contains_here y l))
    | inr later ↦
        elim (with_kept_from x l z later) [
          | inl this ↦ inl this
          | inr before ↦
              inr (contains_there y l z before)
        ]
  ]
  | inr more ↦ contains_cons x (y ∷ l) z (rw more at is)
]

pub length_with_kept : (x : LogSector) (l : List LogSector) → length (with_kept x l) ≡ length l + 1
length_with_kept x [] = refl
length_with_kept x (y ∷ l) = elim (cases_Bool (nat_lt y.serial x.serial)) [
  | inl less ↦ rw less (omega (arith, length_with_kept x l))
  | inr more ↦ rw more (omega arith)
]

pub inserted_is : (x : LogSector) (l : List LogSector)
    → insert l (rank_of x.serial l) x ≡ with_kept x l
inserted_is x [] = refl
inserted_is x (y ∷ l) = elim (cases_Bool (nat_lt y.serial x.serial)) [
  | inl less ↦ let one : 1 + rank_of x.serial l ≡ suc (rank_of x.serial l) = omega arith in
      rw (less, one) (ap (λ (k : List LogSector). y ∷ k) (inserted_is x l))
  | inr more ↦ rw more refl
]

-- ---- order

pub rise_tail : (y : LogSector) (l : List LogSector) → HaveRisingSerials (y ∷ l) → HaveRisingSerials l
rise_tail y l rise =
    λ i j d less within. rise (suc i) (suc j) d (omega (arith, less)) (omega (arith, within))

pub rise_head : (y : LogSector) (l : List LogSector) → HaveRisingSerials (y ∷ l) → All (IsBefore y) l
rise_head y l rise = λ i d within. rise 0 (suc i) d (omega arith) (omega (arith, within))

still_before : (y x : LogSector) (l : List LogSector) → IsBefore y x → All (IsBefore y) l
    → All (IsBefore y) (with_kept x l)
still_before y x l less all = All-weaker (Contains (with_kept x l)) (IsBefore y)
    (λ z has. elim (with_kept_from x l z has) [
      | inl same ↦
          subst (IsBefore y) same less
      | inr before ↦ All-contains (IsBefore y) l z all before
    ])
    (with_kept x l) (All-contains_itself (with_kept x l))

pub rising_with_kept : (x : LogSector) (l : List LogSector) → has_serial x.serial l ≡ false
    → HaveRisingSerials l → HaveRisingSerials (with_kept x l)
rising_with_kept x [] none rise =
    AllPairs-cons IsBefore x [] (All-nil (IsBefore x))
    (λ i j d less within. absurd (omega (arith, within)))
rising_with_kept x (y ∷ l) none rise = elim (cases_Bool (nat_lt y.serial x.serial)) [
  | inl less ↦
      rw less (AllPairs-cons IsBefore y (with_kept x l)
      (still_before y x l (ltb-true _ _ less) (rise_head y l rise))
      (rising_with_kept x l (or_parts _ _ none).1 (rise_tail y l rise)))
  | inr more ↦
      let high : x.serial ≤ y.serial = ltb-false _ _ more in
      let other : y.serial ≢ x.serial =
      λ same. absurd (let e : (y.serial == x.serial) ≡ true = eq-eqb _ _ same in
      let f : (y.serial == x.serial) ≡ false = (or_parts _ _ none).0 in cc) in
      let below : IsBefore x y = omega (arith, high, other) in
      rw more (AllPairs-cons IsBefore x (y ∷ l)
      (All-cons (IsBefore x) y l below
      (All-weaker (IsBefore y) (IsBefore x) (λ z above. after x y z below above) l
      (rise_head y l rise))) rise)
]
  where
    after : (x y z : LogSector) → x.serial < y.serial → y.serial < z.serial → x.serial < z.serial
    after x y z low more = omega arith

-- ---- the new items

pub items_then : (l items : List LogSector) (x : LogSector) (at : ℕ)
    → items ≡ insert l at x → at ≡ rank_of x.serial l → items ≡ with_kept x l
items_then l items x at is same = is ∙ ap (λ (k : ℕ). insert l k x) same ∙ inserted_is x l

-- ---- two rising lists of the same

abbrev pub HasAll : List LogSector → List LogSector → Type 0
HasAll a b = (z : LogSector) → Contains a z → Contains b z

in_tail : (x y : LogSector) (a b : List LogSector) → x ≡ y → HaveRisingSerials (x ∷ a)
    → HasAll (x ∷ a) (y ∷ b) → HasAll a b
in_tail x y a b same rise has z is = elim (contains_cons y b z (has z (contains_there x a z is))) [
  | inl first ↦ absurd (
      let below : x.serial < z.serial = All-contains (IsBefore x) a z (rise_head x a rise) is in
      let equal : x.serial ≡ z.serial = ap (λ (k : LogSector). k.serial) (same ∙ first) in
      omega arith)
  | inr later ↦ later
]

heads_same : (x y : LogSector) (a b : List LogSector) → HaveRisingSerials (x ∷ a) → HaveRisingSerials (y ∷ b)
    → HasAll (x ∷ a) (y ∷ b) → HasAll (y ∷ b) (x ∷ a) → x ≡ y
heads_same x y a b rise also has back = elim (contains_cons y b x (has x (contains_here x a))) [
  | inl same ↦ sym same
  | inr after ↦ elim (contains_cons x a y (back y (contains_here y b))) [
    | inl same ↦ same
    | inr later ↦ absurd (
        let above : y.serial < x.serial =
        All-contains (IsBefore y) b x (rise_head y b also) after in
        let below : x.serial < y.serial =
        All-contains (IsBefore x) a y (rise_head x a rise) later in omega arith)
  ]
]

pub lists_same : (a b : List LogSector) → HaveRisingSerials a → HaveRisingSerials b → HasAll a b → HasAll b a
    → a ≡ b
lists_same [] [] rise also has back = refl
lists_same [] (y ∷ b) rise also has back =
    absurd (let is = back y (contains_here y b) in let within = is.1 in omega (arith, within))
lists_same (x ∷ a) [] rise also has back =
    absurd (let is = has x (contains_here x a) in let within = is.1 in omega (arith, within))
lists_same (x ∷ a) (y ∷ b) rise also has back =
    let same = heads_same x y a b rise also has back in
    ap₂ (λ (z : LogSector) (l : List LogSector). z ∷ l) same
    (lists_same a b (rise_tail x a rise) (rise_tail y b also) (in_tail x y a b same rise has)
    (in_tail y x b a (sym same) also back))
