-- Entries, put in by their serials.
use Rattle.std.proofs.Common.{ℕ, zero, suc, ◌≡◌, ◌≢◌, ◌⊎◌, inl, inr, ◌<◌, ◌≤◌, true, false, nat_lt, List, [], ◌∷◌, Option, Some, None, refl, sym, ◌∙◌, ap, subst, arith, All}
use Rattle.std.specs.List.{Contains}
use Rattle.std.proofs.lemmas.Bool.{cases_eq, cases_Bool, ltb-true, ltb-false}
use Rattle.std.proofs.lemmas.List.Elements.{All-nil, All-cons, All-head, All-tail, All-weaker, All-contains, All-contains_itself}
use Rattle.std.proofs.lemmas.List.Kept.{AllPairs-cons}
use Rattle.ipl_meaning.specs.Layout.{Entry, IsBelow, AllRise}
use Rattle.ipl_meaning.proofs.OnceLemmas.{rise_tail, rise_head, first_is, later_is, first_or_later}
use Rattle.ipl_meaning.specs.LaidOut.{inserted, with_inserted, sorted_below}

inserted_before : (e f : Entry) (log : List Entry) → nat_lt e.sector.serial f.sector.serial ≡ true → inserted e (f ∷ log) ≡ e ∷ f ∷ log
inserted_before e f log less = rw less refl

inserted_after : (e f : Entry) (log : List Entry) → nat_lt e.sector.serial f.sector.serial ≡ false → inserted e (f ∷ log) ≡ f ∷ inserted e log
inserted_after e f log more = rw more refl

-- ---- what it has

pub inserted_it : (e : Entry) (log : List Entry) → Contains (inserted e log) e
inserted_it e [] = first_is e []
inserted_it e (f ∷ log) = elim (cases_Bool (nat_lt e.sector.serial f.sector.serial)) [
  | inl less ↦ subst (λ (xs : List Entry). Contains xs e) (sym (inserted_before e f log less)) (first_is e (f ∷ log))
  | inr more ↦ subst (λ (xs : List Entry). Contains xs e) (sym (inserted_after e f log more)) (later_is f e (inserted e log) (inserted_it e log))
]

pub inserted_has : (e x : Entry) (log : List Entry) → Contains log x → Contains (inserted e log) x
inserted_has e x [] (k, within, is) = absurd (omega (arith, within))
inserted_has e x (f ∷ log) has = elim (cases_Bool (nat_lt e.sector.serial f.sector.serial)) [
  | inl less ↦ subst (λ (xs : List Entry). Contains xs x) (sym (inserted_before e f log less)) (later_is e x (f ∷ log) has)
  | inr more ↦ subst (λ (xs : List Entry). Contains xs x) (sym (inserted_after e f log more)) (elim (first_or_later f x log has) [
    | inl same ↦ subst (λ (y : Entry). Contains (f ∷ inserted e log) y) same (first_is f (inserted e log))
    | inr later ↦ later_is f x (inserted e log) (inserted_has e x log later)
  ])
]

pub inserted_from : (e x : Entry) (log : List Entry) → Contains (inserted e log) x → (e ≡ x) ⊎ Contains log x
inserted_from e x [] has = first_or_later e x [] has
inserted_from e x (f ∷ log) has = elim (cases_Bool (nat_lt e.sector.serial f.sector.serial)) [
  | inl less ↦ first_or_later e x (f ∷ log) (subst (λ (xs : List Entry). Contains xs x) (inserted_before e f log less) has)
  | inr more ↦ elim (first_or_later f x (inserted e log) (subst (λ (xs : List Entry). Contains xs x) (inserted_after e f log more) has)) [
    | inl same ↦ inr (subst (λ (y : Entry). Contains (f ∷ log) y) same (first_is f log))
    | inr later ↦ elim (inserted_from e x log later) [
      | inl same ↦ inl same
      | inr before ↦ inr (later_is f x log before)
    ]
  ]
]

-- ---- its order

no_pairs : AllRise []
no_pairs = λ i j d less within. absurd (omega (arith, within))

-- two entries with other serials
abbrev IsOther : Entry → Entry → Type 0
IsOther e f = f.sector.serial ≢ e.sector.serial

inserted_above : (f e : Entry) (log : List Entry) → All (IsBelow f) log → IsBelow f e → All (IsBelow f) (inserted e log)
inserted_above f e log each is = All-weaker (Contains (inserted e log)) (IsBelow f)
    (λ x has. elim (inserted_from e x log has) [
      | inl same ↦ subst (λ (y : Entry). IsBelow f y) same is
      | inr before ↦ All-contains (IsBelow f) log x each before
    ]) (inserted e log) (All-contains_itself (inserted e log))

inserted_rises : (e : Entry) (log : List Entry) → AllRise log → All (IsOther e) log → AllRise (inserted e log)
inserted_rises e [] rise others = AllPairs-cons IsBelow e [] (All-nil (IsBelow e)) no_pairs
inserted_rises e (f ∷ log) rise others = elim (cases_Bool (nat_lt e.sector.serial f.sector.serial)) [
  | inl less ↦
      let below : e.sector.serial < f.sector.serial = ltb-true _ _ less in
      subst AllRise (sym (inserted_before e f log less))
      (AllPairs-cons IsBelow e (f ∷ log)
      (All-cons (IsBelow e) f log below (All-weaker (IsBelow f) (IsBelow e) (λ x above. below_too e f x below above) log (rise_head f log rise))) rise)
  | inr more ↦
      let not_below : f.sector.serial ≤ e.sector.serial = ltb-false _ _ more in
      let other : f.sector.serial ≢ e.sector.serial = All-head (IsOther e) f log others in
      let below : IsBelow f e = omega (arith, not_below, other) in
      subst AllRise (sym (inserted_after e f log more))
      (AllPairs-cons IsBelow f (inserted e log) (inserted_above f e log (rise_head f log rise) below)
      (inserted_rises e log (rise_tail f log rise) (All-tail (IsOther e) f log others)))
]
  where
    below_too : (a b x : Entry) → a.sector.serial < b.sector.serial → b.sector.serial < x.sector.serial → a.sector.serial < x.sector.serial
    below_too a b x less more = omega (arith, less, more)

-- ---- all below a number

pub sorted_has : (f : ℕ → Option Entry) (n k : ℕ) (e : Entry) → k < n → f k ≡ Some e → Contains (sorted_below f n) e
sorted_has f zero k e low is = absurd (omega arith)
sorted_has f (suc n) k e low is = elim (cases_eq k n) [
  | inl same ↦ subst (λ (o : Option Entry). Contains (with_inserted (sorted_below f n) o) e) (sym (ap f (sym same) ∙ is)) (inserted_it e (sorted_below f n))
  | inr other ↦ still (f n) (sorted_has f n k e (omega arith) is)
]
  where
    still : (o : Option Entry) → Contains (sorted_below f n) e → Contains (with_inserted (sorted_below f n) o) e
    still None has = has
    still (Some x) has = inserted_has x e (sorted_below f n) has

-- where an entry is from
pub record IsFrom (f : ℕ → Option Entry) (n : ℕ) (e : Entry) : Type 0 where
  pub number : ℕ
  pub within : number < n
  pub here : f number ≡ Some e

from_before : (f : ℕ → Option Entry) (n : ℕ) (e : Entry) → IsFrom f n e → IsFrom f (suc n) e
from_before f n e it = record { number = it.number; within = omega (arith, it.within); here = it.here }

from_last : (f : ℕ → Option Entry) (n : ℕ) (e : Entry) (o : Option Entry) → f n ≡ o → Contains (with_inserted (sorted_below f n) o) e
    → (Contains (sorted_below f n) e → IsFrom f n e) → IsFrom f (suc n) e
from_last f n e None here has before = from_before f n e (before has)
from_last f n e (Some x) here has before = elim (inserted_from x e (sorted_below f n) has) [
  | inl same ↦ record { number = n; within = omega arith; here = here ∙ ap Some same }
  | inr earlier ↦ from_before f n e (before earlier)
]

pub sorted_from : (f : ℕ → Option Entry) (n : ℕ) (e : Entry) → Contains (sorted_below f n) e → IsFrom f n e
sorted_from f zero e (k, within, is) = absurd (omega (arith, within))
sorted_from f (suc n) e has = from_last f n e (f n) refl has (sorted_from f n e)

pub sorted_all : (f : ℕ → Option Entry) (n : ℕ) (P : Entry → Type 0) → ((k : ℕ) (e : Entry) → k < n → f k ≡ Some e → P e) → All P (sorted_below f n)
sorted_all f n P each = All-weaker (Contains (sorted_below f n)) P
    (λ e has. let it = sorted_from f n e has in each it.number e it.within it.here) (sorted_below f n) (All-contains_itself (sorted_below f n))

rises_with : (log : List Entry) (o : Option Entry) → AllRise log → ((e : Entry) → o ≡ Some e → All (IsOther e) log) → AllRise (with_inserted log o)
rises_with log None rise others = rise
rises_with log (Some e) rise others = inserted_rises e log rise (others e refl)

-- no two of them have the same serial
abbrev pub AreApart : (ℕ → Option Entry) → ℕ → Type 0
AreApart f n = (j k : ℕ) (d e : Entry) → j < k → k < n → f j ≡ Some d → f k ≡ Some e → d.sector.serial ≢ e.sector.serial

pub sorted_rises : (f : ℕ → Option Entry) (n : ℕ) → AreApart f n → AllRise (sorted_below f n)
sorted_rises f zero apart = no_pairs
sorted_rises f (suc n) apart = rises_with (sorted_below f n) (f n)
    (sorted_rises f n (λ j k d e less low first second. apart j k d e less (omega arith) first second))
    (λ e here. sorted_all f n (IsOther e) (λ j d low first. apart j n d e low (omega arith) first here))
