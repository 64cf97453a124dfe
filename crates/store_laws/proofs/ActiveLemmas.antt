-- The numbers of open sessions, as a test and in the tables.
use Rattle.std.proofs.Common.{Bool, IsTrue, List, None, Option, Some, [], ap, eqb, false, inl, inr, refl, subst, sym, true, ℕ, ◌++◌, ◌==◌, ◌∙◌, ◌∷◌, ◌≡◌, ◌≢◌}
use Rattle.std.specs.List.{All, Contains, filter}
use Rattle.std.proofs.lemmas.Bool.{cases_eq, eq-eqb, ne_eqb, not-true, not_from_false, both_ways}
use Rattle.std.proofs.lemmas.List.Elements.{All-contains, Contains-append_left, Contains-push, Contains-push_cases}
use Rattle.std.proofs.lemmas.Option.{none-some, same_Some}
use Rattle.record_locks.specs.Held.{is_among}
use Rattle.ipl_meaning.specs.Layout.{Layout}
use Rattle.ipl_meaning.specs.Rests.{now}
use Rattle.ipl_meaning.specs.Tables.{Tables}
use Rattle.store_laws.specs.Pending.{SessionNumbers, with_number}
use Rattle.store_laws.specs.PendingLaws.{AreActive}
use Rattle.store_laws.specs.Fits.{is_active, with_active, is_another, without_active}
use Rattle.store_laws.proofs.ElementLemmas.{contains_here, contains_there, contains_filter, contains_kept, any_there}
use Rattle.store_laws.proofs.PendingNumberLemmas.{number_here, number_other, number_cases, still_open}

-- ---- the test after a change

pub same_truth : (a b : Bool) → (a ≡ true → b ≡ true) → (b ≡ true → a ≡ true) → a ≡ b
same_truth true true to from = refl
same_truth false false to from = refl
same_truth true false to from = sym (to refl)
same_truth false true to from = from refl

-- a number that the session neither had nor has is active as before
pub others_alike : (numbers : SessionNumbers) (active rest : ℕ → Bool) (s : ℕ) (o : Option ℕ) → AreActive numbers active
    → AreActive (with_number numbers s o) rest → (n : ℕ) → numbers s ≢ Some n → o ≢ Some n → active n ≡ rest n
others_alike numbers active rest s o tells after n before now = same_truth (active n) (rest n) to from
  where
    to : active n ≡ true → rest n ≡ true
    to is =
        let (t, mine) = (tells n).0 is in
        let other : t ≢ s = λ same. before (ap numbers (sym same) ∙ mine) in
        (after n).1 (t, number_other numbers s o t other ∙ mine)

    from : rest n ≡ true → active n ≡ true
    from is =
        let (t, mine) = (after n).0 is in
        elim (number_cases numbers s o t n mine) [
          | inl here ↦ absurd (now here.1)
          | inr other ↦ (tells n).1 (t, other.1)
        ]

-- ---- in the tables

pub among_listed : (l : List ℕ) (n : ℕ) → Contains l n → is_among n l ≡ true
among_listed l n is = any_there (λ m. m == n) l n is (eq-eqb n n refl)

pub listed_among : (l : List ℕ) (n : ℕ) → is_among n l ≡ true → Contains l n
listed_among [] n is = absurd (cc is)
listed_among (k ∷ l) n is = elim (cases_eq k n) [
  | inl same ↦ subst (Contains (k ∷ l)) same (contains_here k l)
  | inr other ↦
      let here : (k == n) ≡ false = ne_eqb k n other in
      contains_there k l n (listed_among l n (rw here at is))
]

-- a number in use is in the list
pub is_listed : (numbers : SessionNumbers) (t : Tables) → AreActive numbers (is_active t) → (s tid : ℕ)
    → numbers s ≡ Some tid → Contains t.active tid
is_listed numbers t tells s tid mine = listed_among t.active tid ((tells tid).1 (s, mine))

pub active_begun : (numbers : SessionNumbers) (t : Tables) (s tid : ℕ) → AreActive numbers (is_active t) → numbers s ≡ None
    → AreActive (with_number numbers s (Some tid)) (is_active (with_active t tid))
active_begun numbers t s tid tells closed n = (to, from)
  where
    to : IsTrue (is_among n (t.active ++ tid ∷ [])) → (a : ℕ) × (with_number numbers s (Some tid) a ≡ Some n)
    to is = elim (Contains-push_cases t.active tid n (listed_among (t.active ++ tid ∷ []) n is)) [
      | inr new ↦ (s, number_here numbers s (Some tid) s refl ∙ ap (λ (k : ℕ). Some k) new)
      | inl before ↦
          let (a, mine) = (tells n).0 (among_listed t.active n before) in
          let other : a ≢ s = λ same. none-some n (sym closed ∙ ap numbers (sym same) ∙ mine) in
          (a, number_other numbers s (Some tid) a other ∙ mine)
    ]

    from : (a : ℕ) × (with_number numbers s (Some tid) a ≡ Some n) → IsTrue (is_among n (t.active ++ tid ∷ []))
    from (a, mine) = elim (number_cases numbers s (Some tid) a n mine) [
      | inl here ↦
          among_listed (t.active ++ tid ∷ []) n
          (subst (Contains (t.active ++ tid ∷ [])) (same_Some tid n here.1) (Contains-push t.active tid))
      | inr other ↦
          among_listed (t.active ++ tid ∷ []) n
          (Contains-append_left t.active (tid ∷ []) n (is_listed numbers t tells a n other.1))
    ]

pub active_ended : (numbers : SessionNumbers) (t : Tables) (s tid : ℕ) → AreActive numbers (is_active t)
    → numbers s ≡ Some tid → ((a b n : ℕ) → numbers a ≡ Some n → numbers b ≡ Some n → a ≡ b)
    → AreActive (with_number numbers s None) (is_active (without_active t tid))
active_ended numbers t s tid tells mine apart n = (to, from)
  where
    to : IsTrue (is_among n (filter (is_another tid) t.active)) → (a : ℕ) × (with_number numbers s None a ≡ Some n)
    to is =
        let listed = listed_among (filter (is_another tid) t.active) n is in
        let (before, passes) = contains_filter (is_another tid) t.active n listed in
        let (a, its) = (tells n).0 (among_listed t.active n before) in
        let other : a ≢ s = λ same.
        let number = same_Some tid n (sym mine ∙ ap numbers (sym same) ∙ its) in
        both_ways (eqb n tid) (not-true (eqb n tid) passes) (eq-eqb n tid (sym number)) in
        (a, number_other numbers s None a other ∙ its)

    from : (a : ℕ) × (with_number numbers s None a ≡ Some n)
        → IsTrue (is_among n (filter (is_another tid) t.active))
    from (a, its) =
        let (other, number) = still_open numbers s a n its in
        let apart_from : n ≢ tid = λ same. other (apart a s n number (mine ∙ ap (λ (k : ℕ). Some k) (sym same))) in
        among_listed (filter (is_another tid) t.active) n
        (contains_kept (is_another tid) t.active n (is_listed numbers t tells a n number)
        (not_from_false (eqb n tid) (ne_eqb n tid apart_from)))

-- ---- the same numbers

pub active_same : (t after : Tables) → after.active ≡ t.active → is_active after ≡ is_active t
active_same t after same = λ i tid. is_among tid (same i)

pub still_active : (numbers : SessionNumbers) (t after : Tables) → after.active ≡ t.active → AreActive numbers (is_active t)
    → AreActive numbers (is_active after)
still_active numbers t after same tells = subst (AreActive numbers) (sym (active_same t after same)) tells

-- where no active number of the tables is committed, no session's is
pub waits_for : (it : Layout) (numbers : SessionNumbers) (t : Tables) → AreActive numbers (is_active t)
    → All (λ n. it.committed n ≡ false) t.active → (s tid : ℕ) → numbers s ≡ Some tid → it.committed tid ≡ false
waits_for it numbers t tells waits s tid mine =
    All-contains (λ n. it.committed n ≡ false) t.active tid waits (is_listed numbers t tells s tid mine)
