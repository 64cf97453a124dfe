-- The last record of a list that passes a test.
use Rattle.std.proofs.Common.{◌≡◌, ℕ, Bool, true, false, List, [], ◌∷◌, ◌++◌, Option, Some, None, suc, refl, sym, ◌∙◌, ap, subst, inl, inr, arith, if◌then◌else◌}
use Rattle.std.specs.List.{All, Contains, filter, list_any}
use Rattle.std.proofs.lemmas.Bool.{and_from, and_parts, both_ways, cases_Bool, eq-eqb, eqb-true, false_from_ne_true}
use Rattle.std.proofs.lemmas.List.Elements.{All-contains}
use Rattle.std.proofs.lemmas.Option.{none-some}
use Rattle.ipl_format.specs.Record.{Record}
use Rattle.ipl_meaning.specs.Values.{counts_for}
use Rattle.ipl_meaning.specs.Last.{is_number, last_that}
use Rattle.store_laws.specs.Pending.{HasOtherNumber}
use Rattle.store_laws.proofs.ElementLemmas.{contains_here, contains_there}

-- ---- a test of a name

-- what a record is that counts for a name
pub counted : (test : ℕ → Bool) (page slot : ℕ) (r : Record) → counts_for test page slot r ≡ true
    → (r.page ≡ page) × (r.slot ≡ slot) × (test r.tid ≡ true)
counted test page slot r is =
    let (here, rest) = and_parts _ _ is in
    let (there, passes) = and_parts _ _ rest in
    (eqb-true _ _ here, eqb-true _ _ there, passes)

pub counts : (test : ℕ → Bool) (page slot : ℕ) (r : Record) → r.page ≡ page → r.slot ≡ slot → test r.tid ≡ true
    → counts_for test page slot r ≡ true
counts test page slot r here there passes =
    and_from _ _ (eq-eqb r.page page here) (and_from _ _ (eq-eqb r.slot slot there) passes)

pub is_one : (tid n : ℕ) → n ≡ tid → is_number tid n ≡ true
is_one tid n same = eq-eqb n tid same

-- two tests count a record alike where they do so on the name
pub counts_alike : (f g : ℕ → Bool) (page slot : ℕ) (r : Record)
    → (r.page ≡ page → r.slot ≡ slot → f r.tid ≡ g r.tid) → counts_for f page slot r ≡ counts_for g page slot r
counts_alike f g page slot r same = elim (cases_Bool (counts_for f page slot r)) [
  | inl by_f ↦
      let (p, q, is) = counted f page slot r by_f in
      by_f ∙ sym (counts g page slot r p q (sym (same p q) ∙ is))
  | inr not_f ↦ not_f ∙ sym (false_from_ne_true (counts_for g page slot r) (λ by_g.
      let (p, q, is) = counted g page slot r by_g in
      both_ways (counts_for f page slot r) not_f (counts f page slot r p q (same p q ∙ is))))
]

-- ---- the last one

pub last_that-append : (test : Record → Bool) (xs ys : List Record) (before : Option Record)
    → last_that test (xs ++ ys) before ≡ last_that test ys (last_that test xs before)
last_that-append test [] ys before = refl
last_that-append test (r ∷ xs) ys before = last_that-append test xs ys (if test r then Some r else before)

pub last_that-none : (test : Record → Bool) (xs : List Record) (before : Option Record) → list_any test xs ≡ false
    → last_that test xs before ≡ before
last_that-none test [] before none = refl
last_that-none test (r ∷ xs) before none = elim (cases_Bool (test r)) [
  | inl passes ↦ absurd (let clash = rw passes at none in cc clash)
  | inr fails ↦
      let rest : list_any test xs ≡ false = rw fails at none in
      rw fails (last_that-none test xs before rest)
]

pub last_that-agree : (f g : Record → Bool) (xs : List Record) (before : Option Record) → All (λ r. f r ≡ g r) xs
    → last_that f xs before ≡ last_that g xs before
last_that-agree f g [] before same = refl
last_that-agree f g (r ∷ xs) before same =
    let here : f r ≡ g r = same 0 r (omega arith) in
    rw here (last_that-agree f g xs (if g r then Some r else before) (λ k d low. same (suc k) d (omega (arith, low))))

-- where one passes, the last one is one of those
pub last_that-some : (test : Record → Bool) (xs : List Record) (before : Option Record) → list_any test xs ≡ true
    → (r : Record) × Contains xs r × (test r ≡ true) × (last_that test xs before ≡ Some r)
last_that-some test [] before some = absurd (cc some)
last_that-some test (r ∷ xs) before some = elim (cases_Bool (list_any test xs)) [
  | inl later ↦
      let (q, there, passes, is) = last_that-some test xs (if test r then Some r else before) later in
      (q, contains_there r xs q there, passes, is)
  | inr none ↦ elim (cases_Bool (test r)) [
    | inl passes ↦ (r, contains_here r xs, passes, rw passes (last_that-none test xs (Some r) none))
    | inr fails ↦ absurd (both_ways (list_any test (r ∷ xs)) (rw fails none) some)
  ]
]

-- where no record has the number, none counts for it
pub no_record : (tid page slot : ℕ) (records : List Record) → All (HasOtherNumber tid) records
    → list_any (counts_for (is_number tid) page slot) records ≡ false
no_record tid page slot records none =
    let test = counts_for (is_number tid) page slot in
    false_from_ne_true (list_any test records) (λ some.
    let (q, there, passes, _) = last_that-some test records None some in
    let mine = eqb-true q.tid tid (counted (is_number tid) page slot q passes).2 in
    All-contains (HasOtherNumber tid) records q none there mine)

-- records that don't pass may be left out
pub last_that-filter : (f p : Record → Bool) (xs : List Record) (before : Option Record)
    → ((r : Record) → f r ≡ true → p r ≡ true) → last_that f (filter p xs) before ≡ last_that f xs before
last_that-filter f p [] before keeps = refl
last_that-filter f p (r ∷ xs) before keeps = elim (cases_Bool (p r)) [
  | inl kept ↦ rw kept (last_that-filter f p xs (if f r then Some r else before) keeps)
  | inr dropped ↦ elim (cases_Bool (f r)) [
    | inl passes ↦ absurd (both_ways (p r) dropped (keeps r passes))
    | inr fails ↦ rw (dropped, fails) (last_that-filter f p xs before keeps)
  ]
]

-- the last one is one of the records, and passes
pub last_listed : (test : Record → Bool) (records : List Record) (r : Record)
    → last_that test records None ≡ Some r → Contains records r × (test r ≡ true)
last_listed test records r is = elim (cases_Bool (list_any test records)) [
  | inr none ↦ absurd (none-some r (sym (last_that-none test records None none) ∙ is))
  | inl some ↦
      let (q, there, passes, last) = last_that-some test records None some in
      let both : Some q ≡ Some r = sym last ∙ is in
      let same : q ≡ r = cc both in
      (subst (Contains records) same there, ap test (sym same) ∙ passes)
]

-- with a record behind the others
pub last_pushed : (test : Record → Bool) (live log : List Record) (r : Record)
    → last_that test (live ++ (log ++ r ∷ [])) None ≡ (if test r then Some r else last_that test (live ++ log) None)
last_pushed test live log r =
    last_that-append test live (log ++ r ∷ []) None
    ∙ last_that-append test log (r ∷ []) (last_that test live None)
    ∙ ap (λ (o : Option Record). if test r then Some r else o) (sym (last_that-append test live log None))
