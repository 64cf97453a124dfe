-- How numbers are kept, unit by unit.
use Rattle.std.proofs.Common.{◌≡◌, ◌⊎◌, ℕ, ◌<◌, ◌+◌, inl, inr, Bool, true, false, List, get_or, refl, sym, ◌∙◌, ap, subst, arith, IsTrue}
use Rattle.std.specs.List.{All, Contains}
use Rattle.std.proofs.lemmas.List.Elements.{All-contains, Contains-get_or}
use Rattle.std.proofs.lemmas.Bool.{cases_eq, cases_Bool}
use Rattle.ipl_format.specs.Record.{Record}
use Rattle.ipl_meaning.specs.Layout.{Shape, Layout, records_of}
use Rattle.ipl_meaning.specs.Steps.{AllWait}
use Rattle.number_set.specs.Numbers.{among}
use Rattle.number_set.proofs.AmongLemmas.{among_is_contains}
use Rattle.number_set.proofs.NumberLemmas.{numbers_are_a_union}
use Rattle.restart.specs.Joins.{committed_in, joined}
use Rattle.restart.specs.Keeps.{IsLogged, IsLoggedBelow, JoinsLog, KeepsOf, NoneAreKept, UnitsJoin, JoinedNumbersJoin, MergedUnitsAddNothing, KeptNumbersKeep, KeptNumbersAreExact}
use Rattle.restart.proofs.JoinLemmas.{committed_is_logged}

-- what isn't there isn't among them
not_among : (tid : ℕ) (numbers : List ℕ) → ¬ Contains numbers tid → among numbers tid ≡ false
not_among tid numbers none = elim (cases_Bool (among numbers tid)) [
  | inl is ↦ absurd (none ((among_is_contains numbers tid).0 is))
  | inr other ↦ other
]

-- a record that waits isn't committed
waits_not : (committed : ℕ → Bool) (records : List Record) (tid : ℕ)
    → All (λ r. committed r.tid ≡ false) records
    → (r : Record) × Contains records r × (r.tid ≡ tid) → committed tid ≡ true → ⊥
waits_not committed records tid wait (r, has, is) true_it =
    let none : committed r.tid ≡ false =
    All-contains (λ (r : Record). committed r.tid ≡ false) records r wait has in
    let some : committed r.tid ≡ true = ap committed is ∙ true_it in
    let no_way : true ≡ false = sym some ∙ none in cc no_way

pub none_are_kept : NoneAreKept
none_are_kept it tid = (
  λ has. absurd (let within = has.1 in omega (arith, within)),
  λ (is, logged). absurd (let low = logged.1 in omega (arith, low)),
)

pub units_join : UnitsJoin
units_join n it kept new keeps joins tid = (forth, back) where
  forth : Contains new tid → IsTrue (it.committed tid) × IsLoggedBelow (n + 1) it tid
  forth has = elim ((joins tid).0 has) [
    | inl before ↦
        let (is, logged) = (keeps tid).0 before in
        (is, (logged.0, omega (arith, logged.1), logged.2))
    | inr (is, logged) ↦ (is, (n, omega arith, logged))
  ]

  back : IsTrue (it.committed tid) × IsLoggedBelow (n + 1) it tid → Contains new tid
  back (is, (u, low, logged)) = elim (cases_eq u n) [
    | inl same ↦ (joins tid).1
        (inr (is, subst (λ (v : ℕ). IsLogged (it.units v).log tid) same logged))
    | inr other ↦ (joins tid).1 (inl ((keeps tid).1 (is, (u, omega (arith, low, other), logged))))
  ]

pub joined_numbers_join : JoinedNumbersJoin
joined_numbers_join committed numbers log kept same tid = (forth, back) where
  forth : Contains (joined numbers (records_of log) kept) tid
      → Contains kept tid ⊎ (IsTrue (committed tid) × IsLogged log tid)
  forth has = elim ((numbers_are_a_union (committed_in numbers (records_of log)) kept tid).0 has) [
    | inl new ↦
        let (there, logged) = (committed_is_logged numbers (records_of log) tid).0 new in
        inr ((same tid).1 there, logged)
    | inr before ↦ inl before
  ]

  back : Contains kept tid ⊎ (IsTrue (committed tid) × IsLogged log tid)
      → Contains (joined numbers (records_of log) kept) tid
  back (inl before) =
      (numbers_are_a_union (committed_in numbers (records_of log)) kept tid).1 (inr before)
  back (inr (is, logged)) =
      (numbers_are_a_union (committed_in numbers (records_of log)) kept tid).1
      (inl ((committed_is_logged numbers (records_of log) tid).1 ((same tid).0 is, logged)))

pub merged_units_add_nothing : MergedUnitsAddNothing
merged_units_add_nothing n it now kept keeps same wait tid = (forth, back) where
  forth : Contains kept tid → IsTrue (now.committed tid) × IsLoggedBelow (n + 1) now tid
  forth has =
      let (is, logged) = (keeps tid).0 has in (
        subst (λ (f : ℕ → Bool). IsTrue (f tid)) (sym same.committed) is,
        (
          logged.0,
          omega (arith, logged.1),
          subst (λ (s : Shape). IsLogged s.log tid) (sym (same.units logged.0 logged.1)) logged.2,
        ),
      )

  back : IsTrue (now.committed tid) × IsLoggedBelow (n + 1) now tid → Contains kept tid
  back (is, (u, low, logged)) = elim (cases_eq u n) [
    | inl at ↦ absurd (waits_not now.committed (records_of (now.units n).log) tid wait
        (subst (λ (v : ℕ). IsLogged (now.units v).log tid) at logged) is)
    | inr other ↦
        let less : u < n = omega (arith, low, other) in
        (keeps tid).1 (
          subst (λ (f : ℕ → Bool). IsTrue (f tid)) same.committed is,
          (u, less, subst (λ (s : Shape). IsLogged s.log tid) (same.units u less) logged),
        )
  ]

pub kept_numbers_keep : KeptNumbersKeep
kept_numbers_keep it kept keeps u low k none within =
    let r : Record = get_or (records_of (it.units u).log) k none in
    let has : Contains (records_of (it.units u).log) r =
    Contains-get_or (records_of (it.units u).log) k none within in
    elim (cases_Bool (it.committed r.tid)) [
      | inl is ↦
          (among_is_contains kept r.tid).1 ((keeps r.tid).1 (is, (u, low, (r, has, refl))))
          ∙ sym is
      | inr other ↦ not_among r.tid kept (λ there.
          let is = ((keeps r.tid).0 there).0 in
          let no_way : true ≡ false = sym is ∙ other in cc no_way) ∙ sym other
    ]

pub kept_numbers_are_exact : KeptNumbersAreExact
kept_numbers_are_exact it kept keeps tid = (
  λ is. (keeps tid).0 ((among_is_contains kept tid).0 is),
  λ both. (among_is_contains kept tid).1 ((keeps tid).1 both),
)

-- ---- of some units

-- those that are added, or are left out, have records that wait alone
pub keeps_as : (Of More : ℕ → Type 0) (it : Layout) (kept : List ℕ) → KeepsOf Of it kept
    → ((u : ℕ) → Of u → More u ⊎ AllWait it.committed (records_of (it.units u).log))
    → ((u : ℕ) → More u → Of u ⊎ AllWait it.committed (records_of (it.units u).log))
    → KeepsOf More it kept
keeps_as Of More it kept keeps to from tid = (
  λ has.
      let (is, (u, of, logged)) = (keeps tid).0 has in elim (to u of) [
        | inl more ↦ (is, (u, more, logged))
        | inr wait ↦ absurd (waits_not it.committed (records_of (it.units u).log) tid wait logged is)
      ],
  λ (is, (u, more, logged)). elim (from u more) [
    | inl of ↦ (keeps tid).1 (is, (u, of, logged))
    | inr wait ↦ absurd (waits_not it.committed (records_of (it.units u).log) tid wait logged is)
  ],
)

-- a unit's numbers join them
pub keeps_join : (Of : ℕ → Type 0) (n : ℕ) (it : Layout) (kept new : List ℕ) → KeepsOf Of it kept
    → JoinsLog it.committed (it.units n).log kept new → KeepsOf (λ u. Of u ⊎ (u ≡ n)) it new
keeps_join Of n it kept new keeps joins tid = (
  λ has. elim ((joins tid).0 has) [
    | inl before ↦ let (is, (u, of, logged)) = (keeps tid).0 before in (is, (u, inl of, logged))
    | inr (is, logged) ↦ (is, (n, inr refl, logged))
  ],
  λ (is, (u, of, logged)). elim of [
    | inl before ↦ (joins tid).1 (inl ((keeps tid).1 (is, (u, before, logged))))
    | inr same ↦ (joins tid).1 (inr (is, subst (λ (v : ℕ). IsLogged (it.units v).log tid) same logged))
  ],
)

-- these units are as they were
pub keeps_still : (Of : ℕ → Type 0) (it now : Layout) (kept : List ℕ) → KeepsOf Of it kept
    → now.committed ≡ it.committed → ((u : ℕ) → Of u → now.units u ≡ it.units u) → KeepsOf Of now kept
keeps_still Of it now kept keeps committed same tid = (
  λ has.
      let (is, (u, of, logged)) = (keeps tid).0 has in (
        subst (λ (f : ℕ → Bool). IsTrue (f tid)) (sym committed) is,
        (u, of, subst (λ (s : Shape). IsLogged s.log tid) (sym (same u of)) logged),
      ),
  λ (is, (u, of, logged)). (keeps tid).1 (
    subst (λ (f : ℕ → Bool). IsTrue (f tid)) committed is,
    (u, of, subst (λ (s : Shape). IsLogged s.log tid) (same u of) logged),
  ),
)
