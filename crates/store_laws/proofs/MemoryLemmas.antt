-- The records in memory, and the units, after a change of one.
use Rattle.std.proofs.Common.{List, [], arith, eqb, inl, inr, suc, ℕ, ◌<◌, ◌∷◌, ◌≡◌, ◌≢◌, ◌⊎◌}
use Rattle.std.specs.List.{All, Contains}
use Rattle.std.proofs.lemmas.Bool.{and_from, and_left, and_right, cases_eq, cond-false, cond-true, eq-eqb, ne_eqb}
use Rattle.std.proofs.lemmas.List.Elements.{All-append, All-contains, All-nil, Contains-append_cases}
use Rattle.ipl_base.specs.declared.limits.TheConstants.{VERSION}
use Rattle.ipl_model.specs.State.{State}
use Rattle.ipl_format.specs.Record.{IsRecord, Record}
use Rattle.ipl_meaning.specs.Layout.{Entry, Layout, Shape, records_of}
use Rattle.ipl_meaning.specs.Steps.{with_unit}
use Rattle.store_laws.specs.Pending.{Logs, SessionNumbers, with_records, name_at, records_at, IsPending, HasPending}

-- ---- the records of one page

pub records_here : (logs : Logs) (u page : ℕ) (records : List Record) (v q : ℕ) → v ≡ u → q ≡ page
    → with_records logs u page records v q ≡ records
records_here logs u page records v q same also =
    cond-true _ records (logs v q) (and_from _ _ (eq-eqb v u same) (eq-eqb q page also))

pub records_other : (logs : Logs) (u page : ℕ) (records : List Record) (v q : ℕ) → (v ≡ u → q ≡ page → ⊥)
    → with_records logs u page records v q ≡ logs v q
records_other logs u page records v q apart = elim (cases_eq v u) [
  | inl same ↦ cond-false _ records (logs v q) (and_right (eqb v u) (eqb q page) (ne_eqb q page (apart same)))
  | inr other ↦ cond-false _ records (logs v q) (and_left (eqb v u) (eqb q page) (ne_eqb v u other))
]

-- it is this page, or another
pub cases_page : (u page v q : ℕ) → ((v ≡ u) × (q ≡ page)) ⊎ (v ≡ u → q ≡ page → ⊥)
cases_page u page v q = elim (cases_eq v u) [
  | inr other ↦ inr (λ same _. other same)
  | inl same ↦ elim (cases_eq q page) [
    | inl also ↦ inl (same, also)
    | inr other ↦ inr (λ _ also. other also)
  ]
]

-- ---- one unit

pub unit_here : (it : Layout) (u : ℕ) (fresh : Shape) (v : ℕ) → v ≡ u → (with_unit it u fresh).units v ≡ fresh
unit_here it u fresh v same = cond-true _ fresh (it.units v) (eq-eqb v u same)

pub unit_other : (it : Layout) (u : ℕ) (fresh : Shape) (v : ℕ) → v ≢ u → (with_unit it u fresh).units v ≡ it.units v
unit_other it u fresh v other = cond-false _ fresh (it.units v) (ne_eqb v u other)

-- ---- names

-- a name has one unit, page and slot
pub names_once : (u page slot v q other : ℕ) → page < 15 → q < 15 → slot < 64 → other < 64
    → name_at u page slot ≡ name_at v q other → (v ≡ u) × (q ≡ page) × (other ≡ slot)
names_once u page slot v q other few also low less same = (
  omega (arith, few, also, low, less, same),
  omega (arith, few, also, low, less, same),
  omega (arith, few, also, low, less, same),
)

-- ---- records

-- all records of a log
pub all_records : (P : Record → Type 0) (log : List Entry) → All (λ e. All P e.records) log → All P (records_of log)
all_records P [] each = All-nil P
all_records P (e ∷ log) each =
    All-append P e.records (records_of log) (each 0 e (omega arith))
    (all_records P log (λ k d low. each (suc k) d (omega (arith, low))))

-- each record that a page is read through is in form
pub valid_at : (units : ℕ) (it : Layout) (logs : Logs) (numbers : SessionNumbers) (state : State)
    → HasPending units it logs numbers state → (u page : ℕ) (r : Record) → u < units
    → Contains (records_at it logs u page) r → IsRecord VERSION r
valid_at units it logs numbers state has u page r low there =
    elim (Contains-append_cases (records_of (it.units u).log) (logs u page) r there) [
      | inl live ↦ All-contains (IsRecord VERSION) (records_of (it.units u).log) r (has.valid u low) live
      | inr waits ↦
          let is = All-contains (IsPending numbers page) (logs u page) r (has.in_memory u page) waits in
          is.valid
    ]
