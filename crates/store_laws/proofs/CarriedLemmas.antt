-- What a merge carries.
use Rattle.std.proofs.Common.{◌≡◌, ℕ, Bool, true, false, not, ◌&&◌, List, [], ◌∷◌, ◌++◌, Option, None, sym, ◌∙◌, ap, subst, inl, inr}
use Rattle.std.specs.List.{Contains, list_any}
use Rattle.std.proofs.lemmas.Bool.{and_parts, both_ways, cases_Bool, cases_eq, false_from_ne_true}
use Rattle.ipl_format.specs.Record.{Record}
use Rattle.ipl_meaning.specs.Values.{counts_for}
use Rattle.ipl_meaning.specs.Layout.{Layout, Shape, records_of}
use Rattle.ipl_meaning.specs.Last.{carried, is_number, last_that}
use Rattle.ipl_meaning.specs.Steps.{with_unit}
use Rattle.ipl_meaning.proofs.LastLemmas.{merges_carry_the_last}
use Rattle.store_laws.specs.PendingLaws.{IsSameOrMerged}
use Rattle.store_laws.proofs.ElementLemmas.{contains_cons, contains_here, contains_there, contains_nil, any_there, all_listed}
use Rattle.store_laws.proofs.LastLemmas.{last_that-append, last_that-none, last_that-agree, last_that-some}
use Rattle.store_laws.proofs.OwnerLemmas.{IsOfOne, tests_agree}
use Rattle.store_laws.proofs.MemoryLemmas.{unit_here, unit_other}

-- records that stood there, of active numbers
pub carried_some : (active : ℕ → Bool) (records : List Record) (r : Record) → Contains (carried active records) r
    → Contains records r × (active r.tid ≡ true)
carried_some active [] r is = absurd (contains_nil r is)
carried_some active (x ∷ records) r is =
    elim (cases_Bool (active x.tid && not (list_any (counts_for active x.page x.slot) records))) [
      | inl kept ↦ elim (contains_cons x (carried active records) r (rw kept at is)) [
        | inl same ↦ (
          subst (Contains (x ∷ records)) same (contains_here x records),
          ap (λ (y : Record). active y.tid) (sym same) ∙ (and_parts _ _ kept).0,
        )
        | inr later ↦ from_later (carried_some active records r later)
      ]
      | inr dropped ↦ from_later (carried_some active records r (rw dropped at is))
    ]
  where
    from_later : Contains records r × (active r.tid ≡ true) → Contains (x ∷ records) r × (active r.tid ≡ true)
    from_later (there, running) = (contains_there x records r there, running)

-- a merge keeps the last record of each number
pub carried_last : (active : ℕ → Bool) (tid page slot : ℕ) (records : List Record) (before : Option Record)
    → active tid ≡ true → IsOfOne active page slot records
    → last_that (counts_for (is_number tid) page slot) (carried active records) before
    ≡ last_that (counts_for (is_number tid) page slot) records before
carried_last active tid page slot records before running one = elim (cases_Bool (list_any mine records)) [
  | inl some ↦
      let agree = tests_agree active tid page slot records running one some in
      let all : Record → Bool = counts_for active page slot in
      last_that-agree mine all (carried active records) before
      (all_listed (λ r. mine r ≡ all r) (carried active records) (λ r is. agree r (carried_some active records r is).0))
      ∙ merges_carry_the_last active page slot records before
      ∙ sym (last_that-agree mine all records before (all_listed (λ r. mine r ≡ all r) records agree))
  | inr none ↦
      last_that-none mine (carried active records) before (none_carried none)
      ∙ sym (last_that-none mine records before none)
]
  where
    mine : Record → Bool
    mine = counts_for (is_number tid) page slot

    none_carried : list_any mine records ≡ false → list_any mine (carried active records) ≡ false
    none_carried none = false_from_ne_true (list_any mine (carried active records)) (λ some.
        let (q, there, passes, _) = last_that-some mine (carried active records) None some in
        both_ways (list_any mine records) none
        (any_there mine records q (carried_some active records q there).0 passes))

-- where a log has the same records, or those that a merge carries, the last one on a name is the same
pub last_carried : (active : ℕ → Bool) (page slot : ℕ) (old new : Shape) (log : List Record)
    → IsSameOrMerged active old new
    → last_that (counts_for active page slot) (records_of new.log ++ log) None
    ≡ last_that (counts_for active page slot) (records_of old.log ++ log) None
last_carried active page slot old new log (inl same) =
    ap (λ (l : List Record). last_that (counts_for active page slot) (l ++ log) None) same
last_carried active page slot old new log (inr merged) =
    let test = counts_for active page slot in
    ap (λ (l : List Record). last_that test (l ++ log) None) merged
    ∙ last_that-append test (carried active (records_of old.log)) log None
    ∙ ap (last_that test log) (merges_carry_the_last active page slot (records_of old.log) None)
    ∙ sym (last_that-append test (records_of old.log) log None)

-- a merge carries one unit's records, and leaves the others'
pub merged_or_same : (active : ℕ → Bool) (it : Layout) (u v : ℕ) (fresh : Shape)
    → records_of fresh.log ≡ carried active (records_of (it.units u).log)
    → IsSameOrMerged active (it.units v) ((with_unit it u fresh).units v)
merged_or_same active it u v fresh its = elim (cases_eq v u) [
  | inr other ↦ inl (ap (λ (shape : Shape). records_of shape.log) (unit_other it u fresh v other))
  | inl here ↦ inr (
      ap (λ (shape : Shape). records_of shape.log) (unit_here it u fresh v here)
      ∙ its
      ∙ ap (λ (k : ℕ). carried active (records_of (it.units k).log)) (sym here))
]
