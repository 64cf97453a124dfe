-- What the work of commands has done by itself.
use Rattle.std.proofs.Common.{◌≡◌, ◌⊎◌, ◌<◌, ◌*◌, ℕ, Bool, Option, Some, None, List, Result, Ok, Err, IfOk, OnOk, inl, inr, refl, ap, subst}
use Rattle.std.specs.Prelude.{is_ok, slice_index}
use Rattle.chip_trait.specs.Told.{Told}
use Rattle.ipl_base.specs.declared.fault.Refusal.{Refusal}
use Rattle.ipl_base.specs.declared.fault.StoreFault.{StoreFault}
use Rattle.ipl_base.specs.declared.fault.StoreFault.TheVariants as store
use Rattle.ipl_model.specs.Step.{found_reply}
use Rattle.ipl_meaning.specs.Tables.{Places}
use Rattle.unit_io.specs.Costs.{Spends}
use Rattle.unit_io.proofs.CostLemmas.{spends_weaker}
use Rattle.place_taking.specs.Spending.{ErasesFor}
use Rattle.ipl_store.specs.Calls.{Calls, early_fault, entry_fault, refuses_name, limits_of_store}
use Rattle.ipl_store.specs.Shown.{IsSeen, HasCommitted}
use Rattle.script_store.specs.declared.store.ScriptStore.{ScriptStore}
use Rattle.script_store.specs.Keeps.{IsRunning, answer_of, reply_of, looked_up}
use Rattle.script_store.specs.Done.{IsRefusal, SaysSeen, UnitHasMoved, HasFound}
use Rattle.script_store.proofs.SeeLemmas.{low_is_free}
use Rattle.script_store.proofs.WorkLemmas.{IsEntry, up_entry}

-- nothing is asked of it
pub any_done : {T E : Type 0} (r : Result T E) → IfOk r (λ v. Unit {0})
any_done (Ok v) = tt
any_done (Err e) = tt

-- whatever was answered
pub on_ok_is_if : {T E : Type 0} (P : Type 0) (r : Result T E) → OnOk r P → IfOk r (λ v. P)
on_ok_is_if P (Ok v) is = is
on_ok_is_if P (Err e) is = tt

-- ---- a get and a share

pub seen_done : (s n : ℕ) (a : ScriptStore) (before : Told) (result : Result (Option (List ℕ)) StoreFault)
    → IfOk result (λ found. IsSeen s n a.store before found)
    → IfOk (answer_of found_reply result) (λ r. SaysSeen s n a before r)
seen_done s n a before (Ok found) seen = inr (found, refl, seen)
seen_done s n a before (Err store.Down) seen = tt
seen_done s n a before (Err store.Spent) seen = tt
seen_done s n a before (Err (store.Refused r)) seen = inl (r, refl)
seen_done s n a before (Err (store.Chip e)) seen = tt

-- ---- a merge

-- which, done, erased the place where the unit stands
pub merge_done : (u : ℕ) (first : Places) (worn_out : Bool) (b : ScriptStore)
    (before after : Told) (result : Result (Unit {0}) StoreFault)
    → Spends (ErasesFor first b.store.transactions.pages.parts.directory 3
    (slice_index b.store.transactions.pages.parts.directory.current u) (is_ok result) worn_out)
    before after
    → IfOk (reply_of result) (λ r. IsRefusal r ⊎ UnitHasMoved u b before after)
merge_done u first worn_out b before after (Ok v) spends = inr (spends_weaker _ _ before after
    (λ added did. did.erased refl) spends)
merge_done u first worn_out b before after (Err store.Down) spends = tt
merge_done u first worn_out b before after (Err store.Spent) spends = tt
merge_done u first worn_out b before after (Err (store.Refused r)) spends = inl (r, refl)
merge_done u first worn_out b before after (Err (store.Chip e)) spends = tt

-- ---- a record that is looked up

module _ (n : ℕ) (a b : ScriptStore) (before after : Told) (runs : IsRunning before.places a) where
  abbrev Found : Result (Option (List ℕ)) StoreFault → Type 0
  Found result = Calls (early_fault (entry_fault a.store) (refuses_name (limits_of_store a.store) n))
      (λ state. state) 14 a.store before result b.store after

  -- a name of the chip isn't refused
  refused_is_high : (r : Refusal) → Found (Err (store.Refused r)) → ¬ (n < 960 * a.store.units)
  refused_is_high r calls low = by_entry (entry_fault a.store) (up_entry a runs.up) calls
    where
      by_refusal : (o : Option Refusal) → refuses_name (limits_of_store a.store) n ≡ o
          → Calls {T = Option (List ℕ)} (early_fault None o) (λ state. state) 14 a.store before
          (Err (store.Refused r)) b.store after → ⊥
      by_refusal (Some q) is did = low_is_free (limits_of_store a.store) n q is low
      by_refusal None is did =
          let ends = (did.serves refl).ends in
          let clash : store.Refused r ≡ store.Chip ends.0 = ends.1 in cc clash

      by_entry : (entry : Option StoreFault) → IsEntry a entry
          → Calls {T = Option (List ℕ)} (early_fault entry (refuses_name (limits_of_store a.store) n))
          (λ state. state) 14 a.store before (Err (store.Refused r)) b.store after → ⊥
      by_entry entry (inl none) did = by_refusal (refuses_name (limits_of_store a.store) n) refl
          (subst (λ (o : Option StoreFault). Calls {T = Option (List ℕ)} (early_fault o
          (refuses_name (limits_of_store a.store) n)) (λ state. state) 14 a.store before
          (Err (store.Refused r)) b.store after) none did)
      by_entry entry (inr (is, late)) did =
          let (answer, same, still) = did.refuses store.Spent (ap (λ (o : Option StoreFault).
          early_fault o (refuses_name (limits_of_store a.store) n)) is) in cc answer

  pub found_done : (result : Result (Option (List ℕ)) StoreFault) → Found result
      → IfOk result (λ found. HasCommitted n a.store before found)
      → IfOk (looked_up result) (λ found. HasFound n a before found)
  found_done (Ok found) calls committed = λ low. committed
  found_done (Err store.Down) calls committed = tt
  found_done (Err store.Spent) calls committed = tt
  found_done (Err (store.Refused r)) calls committed = λ low. absurd (refused_is_high r calls low)
  found_done (Err (store.Chip e)) calls committed = tt
