-- What is kept of a unit's numbers, and what a merge carries of its records.
use Rattle.std.proofs.Common.{◌≡◌, ℕ, ◌+◌, Bool, true, false, IsTrue, List, [], ◌∷◌, ◌++◌, map, refl, sym, ◌∙◌, ap, ap₂, subst, add-one}
use Rattle.std.specs.List.{All}
use Rattle.std.proofs.lemmas.List.Elements.{All-head, All-tail, All-weaker, All-contains}
use Rattle.ipl_format.specs.Record.{Record}
use Rattle.ipl_meaning.specs.Chart.{Chart}
use Rattle.ipl_meaning.specs.Last.{carried}
use Rattle.ipl_meaning.specs.Layout.{Entry, Shape, Layout, IsEntry, records_of}
use Rattle.ipl_meaning.specs.Steps.{AllWait}
use Rattle.log_records.proofs.RecordsLemmas.{records_list}
use Rattle.selective_merge.specs.Packs.{among, packs_of}
use Rattle.selective_merge.proofs.PacksLemmas.{among_contains, carried_all, packs_join, entries_records}
use Rattle.unit_log.specs.Kept.{kept_of, records_kept}
use Rattle.ipl_meaning.specs.Tables.{StatusTable}
use Rattle.restart.specs.Joins.{joined}
use Rattle.restart.specs.Passes.{kept_below, has_room, IsRepacked}

-- ---- the records that were read are the unit's

pub records_are_logged : (c : Chart) (places u home generation : ℕ) (log : List Entry)
    → All (IsEntry c places u home generation) log
    → records_kept (map kept_of log) ≡ records_of log
records_are_logged c places u home generation [] each = refl
records_are_logged c places u home generation (e ∷ log) each =
    let P = IsEntry c places u home generation in
    ap₂ (λ (a b : List Record). a ++ b)
    (records_list e.sector.version e.records e.sector.payload (All-head P e log each).records)
    (records_are_logged c places u home generation log (All-tail P e log each))

-- ---- what is kept

module _ (status : StatusTable) (it : Layout) (n : ℕ) where
  pub kept_fits : has_room status it n ≡ true
      → kept_below status it (n + 1)
      ≡ joined status.numbers (records_of (it.units n).log) (kept_below status it n)
  unfolding kept_below
  kept_fits is = rw (add-one, is) refl

  pub kept_stays : has_room status it n ≡ false
      → kept_below status it (n + 1) ≡ kept_below status it n
  unfolding kept_below
  kept_stays is = rw (add-one, is) refl

-- ---- what is carried waits

pub repacked_is_carried : (active : List ℕ) (u : ℕ) (old new : Shape) → IsRepacked active u old new
    → records_of new.log ≡ carried (among active) (records_of old.log)
repacked_is_carried active u old new is =
    ap (λ (log : List Entry). records_of log) is.log_is
    ∙ entries_records new.home u new.head.generation 241 is.serial
    (packs_of active (records_of old.log))
    ∙ packs_join active (records_of old.log)

any_record : (records : List Record) → All (λ r. Unit {0}) records
any_record records = λ i d within. tt

pub repacked_waits : (committed : ℕ → Bool) (active : List ℕ) (u : ℕ) (old new : Shape)
    → All (λ n. committed n ≡ false) active → IsRepacked active u old new
    → AllWait committed (records_of new.log)
repacked_waits committed active u old new wait is =
    subst (AllWait committed) (sym (repacked_is_carried active u old new is))
    (All-weaker (λ r. Unit {0} × IsTrue (among active r.tid)) (λ r. committed r.tid ≡ false)
    (λ r both. All-contains (λ n. committed n ≡ false) active r.tid wait
    (among_contains active r.tid both.1)) (carried (among active) (records_of old.log))
    (carried_all (λ r. Unit {0}) (among active) (records_of old.log)
    (any_record (records_of old.log))))
