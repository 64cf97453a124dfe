-- What a renewal leaves of worn places.
use Rattle.std.proofs.Common.{◌≡◌, ◌∙◌, ℕ, Bool, true, false, List, Option, Result, Ok, Err, OnOk, inr, sym, ap, subst}
use Rattle.std.specs.Prelude.{Contains, is_ok, unwrap_or}
use Rattle.std.proofs.lemmas.Bool.{false≢true}
use Rattle.chip_trait.specs.Told.{Told}
use Rattle.ipl_base.specs.declared.fault.ChipFault.{ChipFault}
use Rattle.ipl_format.specs.Sector.{Sector}
use Rattle.ipl_meaning.specs.Chart.{Chart, chart_of}
use Rattle.ipl_meaning.specs.Tables.{Places, Tables}
use Rattle.place_taking.specs.Homes.{LeavesPlaces}
use Rattle.place_taking.specs.Spending.{is_worn_out, tells_worn}
use Rattle.place_taking.specs.Wear.{ListsNoOther, TellsOfWear}
use Rattle.place_taking.proofs.HomeLemmas.{places_then}
use Rattle.place_taking.proofs.WearLemmas.{failures_wear}
use Rattle.txn_status.specs.Switching.{ListsAt}
use Rattle.unit_io.specs.Charts.{Charts}
use Rattle.unit_io.specs.Costs.{Spends}
use Rattle.unit_io.proofs.CostLemmas.{spends_weaker}
use Rattle.unit_layout.specs.Retired.{retired_in}
use Rattle.restart.specs.Passes.{ErasesAtMost, GoesOnTelling, ListsRetired}

-- ---- a new status place

-- once a place was taken, under the names that the tables have for it then
pub listed_then : (F : Chart → Chart → Type 0) (p place : ℕ) (listed retired : List ℕ)
    (old mid new : Told) → p ≡ place → listed ≡ retired → Charts F old mid
    → Charts (λ c y. ListsAt p listed y) mid new → Charts (λ c y. ListsAt place retired y) old new
listed_then F p place listed retired old mid new there same first second x told =
    let between = first x told in
    let ends = second between.0 between.1 in (
      ends.0,
      ends.1,
      subst (λ (q : ℕ). ListsAt q retired (chart_of ends.0)) there
          (subst (λ (l : List ℕ). ListsAt p l (chart_of ends.0)) same ends.2),
    )

-- ---- what is retired, and what is known

erases_leave_places : (before after : Places) (n : ℕ) (worn_out : Bool) (old new : Told)
    → Spends (ErasesAtMost before after n worn_out) old new
    → Spends (LeavesPlaces before after worn_out) old new
erases_leave_places before after n worn_out old new =
    spends_weaker (ErasesAtMost before after n worn_out) (LeavesPlaces before after worn_out) old new
    (λ added is. is.places)

-- ---- the renewal

-- what is listed exactly is retired
lists_retired : (t after : Tables) (c y : Chart) → ListsRetired after y → ListsNoOther t after c y
lists_retired t after c y (head, here, exact) p (other, also, listed) =
    let same : other ≡ head = ap (λ (o : Option Sector). unwrap_or o head) (sym also ∙ here) in
    inr (subst (λ (l : List ℕ). Contains l p) exact
    (subst (λ (s : Sector). Contains (retired_in s.version s.payload) p) same listed))

-- the pass ended it
pub wears_unpassed : (t after : Tables) (n : ℕ) (e : ChipFault) (old new : Told)
    → Spends (ErasesAtMost t.places after.places n (tells_worn e)) old new
    → TellsOfWear t after false (tells_worn e) old new
wears_unpassed t after n e old new did =
    failures_wear t after (tells_worn e) old new
    (erases_leave_places t.places after.places n (tells_worn e) old new did)

-- all units were passed, and then the status was renewed or wasn't
pub wears_renewed : (t between after : Tables) (n k : ℕ) (result : Result (Unit {0}) ChipFault)
    (old mid new : Told) → Spends (ErasesAtMost t.places between.places n false) old mid
    → Spends (ErasesAtMost between.places after.places k (is_worn_out result)) mid new
    → GoesOnTelling (Ok tt) old mid
    → OnOk result (Charts (λ c y. ListsRetired after y) mid new)
    → TellsOfWear t after (is_ok result) (is_worn_out result) old new
wears_renewed t between after n k result old mid new passed renewed goes_on listed = record {
  places = places_then t.places between.places after.places (is_worn_out result) old mid new
      (erases_leave_places t.places between.places n false old mid passed)
      (erases_leave_places between.places after.places k (is_worn_out result) mid new renewed);
  lists = done_lists result listed;
}
  where
    done_lists : (r : Result (Unit {0}) ChipFault) → OnOk r (Charts (λ c y. ListsRetired after y) mid new)
        → is_ok r ≡ true → Charts (ListsNoOther t after) old new
    done_lists (Ok v) says is = λ x told.
        let mid_told = goes_on x told in
        let ends = says mid_told.0 mid_told.1 in
        (ends.0, ends.1, lists_retired t after (chart_of x) (chart_of ends.0) ends.2)
    done_lists (Err e) says is = absurd (false≢true is)
