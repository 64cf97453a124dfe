-- What calls of the store leave of what it knows of erased places.
use Rattle.std.proofs.Common.{ℕ, ◌≡◌, Bool, false, ◌||◌, ◌++◌, slice_index, Option, Result, Ok, sym, ◌∙◌, ap, subst}
use Rattle.std.specs.Option.{option_map}
use Rattle.chip_trait.specs.Told.{History, Told, adds_all}
use Rattle.ipl_base.specs.declared.fault.StoreFault.{StoreFault}
use Rattle.ipl_model.specs.State.{State}
use Rattle.ipl_meaning.specs.Tables.{Places}
use Rattle.place_taking.specs.Homes.{LeavesPlaces}
use Rattle.unit_io.specs.Costs.{Spends, is_tried}
use Rattle.unit_io.proofs.CostLemmas.{tried_joined}
use Rattle.page_frames.specs.Pages.{tables_in}
use Rattle.store_trait.specs.Keeping.{StillRecalls}
use Rattle.ipl_store.specs.Calls.{Calls}
use Rattle.ipl_store.specs.Openings.{Tries}
use Rattle.script_store.specs.declared.store.ScriptStore.{ScriptStore}
use Rattle.store_laws.specs.Keeps.{KnownPages}
use Rattle.script_store.specs.Keeps.{script_keeping}
use Rattle.script_store.specs.Recalls.{RecallsSince, RecallsErased}
use Rattle.script_store.specs.Worn.{history_longer}

-- events that leave places so
places_recall : (h : History) (first then : Places) (worn_out : Bool) (before after : Told)
    → Spends (LeavesPlaces first then worn_out) before after → RecallsSince h first before
    → RecallsSince h then after
places_recall h first then worn_out before after did since = record {
  added = did.added ++ since.added;
  history = history_longer did.added since.added h before after since.history did.history;
  untried = λ u low unknown.
      let (stays, now) = did.does.homes u low unknown in
      let p = slice_index first.current u in
      let none : is_tried (did.added ++ since.added) p ≡ false =
      tried_joined did.added since.added p ∙ ap (λ (b : Bool). b || is_tried since.added p) now
      ∙ since.untried u stays.low stays.unknown in
      subst (λ (q : ℕ). is_tried (did.added ++ since.added) q ≡ false) (sym stays.place) none;
}

module _ (known : KnownPages) (a b : ScriptStore) (before after : Told) where
  pub leaves_recall : (worn_out : Bool) → Spends (LeavesPlaces a.store.transactions.pages.parts.directory
      b.store.transactions.pages.parts.directory worn_out) before after
      → StillRecalls (script_keeping before.places known) a before b after
  leaves_recall worn_out did entry recalls h history =
      places_recall h a.store.transactions.pages.parts.directory
      b.store.transactions.pages.parts.directory worn_out before after did (recalls h history)

  -- a call of the store
  pub calls_recall : {T : Type 0} (result : Result T StoreFault) (early : Option StoreFault)
      (next : State → State) (most : ℕ) → Calls early next most a.store before result b.store after
      → StillRecalls (script_keeping before.places known) a before b after
  calls_recall result early next most calls = leaves_recall _ calls.wears.places

-- a chip that was opened: of the units that were found unknown no place was erased
pub opening_recalls : {marks : Bool} (old new : Told) (b : ScriptStore)
    → Tries marks old.places old (Ok tt) (tables_in b.store.transactions.pages) new
    → RecallsErased old b new
opening_recalls old new b tries h history =
    let did = tries.costs.erases in record {
      added = did.added;
      history = did.history ∙ ap (option_map (adds_all did.added)) history;
      untried = λ u low unknown.
          let (stays, now) = did.does.places.homes u low unknown in
          subst (λ (q : ℕ). is_tried did.added q ≡ false) (sym stays.place) now;
    }
