-- What a store knows of places that were erased since an entry, while its chip isn't opened again.
use Rattle.std.specs.Prelude.{ℕ, ◌≡◌, ◌<◌, false, List, [], ◌∷◌, ◌++◌, length, slice_index, Some}
use Rattle.std.proofs.Common.{refl, ◌∙◌}
use Rattle.chip_trait.specs.Story.{Story}
use Rattle.chip_trait.specs.Told.{History, Told, adds_all}
use Rattle.ipl_meaning.specs.Tables.{Places}
use Rattle.place_taking.specs.Homes.{IsUnknown}
use Rattle.store_trait.specs.Onward.{Still, sayings}
use Rattle.unit_io.specs.Costs.{is_tried}
use Rattle.script_store.specs.declared.store.ScriptStore.{ScriptStore}
use Rattle.script_store.specs.Worn.{history_longer}

-- Behind that history a unit whose place was erased is known: no erase of the place of one of which nothing is known was
-- tried by what was added since.
pub record RecallsSince (h : History) (it : Places) (t : Told) : Type 0 where
  pub added : Story
  pub history : t.history ≡ Some (adds_all added h)
  pub untried : (u : ℕ) → u < length it.current → IsUnknown it u
      → is_tried added (slice_index it.current u) ≡ false

-- where the chip told a history at the entry
abbrev pub RecallsErased : Told → ScriptStore → Told → Type 0
RecallsErased entry s t = (h : History) → entry.history ≡ Some h
    → RecallsSince h s.store.transactions.pages.parts.directory t

-- ---- what is said and what is read of a script

-- what is said tries no erase
tried_sayings : (pieces : List (List ℕ)) (added : Story) (p : ℕ)
    → is_tried (sayings pieces ++ added) p ≡ is_tried added p
tried_sayings [] added p = refl
tried_sayings (piece ∷ pieces) added p = tried_sayings pieces added p

pub erased_still : (entry : Told) (s : ScriptStore) (old new : Told) → Still old new
    → RecallsErased entry s old → RecallsErased entry s new
erased_still entry s old new still recalls h history =
    let since = recalls h history in
    let more = sayings still.pieces in record {
      added = more ++ since.added;
      history = history_longer more since.added h old new since.history still.history;
      untried = λ u low unknown.
          tried_sayings still.pieces since.added
          (slice_index s.store.transactions.pages.parts.directory.current u)
          ∙ since.untried u low unknown;
    }
