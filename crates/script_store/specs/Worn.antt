-- Which places are known to be worn since an entry, by what the chip told then and tells now.
use Rattle.std.specs.Prelude.{ℕ, ◌≡◌, ◌⊎◌, ◌<◌, true, false, List, ◌++◌, length, Some, All, AllPairs, Contains}
use Rattle.std.specs.Option.{option_map}
use Rattle.std.proofs.Common.{inl, inr, ◌∙◌, ap}
use Rattle.chip_trait.specs.Story.{Story, Contents}
use Rattle.chip_trait.specs.Told.{History, Told, adds_all}
use Rattle.chip_trait.proofs.HistoryLemmas.{history_then}
use Rattle.ipl_base.specs.Places.{spares_on}
use Rattle.ipl_base.specs.declared.fault.ChipFault.{ChipFault}
use Rattle.ipl_base.specs.declared.fault.ChipFault.TheVariants.{ReadFault, Stopped, Damaged, Malformed, WornOut}
use Rattle.ipl_base.specs.declared.fault.ImageFault.{ImageFault}
use Rattle.ipl_base.specs.declared.fault.ImageFault.TheVariants as image
use Rattle.ipl_meaning.specs.Chart.{Chart, chart_of}
use Rattle.ipl_meaning.specs.Layout.{Layout}
use Rattle.ipl_meaning.specs.Mirrors.{AreApart}
use Rattle.ipl_model.specs.State.{State}
use Rattle.ipl_meaning.specs.Chosen.{units_at}
use Rattle.ipl_meaning.specs.LaidOut.{retired_at}
use Rattle.place_taking.specs.Spending.{is_found_worn}
use Rattle.place_taking.specs.Wear.{IsListedRetired}
use Rattle.place_taking.proofs.SpendingLemmas.{found_earlier}
use Rattle.store_trait.specs.declared.fault.Fault.{Fault}
use Rattle.store_trait.specs.declared.fault.Fault.TheVariants.{Chip, Image, Spent}
use Rattle.store_trait.specs.Onward.{Still, sayings}
use Rattle.store_laws.specs.Advances.{MemoryFits}
use Rattle.page_frames.specs.Pages.{tables_in}
use Rattle.ipl_store.specs.declared.store.Store.{Store}
use Rattle.ipl_store.specs.Calls.{memory_of_store}
use Rattle.script_store.specs.declared.store.ScriptStore.{ScriptStore}

-- the status header that counted in this chart lists the place, or it was found worn among these events
abbrev pub IsKnownWorn : ℕ → Chart → Story → ℕ → Type 0
IsKnownWorn places c added p = Contains (retired_at c places) p ⊎ (is_found_worn added p ≡ true)

-- There are more places than are spare, each another one, that the status header which counted lists or
-- that were found worn since.
pub record TooManyAreWorn (places : ℕ) (c : Chart) (added : Story) : Type 0 where
  pub worn : List ℕ
  pub known : All (IsKnownWorn places c added) worn
  pub apart : AllPairs AreApart worn
  pub more : spares_on places (units_at c places) < length worn

-- where the chip told contents and a history at the entry, so many are, by what was added since
abbrev pub WearsOut : Told → Told → Type 0
WearsOut entry t = (x : Contents) (h : History) → entry.contents ≡ Some x → entry.history ≡ Some h
    → (added : Story) × (t.history ≡ Some (adds_all added h))
    × TooManyAreWorn entry.places (chart_of x) added

-- What a store that isn't down knows since an entry at which the chip held x. It has as many units as that
-- said. Each place that is retired is known to be worn, and so is each that the status header lists now;
-- and the memory fits what the chip holds, whatever the pages say.
pub record KnowsSince (places : ℕ) (x : Contents) (h : History) (store : Store) (t : Told)
    : Type 0 where
  pub added : Story
  pub history : t.history ≡ Some (adds_all added h)
  pub contents : Contents
  pub told : t.contents ≡ Some contents
  pub places_are : t.places ≡ places
  pub units : store.units ≡ units_at (chart_of x) places
  pub layout : Layout
  pub state : State
  pub fits : MemoryFits places (chart_of contents) layout (memory_of_store store) state
  pub retired : (p : ℕ) → Contains (tables_in store.transactions.pages).places.retired p
      → IsKnownWorn places (chart_of x) added p
  pub listed : (p : ℕ) → IsListedRetired (tables_in store.transactions.pages) (chart_of contents) p
      → IsKnownWorn places (chart_of x) added p

-- Where the chip told contents and a history at the entry, and the store isn't down: one that is takes no place any more.
abbrev pub KnowsWorn : Told → ScriptStore → Told → Type 0
KnowsWorn entry s t = s.store.down ≡ false → (x : Contents) (h : History) → entry.contents ≡ Some x → entry.history ≡ Some h
    → KnowsSince entry.places x h s.store t

-- ---- what is said and what is read of a script

-- where this was added, and then more
pub history_longer : (later added : Story) (h : History) (old new : Told)
    → old.history ≡ Some (adds_all added h) → new.history ≡ option_map (adds_all later) old.history
    → new.history ≡ Some (adds_all (later ++ added) h)
history_longer later added h old new was is =
    is ∙ ap (option_map (adds_all later)) was ∙ history_then later added (Some h)

-- what is known to be worn is known so still
pub known_longer : (places : ℕ) (c : Chart) (later added : Story) (p : ℕ)
    → IsKnownWorn places c added p → IsKnownWorn places c (later ++ added) p
known_longer places c later added p (inl listed) = inl listed
known_longer places c later added p (inr found) = inr (found_earlier later added p found)

-- also over what is said and what is read
pub worn_still : (entry : Told) (s : ScriptStore) (old new : Told) → Still old new
    → KnowsWorn entry s old → KnowsWorn entry s new
worn_still entry s old new still knows up x h holds history =
    let since = knows up x h holds history in
    let more = sayings still.pieces in record {
      added = more ++ since.added;
      history = history_longer more since.added h old new since.history still.history;
      contents = since.contents;
      told = still.contents ∙ since.told;
      places_are = still.places ∙ since.places_are;
      units = since.units;
      layout = since.layout;
      state = since.state;
      fits = since.fits;
      retired = λ p has. known_longer entry.places (chart_of x) more since.added p
          (since.retired p has);
      listed = λ p has. known_longer entry.places (chart_of x) more since.added p
          (since.listed p has);
    }

-- ---- faults

-- a fault of the chip that tells of wear
abbrev pub ChipWears : Told → ChipFault → Told → Type 0
ChipWears entry ReadFault t = Unit {0}
ChipWears entry Stopped t = Unit {0}
ChipWears entry (Damaged p s stored computed) t = Unit {0}
ChipWears entry (Malformed p s) t = Unit {0}
ChipWears entry (WornOut n) t = WearsOut entry t

abbrev pub ImageWears : Told → ImageFault → Told → Type 0
ImageWears entry image.Geometry t = Unit {0}
ImageWears entry image.NotFormatted t = Unit {0}
ImageWears entry (image.Missing u) t = Unit {0}
ImageWears entry (image.Chip e) t = ChipWears entry e t
ImageWears entry image.Spent t = Unit {0}
ImageWears entry (image.NoSpare n) t = Unit {0}
ImageWears entry image.TooManyNumbers t = Unit {0}

-- a fault that tells of wear comes only where too many places are worn
abbrev pub FaultWears : Told → Fault → Told → Type 0
FaultWears entry (Chip e) t = ChipWears entry e t
FaultWears entry (Image e) t = ImageWears entry e t
FaultWears entry Spent t = Unit {0}
