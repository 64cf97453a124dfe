-- What openings of the chip leave of worn places, as a run knows of them.
use Rattle.std.proofs.Common.{ℕ, ◌≡◌, inl, Bool, false, true, ◌||◌, [], ◌++◌, List, length, Option, Some, Result, Ok, Err, is_ok, refl, sym, ◌∙◌, ap, subst}
use Rattle.std.specs.FinMap.{empty}
use Rattle.std.specs.List.{Contains}
use Rattle.std.specs.Option.{unwrap_or}
use Rattle.std.proofs.lemmas.Option.{same_Some}
use Rattle.chip_trait.specs.Story.{Story, Contents}
use Rattle.chip_trait.specs.Told.{History, Told, adds_all}
use Rattle.ipl_base.specs.declared.fault.ChipFault.{ChipFault}
use Rattle.ipl_base.specs.declared.fault.ImageFault.{ImageFault}
use Rattle.ipl_base.specs.declared.fault.ImageFault.TheVariants as image
use Rattle.ipl_model.specs.State.{at_rest}
use Rattle.ipl_format.specs.Sector.{Sector}
use Rattle.unit_layout.specs.Retired.{retired_in}
use Rattle.ipl_meaning.specs.Chart.{Chart, chart_of}
use Rattle.ipl_meaning.specs.Layout.{Layout, Laid}
use Rattle.ipl_meaning.specs.Tables.{Tables}
use Rattle.ipl_meaning.specs.Chosen.{status_at, units_at}
use Rattle.ipl_meaning.specs.LaidOut.{no_sector, retired_at, sector_of}
use Rattle.ipl_meaning.proofs.LaidLemmas.{laid_says_its_units}
use Rattle.ipl_meaning.proofs.NumberLemmas.{status_is}
use Rattle.place_taking.specs.Wear.{IsListedRetired}
use Rattle.restart.specs.Passes.{ListsRetired}
use Rattle.restart.specs.Recovers.{ErasesOpening, ends_worn_out}
use Rattle.page_frames.specs.Pages.{tables_in}
use Rattle.store_trait.specs.declared.fault.Fault.TheVariants.{Image}
use Rattle.store_laws.specs.Advances.{MemoryFits}
use Rattle.ipl_store.specs.Calls.{memory_of_store}
use Rattle.ipl_store.specs.Openings.{OpensStore, Tries}
use Rattle.script_store.specs.declared.store.ScriptStore.{ScriptStore}
use Rattle.script_store.specs.Keeps.{IsRunning}
use Rattle.script_store.specs.Worn.{IsKnownWorn, TooManyAreWorn, WearsOut, KnowsSince, KnowsWorn, ImageWears, FaultWears, history_longer}
use Rattle.script_store.proofs.WornLemmas.{retired_known, too_many, chip_wears}

-- ---- what the status header lists

-- the status header that counts is that of the layout
pub laid_retired : (places : ℕ) (c : Chart) (it : Layout) → Laid places c it
    → retired_at c places ≡ retired_in it.head.version it.head.payload
laid_retired places c it laid =
    let head_is : sector_of c (status_at c places) ≡ it.head =
    ap (sector_of c) (status_is c places it laid)
    ∙ ap (λ (o : Option Sector). unwrap_or o no_sector) laid.chosen.here in
    ap (λ (s : Sector). retired_in s.version s.payload) head_is

-- and stands at the status place
laid_lists : (places : ℕ) (c : Chart) (it : Layout) (t : Tables) → Laid places c it
    → t.status.place ≡ it.status → (p : ℕ) → Contains (retired_at c places) p → IsListedRetired t c p
laid_lists places c it t laid place p has = (
  it.head,
  ap (λ (q : ℕ). c q 0) place ∙ laid.chosen.here,
  subst (λ (retired : List ℕ). Contains retired p) (laid_retired places c it laid) has,
)

-- a header that lists exactly what is retired
listed_is_retired : (t : Tables) (y : Chart) → ListsRetired t y → (p : ℕ) → IsListedRetired t y p
    → Contains t.places.retired p
listed_is_retired t y (head, here, lists) p (other, there, has) =
    let one : other ≡ head = same_Some other head (sym there ∙ here) in
    subst (λ (retired : List ℕ). Contains retired p) lists
    (subst (λ (s : Sector). Contains (retired_in s.version s.payload) p) one has)

-- ---- what an opening finds

-- It finds retired what the status header lists, and finds others worn.
module _ {marks : Bool} (places : ℕ) (c : Chart) (earlier : Story) (old new : Told) (x : Contents)
    (told : old.contents ≡ Some x) (result : Result (Unit {0}) ImageFault) (t : Tables)
    (listed : (p : ℕ) → Contains (retired_at (chart_of x) old.places) p
    → IsKnownWorn places c earlier p)
    (costs : ErasesOpening marks old.places result t.places old new)
    (ended : (is_ok result || ends_worn_out result) ≡ true) where
  found_known : (p : ℕ) → Contains costs.found.retired p → IsKnownWorn places c earlier p
  found_known p has = listed p ((costs.finds ended x told p).0 has).0

  pub opened_retired : (p : ℕ) → Contains t.places.retired p
      → IsKnownWorn places c (costs.erases.added ++ earlier) p
  opened_retired = retired_known places c costs.found t.places earlier costs.erases.added
      (ends_worn_out result) found_known costs.erases.does.places.retires

  module _ (units : units_at (chart_of x) old.places ≡ units_at c places) where
    pub opened_too_many : length t.places.in_use ≡ places → ends_worn_out result ≡ true
        → TooManyAreWorn places c (costs.erases.added ++ earlier)
    opened_too_many all worn = too_many places c costs.found t.places earlier costs.erases.added
        (ends_worn_out result) found_known costs.erases.does.places.retires all
        (costs.units ended x told ∙ units) worn

-- ---- a chip that was opened

-- so much is known then of what was known before
module _ {marks : Bool} (places : ℕ) (first : Contents) (h : History) (earlier : Story)
    (old new : Told) (x : Contents) (told : old.contents ≡ Some x)
    (history : old.history ≡ Some (adds_all earlier h)) (places_are : old.places ≡ places)
    (units : units_at (chart_of x) old.places ≡ units_at (chart_of first) places)
    (listed : (p : ℕ) → Contains (retired_at (chart_of x) old.places) p
    → IsKnownWorn places (chart_of first) earlier p) where
  opened_knows : (b : ScriptStore) → OpensStore old.places old b.store new
      → Tries marks old.places old (Ok tt) (tables_in b.store.transactions.pages) new
      → KnowsSince places first h b.store new
  opened_knows b opens tries =
      let t = tables_in b.store.transactions.pages in
      let anew = opens.anew x told in
      let more = tries.costs.erases.added in
      let known = opened_retired places (chart_of first) earlier old new x told (Ok tt) t listed
      tries.costs refl in record {
        added = more ++ earlier;
        history = history_longer more earlier h old new history tries.costs.erases.history;
        contents = anew.0;
        told = anew.1;
        places_are = tries.accounts.counts.places ∙ places_are;
        units = opens.units x told ∙ units;
        layout = anew.2.layout;
        state = at_rest empty;
        fits = subst (λ (n : ℕ). MemoryFits n (chart_of anew.0) anew.2.layout
            (memory_of_store b.store) (at_rest empty)) places_are anew.2.fits;
        retired = known;
        listed = λ p has. known p (listed_is_retired t (chart_of anew.0) anew.2.lists p has);
      }

  -- or wasn't, since too many places are worn
  opened_worn : (e : ImageFault) (t : Tables) → Tries marks old.places old (Err e) t new
      → ends_worn_out (Err e) ≡ true
      → (added : Story) × (new.history ≡ Some (adds_all added h))
      × TooManyAreWorn places (chart_of first) added
  opened_worn e t tries worn =
      let more = tries.costs.erases.added in (
        more ++ earlier,
        history_longer more earlier h old new history tries.costs.erases.history,
        opened_too_many places (chart_of first) earlier old new x told (Err e) t listed tries.costs
            worn units (tries.all ∙ places_are) worn,
      )

-- a fault of an opening tells of wear only so
image_wears : (entry : Told) (e : ImageFault) (after : Told)
    → (ends_worn_out (Err e) ≡ true → WearsOut entry after) → ImageWears entry e after
image_wears entry image.Geometry after worn = tt
image_wears entry image.NotFormatted after worn = tt
image_wears entry (image.Missing u) after worn = tt
image_wears entry (image.Chip e) after worn = chip_wears entry e after
    (λ n is. worn (ap (λ (f : ChipFault). ends_worn_out (Err (image.Chip f))) is))
image_wears entry image.Spent after worn = tt
image_wears entry (image.NoSpare n) after worn = tt
image_wears entry image.TooManyNumbers after worn = tt

-- ---- the first opening of a run

-- what the status header lists is known from the start
at_entry : (places : ℕ) (x : Contents) (p : ℕ) → Contains (retired_at (chart_of x) places) p
    → IsKnownWorn places (chart_of x) [] p
at_entry places x p has = inl has

module _ {marks : Bool} (old new : Told) where
  pub opening_knows : (b : ScriptStore) → OpensStore old.places old b.store new
      → Tries marks old.places old (Ok tt) (tables_in b.store.transactions.pages) new
      → KnowsWorn old b new
  opening_knows b opens tries up x h told history =
      opened_knows old.places x h [] old new x told history refl refl (at_entry old.places x) b opens tries

  pub opening_wears : (e : ImageFault) (t : Tables) → Tries marks old.places old (Err e) t new
      → ImageWears old e new
  opening_wears e t tries = image_wears old e new (λ worn x h told history.
      opened_worn old.places x h [] old new x told history refl refl (at_entry old.places x) e t tries worn)

-- ---- a restart

module _ (a b : ScriptStore) (before after : Told) (runs : IsRunning before.places a)
    (entry : Told) (knows : KnowsWorn entry a before) where
  module _ (x : Contents) (h : History) (told : entry.contents ≡ Some x)
      (history : entry.history ≡ Some h) where
    since : KnowsSince entry.places x h a.store before
    since = knows runs.up x h told history

    abbrev first : Tables
    first = tables_in a.store.transactions.pages

    -- the chip says as many units as it did
    as_many : units_at (chart_of since.contents) before.places ≡ units_at (chart_of x) entry.places
    as_many = ap (units_at (chart_of since.contents)) since.places_are
        ∙ laid_says_its_units (chart_of since.contents) entry.places since.layout
        since.fits.mirrors.laid
        ∙ sym since.fits.mirrors.directory.units ∙ runs.sound.count runs.up ∙ since.units

    listed : (p : ℕ) → Contains (retired_at (chart_of since.contents) before.places) p
        → IsKnownWorn entry.places (chart_of x) since.added p
    listed p has = since.listed p (laid_lists entry.places (chart_of since.contents) since.layout first
        since.fits.mirrors.laid since.fits.mirrors.status.place p
        (subst (λ (n : ℕ). Contains (retired_at (chart_of since.contents) n) p) since.places_are has))

    restart_knows : OpensStore before.places before b.store after
        → Tries false before.places before (Ok tt) (tables_in b.store.transactions.pages) after
        → KnowsSince entry.places x h b.store after
    restart_knows = opened_knows entry.places x h since.added before after since.contents since.told
        since.history since.places_are as_many listed b

    restart_worn : (e : ImageFault) (t : Tables) → Tries false before.places before (Err e) t after
        → ends_worn_out (Err e) ≡ true
        → (added : Story) × (after.history ≡ Some (adds_all added h))
        × TooManyAreWorn entry.places (chart_of x) added
    restart_worn = opened_worn entry.places x h since.added before after since.contents since.told
        since.history since.places_are as_many listed

  pub restart_learns_done : OpensStore before.places before b.store after
      → Tries false before.places before (Ok tt) (tables_in b.store.transactions.pages) after
      → KnowsWorn entry b after
  restart_learns_done opens tries up x h told history = restart_knows x h told history opens tries

  pub restart_learns_failed : (e : ImageFault) (t : Tables)
      → Tries false before.places before (Err e) t after → FaultWears entry (Image e) after
  restart_learns_failed e t tries = image_wears entry e after
      (λ worn x h told history. restart_worn x h told history e t tries worn)
