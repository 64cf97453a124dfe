-- When the sectors of a chip stand for a map.
use Rattle.std.specs.Prelude.{ℕ, ◌≡◌, ◌<◌, ◌≤◌, ◌+◌, ◌*◌, None, Bool, true}
use Rattle.std.specs.FinMap.{get}
use Rattle.ipl_base.specs.declared.limits.TheConstants.{PAGE_LEN, PAGES, SLOTS, UNIT_NAMES}
use Rattle.ipl_model.specs.State.{Map}
use Rattle.ipl_meaning.specs.Legible.{Legible}
use Rattle.ipl_base.specs.Sizes.{size_of_values}
use Rattle.ipl_format.specs.Page.{Slots, value_in}
use Rattle.ipl_meaning.specs.Chart.{Chart}
use Rattle.ipl_meaning.specs.Values.{Values, after_records}
use Rattle.ipl_meaning.specs.Layout.{Shape, Layout, Laid, ReadsWell, records_of}

-- the values of one page's names
abbrev pub page_in : Map → ℕ → ℕ → Values
page_in m u page slot = get m (UNIT_NAMES * u + SLOTS * page + slot)

-- the base page reads well, and with the committed records of the unit's log it has these values,
-- for which a page has room
pub record Shows (c : Chart) (committed : ℕ → Bool) (u : ℕ) (it : Shape) (page : ℕ) (now : Values) : Type 0 where
  pub base : Slots
  pub reads : ReadsWell c u it page base
  pub says : (slot : ℕ) → slot < SLOTS
      → now slot ≡ after_records committed page slot (records_of it.log) (value_in base slot)
  pub room : size_of_values now ≤ PAGE_LEN

-- the map has the values that these pages show, and none past the last unit
pub record Says (places : ℕ) (c : Chart) (it : Layout) (m : Legible) : Type 0 where
  pub pages : (u page : ℕ) → u < it.count → page < PAGES → m.pages.reads u page ≡ true
      → Shows c it.committed u (it.units u) page (page_in m.map u page)
  pub rotten : (u page : ℕ) (base : Slots) → u < it.count → page < PAGES → m.pages.rotten u page ≡ true → ¬ ReadsWell c u (it.units u) page base
  pub nowhere_else : (n : ℕ) → UNIT_NAMES * it.count ≤ n → get m.map n ≡ None

-- the chart is laid out rightly, and its pages show the map
pub record Stands (places : ℕ) (c : Chart) (m : Legible) : Type 0 where
  pub layout : Layout
  pub laid : Laid places c layout
  pub says : Says places c layout m

-- it does so in so many units
pub record StandsIn (places units : ℕ) (c : Chart) (m : Legible) : Type 0 where
  pub stands : Stands places c m
  pub count : stands.layout.count ≡ units

-- the second chart stands for the map, laid out in as many units as the first
pub record StandsBeside (places : ℕ) (c y : Chart) (m : Legible) : Type 0 where
  pub stands : Stands places y m
  pub alike : (it : Layout) → Laid places c it → stands.layout.count ≡ it.count
