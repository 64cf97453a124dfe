-- Room in a page for all that open sessions wrote there, whichever of them are committed.
use Rattle.std.specs.Prelude.{ℕ, ◌+◌, ◌<◌, ◌≤◌, nat_lt, Bool, List, Some, IfSome}
use Rattle.ipl_base.specs.Places.{home_of}
use Rattle.ipl_base.specs.Sizes.{size_in_page}
use Rattle.ipl_base.specs.declared.limits.TheConstants.{PAGE_LEN, PAGES, SLOTS}
use Rattle.ipl_model.specs.Peaks.{Peaks, with_peak, peaks, fill_of}
use Rattle.ipl_model.specs.State.{State}
use Rattle.ipl_format.specs.Record.{Record}
use Rattle.ipl_meaning.specs.Chart.{Chart}
use Rattle.ipl_meaning.specs.Values.{Values}
use Rattle.ipl_meaning.specs.Layout.{Layout}
use Rattle.ipl_meaning.specs.Stands.{Shows}
use Rattle.store_laws.specs.Pending.{name_at}

-- what the slots of a page may come to take, by these values and the peaks of their names
abbrev pub fill_at : Peaks → ℕ → ℕ → Values → ℕ
fill_at peaks u page values = fill_of values (λ slot. peaks (name_at u page slot))

-- ---- all that is written

-- the page shows values that have room together with all that open sessions wrote there
pub record PageHasRoom (c : Chart) (it : Layout) (state : State) (u page : ℕ) : Type 0 where
  pub values : Values
  pub shows : Shows c it.committed u (it.units u) page values
  pub room : fill_at (peaks state) u page values ≤ PAGE_LEN

-- so does each page of which an open session wrote a name
abbrev pub PagesHaveRoom : ℕ → Chart → Layout → State → Type 0
PagesHaveRoom units c it state = (u page slot : ℕ) → u < units → page < PAGES → slot < SLOTS
    → 0 < peaks state (name_at u page slot) → PageHasRoom c it state u page

-- ---- one write more

-- the peaks once a record's change is written
abbrev pub peaked_by : Peaks → ℕ → Record → Peaks
peaked_by peaks u r = with_peak peaks (name_at u r.page r.slot) (1 + size_in_page r.change)

-- the record has room in its page, which shows these values; that of a delete always has
abbrev pub PageHasRoomFor : Peaks → ℕ → Record → Values → Type 0
PageHasRoomFor peaks u r values = IfSome r.change (λ bytes. fill_at (peaked_by peaks u r) u r.page values ≤ PAGE_LEN)

-- with a put of these bytes the page of its name, which shows these values, might come to take more than it has
abbrev pub overfills_at : Peaks → ℕ → List ℕ → Values → Bool
overfills_at peaks n bytes values = nat_lt PAGE_LEN
    (fill_at (with_peak peaks n (1 + size_in_page (Some bytes))) (home_of n).unit (home_of n).page values)
