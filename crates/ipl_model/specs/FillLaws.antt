-- Laws of what open sessions' writes may come to take.
use Rattle.std.specs.Prelude.{ℕ, ◌≡◌, ◌+◌, ◌-◌, ◌/◌, ◌≤◌, max, false, List, Option, Some, None}
use Rattle.ipl_base.specs.declared.limits.TheConstants.{PAGE_LEN, PENDING_WEIGHT, SLOTS}
use Rattle.ipl_base.specs.Sizes.{size_in_page, size_of_values}
use Rattle.ipl_model.specs.State.{Write, State}
use Rattle.ipl_model.specs.Peaks.{Peaks, peaks, values_at, fill_of, fill, overfills, weights, pending, overloads}
use Rattle.ipl_model.specs.Operations.{after_begin, after_share, after_write, after_commit, after_batch, after_abort, after_restart}

-- ---- pages

-- the page has room for whatever comes of the open sessions
abbrev pub PageFits : State → ℕ → Type 0
PageFits state page = fill state page ≤ PAGE_LEN

-- no operation makes a page too full, but a put on it that is refused for it
pub record PageStaysFit (state : State) (s n : ℕ) (bytes : List ℕ) (page : ℕ) : Type 0 where
  pub begins : PageFits (after_begin state s) page
  pub shares : PageFits (after_share state s n) page
  pub puts : overfills state n bytes ≡ false → PageFits (after_write state s (n, Some bytes)) page
  pub dels : PageFits (after_write state s (n, None)) page
  pub commits : PageFits (after_commit state s) page
  pub batches : (ss : List ℕ) → PageFits (after_batch state ss) page
  pub aborts : PageFits (after_abort state s) page
  pub restarts : PageFits (after_restart state) page

abbrev pub OperationsKeepPagesFit : Type 0
OperationsKeepPagesFit = (state : State) (s n : ℕ) (bytes : List ℕ) (page : ℕ) → PageFits state page → PageStaysFit state s n bytes page

-- and a put that isn't refused leaves its page so, whatever it was before
abbrev pub PutsMakePagesFit : Type 0
PutsMakePagesFit = (state : State) (s n : ℕ) (bytes : List ℕ) → overfills state n bytes ≡ false → PageFits (after_write state s (n, Some bytes)) (n / SLOTS)

-- the records of a page that fits have room in it
abbrev pub RecordsHaveRoom : Type 0
RecordsHaveRoom = (state : State) (page : ℕ) → PageFits state page → size_of_values (values_at state.map page) ≤ PAGE_LEN

-- ---- units

-- in each unit the pending names weigh at most 48
abbrev pub UnitsFit : State → Type 0
UnitsFit state = (unit : ℕ) → pending state unit ≤ PENDING_WEIGHT

-- no operation makes a unit's names too heavy, but a write that is refused for it
pub record UnitsStayFit (state : State) (s n : ℕ) (w : Write) : Type 0 where
  pub begins : UnitsFit (after_begin state s)
  pub shares : UnitsFit (after_share state s n)
  pub writes : overloads (peaks state) w.0 (1 + size_in_page w.1) ≡ false → UnitsFit (after_write state s w)
  pub commits : UnitsFit (after_commit state s)
  pub batches : (ss : List ℕ) → UnitsFit (after_batch state ss)
  pub aborts : UnitsFit (after_abort state s)
  pub restarts : UnitsFit (after_restart state)

abbrev pub OperationsKeepUnitsFit : Type 0
OperationsKeepUnitsFit = (state : State) (s n : ℕ) (w : Write) → UnitsFit state → UnitsStayFit state s n w

-- ---- both

-- smaller peaks, over values that take no more, take no more
pub record LessIsLess (few more : Peaks) (values before : ℕ → Option (List ℕ)) : Type 0 where
  pub pages : ((slot : ℕ) → max (size_in_page (values slot)) (few slot - 1) ≤ max (size_in_page (before slot)) (more slot - 1)) → fill_of values few ≤ fill_of before more
  pub units : ((n : ℕ) → few n ≤ more n) → (unit : ℕ) → weights few unit ≤ weights more unit

abbrev pub SmallerPeaksAreLess : Type 0
SmallerPeaksAreLess = (few more : Peaks) (values before : ℕ → Option (List ℕ)) → LessIsLess few more values before
