-- What open sessions' writes may come to take: room in a page, and log records that a merge of a unit carries.
use Rattle.std.specs.Prelude.{ℕ, ◌+◌, ◌-◌, ◌*◌, ◌/◌, ◌==◌, max, nat_lt, List, [], ◌∷◌, sum_by, Bool, Option, Some, if◌then◌else◌}
use Rattle.std.specs.List.{range_with_len}
use Rattle.std.specs.FinMap.{get}
use Rattle.ipl_base.specs.declared.limits.TheConstants.{SHORT_SIZE, LONG_WEIGHT, PAGE_LEN, PENDING_WEIGHT, SLOTS, UNIT_NAMES}
use Rattle.ipl_base.specs.Sizes.{size_in_page}
use Rattle.ipl_model.specs.State.{Map, Write, State, pending_writes}

-- of each name one more than the greatest that a write of it takes in a page, 0 where it isn't written
abbrev pub Peaks : Type 0
Peaks = ℕ → ℕ

-- the peak of a name is at least this
abbrev pub with_peak : Peaks → ℕ → ℕ → Peaks
with_peak peaks n m k = if n == k then max m (peaks k) else peaks k

-- the peaks of writes
abbrev pub peaks_of : List Write → Peaks
peaks_of [] n = 0
peaks_of (w ∷ older) n = with_peak (peaks_of older) w.0 (1 + size_in_page w.1) n

-- those of all open sessions
abbrev pub peaks : State → Peaks
peaks state = peaks_of (pending_writes state)

-- ---- room in a page

-- what 64 slots may come to take, by their values and peaks
unfoldable pub fill_of : (ℕ → Option (List ℕ)) → Peaks → ℕ
fill_of values peaks = sum_by (λ slot. max (size_in_page (values slot)) (peaks slot - 1)) (range_with_len 0 SLOTS)

-- the values of a page's slots, and their peaks
abbrev pub values_at : Map → ℕ → ℕ → Option (List ℕ)
values_at m page slot = get m (SLOTS * page + slot)

abbrev pub peaks_at : Peaks → ℕ → Peaks
peaks_at peaks page slot = peaks (SLOTS * page + slot)

-- what a page may come to take, whichever open sessions commit
abbrev pub fill_with : Peaks → Map → ℕ → ℕ
fill_with peaks m page = fill_of (values_at m page) (peaks_at peaks page)

abbrev pub fill : State → ℕ → ℕ
fill state page = fill_with (peaks state) state.map page

-- with a put of these bytes the page of its name might come to take more than it has
abbrev pub overfills : State → ℕ → List ℕ → Bool
overfills state n bytes = nat_lt PAGE_LEN (fill_with (with_peak (peaks state) n (1 + size_in_page (Some bytes))) state.map (n / SLOTS))

-- ---- log records of a unit

-- a name that a long write is pending on weighs 8, each other one that is written 1
abbrev pub weight_of_peak : ℕ → ℕ
weight_of_peak m = if m == 0 then 0 else if nat_lt (1 + SHORT_SIZE) m then LONG_WEIGHT else 1

-- the weights of the 960 names of a unit
unfoldable pub weights : Peaks → ℕ → ℕ
weights peaks unit = sum_by (λ i. weight_of_peak (peaks (UNIT_NAMES * unit + i))) (range_with_len 0 UNIT_NAMES)

-- of those that open sessions wrote
abbrev pub pending : State → ℕ → ℕ
pending state unit = weights (peaks state) unit

-- with a write of this peak those of its unit would be more than 48
abbrev pub overloads : Peaks → ℕ → ℕ → Bool
overloads peaks n m = nat_lt PENDING_WEIGHT (weights (with_peak peaks n m) (n / UNIT_NAMES))
