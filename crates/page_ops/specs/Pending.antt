-- Changes of a page's slots that are pending: their transactions aren't committed yet.
use Rattle.std.specs.Prelude.{ℕ, ◌+◌, ◌==◌, List, Option, Some, None, if◌then◌else◌}
use Rattle.ipl_base.specs.Sizes.{size_in_page}
use Rattle.ipl_model.specs.Peaks.{fill_of}
use Rattle.ipl_format.specs.Record.{Change}
use Rattle.ipl_meaning.specs.Values.{Values}

-- a change, with the number of its transaction
abbrev pub Pending : Type 0
Pending = ℕ × Change

-- for each slot at most one
abbrev pub Pendings : Type 0
Pendings = ℕ → Option Pending

-- what a session of this number sees: its own change, where it has one, or else the committed value
abbrev pub seen_by : ℕ → Option (List ℕ) → Option Pending → Option (List ℕ)
seen_by tid value None = value
seen_by tid value (Some p) = if p.0 == tid then p.1 else value

-- the change is dropped where it is of this number
abbrev pub without_pending : ℕ → Option Pending → Option Pending
without_pending tid None = None
without_pending tid (Some p) = if p.0 == tid then None else Some p

-- a slot has this change now, in the place of the one it had
abbrev pub with_pending : Pendings → ℕ → Pending → Pendings
with_pending pending slot p k = if k == slot then Some p else pending k

-- the peak of a pending change: one more than what it takes in a page, 0 for none
abbrev pub peak_of : Option Pending → ℕ
peak_of None = 0
peak_of (Some p) = 1 + size_in_page p.1

-- what a page of these values may come to take: each slot its value or its pending change, whichever
-- takes more
abbrev pub fill_by : Values → Pendings → ℕ
fill_by values pending = fill_of values (λ slot. peak_of (pending slot))
