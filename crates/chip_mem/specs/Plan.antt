-- Which calls of a chip in memory fail.
use Rattle.std.specs.Prelude.{ℕ, ◌+◌, ◌-◌, ◌^◌, ◌==◌, ◌||◌, min, nat_le, Bool, false, List, [], Option, Some, None, if◌then◌else◌}
use Rattle.std.specs.List.{list_any}

-- how far a chip has got, and what is to fail
pub record Plan : Type 0 where
  -- how many reads, programs, erases and barriers were asked for
  pub calls : ℕ
  -- how many of them were no reads
  pub writes : ℕ
  -- the numbers of the calls that fail, from 0 on
  pub failing : List ℕ
  -- the number of writes after which each one fails
  pub stop : Option ℕ
  -- the places whose erases find them worn
  pub worn_out : List ℕ
  -- how many events the chip keeps at most
  pub room : ℕ
  -- how many it keeps
  pub kept : ℕ

-- a count, one higher unless it stands at its last value
abbrev pub counted : ℕ → ℕ
counted n = min (n + 1) (2 ^ 64 - 1)

-- the next call is one of those that fail
abbrev pub is_listed : Plan → Bool
is_listed plan = list_any (λ n. n == plan.calls) plan.failing

-- all writes that may succeed were asked for
abbrev pub is_past : Option ℕ → ℕ → Bool
is_past None writes = false
is_past (Some k) writes = nat_le k writes

-- the place is one of those
abbrev pub is_worn_out : Plan → ℕ → Bool
is_worn_out plan p = list_any (λ q. q == p) plan.worn_out

-- there is no room for one event more
abbrev pub is_full : Plan → Bool
is_full plan = nat_le plan.room plan.kept

-- the next call fails, should it be a read
abbrev pub fails_read : Plan → Bool
fails_read plan = is_listed plan || is_full plan

-- the next call fails, should it be a program, an erase or a barrier
abbrev pub fails_write : Plan → Bool
fails_write plan = is_listed plan || is_past plan.stop plan.writes || is_full plan

-- a read is counted
abbrev pub with_read : Plan → Plan
with_read plan = record plan { calls = counted plan.calls }

-- a program, an erase or a barrier is counted
abbrev pub with_write : Plan → Plan
with_write plan = record plan { calls = counted plan.calls; writes = counted plan.writes }

-- one event more is kept
abbrev pub with_event : Plan → Plan
with_event plan = record plan { kept = plan.kept + 1 }

-- after a read
abbrev pub after_read : Plan → Plan
after_read plan = if fails_read plan then with_read plan else with_event (with_read plan)

-- after a program, an erase or a barrier
abbrev pub after_write : Plan → Plan
after_write plan = if fails_write plan then with_write plan else with_event (with_write plan)

-- that of a new chip with so much room
abbrev pub new_plan : ℕ → Plan
new_plan room = record { calls = 0; writes = 0; failing = []; stop = None; worn_out = []; room = room; kept = 0 }
