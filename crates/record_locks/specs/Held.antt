-- What sessions hold: their transaction numbers, and names that they wrote or share.
use Rattle.std.specs.Prelude.{ℕ, suc, ◌+◌, ◌==◌, ◌/◌, max, drop, slice_index, Bool, List, [], ◌∷◌, ◌++◌, Option, Some, None, slice_index_or, slice_set, if◌then◌else◌}
use Rattle.std.specs.List.{list_any}
use Rattle.std.specs.Option.{option_map, option_map_or}
use Rattle.ipl_base.specs.declared.limits.TheConstants.{UNIT_NAMES}
use Rattle.ipl_model.specs.Peaks.{Peaks, weight_of_peak}

-- an open session: its transaction number, the names that it wrote and those that it shares, the oldest first, and
-- beside each name that it wrote the most bytes that a write of it takes in its page
pub record Held : Type 0 where
  pub number : ℕ
  pub written : List ℕ
  pub sizes : List ℕ
  pub shared : List ℕ

-- for each number, an open session or none
abbrev pub SessionSlots : Type 0
SessionSlots = List (Option Held)

-- what a slot holds, none past the last
abbrev pub held_at : SessionSlots → ℕ → Option Held
held_at slots s = slice_index_or slots s None

-- the transaction number of a session, where it is open
abbrev pub number_of : SessionSlots → ℕ → Option ℕ
number_of slots s = option_map (λ h. h.number) (held_at slots s)

-- the names that a session wrote, none where it isn't open
abbrev pub written_of : SessionSlots → ℕ → List ℕ
written_of slots s = option_map_or (λ h. h.written) (held_at slots s) []

-- the names that a session shares, none where it isn't open
abbrev pub shared_of : SessionSlots → ℕ → List ℕ
shared_of slots s = option_map_or (λ h. h.shared) (held_at slots s) []

-- the name is among these
abbrev pub is_among : ℕ → List ℕ → Bool
is_among n names = list_any (λ k. k == n) names

-- the names that these sessions wrote, one session after the other
abbrev pub written_by : SessionSlots → List ℕ → List ℕ
written_by slots [] = []
written_by slots (s ∷ ss) = written_of slots s ++ written_by slots ss

-- the number of a session that wrote something
abbrev pub writer_number : List ℕ → Option ℕ → List ℕ
writer_number [] o = []
writer_number (n ∷ names) None = []
writer_number (n ∷ names) (Some number) = number ∷ []

-- the numbers of those of these sessions that wrote something, in their order
abbrev pub writer_numbers : SessionSlots → List ℕ → List ℕ
writer_numbers slots [] = []
writer_numbers slots (s ∷ ss) = writer_number (written_of slots s) (number_of slots s) ++ writer_numbers slots ss

-- the transaction numbers of the open sessions, in the order of their slots
abbrev pub numbers_in : SessionSlots → List ℕ
numbers_in [] = []
numbers_in (None ∷ slots) = numbers_in slots
numbers_in (Some h ∷ slots) = h.number ∷ numbers_in slots

-- ---- peaks

-- one more than the size that stands beside a name, 0 where it isn't there
abbrev pub peak_in : List ℕ → List ℕ → Peaks
peak_in [] sizes n = 0
peak_in (k ∷ names) sizes n = if k == n then 1 + slice_index sizes 0 else peak_in names (drop 1 sizes) n

-- where a name stands first, or how many there are
abbrev pub rank_of : ℕ → List ℕ → ℕ
rank_of n [] = 0
rank_of n (k ∷ names) = if k == n then 0 else suc (rank_of n names)

-- what the names of a unit weigh
abbrev pub weight_listed : List ℕ → List ℕ → ℕ → ℕ
weight_listed [] sizes unit = 0
weight_listed (k ∷ names) sizes unit =
    (if k / UNIT_NAMES == unit then weight_of_peak (1 + slice_index sizes 0) else 0) + weight_listed names (drop 1 sizes) unit

-- of those that the session in a slot wrote
abbrev pub slot_weight : Option Held → ℕ → ℕ
slot_weight None unit = 0
slot_weight (Some h) unit = weight_listed h.written h.sizes unit

-- the sizes with that of a name raised to at least this
abbrev pub raised : List ℕ → List ℕ → ℕ → ℕ → List ℕ
raised [] sizes n size = sizes
raised (k ∷ names) sizes n size =
    if k == n then max size (slice_index sizes 0) ∷ drop 1 sizes else slice_index sizes 0 ∷ raised names (drop 1 sizes) n size

-- the peaks of the session in a slot
abbrev pub slot_peaks : Option Held → Peaks
slot_peaks None n = 0
slot_peaks (Some h) n = peak_in h.written h.sizes n

-- those of all sessions
abbrev pub peaks_in : SessionSlots → Peaks
peaks_in [] n = 0
peaks_in (o ∷ slots) n = max (slot_peaks o n) (peaks_in slots n)

-- ---- what the calls do

-- a session that has done nothing yet
abbrev pub new_held : ℕ → Held
new_held number = record { number = number; written = []; sizes = []; shared = [] }

-- the name is written, by a write of this size: it stands behind the others, unless it is among them
abbrev pub with_written : ℕ → ℕ → Held → Held
with_written n size h = if is_among n h.written then record h { sizes = raised h.written h.sizes n size }
    else record h { written = h.written ++ n ∷ []; sizes = h.sizes ++ size ∷ [] }

-- the name is shared, unless it was written or is shared
abbrev pub with_shared : ℕ → Held → Held
with_shared n h = if is_among n h.written then h else if is_among n h.shared then h else record h { shared = h.shared ++ n ∷ [] }

-- the session is opened
abbrev pub after_begin : SessionSlots → ℕ → ℕ → SessionSlots
after_begin slots s number = slice_set slots s (Some (new_held number))

-- the session, where it is open, shares the name
abbrev pub after_share : SessionSlots → ℕ → ℕ → SessionSlots
after_share slots s n = slice_set slots s (option_map (with_shared n) (held_at slots s))

-- the session, where it is open, wrote the name
abbrev pub after_write : SessionSlots → ℕ → ℕ → ℕ → SessionSlots
after_write slots s n size = slice_set slots s (option_map (with_written n size) (held_at slots s))

-- the session is closed
abbrev pub after_end : SessionSlots → ℕ → SessionSlots
after_end slots s = slice_set slots s None

-- these sessions are closed
abbrev pub after_batch : SessionSlots → List ℕ → SessionSlots
after_batch slots [] = slots
after_batch slots (s ∷ ss) = after_batch (after_end slots s) ss
