-- When the calls are refused, by the tests of the rules in their order; and what holds of all sessions together.
use Rattle.std.specs.Prelude.{◌≡◌, ℕ, ◌+◌, ◌≤◌, ◌==◌, ◌/◌, Bool, true, List, [], ◌∷◌, length, Option, if◌then◌else◌, All}
use Rattle.std.specs.List.{sum_by, count_by}
use Rattle.std.specs.Option.{option_map_or}
use Rattle.ipl_base.specs.declared.limits.TheConstants.{UNIT_NAMES, SESSIONS, PENDING_WEIGHT}
use Rattle.ipl_base.specs.declared.fault.Refusal.{Refusal}
use Rattle.ipl_base.specs.declared.fault.Refusal.TheVariants.{PendingFull}
use Rattle.ipl_model.specs.State.{holder_for_share, holder_for_write}
use Rattle.ipl_model.specs.Peaks.{overloads, weights}
use Rattle.ipl_model.specs.Refusals as refusals
use Rattle.ipl_model.specs.Refusals.{Test, first_of, already_open, not_open, conflict, writes_full, shares_full}
use Rattle.record_locks.specs.Held.{Held, SessionSlots, written_of, is_among, peaks_in}
use Rattle.record_locks.specs.Standing.{state_of}

-- why a begin is refused, if it is
abbrev pub refuses_begin : SessionSlots → ℕ → Option Refusal
refuses_begin slots s = first_of (already_open (state_of slots) s ∷ [])

-- why a share of a name is refused, if it is
abbrev pub refuses_share : SessionSlots → ℕ → ℕ → Option Refusal
refuses_share slots s n = first_of (not_open (state_of slots) s ∷ conflict (holder_for_share (state_of slots) s n)
    ∷ shares_full (state_of slots) s n ∷ [])

-- with a write of this size the pending names of its unit would weigh more than 48
abbrev pub pending_full : SessionSlots → ℕ → ℕ → Test
pending_full slots n size = (overloads (peaks_in slots) n (1 + size), PendingFull (n / UNIT_NAMES))

-- why a write of a name, of this size, is refused, if it is
abbrev pub refuses_write : SessionSlots → ℕ → ℕ → ℕ → Option Refusal
refuses_write slots s n size = first_of (not_open (state_of slots) s ∷ conflict (holder_for_write (state_of slots) s n)
    ∷ writes_full (state_of slots) s n ∷ pending_full slots n size ∷ [])

-- why an end is refused, if it is
abbrev pub refuses_end : SessionSlots → ℕ → Option Refusal
refuses_end slots s = first_of (not_open (state_of slots) s ∷ [])

-- why a commit of several sessions is refused, if it is; of the limits it looks at the number of sessions alone
abbrev pub refuses_batch : SessionSlots → List ℕ → Option Refusal
refuses_batch slots ss = refusals.refuses_batch (record { sessions = length slots; names = 0; units = 0 }) (state_of slots) ss

-- why a clean close is refused, if it is; of the limits it looks at the number of sessions alone
abbrev pub refuses_close : SessionSlots → Option Refusal
refuses_close slots = refusals.refuses_close (record { sessions = length slots; names = 0; units = 0 }) (state_of slots)

-- the least other session that keeps this one from writing a name, or from sharing it
abbrev pub holder_of : SessionSlots → ℕ → ℕ → Bool → Option ℕ
holder_of slots s n for_write = if for_write then holder_for_write (state_of slots) s n else holder_for_share (state_of slots) s n

-- ---- what holds of all sessions

-- no name is written by two sessions
abbrev pub OneWriter : SessionSlots → Type 0
OneWriter slots = (s t n : ℕ) → is_among n (written_of slots s) ≡ true → is_among n (written_of slots t) ≡ true → s ≡ t

-- the pending names of each unit weigh at most 48
abbrev pub FewPending : SessionSlots → Type 0
FewPending slots = (unit : ℕ) → weights (peaks_in slots) unit ≤ PENDING_WEIGHT

-- beside each name that a session wrote stands a size
abbrev pub IsSized : Option Held → Type 0
IsSized slot = length (option_map_or (λ h. h.sizes) slot []) ≡ length (option_map_or (λ h. h.written) slot [])

-- how many of the names that the session in a slot wrote pass the test
abbrev pub written_in : (ℕ → Bool) → Option Held → ℕ
written_in test slot = count_by test (option_map_or (λ h. h.written) slot [])

-- how many of the names that sessions wrote pass the test
abbrev pub total : (ℕ → Bool) → SessionSlots → ℕ
total test slots = sum_by (written_in test) slots

-- there are 32 slots at most, no name is written twice, each has its size, and the names of each unit weigh at most 48
pub record AreSoundSlots (slots : SessionSlots) : Type 0 where
  pub all : length slots ≤ SESSIONS
  pub once : (n : ℕ) → total (λ k. k == n) slots ≤ 1
  pub sized : All IsSized slots
  pub few : FewPending slots
