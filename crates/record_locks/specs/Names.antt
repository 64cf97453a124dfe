-- What a lock depends on: the names that sessions wrote and share, and not what was put.
use Rattle.std.specs.Prelude.{◌≡◌, ℕ, ◌<◌, length, List, [], ◌∷◌, Contains, None, Option, replicate, All}
use Rattle.std.specs.Option.{option_map}
use Rattle.std.specs.FinMap.{get}
use Rattle.ipl_base.specs.Sizes.{size_in_page}
use Rattle.ipl_model.specs.State.{Session, State, Limits, is_open_session, written_names, holder_for_share, holder_for_write, writes_of}
use Rattle.ipl_model.specs.Peaks.{peaks_of, peaks}
use Rattle.ipl_model.specs.Refusals as refusals
use Rattle.ipl_model.specs.Refusals.{first_of, already_open, not_open, conflict, writes_full, shares_full, pending_full}
use Rattle.ipl_model.specs.Operations as rules
use Rattle.record_locks.specs.Held.{SessionSlots, held_at, slot_peaks, peaks_in, after_begin, after_share, after_write, after_end, after_batch}
use Rattle.record_locks.specs.Standing.{state_of}
use Rattle.record_locks.specs.Locks.{IsSized, refuses_begin, refuses_share, refuses_write, refuses_end, refuses_batch}

-- the names that a session wrote, each once, and those that it shares
abbrev pub names_of : Session → List ℕ × List ℕ
names_of session = (written_names session.writes, session.shared)

-- the same sessions are open, with the same names
abbrev pub SameNames : State → State → Type 0
SameNames a b = (s : ℕ) → option_map names_of (get a.sessions s) ≡ option_map names_of (get b.sessions s)

-- the tests of locks answer alike
pub record TestsAlike (a b : State) (s n : ℕ) : Type 0 where
  pub opens : is_open_session a s ≡ is_open_session b s
  pub shares : holder_for_share a s n ≡ holder_for_share b s n
  pub writes : holder_for_write a s n ≡ holder_for_write b s n
  pub full_writes : writes_full a s n ≡ writes_full b s n
  pub full_shares : shares_full a s n ≡ shares_full b s n

-- each session's writes have the peaks of the state's
abbrev pub SamePeaks : SessionSlots → State → Type 0
SamePeaks slots state = (s n : ℕ) → slot_peaks (held_at slots s) n ≡ peaks_of (writes_of state s) n

-- so all together have
abbrev pub PeaksAreTheStates : Type 0
PeaksAreTheStates = (slots : SessionSlots) (state : State) → SamePeaks slots state → (n : ℕ) → peaks_in slots n ≡ peaks state n

-- the tests look at names alone
abbrev pub LocksLookAtNames : Type 0
LocksLookAtNames = (a b : State) → SameNames a b → (s n : ℕ) → TestsAlike a b s n

-- the calls on sessions are refused as the operations on the state are
pub record RefusesAs (slots : SessionSlots) (state : State) (s n : ℕ) : Type 0 where
  pub begins : refuses_begin slots s ≡ first_of (already_open state s ∷ [])
  pub shares : refuses_share slots s n ≡ first_of (not_open state s ∷ conflict (holder_for_share state s n) ∷ shares_full state s n ∷ [])
  pub writes : (change : Option (List ℕ)) → refuses_write slots s n (size_in_page change) ≡ first_of (not_open state s
      ∷ conflict (holder_for_write state s n) ∷ writes_full state s n ∷ pending_full state (n, change) ∷ [])
  pub ends : refuses_end slots s ≡ first_of (not_open state s ∷ [])

-- sessions that have the names and peaks of a state refuse as that state does
abbrev pub SessionsRefuseAsStates : Type 0
SessionsRefuseAsStates = (slots : SessionSlots) (state : State) → SameNames (state_of slots) state → SamePeaks slots state → (s n : ℕ) → RefusesAs slots state s n

-- where sessions have the names of a state, they have them after each call and its operation, whatever is put
pub record KeepsNames (slots : SessionSlots) (state : State) (s : ℕ) : Type 0 where
  pub begins : (number : ℕ) → SameNames (state_of (after_begin slots s number)) (rules.after_begin state s)
  pub shares : (n : ℕ) → SameNames (state_of (after_share slots s n)) (rules.after_share state s n)
  pub writes : (n size : ℕ) (change : Option (List ℕ)) → SameNames (state_of (after_write slots s n size)) (rules.after_write state s (n, change))
  pub commits : SameNames (state_of (after_end slots s)) (rules.after_commit state s)
  pub aborts : SameNames (state_of (after_end slots s)) (rules.after_abort state s)
  pub restarts : SameNames (state_of (replicate (length slots) None)) (rules.after_restart state)

-- the change of a call and that of its operation keep the names the same
abbrev pub CallsKeepNames : Type 0
CallsKeepNames = (slots : SessionSlots) (state : State) (s : ℕ) → s < length slots → SameNames (state_of slots) state → KeepsNames slots state s

-- and the peaks
pub record KeepsNamePeaks (slots : SessionSlots) (state : State) (s : ℕ) : Type 0 where
  pub begins : (number : ℕ) → SamePeaks (after_begin slots s number) (rules.after_begin state s)
  pub shares : (n : ℕ) → SamePeaks (after_share slots s n) (rules.after_share state s n)
  pub writes : (n : ℕ) (change : Option (List ℕ)) → SamePeaks (after_write slots s n (size_in_page change)) (rules.after_write state s (n, change))
  pub commits : SamePeaks (after_end slots s) (rules.after_commit state s)
  pub aborts : SamePeaks (after_end slots s) (rules.after_abort state s)
  pub restarts : SamePeaks (replicate (length slots) None) (rules.after_restart state)

abbrev pub CallsKeepPeaks : Type 0
CallsKeepPeaks = (slots : SessionSlots) (state : State) (s : ℕ) → s < length slots → All IsSized slots → SameNames (state_of slots) state
    → SamePeaks slots state → KeepsNamePeaks slots state s

-- ---- commits of several sessions

-- sessions that have the names of a state refuse a batch as that state does
abbrev pub BatchesRefuseAsStates : Type 0
BatchesRefuseAsStates = (slots : SessionSlots) (limits : Limits) (state : State) → limits.sessions ≡ length slots → SameNames (state_of slots) state
    → (ss : List ℕ) → refuses_batch slots ss ≡ refusals.refuses_batch limits state ss

-- and they have its names after it
abbrev pub BatchesKeepNames : Type 0
BatchesKeepNames = (slots : SessionSlots) (state : State) (ss : List ℕ) → ((s : ℕ) → Contains ss s → s < length slots)
    → SameNames (state_of slots) state → SameNames (state_of (after_batch slots ss)) (rules.after_batch state ss)

-- and its peaks
abbrev pub BatchesKeepPeaks : Type 0
BatchesKeepPeaks = (slots : SessionSlots) (state : State) (ss : List ℕ) → ((s : ℕ) → Contains ss s → s < length slots)
    → SamePeaks slots state → SamePeaks (after_batch slots ss) (rules.after_batch state ss)

-- ---- the number of sessions

-- no call changes how many slots there are
pub record KeepsSlots (slots : SessionSlots) (s : ℕ) : Type 0 where
  pub begins : (number : ℕ) → length (after_begin slots s number) ≡ length slots
  pub shares : (n : ℕ) → length (after_share slots s n) ≡ length slots
  pub writes : (n size : ℕ) → length (after_write slots s n size) ≡ length slots
  pub ends : length (after_end slots s) ≡ length slots
  pub batches : (ss : List ℕ) → length (after_batch slots ss) ≡ length slots

abbrev pub CallsKeepSlots : Type 0
CallsKeepSlots = (slots : SessionSlots) (s : ℕ) → KeepsSlots slots s
