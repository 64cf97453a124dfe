-- Laws of the rules.
use Rattle.std.specs.Prelude.{ℕ, ◌≡◌, ◌≢◌, ◌<◌, true, false, List, [], ◌∷◌, Contains, Option, Some, None}
use Rattle.std.specs.Option.{option_or}
use Rattle.std.specs.FinMap.{get}
use Rattle.ipl_model.specs.State.{Map, Write, State, Limits, is_open_session, writes_of, last_write, see, with_writes, seen_through}
use Rattle.ipl_model.specs.Refusals.{first_of, page_full, refuses_begin, refuses_get, refuses_share, refuses_put_early, refuses_put, refuses_del, refuses_end, refuses_batch, is_twice}
use Rattle.ipl_model.specs.Operations.{after_batch}

-- a refusal looks at the open sessions alone, whatever the records are, but that of a put whose page is full
pub record LooksAtSessions (limits : Limits) (state : State) (m : Map) (s n : ℕ) (bytes : List ℕ) : Type 0 where
  pub begins : refuses_begin limits (record state { map = m }) s ≡ refuses_begin limits state s
  pub gets : refuses_get limits (record state { map = m }) s n ≡ refuses_get limits state s n
  pub shares : refuses_share limits (record state { map = m }) s n ≡ refuses_share limits state s n
  pub puts : refuses_put_early limits (record state { map = m }) s n bytes ≡ refuses_put_early limits state s n bytes
  pub dels : refuses_del limits (record state { map = m }) s n ≡ refuses_del limits state s n
  pub ends : refuses_end limits (record state { map = m }) s ≡ refuses_end limits state s

abbrev pub RefusalsLookAtSessions : Type 0
RefusalsLookAtSessions = (limits : Limits) (state : State) (m : Map) (s n : ℕ) (bytes : List ℕ) → LooksAtSessions limits state m s n bytes

-- a put is refused early, or else where its page is full
abbrev pub PutsRefuseInTwoParts : Type 0
PutsRefuseInTwoParts = (limits : Limits) (state : State) (s n : ℕ) (bytes : List ℕ)
    → refuses_put limits state s n bytes ≡ option_or (refuses_put_early limits state s n bytes) (first_of (page_full state n bytes ∷ []))

-- a session sees its own last write
abbrev pub SeesItsOwnWrites : Type 0
SeesItsOwnWrites = (state : State) (s n : ℕ) (change : Option (List ℕ)) → last_write (writes_of state s) n ≡ Some change → see state s n ≡ change

-- what a session sees is what all would see if it committed
abbrev pub CommitsWhatIsSeen : Type 0
CommitsWhatIsSeen = (writes : List Write) (m : Map) (n : ℕ) → get (with_writes writes m) n ≡ seen_through writes m n

-- ---- commits of several sessions

-- a batch that isn't refused names open sessions, each once
pub record NamesOnce (limits : Limits) (state : State) (ss : List ℕ) : Type 0 where
  pub within : (s : ℕ) → Contains ss s → s < limits.sessions
  pub once : (s : ℕ) → Contains ss s → is_twice ss s ≡ false
  pub opens : (s : ℕ) → Contains ss s → is_open_session state s ≡ true

abbrev pub BatchesNameOnce : Type 0
BatchesNameOnce = (limits : Limits) (state : State) (ss : List ℕ) → refuses_batch limits state ss ≡ None → NamesOnce limits state ss

-- a name that one session of a batch wrote alone has that session's last write after it
abbrev pub BatchesWrite : Type 0
BatchesWrite = (state : State) (ss : List ℕ) (s n : ℕ) (change : Option (List ℕ)) → Contains ss s
    → last_write (writes_of state s) n ≡ Some change
    → ((t : ℕ) → Contains ss t → t ≢ s → last_write (writes_of state t) n ≡ None)
    → get (after_batch state ss).map n ≡ change

-- and one that none of them wrote has its record
abbrev pub BatchesKeep : Type 0
BatchesKeep = (state : State) (ss : List ℕ) (n : ℕ) → ((t : ℕ) → Contains ss t → last_write (writes_of state t) n ≡ None)
    → get (after_batch state ss).map n ≡ get state.map n
