-- When an operation is refused: the first test of a list that holds gives the refusal.
use Rattle.std.specs.Prelude.{ℕ, ◌+◌, ◌==◌, ◌/◌, nat_le, nat_lt, Bool, not, ◌&&◌, ◌||◌, List, [], ◌∷◌, ◌++◌, length, filter, find, Option, Some, None, is_some, unwrap_or, if◌then◌else◌}
use Rattle.ipl_base.specs.declared.limits.TheConstants.{VALUE_LEN, UNIT_NAMES, SESSION_NAMES}
use Rattle.ipl_base.specs.declared.fault.Refusal.{Refusal}
use Rattle.ipl_base.specs.declared.fault.Refusal.TheVariants.{BadSession, BadName, TooLong, AlreadyOpen, NotOpen, Conflict, WritesFull, SharesFull, PendingFull, BadUnit, PageFull, Twice, SessionsOpen}
use Rattle.std.specs.List.{list_any, range_with_len}
use Rattle.ipl_base.specs.Sizes.{size_in_page}
use Rattle.ipl_model.specs.State.{Write, State, Limits, is_open_session, writes_of, shared_of, last_write, written_names, holder_for_share, holder_for_write}
use Rattle.ipl_model.specs.Peaks.{peaks, overloads, overfills}

-- a test, and the refusal that it gives
abbrev pub Test : Type 0
Test = Bool × Refusal

-- the refusal of the first test that holds
abbrev pub first_of : List Test → Option Refusal
first_of [] = None
first_of (t ∷ tests) = if t.0 then Some t.1 else first_of tests

-- ---- the tests

abbrev pub bad_session : Limits → ℕ → Test
bad_session limits s = (nat_le limits.sessions s, BadSession)

abbrev pub bad_name : Limits → ℕ → Test
bad_name limits n = (nat_le limits.names n, BadName)

-- more than 464 bytes
abbrev pub too_long : List ℕ → Test
too_long bytes = (nat_lt VALUE_LEN (length bytes), TooLong)

abbrev pub already_open : State → ℕ → Test
already_open state s = (is_open_session state s, AlreadyOpen)

abbrev pub not_open : State → ℕ → Test
not_open state s = (not (is_open_session state s), NotOpen)

-- another session holds the name; the least such session is named
abbrev pub conflict : Option ℕ → Test
conflict holder = (is_some holder, Conflict (unwrap_or holder 0))

-- the name isn't among those that the session wrote
abbrev pub is_new_write : State → ℕ → ℕ → Bool
is_new_write state s n = not (is_some (last_write (writes_of state s) n))

-- the name is new, and the session wrote 256
abbrev pub writes_full : State → ℕ → ℕ → Test
writes_full state s n = (is_new_write state s n && nat_le SESSION_NAMES (length (written_names (writes_of state s))), WritesFull)

-- the name is neither among those that the session wrote nor among those that it shares
abbrev pub is_new_share : State → ℕ → ℕ → Bool
is_new_share state s n = is_new_write state s n && not (list_any (λ k. k == n) (shared_of state s))

-- the name is new, and the session shares 256
abbrev pub shares_full : State → ℕ → ℕ → Test
shares_full state s n = (is_new_share state s n && nat_le SESSION_NAMES (length (shared_of state s)), SharesFull)

-- with this write the pending names of its unit would weigh more than 48
abbrev pub pending_full : State → Write → Test
pending_full state w = (overloads (peaks state) w.0 (1 + size_in_page w.1), PendingFull (w.0 / UNIT_NAMES))

-- with this put the page of its name would be too full
abbrev pub page_full : State → ℕ → List ℕ → Test
page_full state n bytes = (overfills state n bytes, PageFull)

-- the number stands twice in the list, or more often
abbrev pub is_twice : List ℕ → ℕ → Bool
is_twice ss s = nat_lt 1 (length (filter (λ t. t == s) ss))

-- the least session that does
abbrev pub least_twice : Limits → List ℕ → Option ℕ
least_twice limits ss = find (is_twice ss) (range_with_len 0 limits.sessions)

-- a session is named twice; the least is named
abbrev pub twice : Option ℕ → Test
twice least = (is_some least, Twice (unwrap_or least 0))

-- a session is open; the least is named
abbrev pub sessions_open : Option ℕ → Test
sessions_open least = (is_some least, SessionsOpen (unwrap_or least 0))

-- ---- the operations, each with its tests in order

abbrev pub refuses_begin : Limits → State → ℕ → Option Refusal
refuses_begin limits state s = first_of (bad_session limits s ∷ already_open state s ∷ [])

abbrev pub refuses_get : Limits → State → ℕ → ℕ → Option Refusal
refuses_get limits state s n = first_of (bad_session limits s ∷ bad_name limits n ∷ not_open state s ∷ [])

abbrev pub refuses_share : Limits → State → ℕ → ℕ → Option Refusal
refuses_share limits state s n = first_of (bad_session limits s ∷ bad_name limits n ∷ not_open state s
    ∷ conflict (holder_for_share state s n) ∷ shares_full state s n ∷ [])

-- the tests of a put that look at no record
abbrev pub early_tests : Limits → State → ℕ → ℕ → List ℕ → List Test
early_tests limits state s n bytes = bad_session limits s ∷ bad_name limits n ∷ too_long bytes ∷ not_open state s
    ∷ conflict (holder_for_write state s n) ∷ writes_full state s n ∷ pending_full state (n, Some bytes) ∷ []

-- of a put, before its page is looked at
abbrev pub refuses_put_early : Limits → State → ℕ → ℕ → List ℕ → Option Refusal
refuses_put_early limits state s n bytes = first_of (early_tests limits state s n bytes)

abbrev pub refuses_put : Limits → State → ℕ → ℕ → List ℕ → Option Refusal
refuses_put limits state s n bytes = first_of (early_tests limits state s n bytes ++ page_full state n bytes ∷ [])

abbrev pub refuses_del : Limits → State → ℕ → ℕ → Option Refusal
refuses_del limits state s n = first_of (bad_session limits s ∷ bad_name limits n ∷ not_open state s
    ∷ conflict (holder_for_write state s n) ∷ writes_full state s n ∷ pending_full state (n, None) ∷ [])

-- of a commit and of an abort
abbrev pub refuses_end : Limits → State → ℕ → Option Refusal
refuses_end limits state s = first_of (bad_session limits s ∷ not_open state s ∷ [])

-- of a commit of several sessions
abbrev pub refuses_batch : Limits → State → List ℕ → Option Refusal
refuses_batch limits state ss = first_of ((list_any (λ s. nat_le limits.sessions s) ss, BadSession)
    ∷ twice (least_twice limits ss) ∷ (list_any (λ s. not (is_open_session state s)) ss, NotOpen) ∷ [])

-- the least session that is open
abbrev pub least_open : Limits → State → Option ℕ
least_open limits state = find (is_open_session state) (range_with_len 0 limits.sessions)

-- of a clean close
abbrev pub refuses_close : Limits → State → Option Refusal
refuses_close limits state = first_of (sessions_open (least_open limits state) ∷ [])

abbrev pub refuses_list : Limits → ℕ → ℕ → Option Refusal
refuses_list limits a b = first_of ((nat_le limits.names a || nat_le limits.names b, BadName) ∷ [])

abbrev pub refuses_merge : Limits → ℕ → Option Refusal
refuses_merge limits u = first_of ((nat_le limits.units u, BadUnit) ∷ [])
