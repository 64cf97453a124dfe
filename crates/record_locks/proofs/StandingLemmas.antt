-- What the state that sessions stand for has of each session.
use Rattle.std.proofs.Common.{◌≡◌, ℕ, ◌==◌, Bool, true, false, not, ◌&&◌, ◌||◌, List, [], map, reverse, length, Option, Some, None, is_some, refl, ◌∙◌, ap}
use Rattle.std.specs.FinMap.{get}
use Rattle.std.specs.Option.{option_map_or}
use Rattle.std.specs.List.{list_any}
use Rattle.std.proofs.Math.ListN.{get_or-map}
use Rattle.std.proofs.lemmas.List.{length-reverse}
use Rattle.ipl_model.specs.State as rules
use Rattle.ipl_model.specs.Refusals as tests
use Rattle.record_locks.specs.Held.{Held, SessionSlots, held_at, written_of, shared_of, is_among}
use Rattle.record_locks.specs.Standing.{state_of, slot_of, session_of, write_of, keeps_from}
use Rattle.ipl_model.proofs.ListLemmas.{any_of_reversed}
use Rattle.record_locks.proofs.NameLemmas.{among_reversed}
use Rattle.ipl_model.proofs.RuleSlotLemmas.{opened_at}

pub session_at : (slots : SessionSlots) (s : ℕ) → get (state_of slots).sessions s ≡ slot_of (held_at slots s)
unfolding state_of
session_at slots s = opened_at (map slot_of slots) s ∙ get_or-map slot_of slots s None

pub open_at : (slots : SessionSlots) (s : ℕ) → rules.is_open_session (state_of slots) s ≡ is_some (held_at slots s)
open_at slots s = ap is_some (session_at slots s) ∙ by_slot (held_at slots s)
  where
    by_slot : (o : Option Held) → is_some (slot_of o) ≡ is_some o
    by_slot None = refl
    by_slot (Some h) = refl

pub writes_at : (slots : SessionSlots) (s : ℕ) → rules.writes_of (state_of slots) s ≡ map write_of (reverse (written_of slots s))
writes_at slots s = ap (λ (o : Option rules.Session). option_map_or (λ session. session.writes) o []) (session_at slots s) ∙ by_slot (held_at slots s)
  where
    by_slot : (o : Option Held) → option_map_or (λ session. session.writes) (slot_of o) [] ≡ map write_of (reverse (option_map_or (λ h. h.written) o []))
    by_slot None = refl
    by_slot (Some h) = refl

pub shares_at : (slots : SessionSlots) (s : ℕ) → rules.shared_of (state_of slots) s ≡ reverse (shared_of slots s)
shares_at slots s = ap (λ (o : Option rules.Session). option_map_or (λ session. session.shared) o []) (session_at slots s) ∙ by_slot (held_at slots s)
  where
    by_slot : (o : Option Held) → option_map_or (λ session. session.shared) (slot_of o) [] ≡ reverse (option_map_or (λ h. h.shared) o [])
    by_slot None = refl
    by_slot (Some h) = refl

pub new_write_at : (slots : SessionSlots) (s n : ℕ) → tests.is_new_write (state_of slots) s n ≡ not (is_among n (written_of slots s))
new_write_at slots s n = ap (λ (ws : List rules.Write). not (is_some (rules.last_write ws n))) (writes_at slots s) ∙ ap not (among_reversed (written_of slots s) n)

pub among_shares_at : (slots : SessionSlots) (s n : ℕ) → list_any (λ k. k == n) (rules.shared_of (state_of slots) s) ≡ is_among n (shared_of slots s)
among_shares_at slots s n = ap (list_any (λ k. k == n)) (shares_at slots s) ∙ any_of_reversed (λ k. k == n) (shared_of slots s)

pub new_share_at : (slots : SessionSlots) (s n : ℕ) → tests.is_new_share (state_of slots) s n ≡ (not (is_among n (written_of slots s)) && not (is_among n (shared_of slots s)))
new_share_at slots s n = λ i. new_write_at slots s n i && not (among_shares_at slots s n i)

pub shares_counted : (slots : SessionSlots) (s : ℕ) → length (rules.shared_of (state_of slots) s) ≡ length (shared_of slots s)
shares_counted slots s = ap length (shares_at slots s) ∙ length-reverse (shared_of slots s)

-- what a session keeps others from
pub keeps_is : (for_write : Bool) (n : ℕ) (h : Held) → keeps_from for_write n (session_of h) ≡ (is_among n h.written || (for_write && is_among n h.shared))
keeps_is true n h = λ i. among_reversed h.written n i || any_of_reversed (λ k. k == n) h.shared i
keeps_is false n h = among_reversed h.written n ∙ alone (is_among n h.written)
  where
    alone : (b : Bool) → b ≡ (b || false)
    alone true = refl
    alone false = refl
