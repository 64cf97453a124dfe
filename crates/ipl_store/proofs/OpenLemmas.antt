-- What is known of a session whose calls aren't refused.
use Rattle.std.proofs.Common.{◌≡◌, ℕ, Bool, true, false, not, Option, Some, None, Result, Ok, Err, OnOk, is_some, refl, sym, ◌∙◌, ap, if◌then◌else◌}
use Rattle.std.specs.Option.{option_map}
use Rattle.std.specs.Result.{result_err}
use Rattle.ipl_base.specs.declared.fault.Refusal.{Refusal}
use Rattle.ipl_base.specs.declared.fault.Refusal.TheVariants.{AlreadyOpen, NotOpen}
use Rattle.ipl_model.specs.State.{is_open_session}
use Rattle.record_locks.specs.Held.{Held, SessionSlots, held_at, number_of}
use Rattle.record_locks.specs.Standing.{state_of}
use Rattle.record_locks.specs.Locks.{refuses_begin, refuses_write, refuses_end}
use Rattle.record_locks.proofs.StandingLemmas.{open_at}

-- a session that has a number
abbrev pub HasNumber : SessionSlots → ℕ → Type 0
HasNumber slots s = (tid : ℕ) × (number_of slots s ≡ Some tid)

numbered : (o : Option Held) → is_some o ≡ true
    → (tid : ℕ) × (option_map (λ h. h.number) o ≡ Some tid)
numbered None is = absurd (cc is)
numbered (Some h) is = (h.number, refl)

open_numbered : (slots : SessionSlots) (s : ℕ) → is_open_session (state_of slots) s ≡ true → HasNumber slots s
open_numbered slots s is = numbered (held_at slots s) (sym (open_at slots s) ∙ is)

pub is_open_then : (b : Bool) (rest : Option Refusal)
    → (if not b then Some NotOpen else rest) ≡ None → b ≡ true
is_open_then true rest none = refl
is_open_then false rest none = absurd (cc none)

pub ends_numbered : (slots : SessionSlots) (s : ℕ) → refuses_end slots s ≡ None → HasNumber slots s
ends_numbered slots s none =
    open_numbered slots s (is_open_then (is_open_session (state_of slots) s) None none)

pub writes_numbered : (slots : SessionSlots) (s n size : ℕ) → refuses_write slots s n size ≡ None
    → HasNumber slots s
writes_numbered slots s n size none =
    open_numbered slots s (is_open_then (is_open_session (state_of slots) s) _ none)

-- one that may be opened has none
pub begins_unnumbered : (slots : SessionSlots) (s : ℕ) → refuses_begin slots s ≡ None
    → number_of slots s ≡ None
begins_unnumbered slots s none =
    by_slot (held_at slots s)
    (sym (ap (λ (b : Bool). if b then Some AlreadyOpen else None) (open_at slots s)) ∙ none)
  where
    by_slot : (o : Option Held) → (if is_some o then Some AlreadyOpen else None) ≡ None
        → option_map (λ h. h.number) o ≡ None
    by_slot None is = refl
    by_slot (Some h) is = absurd (cc is)

-- a call that isn't refused is done
pub unrefused_done : {P : Type 0} (result : Result (Unit {0}) Refusal) (refusal : Option Refusal)
    → result_err result ≡ refusal → refusal ≡ None → OnOk result P → P
unrefused_done (Ok v) refusal is none done = done
unrefused_done (Err e) refusal is none done = absurd (cc (is ∙ none))
