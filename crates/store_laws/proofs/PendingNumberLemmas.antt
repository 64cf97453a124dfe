-- The sessions' numbers, after a change of one.
use Rattle.std.proofs.Common.{None, Option, Some, ap, get_or-set_other, get_or-set_same, inl, inr, length, refl, set, sym, ℕ, ◌<◌, ◌∙◌, ◌≡◌, ◌≢◌, ◌⊎◌}
use Rattle.std.specs.Option.{option_map}
use Rattle.std.proofs.lemmas.Bool.{cases_Bool, cases_eq, cond-false, cond-true, eq-eqb, ne_eqb}
use Rattle.std.proofs.lemmas.Option.{none-some}
use Rattle.record_locks.specs.Held.{Held, SessionSlots, after_begin, after_end, after_share, after_write, held_at, is_among, new_held, number_of, with_shared, with_written}
use Rattle.store_laws.specs.Pending.{SessionNumbers, with_number}

-- ---- as a function

pub number_here : (numbers : SessionNumbers) (s : ℕ) (o : Option ℕ) (t : ℕ) → t ≡ s → with_number numbers s o t ≡ o
number_here numbers s o t same = cond-true _ o (numbers t) (eq-eqb t s same)

pub number_other : (numbers : SessionNumbers) (s : ℕ) (o : Option ℕ) (t : ℕ) → t ≢ s
    → with_number numbers s o t ≡ numbers t
number_other numbers s o t other = cond-false _ o (numbers t) (ne_eqb t s other)

pub number_cases : (numbers : SessionNumbers) (s : ℕ) (o : Option ℕ) (t tid : ℕ) → with_number numbers s o t ≡ Some tid
    → ((t ≡ s) × (o ≡ Some tid)) ⊎ ((t ≢ s) × (numbers t ≡ Some tid))
number_cases numbers s o t tid is = elim (cases_eq t s) [
  | inl same ↦ inl (same, sym (number_here numbers s o t same) ∙ is)
  | inr other ↦ inr (other, sym (number_other numbers s o t other) ∙ is)
]

-- with one session closed, the others
pub still_open : (numbers : SessionNumbers) (s t tid : ℕ) → with_number numbers s None t ≡ Some tid
    → (t ≢ s) × (numbers t ≡ Some tid)
still_open numbers s t tid is = elim (number_cases numbers s None t tid is) [
  | inl here ↦ absurd (none-some tid here.1)
  | inr other ↦ other
]

-- ---- in the slots

number_set : (slots : SessionSlots) (s : ℕ) (o : Option Held) (t : ℕ) → s < length slots
    → number_of (set slots s o) t ≡ with_number (number_of slots) s (option_map (λ h. h.number) o) t
number_set slots s o t within = elim (cases_eq t s) [
  | inl same ↦
      ap (λ (k : ℕ). number_of (set slots s o) k) same
      ∙ ap (option_map (λ (h : Held). h.number)) (get_or-set_same slots s o None within)
      ∙ sym (number_here (number_of slots) s (option_map (λ h. h.number) o) t same)
  | inr other ↦
      ap (option_map (λ (h : Held). h.number)) (get_or-set_other slots s t o None other)
      ∙ sym (number_other (number_of slots) s (option_map (λ h. h.number) o) t other)
]

pub number_begun : (slots : SessionSlots) (s tid : ℕ) → s < length slots
    → number_of (after_begin slots s tid) ≡ with_number (number_of slots) s (Some tid)
number_begun slots s tid within =
    λ i t. number_set slots s (Some (new_held tid)) t within i

pub number_ended : (slots : SessionSlots) (s : ℕ) → s < length slots
    → number_of (after_end slots s) ≡ with_number (number_of slots) s None
number_ended slots s within = λ i t. number_set slots s None t within i

-- ---- where a session's names change

-- its number stays
number_kept : (slots : SessionSlots) (s : ℕ) (f : Held → Held) → ((h : Held) → (f h).number ≡ h.number) → s < length slots
    → number_of (set slots s (option_map f (held_at slots s))) ≡ number_of slots
number_kept slots s f same within =
    λ i t. (number_set slots s (option_map f (held_at slots s)) t within ∙ at_session t) i
  where
    mapped : (o : Option Held) → option_map (λ h. h.number) (option_map f o) ≡ option_map (λ h. h.number) o
    mapped None = refl
    mapped (Some h) = ap (λ (n : ℕ). Some n) (same h)

    at_session : (t : ℕ) → with_number (number_of slots) s
        (option_map (λ h. h.number) (option_map f (held_at slots s))) t ≡ number_of slots t
    at_session t = elim (cases_eq t s) [
      | inl here ↦
          number_here (number_of slots) s (option_map (λ h. h.number) (option_map f (held_at slots s))) t here
          ∙ mapped (held_at slots s) ∙ sym (ap (number_of slots) here)
      | inr other ↦
          number_other (number_of slots) s (option_map (λ h. h.number) (option_map f (held_at slots s))) t other
    ]

written_number : (n size : ℕ) (h : Held) → (with_written n size h).number ≡ h.number
written_number n size h = elim (cases_Bool (is_among n h.written)) [
  | inl there ↦ rw there refl
  | inr new ↦ rw new refl
]

shared_number : (n : ℕ) (h : Held) → (with_shared n h).number ≡ h.number
shared_number n h = elim (cases_Bool (is_among n h.written)) [
  | inl there ↦ rw there refl
  | inr new ↦ elim (cases_Bool (is_among n h.shared)) [
    | inl also ↦ rw (new, also) refl
    | inr fresh ↦ rw (new, fresh) refl
  ]
]

pub number_written : (slots : SessionSlots) (s n size : ℕ) → s < length slots
    → number_of (after_write slots s n size) ≡ number_of slots
number_written slots s n size within = number_kept slots s (with_written n size) (written_number n size) within

pub number_shared : (slots : SessionSlots) (s n : ℕ) → s < length slots
    → number_of (after_share slots s n) ≡ number_of slots
number_shared slots s n within = number_kept slots s (with_shared n) (shared_number n) within
