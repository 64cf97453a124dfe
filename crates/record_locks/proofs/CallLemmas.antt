-- What a call that is not refused may do, and that it keeps all sound.
use Rattle.std.proofs.Common.{◌≡◌, ◌<◌, ◌≤◌, ◌+◌, ℕ, ◌==◌, nat_le, Bool, true, false, not, ◌&&◌, cond, List, [], ◌∷◌, ◌++◌, map, length, set, get_or, Option, Some, None, is_some, refl, sym, ◌∙◌, ap, subst, arith}
use Rattle.std.specs.Prelude.{find, IfSome}
use Rattle.std.specs.List.{count_by}
use Rattle.std.specs.Option.{option_map, option_map_or}
use Rattle.std.proofs.lemmas.Bool.Decides.{nat_tests}
use Rattle.ipl_model.specs.State as rules
use Rattle.ipl_model.specs.Refusals as tests
use Rattle.bounded_vec.proofs.WriteLemmas.{item_read}
use Rattle.record_locks.specs.Held.{Held, SessionSlots, held_at, written_of, is_among, raised, slot_peaks, peaks_in, with_written, with_shared}
use Rattle.ipl_model.specs.Slots.{open_from}
use Rattle.record_locks.specs.Standing.{state_of, slot_of, keeps_from}
use Rattle.record_locks.specs.Locks.{AreSoundSlots, IsSized, total, written_in, pending_full, refuses_share, refuses_write, holder_of}
use Rattle.ipl_model.proofs.RuleSlotLemmas.{entries-opened}
use Rattle.record_locks.proofs.StandingLemmas.{new_write_at, new_share_at, shares_counted}
use Rattle.record_locks.proofs.TotalLemmas.{names_counted, nobody_wrote, total_set}
use Rattle.record_locks.proofs.PeakLemmas.{written_peaks, written_sized, sized_at}
use Rattle.record_locks.proofs.SoundLemmas.{sound_less, sound_more, once_more}
use Rattle.ipl_model.specs.Peaks.{with_peak, overloads}

pub holder_at : (slots : SessionSlots) (s n : ℕ) (for_write : Bool)
    → option_map (λ e. e.0) (find (λ e. not (e.0 == s) && keeps_from for_write n e.1) (open_from 0 (map slot_of slots))) ≡ holder_of slots s n for_write
unfolding state_of
holder_at slots s n true = ap (λ (es : List (ℕ × rules.Session)). option_map (λ e. e.0) (find (λ e. not (e.0 == s) && keeps_from true n e.1) es)) (sym (entries-opened (map slot_of slots)))
holder_at slots s n false = ap (λ (es : List (ℕ × rules.Session)). option_map (λ e. e.0) (find (λ e. not (e.0 == s) && keeps_from false n e.1) es)) (sym (entries-opened (map slot_of slots)))

-- where no test of a list holds, the first doesn't, and none of the others does
pub passed : (t : tests.Test) (rest : List tests.Test) → tests.first_of (t ∷ rest) ≡ None → (t.0 ≡ false) × (tests.first_of rest ≡ None)
passed t rest none = by_test t.0 none
  where
    by_test : (b : Bool) → cond b (Some t.1) (tests.first_of rest) ≡ None → (b ≡ false) × (tests.first_of rest ≡ None)
    by_test true is = absurd (cc is)
    by_test false is = (refl, is)

no_holder : (o : Option ℕ) → is_some o ≡ false → o ≡ None
no_holder None is = refl
no_holder (Some k) is = absurd (cc is)

-- a new name, and a test of room that failed
has_room : (new full : Bool) → (new && full) ≡ false → new ≡ true → full ≡ false
has_room true full is new_is = is
has_room false full is new_is = absurd (cc new_is)

pub share_room : (slots : SessionSlots) (s n : ℕ) (h : Held) → refuses_share slots s n ≡ None → held_at slots s ≡ Some h
    → is_among n h.written ≡ false → is_among n h.shared ≡ false → length h.shared < 256
share_room slots s n h none is new_write new_share =
    let state = state_of slots in
    let conflict = tests.conflict (rules.holder_for_share state s n) in
    let full = tests.shares_full state s n in
    let open_is = passed (tests.not_open state s) (conflict ∷ full ∷ []) none in
    let held_is = passed conflict (full ∷ []) open_is.1 in
    let full_is = passed full [] held_is.1 in
    let new : tests.is_new_share (state_of slots) s n ≡ true =
    new_share_at slots s n ∙ ap (λ (o : Option Held). not (is_among n (option_map_or (λ x. x.written) o [])) && not (is_among n (option_map_or (λ x. x.shared) o []))) is
    ∙ (λ i. not (new_write i) && not (new_share i)) in
    let room : nat_le 256 (length (rules.shared_of (state_of slots) s)) ≡ false = has_room (tests.is_new_share state s n) (nat_le 256 (length (rules.shared_of state s))) full_is.0 new in
    let counted : length (rules.shared_of (state_of slots) s) ≡ length h.shared = shares_counted slots s ∙ ap (λ (o : Option Held). length (option_map_or (λ x. x.shared) o [])) is in
    grind (arith, nat_tests)

-- what a share needs of the slot
pub share_may : (slots : SessionSlots) (s n : ℕ) (o : Option Held) → refuses_share slots s n ≡ None → held_at slots s ≡ o
    → IfSome o (λ h. is_among n h.written ≡ false → is_among n h.shared ≡ false → length h.shared < 256)
share_may slots s n None none is = tt
share_may slots s n (Some h) none is = share_room slots s n h none is

-- a new name is nobody's, and there is room for it
pub record MayWrite (slots : SessionSlots) (s n : ℕ) (h : Held) : Type 0 where
  pub few : length h.written < 256
  pub new : total (λ k. k == n) slots ≡ 0

-- what a write that isn't refused has passed
record Passed (slots : SessionSlots) (s n size : ℕ) : Type 0 where
  nobody : rules.holder_for_write (state_of slots) s n ≡ None
  not_full : (tests.writes_full (state_of slots) s n).0 ≡ false
  light : overloads (peaks_in slots) n (1 + size) ≡ false

write_passes : (slots : SessionSlots) (s n size : ℕ) → refuses_write slots s n size ≡ None → Passed slots s n size
write_passes slots s n size none =
    let state = state_of slots in
    let conflict = tests.conflict (rules.holder_for_write state s n) in
    let writes_full = tests.writes_full state s n in
    let full = pending_full slots n size in
    let open_is = passed (tests.not_open state s) (conflict ∷ writes_full ∷ full ∷ []) none in
    let held_is = passed conflict (writes_full ∷ full ∷ []) open_is.1 in
    let full_is = passed writes_full (full ∷ []) held_is.1 in
    let unit_is = passed full [] full_is.1 in
    record { nobody = no_holder (rules.holder_for_write state s n) held_is.0; not_full = full_is.0; light = unit_is.0 }

pub write_room : (slots : SessionSlots) (s n size : ℕ) (h : Held) → AreSoundSlots slots → refuses_write slots s n size ≡ None → held_at slots s ≡ Some h → is_among n h.written ≡ false → MayWrite slots s n h
write_room slots s n size h sound none is new_write =
    let state = state_of slots in
    let went = write_passes slots s n size none in
    let not_written : is_among n (written_of slots s) ≡ false = ap (λ (o : Option Held). is_among n (option_map_or (λ x. x.written) o [])) is ∙ new_write in
    let new : tests.is_new_write (state_of slots) s n ≡ true = new_write_at slots s n ∙ ap not not_written in
    let writes : nat_le 256 (length (rules.written_names (rules.writes_of (state_of slots) s))) ≡ false = has_room (tests.is_new_write state s n) (nat_le 256 (length (rules.written_names (rules.writes_of state s)))) went.not_full new in
    let counted : length (rules.written_names (rules.writes_of (state_of slots) s)) ≡ length h.written =
    names_counted slots s sound ∙ ap (λ (o : Option Held). length (option_map_or (λ x. x.written) o [])) is in
    record {
      few = grind (arith, nat_tests);
      new = nobody_wrote slots s n went.nobody not_written;
    }

-- what a write needs of the slot
pub write_may : (slots : SessionSlots) (s n size : ℕ) (o : Option Held) → AreSoundSlots slots → refuses_write slots s n size ≡ None → held_at slots s ≡ o
    → IfSome o (λ h. is_among n h.written ≡ false → length h.written < 256)
write_may slots s n size None sound none is = tt
write_may slots s n size (Some h) sound none is = λ new. (write_room slots s n size h sound none is new).few

pub slot_sized : (slots : SessionSlots) (s : ℕ) (o : Option Held) → AreSoundSlots slots → held_at slots s ≡ o → IfSome o (λ h. length h.sizes ≡ length h.written)
slot_sized slots s None sound is = tt
slot_sized slots s (Some h) sound is = subst IsSized is (sized_at slots s sound.sized)

pub sound_written : (slots : SessionSlots) (s n size : ℕ) (o : Option Held) → AreSoundSlots slots → s < length slots → refuses_write slots s n size ≡ None → get_or slots s None ≡ o → AreSoundSlots (set slots s (option_map (with_written n size) o))
sound_written slots s n size None sound within none is = sound_less slots s None sound within (λ p. omega arith) refl (λ q. omega arith)
sound_written slots s n size (Some h) sound within none is =
    sound_more slots s n (1 + size) (Some (with_written n size h)) sound within (once (is_among n h.written) refl) (written_sized n size h sized)
    (λ q. written_peaks n size h q sized ∙ ap (λ (o : Option Held). with_peak (slot_peaks o) n (1 + size) q) (sym is)) (write_passes slots s n size none).light
  where
    sized : IsSized (Some h)
    sized = subst IsSized is (sized_at slots s sound.sized)

    once : (b : Bool) → is_among n h.written ≡ b → (k : ℕ) → total (λ j. j == k) (set slots s (Some (with_written n size h))) ≤ 1
    once true there k =
        let same : written_in (λ j. j == k) (Some (with_written n size h)) ≡ written_in (λ j. j == k) (get_or slots s None) =
        ap (λ (t : Bool). written_in (λ j. j == k) (Some (cond t (record h { sizes = raised h.written h.sizes n size }) (record h { written = h.written ++ n ∷ []; sizes = h.sizes ++ size ∷ [] })))) there
        ∙ sym (ap (written_in (λ j. j == k)) is) in
        omega (arith, total_set (λ j. j == k) slots s (Some (with_written n size h)) within, same, sound.once k)
    once false new k =
        let names : (with_written n size h).written ≡ h.written ++ n ∷ [] =
        ap (λ (t : Bool). (cond t (record h { sizes = raised h.written h.sizes n size }) (record h { written = h.written ++ n ∷ []; sizes = h.sizes ++ size ∷ [] })).written) new in
        once_more slots s n h (with_written n size h) sound within is (write_room slots s n size h sound none is new).new names k

pub sound_shared : (slots : SessionSlots) (s n : ℕ) (o : Option Held) → AreSoundSlots slots → s < length slots → get_or slots s None ≡ o → AreSoundSlots (set slots s (option_map (with_shared n) o))
sound_shared slots s n None sound within is = sound_less slots s None sound within (λ p. omega arith) refl (λ q. omega arith)
sound_shared slots s n (Some h) sound within is =
    sound_less slots s (Some (with_shared n h)) sound within (λ p. omega (arith, ap (written_in p) is, same p (is_among n h.written) (is_among n h.shared)))
    (sized_still (is_among n h.written) (is_among n h.shared) (subst IsSized is (sized_at slots s sound.sized)))
    (λ q. omega (arith, ap (λ (o : Option Held). slot_peaks o q) is, peaks_same q (is_among n h.written) (is_among n h.shared)))
  where
    same : (p : ℕ → Bool) (a b : Bool) → written_in p (Some (cond a h (cond b h (record h { shared = h.shared ++ n ∷ [] })))) ≡ count_by p h.written
    same p true b = refl
    same p false true = refl
    same p false false = refl

    sized_still : (a b : Bool) → IsSized (Some h) → IsSized (Some (cond a h (cond b h (record h { shared = h.shared ++ n ∷ [] }))))
    sized_still true b is = is
    sized_still false true is = is
    sized_still false false is = is

    peaks_same : (q : ℕ) (a b : Bool) → slot_peaks (Some (cond a h (cond b h (record h { shared = h.shared ++ n ∷ [] })))) q ≡ slot_peaks (Some h) q
    peaks_same q true b = refl
    peaks_same q false true = refl
    peaks_same q false false = refl

-- the slots were lent: what is read of one there
pub lent_held : (slots lent : SessionSlots) (s : ℕ) (o : Option Held) → s < length slots → lent ≡ slots
    → held_at slots s ≡ get_or lent s o
lent_held slots lent s o within is = sym (item_read slots lent s o None is within)
