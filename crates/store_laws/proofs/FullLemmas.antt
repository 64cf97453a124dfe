-- Pages that are full: told by the values that a page shows and the sessions' peaks; and none is that they wrote.
use Rattle.std.proofs.Common.{◌≡◌, inl, inr, ℕ, ◌+◌, ◌-◌, ◌*◌, ◌/◌, ◌<◌, ◌≤◌, ◌==◌, max, false, List, [], ◌∷◌, Option, Some, None, refl, sym, ◌∙◌, ap, ap₂, subst, arith}
use Rattle.std.specs.Prelude.{nat_lt, IfSome}
use Rattle.std.specs.FinMap.{get}
use Rattle.std.proofs.lemmas.Bool.{cases_Bool, cases_lt}
use Rattle.std.proofs.lemmas.Bool.Decides.{nat_tests}
use Rattle.ipl_base.specs.Places.{home_of}
use Rattle.ipl_base.specs.Sizes.{size_in_page}
use Rattle.ipl_base.specs.declared.limits.TheConstants.{PAGE_LEN, PAGES, SLOTS, UNIT_NAMES}
use Rattle.ipl_model.specs.Peaks.{Peaks, with_peak, peaks_of, peaks, fill_of}
use Rattle.ipl_model.specs.State.{Session, State, Write, last_write}
use Rattle.ipl_model.proofs.RulePeakLemmas.{le_trans, by_number}
use Rattle.ipl_model.proofs.SumLemmas.{sums_same}
use Rattle.record_locks.specs.Held.{number_of}
use Rattle.record_locks.proofs.SameLemmas.{peaks_are}
use Rattle.ipl_meaning.specs.Layout.{Layout}
use Rattle.ipl_meaning.specs.Stands.{page_in}
use Rattle.ipl_meaning.specs.Values.{Values}
use Rattle.store_laws.specs.Pending.{Logs, SessionNumbers, name_at, HasPending}
use Rattle.store_laws.specs.Room.{fill_at, peaked_by}
use Rattle.store_laws.specs.Frames.{logs_of}
use Rattle.store_laws.specs.FittingLaws.{PeaksTellFullPages, PutsThatPassHaveRoom, SameValuesHaveRoom, WrittenPagesFit}
use Rattle.store_laws.proofs.RoomLemmas.{shown_fill}
use Rattle.store_laws.proofs.StateLemmas.{writes_in}

-- the same peaks over the same values take the same
fills_same : (a b : Peaks) (v w : Values) → ((slot : ℕ) → slot < SLOTS → v slot ≡ w slot)
    → ((slot : ℕ) → slot < SLOTS → a slot ≡ b slot) → fill_of v a ≡ fill_of w b
unfolding fill_of
fills_same a b v w values same =
    sums_same (λ slot. max (size_in_page (v slot)) (a slot - 1))
    (λ slot. max (size_in_page (w slot)) (b slot - 1)) 0 SLOTS (λ slot low.
    ap₂ (λ (o : Option (List ℕ)) (m : ℕ). max (size_in_page o) (m - 1)) (values slot (omega (arith, low)))
    (same slot (omega (arith, low))))

-- a slot of the page of a name has one name
one_name : (n slot : ℕ) → slot < SLOTS → SLOTS * (n / SLOTS) + slot ≡ name_at (home_of n).unit (home_of n).page slot
one_name n slot low = omega (arith, low)

pub peaks_tell_full_pages : PeaksTellFullPages
peaks_tell_full_pages slots state n bytes values are is =
    ap (nat_lt PAGE_LEN) (fills_same _ _ _ values (λ slot low.
    ap (get state.map) (one_name n slot low) ∙ sym (is slot low)) (λ slot low.
    ap with_it (one_name n slot low)
    ∙ ap (λ (ms : Peaks). with_peak ms n (1 + size_in_page (Some bytes))
    (name_at (home_of n).unit (home_of n).page slot))
    (λ i k. sym (peaks_are slots state are.peaks k) i)))
  where
    with_it : Peaks
    with_it = with_peak (peaks state) n (1 + size_in_page (Some bytes))

-- a name is that of its home
at_home : (n : ℕ) → name_at (home_of n).unit (home_of n).page (home_of n).slot ≡ n
at_home n = omega arith

not_above : (size : ℕ) → nat_lt PAGE_LEN size ≡ false → size ≤ PAGE_LEN
not_above size room = grind (arith, nat_tests)

-- what is asked of a record of this slot and change
abbrev RoomAt : Peaks → ℕ → Values → ℕ → ℕ → Option (List ℕ) → Type 0
RoomAt ms u values page slot change = IfSome change
    (λ b. fill_at (with_peak ms (name_at u page slot) (1 + size_in_page change)) u page values ≤ PAGE_LEN)

pub puts_that_pass_have_room : PutsThatPassHaveRoom
puts_that_pass_have_room ms n bytes values r page_is slot_is change_is passes =
    let home = home_of n in
    subst (λ (change : Option (List ℕ)). RoomAt ms home.unit values r.page r.slot change) (sym change_is)
    (subst (λ (page : ℕ). RoomAt ms home.unit values page r.slot (Some bytes)) (sym page_is)
    (subst (λ (slot : ℕ). RoomAt ms home.unit values home.page slot (Some bytes)) (sym slot_is)
    (subst (λ (k : ℕ). fill_at (with_peak ms k (1 + size_in_page (Some bytes))) home.unit home.page values ≤ PAGE_LEN)
    (sym (at_home n)) (not_above _ passes))))

pub same_values_have_room : SameValuesHaveRoom
same_values_have_room ms u r values now same room = by_change r.change room
  where
    fill_same : fill_at (peaked_by ms u r) u r.page now ≡ fill_at (peaked_by ms u r) u r.page values
    fill_same = fills_same _ _ now values same (λ slot low. refl)

    by_change : (change : Option (List ℕ))
        → IfSome change (λ bytes. fill_at (peaked_by ms u r) u r.page values ≤ PAGE_LEN)
        → IfSome change (λ bytes. fill_at (peaked_by ms u r) u r.page now ≤ PAGE_LEN)
    by_change None is = tt
    by_change (Some bytes) is = omega (arith, is, fill_same)

-- ---- pages of names that open sessions wrote

-- a name that no write is on has no peak
no_peak : (ws : List Write) (n : ℕ) → last_write ws n ≡ None → peaks_of ws n ≤ 0
no_peak [] n none = omega arith
no_peak (w ∷ older) n none = elim (cases_Bool (w.0 == n)) [
  | inl here ↦ absurd (let clash = rw here at none in cc clash)
  | inr other ↦ rw other (no_peak older n (rw other at none))
]

-- only names of the chip's units have a peak
low_peaked : (units : ℕ) (it : Layout) (logs : Logs) (numbers : SessionNumbers) (state : State) (n : ℕ)
    → HasPending units it logs numbers state → 0 < peaks state n → n < UNIT_NAMES * units
low_peaked units it logs numbers state n has peaked = elim (cases_lt n (UNIT_NAMES * units)) [
  | inl low ↦ low
  | inr high ↦ absurd (clash (by_number state.sessions n 0 (λ q session is. no_peak session.writes n
      (ap (λ (o : Option Session). last_write (writes_in o) n) (sym is) ∙ has.nowhere_else q n high))) peaked)
]
  where
    clash : {k : ℕ} → k ≤ 0 → 0 < k → ⊥
    clash none some = omega (arith, none, some)

pub written_pages_fit : WrittenPagesFit
written_pages_fit places c it t frames slots state n fits says peaked =
    let home = home_of n in
    let within = low_peaked it.count it (logs_of frames) (number_of slots) state n fits.pending peaked in
    let low : home.unit < it.count = omega (arith, within) in
    let few : home.page < PAGES = omega arith in
    let values = page_in state.map home.unit home.page in
    let shown = shown_fill it.count c it state home.unit home.page values fits.filled low few
    (says.pages home.unit home.page low few refl) in
    le_trans (fewer (fills_same _ _ _ values (λ slot less. ap (get state.map) (one_name n slot less))
    (λ slot less. ap (peaks state) (one_name n slot less)))) shown
  where
    fewer : {a b : ℕ} → a ≡ b → a ≤ b
    fewer same = omega (arith, same)
