-- Room in pages for all that open sessions wrote there, while pages are kept, and after a write.
use Rattle.std.proofs.Common.{◌≡◌, ◌≢◌, ◌⊎◌, ◌∙◌, inl, inr, ℕ, zero, suc, ◌+◌, ◌-◌, ◌<◌, ◌≤◌, ◌==◌, max, Bool, true, false, cond, List, Option, Some, None, refl, sym, ap, subst, arith}
use Rattle.std.specs.Prelude.{IfSome}
use Rattle.std.proofs.Math.Nat.{le-max_left, le-max_right, max-le}
use Rattle.std.proofs.lemmas.Bool.{cases_eq, cond-false, ne_eqb}
use Rattle.ipl_base.specs.declared.limits.TheConstants.{PAGE_LEN, PAGES, SLOTS}
use Rattle.ipl_base.specs.Sizes.{size_in_page}
use Rattle.ipl_model.specs.Peaks.{Peaks, peaks, fill_of}
use Rattle.ipl_model.specs.Operations.{after_write}
use Rattle.ipl_model.specs.State.{State}
use Rattle.ipl_model.proofs.FillLemmas.{max_one}
use Rattle.ipl_model.proofs.RulePeakLemmas.{le_trans, with_write}
use Rattle.ipl_format.specs.Record.{Record}
use Rattle.ipl_meaning.specs.Chart.{Chart}
use Rattle.ipl_meaning.specs.Layout.{Layout}
use Rattle.ipl_meaning.specs.Stands.{Shows}
use Rattle.ipl_meaning.specs.Values.{Values}
use Rattle.ipl_meaning.proofs.OnceLemmas.{shows_once}
use Rattle.page_ops.proofs.FillLemmas.{fills_less, unpeaked_fill}
use Rattle.store_laws.specs.Pending.{name_at}
use Rattle.store_laws.specs.Room.{fill_at, peaked_by, PageHasRoomFor, PageHasRoom, PagesHaveRoom}
use Rattle.store_laws.proofs.MemoryLemmas.{cases_page, names_once}

-- ---- what a page may come to take

-- the same values with smaller peaks
pub fewer_peaks : (few more : Peaks) (v : Values) → ((slot : ℕ) → slot < SLOTS → few slot - 1 ≤ more slot - 1)
    → fill_of v few ≤ fill_of v more
fewer_peaks few more v less = fills_less few more v v (λ slot low.
    max-le (le-max_left (size_in_page (v slot)) (more slot - 1))
    (le_trans (less slot low) (le-max_right (size_in_page (v slot)) (more slot - 1))))

-- one of the first k has a peak, or none has
peaked_or_not : (ms : Peaks) (k : ℕ)
    → ((slot : ℕ) × (slot < k) × (0 < ms slot)) ⊎ ((slot : ℕ) → slot < k → ms slot ≡ 0)
peaked_or_not ms zero = inr (λ slot low. absurd (omega (arith, low)))
peaked_or_not ms (suc k) = elim (cases_eq (ms k) 0) [
  | inr some ↦ inl (k, omega arith, omega (arith, some))
  | inl none ↦ elim (peaked_or_not ms k) [
    | inl found ↦ let (slot, low, is) = found in inl (slot, omega (arith, low), is)
    | inr others ↦ inr (λ slot low. elim (cases_eq slot k) [
      | inl same ↦ ap ms same ∙ none
      | inr other ↦ others slot (omega (arith, low, other))
    ])
  ]
]

-- whatever values a page shows have room with all that was written there
pub shown_fill : (units : ℕ) (c : Chart) (it : Layout) (state : State) (u page : ℕ) (values : Values)
    → PagesHaveRoom units c it state → u < units → page < PAGES
    → Shows c it.committed u (it.units u) page values → fill_at (peaks state) u page values ≤ PAGE_LEN
shown_fill units c it state u page values filled low few shows = elim (peaked_or_not here SLOTS) [
  | inr none ↦ le_trans (unpeaked_fill here values none) shows.room
  | inl found ↦
      let (slot, less, peaked) = found in
      let is = filled u page slot low few less peaked in
      le_trans (fills_less here here values is.values (λ k within. same_most k (shows_once c it.committed it.committed u
      (it.units u) page values is.values (λ tid. refl) shows is.shows k within))) is.room
]
  where
    here : Peaks
    here slot = peaks state (name_at u page slot)

    same_most : {a b : Option (List ℕ)} (k : ℕ) → a ≡ b
        → max (size_in_page a) (here k - 1) ≤ max (size_in_page b) (here k - 1)
    same_most {a = a} k same =
        subst (λ (o : Option (List ℕ)). max (size_in_page a) (here k - 1) ≤ max (size_in_page o) (here k - 1)) same
        (omega arith)

-- ---- steps that keep each page

pub one_less : {a b : ℕ} → a ≤ b → a - 1 ≤ b - 1
one_less low = omega (arith, low)

pub room_kept : (units : ℕ) (c y : Chart) (it new : Layout) (state later : State)
    → ((u page : ℕ) (now : Values) → u < units → page < PAGES
    → Shows c it.committed u (it.units u) page now → Shows y new.committed u (new.units u) page now)
    → ((n : ℕ) → peaks later n ≤ peaks state n) → PagesHaveRoom units c it state → PagesHaveRoom units y new later
room_kept units c y it new state later keeps less filled u page slot low few within peaked =
    let is = filled u page slot low few within (le_trans peaked (less (name_at u page slot))) in record {
      values = is.values;
      shows = keeps u page is.values low few is.shows;
      room = le_trans (fewer_peaks _ _ is.values (λ k in_page. one_less (less (name_at u page k)))) is.room;
    }

-- ---- a write

module _ (units : ℕ) (c : Chart) (it : Layout) (state : State) (s u : ℕ) (r : Record) (values : Values)
    (filled : PagesHaveRoom units c it state) (low : u < units) (few : r.page < PAGES) (less : r.slot < SLOTS)
    (shows : Shows c it.committed u (it.units u) r.page values) where
  abbrev n : ℕ
  n = name_at u r.page r.slot

  abbrev later : State
  later = after_write state s (n, r.change)

  -- no name has a higher peak than by the write
  most : (k : ℕ) → peaks later k ≤ peaked_by (peaks state) u r k
  most k = with_write state s (n, r.change) k

  -- a peak of another name stays
  same_peak : (k : ℕ) → n ≢ k → peaked_by (peaks state) u r k ≡ peaks state k
  same_peak k other = cond-false (n == k) _ (peaks state k) (ne_eqb n k other)

  elsewhere : (v q : ℕ) → (v ≡ u → q ≡ r.page → ⊥) → q < PAGES → (slot : ℕ) → slot < SLOTS
      → peaks later (name_at v q slot) ≤ peaks state (name_at v q slot)
  elsewhere v q apart in_unit slot within =
      subst (λ (m : ℕ). peaks later (name_at v q slot) ≤ m) (same_peak (name_at v q slot) (λ same.
      let one = names_once u r.page r.slot v q slot few in_unit less within same in apart one.0 one.1))
      (most (name_at v q slot))

  -- a delete takes no room
  del_less : r.change ≡ None → (k : ℕ) → peaks later k - 1 ≤ peaks state k - 1
  del_less is k = le_trans (one_less (most k)) (by_test (n == k))
    where
      by_test : (b : Bool) → cond b (max (1 + size_in_page r.change) (peaks state k)) (peaks state k) - 1
          ≤ peaks state k - 1
      by_test true =
          subst (λ (o : Option (List ℕ)). max (1 + size_in_page o) (peaks state k) - 1 ≤ peaks state k - 1) (sym is)
          (max_one (peaks state k))
      by_test false = omega arith

  written_fill : PageHasRoomFor (peaks state) u r values → fill_at (peaks later) u r.page values ≤ PAGE_LEN
  written_fill room = by_change r.change refl room
    where
      by_change : (o : Option (List ℕ)) → r.change ≡ o
          → IfSome o (λ bytes. fill_at (peaked_by (peaks state) u r) u r.page values ≤ PAGE_LEN)
          → fill_at (peaks later) u r.page values ≤ PAGE_LEN
      by_change (Some bytes) is put =
          le_trans (fewer_peaks _ _ values (λ slot within. one_less (most (name_at u r.page slot)))) put
      by_change None is del =
          le_trans (fewer_peaks _ _ values (λ slot within. del_less is (name_at u r.page slot)))
          (shown_fill units c it state u r.page values filled low few shows)

  pub room_written : PageHasRoomFor (peaks state) u r values → PagesHaveRoom units c it later
  room_written room v q slot low_v in_unit within peaked = elim (cases_page u r.page v q) [
    | inl (same, also) ↦
        subst (λ (a : ℕ). PageHasRoom c it later a q) (sym same)
        (subst (λ (b : ℕ). PageHasRoom c it later u b) (sym also)
        (record { values = values; shows = shows; room = written_fill room }))
    | inr apart ↦
        let fewer = elsewhere v q apart in_unit in
        let is = filled v q slot low_v in_unit within (le_trans peaked (fewer slot within)) in record {
          values = is.values;
          shows = is.shows;
          room = le_trans (fewer_peaks _ _ is.values (λ k in_page. one_less (fewer k in_page))) is.room;
        }
  ]
