-- Room in a frame for all that may become values.
use Rattle.std.proofs.Common.{◌≡◌, ◌≢◌, ◌≤◌, ◌<◌, ◌+◌, ◌-◌, ◌==◌, max, ℕ, zero, suc, Bool, true, false, List, [], ◌∷◌, length, get_or, set, replicate, Option, Some, None, refl, sym, ◌∙◌, ap, subst, inl, inr, arith}
use Rattle.std.specs.Prelude.{if◌then◌else◌}
use Rattle.std.proofs.Math.Nat.{le-max_left, le-max_right, max-le}
use Rattle.std.proofs.lemmas.Bool.{cases_eq, eq-eqb, ne_eqb}
use Rattle.std.proofs.lemmas.List.{get_or-set_other}
use Rattle.ipl_base.specs.declared.limits.TheConstants.{PAGE_LEN, SLOTS, VERSION}
use Rattle.ipl_base.specs.Sizes.{size_in_page, size_of_values}
use Rattle.ipl_model.specs.Peaks.{fill_of}
use Rattle.ipl_model.proofs.RulePeakLemmas.{le_trans}
use Rattle.ipl_format.specs.Page.{Slots, IsPage, empty_page, value_in}
use Rattle.ipl_meaning.specs.Values.{Values}
use Rattle.ipl_meaning.proofs.SizeLemmas.{texts_have_sizes}
use Rattle.page_ops.specs.Pending.{Pending, Pendings, peak_of, fill_by, with_pending}
use Rattle.page_ops.specs.Frames.{FrameView, AreOfPending, IsFrame, HasNonePending, IsRoomy, empty_frame, values_in, pending_in, pending_of, pendings_of}
use Rattle.page_ops.proofs.SlotLemmas.{pending_slot, none_pending, none_tidy, none_in_all, changed_here, changed_others, own_changed, noted}
use Rattle.page_ops.proofs.FillLemmas.{fills_less, fills_same, room_in_fill, unpeaked_fill}

-- a slot that is set takes no more than its value
set_most : (xs : Slots) (i : ℕ) (v : Option (List ℕ))
    → size_in_page (get_or (set xs i v) i None) ≤ size_in_page v
set_most [] i v = omega arith
set_most (x ∷ xs) zero v = omega arith
set_most (x ∷ xs) (suc i) v = set_most xs i v

-- ---- frames

-- a frame of which nothing is pending
pub idle_roomy : (f : FrameView) → HasNonePending f → IsRoomy f
idle_roomy f idle is =
    let fits = is.fits in
    let less = unpeaked_fill (λ slot. peak_of (pending_in f slot)) (values_in f)
    (λ slot low. ap peak_of (idle slot low)) in
    omega (arith, fits, less, texts_have_sizes f.page is.slots)

-- of an empty frame nothing is
pub empty_idle : HasNonePending empty_frame
empty_idle slot low = none_in_all slot 64

-- an empty one
pub fresh : (page : Slots) (numbers : List (Option ℕ)) (values : Slots) → values ≡ empty_page
    → numbers ≡ replicate 64 None → IsFrame page numbers values
fresh page numbers values empty none = record {
  own = none_tidy numbers values empty none;
  room = idle_roomy (record { page = page; pending = pendings_of numbers values })
      (λ slot low. ap (λ (l : List (Option Pending)). get_or l slot None)
      (none_pending 64 numbers values none) ∙ none_in_all slot 64);
}

-- where no slot takes more, no page does
pub fills_by_less : (v w : Values) (few more : Pendings)
    → ((slot : ℕ) → slot < SLOTS → max (size_in_page (v slot)) (peak_of (few slot) - 1)
    ≤ max (size_in_page (w slot)) (peak_of (more slot) - 1))
    → fill_by v few ≤ fill_by w more
fills_by_less v w few more less =
    fills_less (λ k. peak_of (few k)) (λ k. peak_of (more k)) v w less

-- what a slot of a frame may come to take
both_same : {a b : Option (List ℕ)} {p q : Option Pending} → a ≡ b → p ≡ q
    → max (size_in_page a) (peak_of p - 1) ≤ max (size_in_page b) (peak_of q - 1)
both_same {a} {b} {p} {q} value change =
    let same : max (size_in_page a) (peak_of p - 1) ≡ max (size_in_page b) (peak_of q - 1) =
    ap (λ (o : Option (List ℕ)). max (size_in_page o) (peak_of p - 1)) value
    ∙ ap (λ (o : Option Pending). max (size_in_page b) (peak_of o - 1)) change in
    omega (arith, same)

-- the pending change of a slot takes what the value does that stands for it
module _ {numbers : List (Option ℕ)} {values : Slots} (own : AreOfPending numbers values) where
  pub peak_size : (k : ℕ) → peak_of (get_or (pendings_of numbers values) k None) - 1
      ≡ size_in_page (get_or values k None)
  peak_size k =
      ap (λ (p : Option Pending). peak_of p - 1) (pending_slot numbers values k)
      ∙ by_number (get_or numbers k None) refl
    where
      by_number : (n : Option ℕ) → get_or numbers k None ≡ n
          → peak_of (pending_of n (get_or values k None)) - 1 ≡ size_in_page (get_or values k None)
      by_number None is = sym (ap size_in_page (own.tidy k is))
      by_number (Some tid) is = omega arith

-- a slot of a frame loses its pending change
module _ (page : Slots) (numbers later : List (Option ℕ)) (values now : Slots) (slot : ℕ)
    (frame : IsFrame page numbers values) (low : slot < 64) (within : slot < length now)
    (numbers_are : later ≡ set numbers slot None) (values_are : now ≡ set values slot None) where
  abbrev was : Pendings
  was k = get_or (pendings_of numbers values) k None

  abbrev is : Pendings
  is k = get_or (pendings_of later now) k None

  inside : slot < length numbers
  inside = let own = frame.own in omega (arith, own.count, low)

  here : is slot ≡ None
  here = changed_here numbers later values now slot None None numbers_are values_are inside within

  others : (k : ℕ) → k ≢ slot → is k ≡ was k
  others = changed_others numbers later values now slot None None numbers_are values_are

  belong : AreOfPending later now
  belong = own_changed numbers later values now slot None None numbers_are values_are frame.own
      inside within (λ none. refl)

  -- it is dropped
  pub dropped_frame : IsFrame page later now
  dropped_frame = record {
    own = belong;
    room = λ known.
        let room = frame.room known in
        let less = fills_by_less (value_in page) (value_in page) is was
        (λ k few. elim (cases_eq k slot) [
          | inl same ↦ fewer k (ap is same ∙ here)
          | inr other ↦ both_same refl (others k other)
        ]) in
        omega (arith, room, less);
  }
    where
      fewer : (k : ℕ) → is k ≡ None → max (size_in_page (value_in page k)) (peak_of (is k) - 1)
          ≤ max (size_in_page (value_in page k)) (peak_of (was k) - 1)
      fewer k none =
          let gone : peak_of (is k) - 1 ≡ 0 = ap (λ (p : Option Pending). peak_of p - 1) none in
          max-le (le-max_left _ _) (omega (arith, gone))

-- the pending change of a slot becomes its value
module _ (page next : Slots) (numbers : List (Option ℕ)) (values : Slots) (slot : ℕ)
    (frame : IsFrame page numbers values)
    (next_is : next ≡ set page slot (get_or values slot None)) where
  abbrev before : Pendings
  before k = get_or (pendings_of numbers values) k None

  grown : (k : ℕ) → size_in_page (value_in next k)
      ≤ max (size_in_page (value_in page k)) (peak_of (before k) - 1)
  grown k = elim (cases_eq k slot) [
    | inl same ↦
        let at : size_in_page (value_in next k)
        ≡ size_in_page (get_or (set page slot (get_or values slot None)) slot None) =
        ap (λ (i : ℕ). size_in_page (value_in next i)) same
        ∙ ap (λ (p : Slots). size_in_page (value_in p slot)) next_is in
        let most = set_most page slot (get_or values slot None) in
        let peak : peak_of (before k) - 1 ≡ size_in_page (get_or values slot None) =
        peak_size frame.own k ∙ ap (λ (i : ℕ). size_in_page (get_or values i None)) same in
        le_trans (omega (arith, at, most, peak))
        (le-max_right (size_in_page (value_in page k)) (peak_of (before k) - 1))
    | inr other ↦
        let at : size_in_page (value_in next k) ≡ size_in_page (value_in page k) =
        ap (λ (p : Slots). size_in_page (value_in p k)) next_is
        ∙ ap size_in_page (get_or-set_other page slot k (get_or values slot None) None other) in
        le_trans (omega (arith, at))
        (le-max_left (size_in_page (value_in page k)) (peak_of (before k) - 1))
  ]

  -- the page has room for it
  pub room_to_apply : IsPage VERSION page → size_of_values (value_in next) ≤ PAGE_LEN
  room_to_apply known =
      let room = frame.room known in
      let less = room_in_fill (λ k. peak_of (before k)) (value_in next) (value_in page)
      (λ k few. grown k) in
      omega (arith, room, less)

  pub applied_frame : IsPage VERSION page → IsFrame next numbers values
  applied_frame known = record {
    own = frame.own;
    room = λ unused.
        let room = frame.room known in
        let less = fills_by_less (value_in next) (value_in page) before before
        (λ k few. max-le (grown k)
        (le-max_right (size_in_page (value_in page k)) (peak_of (before k) - 1))) in
        omega (arith, room, less);
  }

-- ---- a change is noted

-- what is added up is what the page may come to take
pub fill_told : (page : Slots) (numbers : List (Option ℕ)) (values : Slots)
    → AreOfPending numbers values → (f : FrameView)
    → ◌≡◌ {A = FrameView} (record { page = page; pending = pendings_of numbers values }) f
    → (slot size tid : ℕ) (change : Option (List ℕ)) → size ≡ size_in_page change
    → fill_of (value_in page)
    (λ k. 1 + (if k == slot then size else size_in_page (value_in values k)))
    ≡ fill_by (values_in f) (with_pending (pending_in f) slot (tid, change))
fill_told page numbers values own f view slot size tid change size_is =
    subst (λ (g : FrameView). fill_of (value_in page)
    (λ k. 1 + (if k == slot then size else size_in_page (value_in values k)))
    ≡ fill_by (values_in g) (with_pending (pending_in g) slot (tid, change))) view
    (fills_same (λ k. 1 + (if k == slot then size else size_in_page (value_in values k)))
    (λ k. peak_of (with_pending was slot (tid, change) k)) (value_in page) (value_in page)
    (λ k low. ap (λ (m : ℕ). max (size_in_page (value_in page k)) m) (by_test k (k == slot))))
  where
    was : Pendings
    was k = get_or (pendings_of numbers values) k None

    by_test : (k : ℕ) (b : Bool) → (1 + (if b then size else size_in_page (value_in values k))) - 1
        ≡ peak_of (if b then Some (tid, change) else was k) - 1
    by_test k true = omega (arith, size_is)
    by_test k false = let peak = peak_size own k in omega (arith, peak)

-- the values with the change have room in a page of their own
pub values_fit : (page values : Slots) (slot size : ℕ) (change : Option (List ℕ))
    → size ≡ size_in_page change
    → size_of_values (value_in (set values slot change))
    ≤ fill_of (value_in page)
    (λ k. 1 + (if k == slot then size else size_in_page (value_in values k)))
values_fit page values slot size change size_is =
    room_in_fill (λ k. 1 + (if k == slot then size else size_in_page (value_in values k)))
    (value_in (set values slot change)) (value_in page) (λ k few.
    le_trans (one k) (le-max_right (size_in_page (value_in page k))
    ((1 + (if k == slot then size else size_in_page (value_in values k))) - 1)))
  where
    one : (k : ℕ) → size_in_page (value_in (set values slot change) k)
        ≤ (1 + (if k == slot then size else size_in_page (value_in values k))) - 1
    one k = elim (cases_eq k slot) [
      | inl same ↦
          let most = set_most values slot change in
          let at : size_in_page (value_in (set values slot change) k)
          ≡ size_in_page (value_in (set values slot change) slot) =
          ap (λ (i : ℕ). size_in_page (value_in (set values slot change) i)) same in
          let taken : (if k == slot then size else size_in_page (value_in values k)) ≡ size =
          ap (λ (b : Bool). if b then size else size_in_page (value_in values k)) (eq-eqb k slot same) in
          omega (arith, most, at, taken, size_is)
      | inr other ↦
          let at : size_in_page (value_in (set values slot change) k) ≡ size_in_page (value_in values k) =
          ap size_in_page (get_or-set_other values slot k change None other) in
          let taken : (if k == slot then size else size_in_page (value_in values k))
          ≡ size_in_page (value_in values k) =
          ap (λ (b : Bool). if b then size else size_in_page (value_in values k)) (ne_eqb k slot other) in
          omega (arith, at, taken)
    ]

-- the frame with it
pub noted_frame : (page : Slots) (numbers later : List (Option ℕ)) (values now : Slots)
    (slot tid : ℕ) (change : Option (List ℕ)) → AreOfPending numbers values
    → slot < 64 → slot < length now
    → later ≡ set numbers slot (Some tid) → now ≡ set values slot change
    → fill_by (value_in page)
    (with_pending (λ k. get_or (pendings_of numbers values) k None) slot (tid, change)) ≤ PAGE_LEN
    → IsFrame page later now
noted_frame page numbers later values now slot tid change own low within numbers_are values_are room =
    record {
      own = own_changed numbers later values now slot (Some tid) change numbers_are values_are own
          inside within (λ none. absurd (cc none));
      room = λ known.
          let less = fills_by_less (value_in page) (value_in page)
          (λ k. get_or (pendings_of later now) k None)
          (with_pending (λ k. get_or (pendings_of numbers values) k None) slot (tid, change))
          (λ k few. both_same refl (noted numbers later values now slot tid change
          (λ i. get_or (pendings_of numbers values) i None) (λ i. refl) inside within numbers_are
          values_are k)) in
          omega (arith, less, room);
    }
  where
    inside : slot < length numbers
    inside = omega (arith, own.count, low)
