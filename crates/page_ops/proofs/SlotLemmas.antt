-- Slot by slot over a frame.
use Rattle.std.proofs.Common.{◌≡◌, ◌≢◌, ℕ, zero, suc, ◌<◌, ◌≤◌, ◌+◌, Bool, true, false, List, [], ◌∷◌, length, get_or, set, replicate, Option, Some, None, refl, sym, ◌∙◌, ap, ap₂, inl, inr, arith}
use Rattle.std.specs.Prelude.{◌==◌, is_some, if◌then◌else◌}
use Rattle.std.specs.Option.{option_map_or}
use Rattle.std.proofs.lemmas.Bool.{cases_eq, false≢true, eq-eqb, ne_eqb}
use Rattle.std.proofs.lemmas.List.{length-replicate, get_or-set_same, get_or-set_other, length-set}
use Rattle.ipl_format.specs.Page.{Slots, empty_page}
use Rattle.page_ops.specs.Pending.{Pending, Pendings, seen_by, without_pending, with_pending}
use Rattle.page_ops.specs.Frames.{FrameView, AreOfPending, values_in, pending_in, pending_of, pendings_of, empty_frame}

-- ---- one slot

pub pending_slot : (numbers : List (Option ℕ)) (values : Slots) (i : ℕ)
    → get_or (pendings_of numbers values) i None
    ≡ pending_of (get_or numbers i None) (get_or values i None)
unfolding pendings_of
pending_slot [] values i = refl
pending_slot (n ∷ numbers) [] zero = refl
pending_slot (n ∷ numbers) [] (suc i) = pending_slot numbers [] i
pending_slot (n ∷ numbers) (v ∷ values) zero = refl
pending_slot (n ∷ numbers) (v ∷ values) (suc i) = pending_slot numbers values i

-- there is one where the slot has a number
pub pending_some : (numbers : List (Option ℕ)) (values : Slots) (i : ℕ)
    → is_some (get_or (pendings_of numbers values) i None) ≡ is_some (get_or numbers i None)
pending_some numbers values i =
    ap is_some (pending_slot numbers values i) ∙ by_number (get_or numbers i None)
  where
    by_number : (n : Option ℕ) → is_some (pending_of n (get_or values i None)) ≡ is_some n
    by_number None = refl
    by_number (Some tid) = refl

none_in : (n : ℕ) (values : Slots) → pendings_of (replicate n None) values ≡ replicate n None
unfolding pendings_of
none_in zero values = refl
none_in (suc n) [] = ap (λ l. None ∷ l) (none_in n [])
none_in (suc n) (v ∷ values) = ap (λ l. None ∷ l) (none_in n values)

-- with nothing pending
pub none_pending : (n : ℕ) (numbers : List (Option ℕ)) (values : Slots) → numbers ≡ replicate n None
    → pendings_of numbers values ≡ replicate n None
none_pending n numbers values is = ap (λ l. pendings_of l values) is ∙ none_in n values

-- what becomes of a pending change of a number
pub of_number : (tid : ℕ) (n : Option ℕ) (v : Option (List ℕ))
    → option_map_or (λ m. m == tid) n false ≡ true → without_pending tid (pending_of n v) ≡ None
of_number tid None v e = absurd (false≢true e)
of_number tid (Some m) v e = ap (λ (b : Bool). if b then None else Some (m, v)) e

pub of_another : (tid : ℕ) (n : Option ℕ) (v : Option (List ℕ))
    → option_map_or (λ m. m == tid) n false ≡ false
    → without_pending tid (pending_of n v) ≡ pending_of n v
of_another tid None v e = refl
of_another tid (Some m) v e = ap (λ (b : Bool). if b then None else Some (m, v)) e

pub seen_own : (tid : ℕ) (w : Option (List ℕ)) (n : Option ℕ) (v : Option (List ℕ))
    → option_map_or (λ m. m == tid) n false ≡ true → seen_by tid w (pending_of n v) ≡ v
seen_own tid w None v e = absurd (false≢true e)
seen_own tid w (Some m) v e = ap (λ (b : Bool). if b then v else w) e

pub seen_another : (tid : ℕ) (w : Option (List ℕ)) (n : Option ℕ) (v : Option (List ℕ))
    → option_map_or (λ m. m == tid) n false ≡ false → seen_by tid w (pending_of n v) ≡ w
seen_another tid w None v e = refl
seen_another tid w (Some m) v e = ap (λ (b : Bool). if b then v else w) e

-- ---- a frame

-- an empty page, of which nothing is pending
pub all_none : (page : Slots) (numbers : List (Option ℕ)) (values : Slots) → page ≡ empty_page
    → numbers ≡ replicate 64 None
    → ◌≡◌ {A = FrameView} (record { page = page; pending = pendings_of numbers values }) empty_frame
all_none page numbers values same none = rw (same, none_pending 64 numbers values none) refl

pub none_tidy : (numbers : List (Option ℕ)) (values : Slots) → values ≡ empty_page
    → numbers ≡ replicate 64 None → AreOfPending numbers values
unfolding empty_page
none_tidy numbers values empty none = record {
  count = ap length none ∙ length-replicate {A = Option ℕ} 64 None;
  tidy = λ slot none. ap (λ (p : Slots). get_or p slot None) empty ∙ nothing slot 64;
}
  where
    nothing : (k n : ℕ) → get_or {A = Option (List ℕ)} (replicate n None) k None ≡ None
    nothing k zero = refl
    nothing zero (suc n) = refl
    nothing (suc k) (suc n) = nothing k n

-- slots of which none has a change
pub none_in_all : (k n : ℕ) → get_or {A = Option Pending} (replicate n None) k None ≡ None
none_in_all k zero = refl
none_in_all zero (suc n) = refl
none_in_all (suc k) (suc n) = none_in_all k n

-- a slot has another number and another value, and the others have what they had
module _ (numbers later : List (Option ℕ)) (values now : Slots) (slot : ℕ) (n : Option ℕ)
    (v : Option (List ℕ)) (numbers_are : later ≡ set numbers slot n)
    (values_are : now ≡ set values slot v) where
  pub changed_here : slot < length numbers → slot < length now
      → get_or (pendings_of later now) slot None ≡ pending_of n v
  changed_here low within =
      pending_slot later now slot
      ∙ ap₂ pending_of
      (ap (λ (l : List (Option ℕ)). get_or l slot None) numbers_are
      ∙ get_or-set_same numbers slot n None low)
      (ap (λ (l : Slots). get_or l slot None) values_are
      ∙ get_or-set_same values slot v None long)
    where
      long : slot < length values
      long = omega (arith, within, ap length values_are, length-set values slot v)

  pub changed_others : (k : ℕ) → k ≢ slot
      → get_or (pendings_of later now) k None ≡ get_or (pendings_of numbers values) k None
  changed_others k other =
      pending_slot later now k
      ∙ ap₂ pending_of
      (ap (λ (l : List (Option ℕ)). get_or l k None) numbers_are
      ∙ get_or-set_other numbers slot k n None other)
      (ap (λ (l : Slots). get_or l k None) values_are
      ∙ get_or-set_other values slot k v None other)
      ∙ sym (pending_slot numbers values k)

  -- they belong together still, where a slot without a number has no value
  pub own_changed : AreOfPending numbers values → slot < length numbers → slot < length now
      → (n ≡ None → v ≡ None) → AreOfPending later now
  own_changed own low within none = record {
    count = ap length numbers_are ∙ length-set numbers slot n ∙ own.count;
    tidy = λ k gone. elim (cases_eq k slot) [
      | inl same ↦ ap (λ (i : ℕ). get_or now i None) same ∙ value_here
          ∙ none (sym number_here ∙ ap (λ (i : ℕ). get_or later i None) (sym same) ∙ gone)
      | inr other ↦
          ap (λ (l : Slots). get_or l k None) values_are
          ∙ get_or-set_other values slot k v None other
          ∙ own.tidy k (sym (ap (λ (l : List (Option ℕ)). get_or l k None) numbers_are
          ∙ get_or-set_other numbers slot k n None other) ∙ gone)
    ];
  }
    where
      number_here : get_or later slot None ≡ n
      number_here = ap (λ (l : List (Option ℕ)). get_or l slot None) numbers_are
          ∙ get_or-set_same numbers slot n None low

      value_here : get_or now slot None ≡ v
      value_here = ap (λ (l : Slots). get_or l slot None) values_are
          ∙ get_or-set_same values slot v None
          (omega (arith, within, ap length values_are, length-set values slot v))

-- a change is noted
pub noted : (numbers later : List (Option ℕ)) (values now : Slots) (slot tid : ℕ)
    (change : Option (List ℕ)) (pending : Pendings)
    → ((k : ℕ) → get_or (pendings_of numbers values) k None ≡ pending k)
    → slot < length numbers → slot < length now
    → later ≡ set numbers slot (Some tid) → now ≡ set values slot change
    → (k : ℕ) → get_or (pendings_of later now) k None
    ≡ with_pending pending slot (tid, change) k
noted numbers later values now slot tid change pending was low within numbers_are values_are k =
    elim (cases_eq k slot) [
      | inl same ↦ ap (λ (i : ℕ). get_or (pendings_of later now) i None) same
          ∙ (changed_here numbers later values now slot (Some tid) change numbers_are values_are
          low within
          ∙ sym (ap (λ (b : Bool). if b then Some (tid, change) else pending k)
          (eq-eqb k slot same)))
      | inr other ↦ changed_others numbers later values now slot (Some tid) change numbers_are
          values_are k other
          ∙ (was k ∙ sym (ap (λ (b : Bool). if b then Some (tid, change) else pending k)
          (ne_eqb k slot other)))
    ]

-- a slot's change, of which `n` is the number
module _ (numbers : List (Option ℕ)) (values : Slots) (slot tid : ℕ) (n : Option ℕ)
    (number_is : n ≡ get_or numbers slot None) where
  change_is : get_or (pendings_of numbers values) slot None
      ≡ pending_of n (get_or values slot None)
  change_is = pending_slot numbers values slot
      ∙ ap (λ (o : Option ℕ). pending_of o (get_or values slot None)) (sym number_is)

  -- it is of the number: it is gone
  pub gone : (later : List (Option ℕ)) (now : Slots) → slot < length numbers → slot < length now
      → later ≡ set numbers slot None → now ≡ set values slot None
      → option_map_or (λ m. m == tid) n false ≡ true
      → get_or (pendings_of later now) slot None
      ≡ without_pending tid (get_or (pendings_of numbers values) slot None)
  gone later now low within numbers_are values_are own =
      changed_here numbers later values now slot None None numbers_are values_are low within
      ∙ sym (ap (without_pending tid) change_is ∙ of_number tid n (get_or values slot None) own)

  -- or it becomes the value
  pub becomes : (page now : Slots) (v : Option (List ℕ)) → slot < length now
      → now ≡ set page slot (get_or values slot None)
      → option_map_or (λ m. m == tid) n false ≡ true
      → get_or now slot None ≡ seen_by tid v (get_or (pendings_of numbers values) slot None)
  becomes page now v within is own =
      ap (λ (p : Slots). get_or p slot None) is
      ∙ (get_or-set_same page slot (get_or values slot None) None long
      ∙ sym (ap (seen_by tid v) change_is ∙ seen_own tid v n (get_or values slot None) own))
    where
      long : slot < length page
      long = omega (arith, within, ap length is, length-set page slot (get_or values slot None))

  -- it is of another number: it stays
  pub stays : option_map_or (λ m. m == tid) n false ≡ false
      → without_pending tid (get_or (pendings_of numbers values) slot None)
      ≡ get_or (pendings_of numbers values) slot None
  stays other = ap (without_pending tid) change_is
      ∙ (of_another tid n (get_or values slot None) other ∙ sym change_is)

  pub not_seen : (v : Option (List ℕ)) → option_map_or (λ m. m == tid) n false ≡ false
      → seen_by tid v (get_or (pendings_of numbers values) slot None) ≡ v
  not_seen v other = ap (seen_by tid v) change_is
      ∙ seen_another tid v n (get_or values slot None) other

-- ---- slots one after the other

-- slots below i are without the number, and the others as they were
pub record AreDropped (tid i : ℕ) (old new : FrameView) : Type 0 where
  pub page : new.page ≡ old.page
  pub done : (slot : ℕ) → slot < i
      → pending_in new slot ≡ without_pending tid (pending_in old slot)
  pub ahead : (slot : ℕ) → i ≤ slot → pending_in new slot ≡ pending_in old slot

-- slots below i have the changes of the number as values, and the others are as they were
pub record AreApplied (tid i : ℕ) (old new : FrameView) : Type 0 where
  pub values : (slot : ℕ) → slot < i
      → values_in new slot ≡ seen_by tid (values_in old slot) (pending_in old slot)
  pub pending : (slot : ℕ) → slot < i
      → pending_in new slot ≡ without_pending tid (pending_in old slot)
  pub values_ahead : (slot : ℕ) → i ≤ slot → values_in new slot ≡ values_in old slot
  pub pending_ahead : (slot : ℕ) → i ≤ slot → pending_in new slot ≡ pending_in old slot

nothing_of : (change : Option Pending) → is_some change ≡ false → change ≡ None
nothing_of None none = refl
nothing_of (Some p) none = absurd (false≢true (sym none))

-- one slot more
pub applied_more : (tid i : ℕ) (old now next : FrameView) → AreApplied tid i old now
    → values_in next i ≡ seen_by tid (values_in now i) (pending_in now i)
    → pending_in next i ≡ without_pending tid (pending_in now i)
    → ((k : ℕ) → k ≢ i → values_in next k ≡ values_in now k)
    → ((k : ℕ) → k ≢ i → pending_in next k ≡ pending_in now k)
    → AreApplied tid (i + 1) old next
applied_more tid i old now next so value here other_values others = record {
  values = λ slot low. elim (cases_eq slot i) [
    | inl same ↦ ap (values_in next) same ∙ value
        ∙ ap (λ v. seen_by tid v (pending_in now i)) (so.values_ahead i (omega arith))
        ∙ ap (seen_by tid (values_in old i)) (so.pending_ahead i (omega arith))
        ∙ ap (λ k. seen_by tid (values_in old k) (pending_in old k)) (sym same)
    | inr other ↦ other_values slot other ∙ so.values slot (omega (arith, low, other))
  ];
  pending = λ slot low. elim (cases_eq slot i) [
    | inl same ↦ ap (pending_in next) same ∙ here
        ∙ ap (without_pending tid) (so.pending_ahead i (omega arith)
        ∙ ap (pending_in old) (sym same))
    | inr other ↦ others slot other ∙ so.pending slot (omega (arith, low, other))
  ];
  values_ahead = λ slot high. other_values slot (λ same. absurd (omega (arith, high, same)))
      ∙ so.values_ahead slot (omega (arith, high));
  pending_ahead = λ slot high. others slot (λ same. absurd (omega (arith, high, same)))
      ∙ so.pending_ahead slot (omega (arith, high));
}

-- one slot more, where nothing is pending
pub applied_past : (tid i : ℕ) (old now : FrameView) → AreApplied tid i old now
    → is_some (pending_in now i) ≡ false → AreApplied tid (i + 1) old now
applied_past tid i old now so none =
    let nothing = nothing_of (pending_in now i) none in
    applied_more tid i old now now so (sym (ap (seen_by tid (values_in now i)) nothing))
    (nothing ∙ sym (ap (without_pending tid) nothing)) (λ k other. refl) (λ k other. refl)
