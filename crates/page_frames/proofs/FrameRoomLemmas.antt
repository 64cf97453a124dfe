-- Room in a page once a record's change is noted there.
use Rattle.std.proofs.Common.{◌≡◌, ◌≢◌, ◌≤◌, ◌<◌, ◌+◌, ◌==◌, max, ℕ, Bool, true, false, List, Option, Some, None, inl, inr, sym, ap, subst, arith}
use Rattle.std.specs.Prelude.{IfSome, if◌then◌else◌}
use Rattle.std.proofs.Math.Nat.{le-max_left, le-max_right}
use Rattle.std.proofs.lemmas.Bool.{cases_eq, cond-true, cond-false, eq-eqb, ne_eqb}
use Rattle.ipl_base.specs.Sizes.{size_in_page}
use Rattle.ipl_base.specs.declared.limits.TheConstants.{PAGE_LEN, SLOTS}
use Rattle.ipl_model.specs.Peaks.{Peaks}
use Rattle.ipl_model.proofs.RulePeakLemmas.{le_trans}
use Rattle.ipl_format.specs.Record.{Record}
use Rattle.ipl_meaning.specs.Values.{Values}
use Rattle.page_ops.specs.Pending.{Pending, Pendings, fill_by, peak_of}
use Rattle.store_laws.specs.Pending.{name_at}
use Rattle.store_laws.specs.Room.{fill_at, peaked_by}
use Rattle.store_laws.specs.Frames.{PageFrame}
use Rattle.store_laws.proofs.RoomLemmas.{fewer_peaks, one_less}
use Rattle.page_frames.specs.Changes.{noted}
use Rattle.page_frames.specs.FrameLaws.{PutsByPeaksHaveRoom}

-- the slot of the record has its change, and each other what it had
noted_here : (pending : Pendings) (r : Record) (slot : ℕ) → slot ≡ r.slot → noted pending r slot ≡ Some (r.tid, r.change)
noted_here pending r slot same = cond-true _ (Some (r.tid, r.change)) (pending slot) (eq-eqb slot r.slot same)

noted_else : (pending : Pendings) (r : Record) (slot : ℕ) → slot ≢ r.slot → noted pending r slot ≡ pending slot
noted_else pending r slot other = cond-false _ (Some (r.tid, r.change)) (pending slot) (ne_eqb slot r.slot other)

-- ---- a delete

-- a delete takes no room
pub delete_fill : (values : Values) (pending : Pendings) (r : Record) → r.change ≡ None
    → fill_by values (noted pending r) ≤ fill_by values pending
delete_fill values pending r none =
    fewer_peaks (λ slot. peak_of (noted pending r slot)) (λ slot. peak_of (pending slot)) values (λ slot low.
    elim (cases_eq slot r.slot) [
      | inl same ↦
          let peak = ap peak_of (noted_here pending r slot same) in
          let size = ap size_in_page none in
          omega (arith, peak, size)
      | inr other ↦ let peak = ap peak_of (noted_else pending r slot other) in omega (arith, peak)
    ])

-- ---- a put for which there is room by the peaks

more_peak : (b : Bool) (m k : ℕ) → k ≤ (if b then max m k else k)
more_peak true m k = le-max_right m k
more_peak false m k = omega arith

module _ (peaks : Peaks) (u : ℕ) (r : Record) (f : PageFrame)
    (less : (slot : ℕ) → slot < SLOTS → peak_of (f.pending slot) ≤ peaks (name_at u r.page slot)) where
  own_peak : (slot : ℕ) → slot ≡ r.slot → 1 + size_in_page r.change ≤ peaked_by peaks u r (name_at u r.page slot)
  own_peak slot same =
      let n = name_at u r.page r.slot in
      let k = name_at u r.page slot in
      let most = 1 + size_in_page r.change in
      let named : n ≡ k = ap (name_at u r.page) (sym same) in
      subst (λ (m : ℕ). most ≤ m) (sym (cond-true (n == k) (max most (peaks k)) (peaks k) (eq-eqb n k named)))
      (le-max_left most (peaks k))

  noted_less : (slot : ℕ) → slot < SLOTS → peak_of (noted f.pending r slot) ≤ peaked_by peaks u r (name_at u r.page slot)
  noted_less slot low = elim (cases_eq slot r.slot) [
    | inl same ↦
        subst (λ (p : Option Pending). peak_of p ≤ peaked_by peaks u r (name_at u r.page slot))
        (sym (noted_here f.pending r slot same)) (own_peak slot same)
    | inr other ↦
        subst (λ (p : Option Pending). peak_of p ≤ peaked_by peaks u r (name_at u r.page slot))
        (sym (noted_else f.pending r slot other))
        (le_trans (less slot low) (more_peak (name_at u r.page r.slot == name_at u r.page slot)
        (1 + size_in_page r.change) (peaks (name_at u r.page slot))))
  ]

pub puts_by_peaks_have_room : PutsByPeaksHaveRoom
puts_by_peaks_have_room peaks u r f bytes less is room =
    le_trans (fewer_peaks _ _ f.values (λ slot low. one_less (noted_less peaks u r f less slot low)))
    (subst (λ (o : Option (List ℕ)). IfSome o (λ b. fill_at (peaked_by peaks u r) u r.page f.values ≤ PAGE_LEN)) is room)
