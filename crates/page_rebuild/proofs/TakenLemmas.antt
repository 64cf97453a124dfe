-- The records of a page, taken into its frame: first the values, and then what is pending.
use Rattle.std.proofs.Common.{◌≡◌, ◌≤◌, ◌<◌, ℕ, Bool, true, false, List, [], ◌++◌, replicate, refl, sym, ◌∙◌, ap, subst, arith}
use Rattle.std.specs.Prelude.{◌↔◌, ◌==◌, IsTrue, None, slice_index, if◌then◌else◌}
use Rattle.std.specs.Bool.{OnTrue}
use Rattle.std.proofs.lemmas.Bool.{false≢true}
use Rattle.std.proofs.lemmas.List.{append-nil, get_or-replicate}
use Rattle.ipl_base.specs.declared.limits.TheConstants.{PAGE_LEN}
use Rattle.ipl_format.specs.Record.{Record}
use Rattle.ipl_format.specs.Page.{Slots, value_in}
use Rattle.page_ops.specs.Pending.{fill_by}
use Rattle.page_ops.specs.Frames.{FrameView, frame_fill, values_in, pending_in, HasNonePending}
use Rattle.page_ops.specs.Rebuilt.{AreComing, IsMaking, with_records}
use Rattle.page_ops.proofs.RebuildLemmas.{making_first, making_done}
use Rattle.page_rebuild.specs.Taken.{last_changes, AreCountedBySlot, AreTaken}
use Rattle.page_rebuild.specs.Made.{AreAhead, AreRecordsPassed}
use Rattle.page_rebuild.specs.Pended.{IsSetting, AreToSet, AreSet}
use Rattle.page_rebuild.proofs.PendedLemmas.{setting_first}
use Rattle.page_rebuild.proofs.RoomLemmas.{same_fills, values_in_fill}

module _ (page : ℕ) (records : List Record) where
  -- all that were counted are to come
  all_come : (numbers : ℕ → Bool) (counts : List ℕ)
      → AreCountedBySlot numbers page records (replicate 64 0) counts
      → AreComing numbers page records counts
  all_come numbers counts counted slot low =
      omega (arith, counted slot low, get_or-replicate {A = ℕ} 64 slot 0 0 low)

  -- ---- values

  -- each slot of the page was emptied for which a record is to come
  module _ (committed : ℕ → Bool) (counts : List ℕ) (old : FrameView) (held now first : Slots)
      (counted : AreCountedBySlot committed page records (replicate 64 0) counts)
      (held_is : held ≡ old.page)
      (cleared : (slot : ℕ) → slot < 64 → value_in now slot
      ≡ (if slice_index counts slot == 0 then value_in held slot else None))
      (same : first ≡ now) where
    making : IsMaking committed page records records (values_in old) counts now
    making = making_first committed page records (values_in old) counts held now
        (all_come committed counts counted)
        (λ slot low. ap (λ (p : Slots). value_in p slot) (sym held_is)) cleared

    start : IsMaking committed page records (records ++ []) (values_in old) counts first
    start = subst (λ (p : Slots). IsMaking committed page records (records ++ []) (values_in old) counts p)
        (sym same)
        (subst (λ (l : List Record). IsMaking committed page records l (values_in old) counts now)
        (sym (append-nil records)) making)

    pub all_ahead : AreAhead committed page records counts first
    all_ahead = record { all = records; rest = []; base = values_in old; going = start }

    -- then they were passed
    module _ (later : List ℕ) (new : Slots) where
      pub values_made : AreRecordsPassed committed page records counts first later new true
          → (slot : ℕ) → slot < 64
          → value_in new slot ≡ with_records committed page records (values_in old) slot
      values_made passed slot low =
          making_done committed page (passed records [] (values_in old) start) slot low

      -- or a page has no room for the values, and so none with what is pending
      pub values_over : (active : ℕ → Bool)
          → AreRecordsPassed committed page records counts first later new false
          → IsTrue false ↔ (fill_by (with_records committed page records (values_in old))
          (last_changes active page records) ≤ PAGE_LEN)
      values_over active passed = (
        λ yes. absurd (false≢true yes),
        λ fits. absurd (let over = passed records [] (values_in old) start in
            omega (
              arith,
              over,
              fits,
              values_in_fill (with_records committed page records (values_in old))
                  (last_changes active page records),
            )),
      )

  -- ---- what is pending

  module _ (active : ℕ → Bool) (counts : List ℕ) (frame : FrameView)
      (counted : AreCountedBySlot active page records (replicate 64 0) counts) (idle : HasNonePending frame) where
    start_set : IsSetting active page records (records ++ []) frame.page counts frame
    start_set =
        subst (λ (l : List Record). IsSetting active page records l frame.page counts frame)
        (sym (append-nil records))
        (setting_first active page records counts frame (all_come active counts counted) idle)

    pub all_to_set : AreToSet active page records counts frame
    all_to_set = record { all = records; rest = []; base = frame.page; going = start_set }

    -- then they were passed
    module _ (committed : ℕ → Bool) (old : FrameView)
        (made : (slot : ℕ) → slot < 64
        → values_in frame slot ≡ with_records committed page records (values_in old) slot)
        (later : List ℕ) (new : FrameView) where
      taken : AreSet active page records counts frame later new true
          → AreTaken committed active page records old new
      taken set =
          let so = set records [] frame.page start_set in
          record {
            values = λ slot low. ap (λ (p : Slots). value_in p slot) so.same ∙ made slot low;
            pending = so.set;
          }

      pub all_taken : (room : Bool) → AreSet active page records counts frame later new room
          → OnTrue room (AreTaken committed active page records old new)
      all_taken true set = taken set
      all_taken false set = tt

      pub room_told : (room : Bool) → AreSet active page records counts frame later new room
          → OnTrue room (frame_fill new ≤ PAGE_LEN)
          → IsTrue room ↔ (fill_by (with_records committed page records (values_in old))
          (last_changes active page records) ≤ PAGE_LEN)
      room_told true set room =
          let are = taken set in (
            λ yes. omega (
              arith,
              room,
              same_fills (values_in new) (with_records committed page records (values_in old))
                  (pending_in new) (last_changes active page records) are.values are.pending,
            ),
            λ fits. refl,
          )
      room_told false set room = (
        λ yes. absurd (false≢true yes),
        λ fits. absurd (let over = set records [] frame.page start_set in
            omega (
              arith,
              over,
              fits,
              same_fills (values_in frame) (with_records committed page records (values_in old))
                  (last_changes active page records) (last_changes active page records) made
                  (λ slot low. refl),
            )),
      )
