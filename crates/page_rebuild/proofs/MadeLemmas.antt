-- Records passed, while a page is made anew.
use Rattle.std.proofs.Common.{◌≡◌, ◌≢◌, ◌<◌, ◌-◌, ℕ, Bool, true, false, List, [], ◌∷◌, length, refl, sym, ap, arith}
use Rattle.std.specs.Prelude.{◌==◌, slice_index, slice_set}
use Rattle.std.specs.Bool.{OnTrue, OnFalse}
use Rattle.std.proofs.lemmas.List.{length-set}
use Rattle.ipl_base.specs.declared.limits.TheConstants.{PAGE_LEN, VERSION}
use Rattle.ipl_base.specs.Sizes.{size_of_values}
use Rattle.ipl_format.specs.Record.{Record}
use Rattle.ipl_format.specs.Page.{Slots, IsPage, value_in}
use Rattle.page_ops.specs.Frames.{with_record}
use Rattle.page_ops.proofs.RebuildLemmas.{on_own, of_another_page, of_no_number, making_past, making_earlier, making_last, making_full}
use Rattle.page_rebuild.specs.Made.{AreRecordsPassed}

module _ (committed : ℕ → Bool) (page : ℕ) (r : Record) (counts : List ℕ) (now : Slots) where
  pub passed_other_page : r.page ≢ page
      → AreRecordsPassed committed page (r ∷ []) counts now counts now true
  passed_other_page other = λ all rest base so.
      making_past committed page so (λ slot low. of_another_page committed page r slot other)

  pub passed_other_number : committed r.tid ≡ false
      → AreRecordsPassed committed page (r ∷ []) counts now counts now true
  passed_other_number other = λ all rest base so.
      making_past committed page so (λ slot low. of_no_number committed page r slot other)

  module _ (low : r.slot < 64) (here : r.page ≡ page) (done : committed r.tid ≡ true) where
    module _ (later : List ℕ) (long : length later ≡ 64)
        (taken : later ≡ slice_set counts r.slot (slice_index counts r.slot - 1)) where
      pub passed_earlier : false ≡ (slice_index later r.slot == 0)
          → AreRecordsPassed committed page (r ∷ []) counts now later now true
      passed_earlier more = λ all rest base so.
          making_earlier committed page so low (on_own committed page r here done) long taken
          (sym more)

      -- the last one on its slot, where the text may have room
      pub passed_last : true ≡ (slice_index later r.slot == 0) → (room : Bool) (next : Slots)
          → IsPage VERSION next → OnTrue room (next ≡ with_record now r)
          → OnFalse room (PAGE_LEN < size_of_values (value_in (with_record now r)))
          → OnFalse room (next ≡ now)
          → AreRecordsPassed committed page (r ∷ []) counts now later next room
      passed_last last true next is put full kept = λ all rest base so.
          making_last committed page so low (on_own committed page r here done) long taken
          (sym last) count put
        where
          count : length now ≡ 64
          count = omega (arith, is.slots, ap length put, length-set now r.slot r.change)
      passed_last last false next is put full kept = λ all rest base so.
          making_full committed page so low (on_own committed page r here done) long taken
          (sym last) {next = with_record now r} (omega (arith, is.slots, ap length kept)) refl full
