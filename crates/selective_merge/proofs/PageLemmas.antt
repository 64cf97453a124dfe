-- Records, counted and done on a page that is made anew.
use Rattle.std.proofs.Common.{◌≡◌, ◌≤◌, ◌<◌, ◌+◌, ◌-◌, ℕ, Bool, true, false, List, [], ◌∷◌, length, replicate, drop, refl, sym, ◌∙◌, ap, subst, arith, inl, inr}
use Rattle.std.specs.Prelude.{◌==◌, slice_index, slice_set}
use Rattle.std.specs.Bool.{OnTrue, OnFalse}
use Rattle.std.proofs.lemmas.Bool.{cases_Bool, and_parts, eqb-true}
use Rattle.std.proofs.lemmas.List.{length-set, drop_all, get_or-replicate}
use Rattle.ipl_base.specs.Sizes.{size_of_values}
use Rattle.ipl_base.specs.declared.limits.TheConstants.{PAGE_LEN, VERSION}
use Rattle.ipl_format.specs.Page.{Slots, IsPage, value_in}
use Rattle.ipl_format.specs.Record.{Record as LogRecord}
use Rattle.ipl_meaning.specs.Values.{Values, counts_for}
use Rattle.ipl_meaning.proofs.RoomLemmas.{same_sizes}
use Rattle.ipl_meaning.proofs.SizeLemmas.{texts_have_sizes}
use Rattle.page_ops.specs.Frames.{with_record}
use Rattle.page_ops.specs.Rebuilt.{with_records, AreComing, IsMaking}
use Rattle.page_ops.proofs.RebuildLemmas.{on_own, of_no_number, making_earlier, making_last, making_full, making_done}
use Rattle.selective_merge.specs.Moved.{IsRebased}
use Rattle.selective_merge.specs.Homes.{is_counted}
use Rattle.selective_merge.specs.Logs.{nth_record}
use Rattle.selective_merge.proofs.KeptLemmas.{nth_first}

-- ---- whether a record counts

module _ (committed : ℕ → Bool) (page : ℕ) (r : LogRecord) where
  -- one that does counts on its own slot
  pub own_counts : is_counted committed page r ≡ true
      → counts_for committed page r.slot r ≡ true
  own_counts is =
      let (here, done) = and_parts _ _ is in on_own committed page r (eqb-true _ _ here) done

  -- one that doesn't counts on none
  pub none_counted : is_counted committed page r ≡ false → (slot : ℕ)
      → counts_for committed page slot r ≡ false
  none_counted none slot = elim (cases_Bool (r.page == page)) [
    | inl here ↦ of_no_number committed page r slot (rw here at none)
    | inr away ↦ rw away refl
  ]

-- ---- counted

-- at first none is
pub none_coming : (committed : ℕ → Bool) (page : ℕ) (counts : List ℕ) → counts ≡ replicate 64 0
    → AreComing committed page [] counts
none_coming committed page counts none slot low =
    ap (λ (l : List ℕ). slice_index l slot) none ∙ get_or-replicate 64 slot 0 0 low

-- ---- made anew

-- a record was taken off the count of this slot; whether it was the last one there
pub record IsTaken (counts later : List ℕ) (last : Bool) (slot : ℕ) : Type 0 where
  pub low : slot < 64
  pub long : length later ≡ 64
  pub taken : later ≡ slice_set counts slot (slice_index counts slot - 1)
  pub last_is : (slice_index later slot == 0) ≡ last

pub taken_off : (counts later : List ℕ) (last : Bool) (slot own : ℕ) → slot ≡ own → slot < 64
    → length later ≡ 64 → later ≡ slice_set counts slot (slice_index counts slot - 1)
    → last ≡ (slice_index later slot == 0) → IsTaken counts later last own
taken_off counts later last slot own same low long taken last_is =
    subst (IsTaken counts later last) same
    (record { low = low; long = long; taken = taken; last_is = sym last_is })

-- the next record was taken off the count of its slot
module _ (committed : ℕ → Bool) (page : ℕ) (all rest : List LogRecord) (base : Values)
    (counts later : List ℕ) (now : Slots) (r : LogRecord)
    (so : IsMaking committed page all (r ∷ rest) base counts now)
    (is : is_counted committed page r ≡ true) (last : Bool)
    (off : IsTaken counts later last r.slot) where
  -- it wasn't the last
  pub earlier_made : last ≡ false → IsMaking committed page all rest base later now
  earlier_made more =
      making_earlier committed page so off.low (own_counts committed page r is) off.long off.taken
      (off.last_is ∙ more)

  module _ (last_there : last ≡ true) (next : Slots) (fits : IsPage VERSION next)
      (did : LogRecord) (same : did ≡ r) where
    -- it was, and was put, where the page had room
    pub last_made : (room : Bool) → OnTrue room (next ≡ with_record now did)
        → OnTrue room (IsMaking committed page all rest base later next)
    last_made true done =
        let put : next ≡ with_record now r = done ∙ ap (with_record now) same in
        making_last committed page so off.low (own_counts committed page r is) off.long off.taken
        (off.last_is ∙ last_there)
        (omega (arith, fits.slots, ap length put, length-set now r.slot r.change)) put
    last_made false done = tt

    pub last_full : (room : Bool) → OnFalse room (next ≡ now)
        → OnFalse room (PAGE_LEN < size_of_values (value_in (with_record now did)))
        → OnFalse room (PAGE_LEN < size_of_values (with_records committed page all base))
    last_full true kept full = tt
    last_full false kept full =
        making_full committed page so off.low (own_counts committed page r is) off.long off.taken
        (off.last_is ∙ last_there)
        {next = with_record now r} (omega (arith, fits.slots, ap length kept)) refl
        (subst (λ (x : LogRecord). PAGE_LEN < size_of_values (value_in (with_record now x))) same full)

-- the next record of the log comes first of those that are left
pub made_next : (committed : ℕ → Bool) (page : ℕ) (log : List LogRecord) (i : ℕ) → i < length log
    → {base : Values} {counts : List ℕ} {now : Slots}
    → IsMaking committed page log (drop i log) base counts now
    → IsMaking committed page log (nth_record log i ∷ drop (i + 1) log) base counts now
made_next committed page log i low {base} {counts} {now} so =
    subst (λ (l : List LogRecord). IsMaking committed page log l base counts now)
    (nth_first log i low) so

-- where none is left, each slot has what the records make of it
pub made_all : (committed : ℕ → Bool) (page : ℕ) (log : List LogRecord) (i : ℕ) (base : Values)
    (counts : List ℕ) (now : Slots) → length log ≤ i
    → IsMaking committed page log (drop i log) base counts now → (slot : ℕ) → slot < 64
    → value_in now slot ≡ with_records committed page log base slot
made_all committed page log i base counts now past so =
    making_done committed page
    (subst (λ (l : List LogRecord). IsMaking committed page log l base counts now)
    (drop_all i log past) so)

-- values that a page in memory has take no more room than a page has
pub rebased_fits : (committed : ℕ → Bool) (records : List LogRecord) (page : ℕ) (base new : Slots)
    → IsRebased committed records page base new → IsPage VERSION new
    → size_of_values (with_records committed page records (value_in base)) ≤ PAGE_LEN
rebased_fits committed records page base new rebased is =
    let fits = is.fits in
    omega (
      arith,
      fits,
      texts_have_sizes new is.slots,
      same_sizes (value_in new) (with_records committed page records (value_in base)) rebased,
    )
