-- Records counted one after another.
use Rattle.std.proofs.Common.{◌≡◌, ◌≤◌, ◌<◌, ◌+◌, ◌*◌, ℕ, suc, Bool, List, [], ◌∷◌, ◌++◌, length, get_or, drop, replicate, sym, ◌∙◌, ap, subst, arith, length-append}
use Rattle.std.specs.Prelude.{slice_index}
use Rattle.std.specs.List.{All, count_by}
use Rattle.std.proofs.lemmas.List.{drop_more, get_or-replicate}
use Rattle.std.proofs.lemmas.List.Sums.{count_by-le-length}
use Rattle.ipl_base.specs.declared.limits.TheConstants.{VERSION}
use Rattle.ipl_format.specs.Record.{Record, IsRecord, SpellsLog, record_bytes, log_bytes}
use Rattle.ipl_format.proofs.RecordLemmas.{records_have_sizes}
use Rattle.log_records.specs.Reading.{records_of}
use Rattle.log_records.proofs.RecordsLemmas.{records_list}
use Rattle.ipl_meaning.specs.Values.{counts_for}
use Rattle.unit_log.specs.declared.scratch.LogSector.{LogSector}
use Rattle.unit_log.specs.Kept.{records_kept}
use Rattle.page_ops.proofs.RebuildLemmas.{count_both}
use Rattle.page_rebuild.specs.Taken.{AreCountedBySlot}

-- ---- one part after the other

-- those that are counted now, with those that are left, are as many as the first ones with all
pub record AreLeft (numbers : ℕ → Bool) (page : ℕ) (left all : List Record)
    (counts first_counts : List ℕ) : Type 0 where
  pub counted : (slot : ℕ) → slot < 64
      → slice_index counts slot + count_by (counts_for numbers page slot) left
      ≡ slice_index first_counts slot + count_by (counts_for numbers page slot) all

module _ (numbers : ℕ → Bool) (page : ℕ) where
  pub left_at_first : (left all : List Record) (counts first_counts : List ℕ) → left ≡ all
      → counts ≡ first_counts → AreLeft numbers page left all counts first_counts
  left_at_first left all counts first_counts same start = record {
    counted = λ slot low. ap (λ (l : List Record). slice_index counts slot
        + count_by (counts_for numbers page slot) l) same
        ∙ ap (λ (l : List ℕ). slice_index l slot + count_by (counts_for numbers page slot) all) start;
  }

  module _ {left all : List Record} {counts first_counts : List ℕ}
      (so_far : AreLeft numbers page left all counts first_counts) where
    pub left_part : (part after : List Record) (later : List ℕ) → left ≡ part ++ after
        → AreCountedBySlot numbers page part counts later
        → AreLeft numbers page after all later first_counts
    left_part part after later step counted = record {
      counted = λ slot low.
          let test = counts_for numbers page slot in
          omega (
            arith,
            counted slot low,
            ap (λ (l : List Record). count_by test l) step,
            count_both test part after,
            so_far.counted slot low,
          );
    }

    -- of 40 records each has room, where 1200 were counted on its slot before
    pub room_left : (after : List Record) (r : Record) (slot : ℕ) → slot < 64
        → left ≡ r ∷ after → slice_index first_counts slot ≤ 1200 → length all ≤ 40
        → slice_index counts slot + count_by (counts_for numbers page slot) (r ∷ []) ≤ 1240
    room_left after r slot low step most few =
        let test = counts_for numbers page slot in
        omega (
          arith,
          most,
          few,
          so_far.counted slot low,
          ap (λ (l : List Record). count_by test l) step,
          count_both test (r ∷ []) after,
          count_by-le-length test all,
        )

  -- how many are counted at most
  pub counted_few : (records : List Record) (counts later : List ℕ) (most : ℕ)
      → AreCountedBySlot numbers page records counts later → length records ≤ 40
      → ((slot : ℕ) → slot < 64 → slice_index counts slot ≤ 40 * most)
      → (slot : ℕ) → slot < 64 → slice_index later slot ≤ 40 * (most + 1)
  counted_few records counts later most counted few so_far slot low =
      omega (
        arith,
        few,
        so_far slot low,
        counted slot low,
        count_by-le-length (counts_for numbers page slot) records,
      )

-- where none is counted yet
pub none_yet : (counts : List ℕ) → counts ≡ replicate 64 0
    → (slot : ℕ) → slot < 64 → slice_index counts slot ≤ 40 * 0
none_yet counts none slot low =
    omega (
      arith,
      ap (λ (l : List ℕ). slice_index l slot) none,
      get_or-replicate {A = ℕ} 64 slot 0 0 low,
    )

-- so few bytes are at most 40 records
least_bytes : (version : ℕ) (records : List Record)
    → 12 * length records ≤ length (log_bytes version records)
least_bytes version [] = omega arith
least_bytes version (r ∷ records) =
    let rest = least_bytes version records in
    omega (
      arith,
      rest,
      records_have_sizes version r,
      length-append (record_bytes version r) (log_bytes version records),
    )

pub few_records : (version : ℕ) (bytes : List ℕ) (records : List Record)
    → SpellsLog version bytes records → length bytes ≤ 480
    → length (records_of version bytes) ≤ 40
few_records version bytes records spelled fits =
    omega (
      arith,
      ap length (records_list version records bytes spelled),
      least_bytes version records,
      ap length spelled.bytes,
      fits,
    )

-- ---- of those that are left each is in form

pub first_valid : (left after : List Record) (r : Record) → All (IsRecord VERSION) left
    → left ≡ r ∷ after → IsRecord VERSION r
first_valid left after r all step = (subst (All (IsRecord VERSION)) step all) 0 r (omega arith)

pub later_valid : (left after : List Record) (r : Record) → All (IsRecord VERSION) left → left ≡ r ∷ after
    → All (IsRecord VERSION) after
later_valid left after r all step =
    λ i d within. (subst (All (IsRecord VERSION)) step all) (suc i) d (omega (arith, within))

-- ---- of those that are left in log sectors the next one's come first

pub next_sector : (sectors : List LogSector) (i : ℕ) (item : LogSector) → i < length sectors
    → item ≡ get_or sectors i item
    → records_kept (drop i sectors)
    ≡ records_of item.payload.version item.payload.bytes ++ records_kept (drop (i + 1) sectors)
next_sector sectors i item within is =
    ap records_kept (drop_more sectors i item within)
    ∙ ap (λ (z : LogSector). records_of z.payload.version z.payload.bytes
    ++ records_kept (drop (i + 1) sectors)) (sym is)
