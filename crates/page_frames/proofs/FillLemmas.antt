-- What the page of a name may come to take, slot by slot.
use Rattle.std.proofs.Common.{◌≡◌, ◌≤◌, ◌<◌, ◌+◌, ◌-◌, ◌*◌, ◌%◌, max, ℕ, List, length, refl, sym, ◌∙◌, ap, arith}
use Rattle.std.specs.List.{sum_by, range_with_len}
use Rattle.ipl_base.specs.Places.{home_of}
use Rattle.ipl_base.specs.Sizes.{size_in_page, size_of_values}
use Rattle.ipl_base.specs.declared.limits.TheConstants.{PAGE_LEN, SLOTS, VERSION}
use Rattle.ipl_model.specs.Peaks.{Peaks, fill_of}
use Rattle.ipl_format.specs.Page.{Slots, SpellsPage, value_in}
use Rattle.ipl_meaning.specs.Values.{Values}
use Rattle.ipl_meaning.proofs.SizeLemmas.{texts_have_sizes}
use Rattle.page_ops.proofs.FillLemmas.{room_of, one_more}
use Rattle.store_laws.specs.Pending.{name_at}

-- the peaks of the names of a page
abbrev pub peaks_here : Peaks → ℕ → Peaks
peaks_here peaks n slot = peaks (name_at (home_of n).unit (home_of n).page slot)

-- what a slot's value takes
abbrev pub size_held : Values → ℕ → ℕ
size_held values slot = size_in_page (values slot)

-- So far what all values take, and of the first k slots what each may come to take more than it does.
pub record IsGrownSoFar (values : Values) (peaks : Peaks) (k fill : ℕ) : Type 0 where
  pub sum : fill + sum_by (size_held values) (range_with_len 0 k)
      ≡ size_of_values values + sum_by (room_of values peaks) (range_with_len 0 k)
  pub few : fill ≤ PAGE_LEN + 4294967296 * k

-- at first the length of the page's text
pub grown_first : (peaks : Peaks) (page : Slots) (text : List ℕ) → SpellsPage VERSION text page
    → length text ≤ PAGE_LEN → IsGrownSoFar (value_in page) peaks 0 (length text)
grown_first peaks page text is few =
    let size : length text ≡ size_of_values (value_in page) =
    ap length is.text ∙ texts_have_sizes page is.slots.slots in
    record { sum = omega (arith, size); few = omega (arith, few) }

-- the greater of two is the first and what the other has more
greater : (a b : ℕ) → max a b ≡ a + (b - a)
greater a b = omega arith

module _ {values : Values} {peaks : Peaks} {k fill : ℕ}
    (so : IsGrownSoFar values peaks k fill) (size written : ℕ)
    (here : size ≡ size_held values k) (peak : written ≡ peaks k - 1) where
  -- what the slot may come to take
  room_here : room_of values peaks k ≡ size + (written - size)
  room_here =
      ap (λ (n : ℕ). max n (peaks k - 1)) (sym here) ∙ ap (λ (n : ℕ). max size n) (sym peak)
      ∙ greater size written

  -- one slot more
  pub grown_more : {next growth : ℕ} → written < 4294967296 → growth ≡ written - size
      → next ≡ fill + growth → IsGrownSoFar values peaks (k + 1) next
  grown_more small growth_is is = record {
    sum = omega (
      arith,
      so.sum,
      one_more (room_of values peaks) k,
      one_more (size_held values) k,
      room_here,
      here,
      growth_is,
      is,
    );
    few = omega (arith, so.few, small, growth_is, is);
  }

-- one slot more, which no session wrote
pub grown_same : {values : Values} {peaks : Peaks} {k fill written next : ℕ}
    → IsGrownSoFar values peaks k fill → written ≡ peaks k - 1 → written ≤ 0 → next ≡ fill
    → IsGrownSoFar values peaks (k + 1) next
grown_same {values} {peaks} {k} {fill} {written} so peak none same =
    grown_more so (size_held values k) written refl peak {growth = 0} (omega (arith, none))
    (omega (arith, none)) (omega (arith, same))

pub grown_all : {values : Values} {peaks : Peaks} {k fill : ℕ} → k ≡ SLOTS → IsGrownSoFar values peaks k fill
    → fill ≡ fill_of values peaks
unfolding fill_of size_of_values
grown_all {values} {peaks} all so =
    omega (
      arith,
      so.sum,
      ap (λ (n : ℕ). sum_by (room_of values peaks) (range_with_len 0 n)) all,
      ap (λ (n : ℕ). sum_by (size_held values) (range_with_len 0 n)) all,
    )

-- ---- names of the page

-- the first name of a page, and those after it
pub name_here : (n slot : ℕ) → slot < SLOTS
    → n - n % SLOTS + slot ≡ name_at (home_of n).unit (home_of n).page slot
name_here n slot low = omega (arith, low)
