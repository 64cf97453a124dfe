-- The pages of a unit, moved one after another.
use Rattle.std.proofs.Common.{◌≡◌, ◌≢◌, ◌<◌, ◌≤◌, ◌+◌, ℕ, List, [], length, cond, eqb, replicate, inl, inr, refl, sym, ◌∙◌, arith, slice_index, slice_set, get_or-set_same, get_or-set_other}
use Rattle.std.proofs.lemmas.Bool.{cases_eq, cases_lt, eq-eqb, ne_eqb}
use Rattle.std.proofs.lemmas.List.{get_or-replicate, get_or_past, length-replicate}
use Rattle.ipl_base.specs.declared.limits.TheConstants.{VERSION}
use Rattle.ipl_format.specs.Page.{Slots, IsPage}
use Rattle.ipl_format.specs.Place.{base_sector_of}
use Rattle.ipl_meaning.specs.Chart.{Chart}
use Rattle.unit_io.specs.Charts.{HasPageSectors}
use Rattle.selective_merge.specs.Pages.{HasPages, IsFew}
use Rattle.selective_merge.specs.Moved.{Source, IsMadeFrom, MovesPage, HasMoved, IsAside}

-- ---- pages at a place

pages_none : (p u g : ℕ) (slots : ℕ → Slots) (pieces : List ℕ) (c : Chart)
    → HasPages p u g slots pieces 0 c c
pages_none p u g slots pieces c = record {
  fits = λ page low. absurd (omega arith);
  cut = λ page low. absurd (omega arith);
  here = λ page i low few. absurd (omega arith);
  others = λ q s apart. refl;
}

module _ (pieces : List ℕ) (k n : ℕ) (room : k < length pieces) (few : IsFew pieces)
    (small : n ≤ 16) where
  abbrev later : List ℕ
  later = slice_set pieces k n

  at_k : slice_index later k ≡ n
  at_k = get_or-set_same pieces k n 0 room

  elsewhere : (page : ℕ) → page ≢ k → slice_index later page ≡ slice_index pieces page
  elsewhere page other = get_or-set_other pieces k page n 0 other

  pub few_more : IsFew later
  few_more page = elim (cases_eq page k) [
    | inl same ↦ rw same (rw at_k small)
    | inr other ↦ rw (elsewhere page other) (few page)
  ]

  -- one page more
  pages_more : (p u g : ℕ) (slots : ℕ → Slots) (c mid y : Chart)
      → HasPages p u g slots pieces k c mid → IsPage VERSION (slots k)
      → HasPageSectors p u g k (slots k) n mid y → HasPages p u g slots later (k + 1) c y
  pages_more p u g slots c mid y before fits page_there = record {
    fits = λ page low. elim (cases_eq page k) [
      | inl same ↦ rw same fits
      | inr other ↦ before.fits page (omega (arith, low, other))
    ];
    cut = λ page low. elim (cases_eq page k) [
      | inl same ↦ rw same (rw at_k page_there.cut)
      | inr other ↦ rw (elsewhere page other) (before.cut page (omega (arith, low, other)))
    ];
    here = λ page i low in_page. elim (cases_eq page k) [
      | inl same ↦
          let is : i < n = rw (same, at_k) at in_page in rw same (page_there.pieces.here i is)
      | inr other ↦
          let is : i < slice_index pieces page = rw (elsewhere page other) at in_page in
          let under : page < k = omega (arith, low, other) in
          let most : slice_index pieces page ≤ 16 = few page in
          page_there.pieces.others p (base_sector_of page i)
          (λ same spot. omega (arith, spot.0, is, most, under)) ∙ before.here page i under is
    ];
    others = λ q s apart.
        page_there.pieces.others q s
        (λ same spot. apart same (record { page = k; low = omega arith; spot = rw at_k spot }))
        ∙ before.others q s (λ same was. apart same (record {
          page = was.page;
          low = omega (arith, was.low);
          spot = rw (elsewhere was.page (λ is. omega (arith, was.low, is))) was.spot;
        }));
  }

pub few_none : (n : ℕ) → IsFew (replicate n 0)
few_none n page = elim (cases_lt page n) [
  | inl low ↦ rw (get_or-replicate {A = ℕ} n page 0 0 low) (omega arith)
  | inr past ↦ rw (get_or_past {X = ℕ} (replicate n 0) page 0
      (omega (arith, past, length-replicate {A = ℕ} n 0))) (omega arith)
]

-- ---- pages moved there

pages_renamed : (p u g : ℕ) (slots other : ℕ → Slots) (pieces : List ℕ) (n : ℕ) (c y : Chart)
    → ((page : ℕ) → page < n → slots page ≡ other page) → HasPages p u g slots pieces n c y
    → HasPages p u g other pieces n c y
pages_renamed p u g slots other pieces n c y same has = record {
  fits = λ page low. rw (sym (same page low)) (has.fits page low);
  cut = λ page low. rw (sym (same page low)) (has.cut page low);
  here = λ page i low few. rw (sym (same page low)) (has.here page i low few);
  others = has.others;
}

pub moved_none : (from : Source) (p g : ℕ) (pieces : List ℕ) (c : Chart)
    → HasMoved from p g pieces 0 c c
moved_none from p g pieces c = record {
  slots = λ page. [];
  of = λ page low. absurd (omega (arith, low));
  has = pages_none p from.unit g (λ page. []) pieces c;
}

-- a page that read well behind others did so before
from_before : (from : Source) (p g : ℕ) (slots : ℕ → Slots) (pieces : List ℕ) (k page : ℕ)
    (c mid : Chart) (new : Slots) → from.place ≢ p → HasPages p from.unit g slots pieces k c mid
    → IsMadeFrom from page mid new → IsMadeFrom from page c new
from_before from p g slots pieces k page c mid new apart has of = record {
  base = of.base;
  held = record {
    fits = of.held.fits;
    cut = of.held.cut;
    here = λ i few. sym (has.others from.place _ (λ same. absurd (apart same))) ∙ of.held.here i few;
  };
  applied = of.applied;
}

pub moved_more : (from : Source) (p g : ℕ) (pieces : List ℕ) (k n : ℕ) (c mid y : Chart)
    → from.place ≢ p → k < length pieces → IsFew pieces → n ≤ 16
    → HasMoved from p g pieces k c mid → MovesPage from p g k n mid y
    → HasMoved from p g (slice_set pieces k n) (k + 1) c y
moved_more from p g pieces k n c mid y apart room few small before page_there =
    let slots : ℕ → Slots = λ page. cond (eqb page k) page_there.new (before.slots page) in
    let at_k : slots k ≡ page_there.new = rw (eq-eqb k k refl) refl in
    let below : (page : ℕ) → page < k → before.slots page ≡ slots page =
    λ page low. rw (ne_eqb page k (λ is. omega (arith, low, is))) refl in
    record {
      slots = slots;
      of = λ page low. elim (cases_eq page k) [
        | inl same ↦ rw (same, at_k) (from_before from p g before.slots pieces k k c mid
            page_there.new apart before.has page_there.of)
        | inr other ↦ rw (sym (below page (omega (arith, low, other))))
            (before.of page (omega (arith, low, other)))
      ];
      has = pages_more pieces k n room few small p from.unit g slots c mid y
          (pages_renamed p from.unit g before.slots slots pieces k c mid below before.has)
          (rw at_k page_there.fits) (rw at_k page_there.has);
    }

-- the header is as it was
pub moved_aside : (from : Source) (p g : ℕ) (pieces : List ℕ) (k : ℕ) (c y : Chart)
    → HasMoved from p g pieces k c y → IsAside p c y
moved_aside from p g pieces k c y moved = record {
  header = moved.has.others p 0 (λ same is. omega (arith, is.spot.0));
  others = λ q s apart. moved.has.others q s (λ same. absurd (apart same));
}

pub aside_then : (p : ℕ) (c d e : Chart) → IsAside p c d → IsAside p d e → IsAside p c e
aside_then p c d e first second = record {
  header = second.header ∙ first.header;
  others = λ q s apart. second.others q s apart ∙ first.others q s apart;
}

pub aside_none : (p : ℕ) (c : Chart) → IsAside p c c
aside_none p c = record { header = refl; others = λ q s apart. refl }
