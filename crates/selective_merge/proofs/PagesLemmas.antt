-- What stands at a place that has pages.
use Rattle.std.proofs.Common.{◌≡◌, ◌<◌, ◌≤◌, ◌/◌, ◌%◌, ◌⊎◌, ℕ, zero, suc, List, slice_index, inl, inr, ap, arith}
use Rattle.std.proofs.lemmas.Bool.{cases_lt}
use Rattle.ipl_format.specs.Page.{Slots}
use Rattle.ipl_format.specs.Place.{base_sector_of}
use Rattle.ipl_meaning.specs.Chart.{Chart}
use Rattle.selective_merge.specs.Pages.{IsPieceBelow, HasPages, IsFew}

-- base sectors, and what stood there before
pub base_or_before : (p u g : ℕ) (slots : ℕ → Slots) (pieces : List ℕ) (n : ℕ) (c y : Chart)
    → IsFew pieces → HasPages p u g slots pieces n c y → (s : ℕ)
    → (y p s ≡ c p s)
    ⊎ ((page i : ℕ) × (page < n) × (i < slice_index pieces page) × (s ≡ base_sector_of page i))
base_or_before p u g slots pieces n c y few has zero =
    inl (has.others p 0 (λ same is. absurd (omega (arith, is.spot.0))))
base_or_before p u g slots pieces n c y few has (suc s) = elim (cases_lt (s / 16) n) [
  | inl low ↦ elim (cases_lt (s % 16) (slice_index pieces (s / 16))) [
    | inl in_page ↦ inr (s / 16, s % 16, low, in_page, omega arith)
    | inr past ↦ inl (has.others p (suc s) (λ same is. not_piece is (λ at.
        let one : slice_index pieces (s / 16) ≡ slice_index pieces is.page =
        ap (slice_index pieces) at.0 in
        omega (arith, past, at.1, one))))
  ]
  | inr high ↦ inl (has.others p (suc s) (λ same is. not_piece is (λ at.
      omega (arith, high, is.low, at.0))))
]
  where
    not_piece : (is : IsPieceBelow pieces n (suc s))
        → ((s / 16 ≡ is.page) × (s % 16 < slice_index pieces is.page) → ⊥) → ⊥
    not_piece is no_more =
        let most : slice_index pieces is.page ≤ 16 = few is.page in
        no_more (
          omega (arith, is.spot.0, is.spot.1, most),
          omega (arith, is.spot.0, is.spot.1, most),
        )
