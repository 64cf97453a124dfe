-- Each sector is read at most once: the parts of a scan read other sectors.
use Rattle.std.proofs.Common.{◌≡◌, ◌≤◌, ◌<◌, ◌+◌, ◌&&◌, ◌||◌, nat_le, ℕ, Bool, true, false, Option, Some, None, inl, inr, sym, ◌∙◌, ap, subst, arith}
use Rattle.std.specs.Prelude.{◌⊎◌, ◌==◌}
use Rattle.std.proofs.lemmas.Bool.{and_parts, eqb-true, false≢true}
use Rattle.std.proofs.lemmas.Bool.Decides.{nat_tests}
use Rattle.chip_trait.specs.Told.{Told}
use Rattle.ipl_meaning.specs.Chosen.{KeptHeader, Winner, is_status, is_overflow, status_in}
use Rattle.ipl_meaning.specs.Live.{is_at, is_log_spot_of}
use Rattle.ipl_meaning.proofs.ChosenLemmas.{chosen_is_best}
use Rattle.unit_io.specs.ReadsAt.{IsAt, Anywhere, ReadsOnce}
use Rattle.unit_io.proofs.OnceLemmas.{once_then, once_wider}
use Rattle.txn_status.specs.ReadingIn.{IsCommitSpot}
use Rattle.restart.specs.Looks.{IsHeaderSpot, IsBehindHeader, MayHoldLog}

-- ---- where log sectors may stand

either : (a b : Bool) → (a || b) ≡ true → (a ≡ true) ⊎ (b ≡ true)
either true b is = inl is
either false b is = inr is

-- behind the header
behind_header : (heads : ℕ → Option KeptHeader) (current : ℕ → Option Winner) (p s : ℕ)
    → MayHoldLog heads current p s → 1 ≤ s
behind_header heads current p s is = by_head (heads p) is
  where
    by_head : (head : Option KeptHeader) → is_log_spot_of current p s head ≡ true → 1 ≤ s
    by_head None is = absurd (false≢true is)
    by_head (Some head) is =
        elim (either (is_overflow head && nat_le 1 s)
        ((head.kind == 1) && (nat_le 241 s && is_at (current head.unit) p)) is) [
          | inl of_overflow ↦
              let low : nat_le 1 s ≡ true = (and_parts (is_overflow head) (nat_le 1 s) of_overflow).1 in
              grind (arith, nat_tests, low)
          | inr of_unit ↦
              let rest = (and_parts (head.kind == 1) (nat_le 241 s && is_at (current head.unit) p) of_unit).1 in
              let high : nat_le 241 s ≡ true = (and_parts (nat_le 241 s) (is_at (current head.unit) p) rest).0 in
              grind (arith, nat_tests, high)
        ]

-- and not in the status place
pub status_unlogged : (heads : ℕ → Option KeptHeader) (current : ℕ → Option Winner) (places : ℕ)
    (winner : Winner) → Some winner ≡ status_in heads places → (s : ℕ)
    → MayHoldLog heads current winner.place s → ⊥
status_unlogged heads current places winner chosen s is =
    let best = chosen_is_best is_status heads places winner (sym chosen) in
    let kind : winner.head.kind ≡ 2 = eqb-true winner.head.kind 2 best.of_kind in
    let here : is_log_spot_of current winner.place s (Some winner.head) ≡ true =
    ap (is_log_spot_of current winner.place s) (sym best.here) ∙ is in
    elim (either (is_overflow winner.head && nat_le 1 s)
    ((winner.head.kind == 1) && (nat_le 241 s && is_at (current winner.head.unit) winner.place)) here) [
      | inl of_overflow ↦
          let three : winner.head.kind ≡ 3 = eqb-true winner.head.kind 3
          (and_parts (is_overflow winner.head) (nat_le 1 s) of_overflow).0 in
          absurd (omega (arith, kind, three))
      | inr of_unit ↦
          let one : winner.head.kind ≡ 1 = eqb-true winner.head.kind 1
          (and_parts (winner.head.kind == 1)
          (nat_le 241 s && is_at (current winner.head.unit) winner.place) of_unit).0 in
          absurd (omega (arith, kind, one))
    ]

-- ---- headers

-- those of the places below one
abbrev pub IsHeaderBelow : ℕ → ℕ → ℕ → Type 0
IsHeaderBelow n p s = (p < n) × (s ≡ 0)

pub one_header_more : (n : ℕ) (old mid new : Told) → ReadsOnce (IsHeaderBelow n) old mid
    → ReadsOnce (IsAt n 0) mid new → ReadsOnce (IsHeaderBelow (n + 1)) old new
one_header_more n old mid new =
    once_then (IsHeaderBelow n) (IsAt n 0) (IsHeaderBelow (n + 1)) old mid new
    (λ p s below here. omega (arith, below.0, here.0))
    (λ p s below. (omega (arith, below.0), below.1)) (λ p s here. (omega (arith, here.0), here.1))

pub headers_once : (n : ℕ) (old new : Told) → ReadsOnce (IsHeaderBelow n) old new
    → ReadsOnce IsHeaderSpot old new
headers_once n old new =
    once_wider (IsHeaderBelow n) IsHeaderSpot old new (λ p s below. below.1)

-- ---- log sectors

module _ (heads : ℕ → Option KeptHeader) (current : ℕ → Option Winner) where
  -- of a sector, of a place below a sector, of a place, and of the places below one
  abbrev pub InSector : ℕ → ℕ → ℕ → ℕ → Type 0
  InSector place sector p s = IsAt place sector p s × MayHoldLog heads current p s

  abbrev pub InPlaceBelow : ℕ → ℕ → ℕ → ℕ → Type 0
  InPlaceBelow place n p s = (p ≡ place) × (s < n) × MayHoldLog heads current p s

  abbrev pub InPlace : ℕ → ℕ → ℕ → Type 0
  InPlace place p s = (p ≡ place) × MayHoldLog heads current p s

  abbrev pub InPlacesBelow : ℕ → ℕ → ℕ → Type 0
  InPlacesBelow n p s = (p < n) × MayHoldLog heads current p s

  pub one_sector_more : (place n : ℕ) (old mid new : Told) → ReadsOnce (InPlaceBelow place n) old mid
      → ReadsOnce (InSector place n) mid new → ReadsOnce (InPlaceBelow place (n + 1)) old new
  one_sector_more place n old mid new =
      once_then (InPlaceBelow place n) (InSector place n) (InPlaceBelow place (n + 1)) old mid new
      (λ p s below here. omega (arith, below.1, here.0.1))
      (λ p s below. (below.0, omega (arith, below.1), below.2))
      (λ p s here. (here.0.0, omega (arith, here.0.1), here.1))

  pub place_once : (place n : ℕ) (old new : Told) → ReadsOnce (InPlaceBelow place n) old new
      → ReadsOnce (InPlace place) old new
  place_once place n old new =
      once_wider (InPlaceBelow place n) (InPlace place) old new (λ p s below. (below.0, below.2))

  pub one_place_more : (n : ℕ) (old mid new : Told) → ReadsOnce (InPlacesBelow n) old mid
      → ReadsOnce (InPlace n) mid new → ReadsOnce (InPlacesBelow (n + 1)) old new
  one_place_more n old mid new =
      once_then (InPlacesBelow n) (InPlace n) (InPlacesBelow (n + 1)) old mid new
      (λ p s below here. omega (arith, below.0, here.0))
      (λ p s below. (omega (arith, below.0), below.1)) (λ p s here. (omega (arith, here.0), here.1))

  pub logs_once : (n : ℕ) (old new : Told) → ReadsOnce (InPlacesBelow n) old new
      → ReadsOnce (MayHoldLog heads current) old new
  logs_once n old new =
      once_wider (InPlacesBelow n) (MayHoldLog heads current) old new (λ p s below. below.1)

  -- ---- behind the headers

  pub commits_behind : (place : ℕ) (old new : Told) → ReadsOnce (IsCommitSpot place) old new
      → ReadsOnce IsBehindHeader old new
  commits_behind place old new =
      once_wider (IsCommitSpot place) IsBehindHeader old new (λ p s is. is.1)

  -- the commit sectors, and then the log sectors, of other places
  pub rest_once : (place : ℕ) (old mid new : Told)
      → ((s : ℕ) → MayHoldLog heads current place s → ⊥)
      → ReadsOnce (IsCommitSpot place) old mid → ReadsOnce (MayHoldLog heads current) mid new
      → ReadsOnce IsBehindHeader old new
  rest_once place old mid new unlogged =
      once_then (IsCommitSpot place) (MayHoldLog heads current) IsBehindHeader old mid new
      (λ p s commit log. unlogged s (subst (λ (q : ℕ). MayHoldLog heads current q s) commit.0 log))
      (λ p s is. is.1) (behind_header heads current)

-- ---- all

pub headers_alone : (old new : Told) → ReadsOnce IsHeaderSpot old new → ReadsOnce Anywhere old new
headers_alone old new = once_wider IsHeaderSpot Anywhere old new (λ p s is. tt)

pub all_once : (old mid new : Told) → ReadsOnce IsHeaderSpot old mid
    → ReadsOnce IsBehindHeader mid new → ReadsOnce Anywhere old new
all_once old mid new =
    once_then IsHeaderSpot IsBehindHeader Anywhere old mid new
    (λ p s header behind. omega (arith, header, behind)) (λ p s is. tt) (λ p s is. tt)
