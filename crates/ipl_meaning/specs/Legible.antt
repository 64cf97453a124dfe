-- The records of some pages of a chip.
use Rattle.std.specs.Prelude.{ℕ, ◌≡◌, ◌⊎◌, ◌==◌, ◌&&◌, ◌||◌, not, Bool, true, false}
use Rattle.ipl_model.specs.State.{Map}

-- Of the names of these pages, by unit and page, it is said which records they have; and these are known not to read well.
pub record Legibility : Type 0 where
  pub reads : ℕ → ℕ → Bool
  pub rotten : ℕ → ℕ → Bool

-- each page is of the one kind or of the other
abbrev pub IsToldApart : Legibility → Type 0
IsToldApart pages = (u page : ℕ) → (pages.reads u page ≡ true) ⊎ (pages.rotten u page ≡ true)

-- every page reads
abbrev pub every : Legibility
every = record { reads = λ u page. true; rotten = λ u page. false }

-- it is that page of that unit
abbrev pub is_page : ℕ → ℕ → ℕ → ℕ → Bool
is_page u page v other = (v == u) && (other == page)

-- one page more is rotten
abbrev pub with_rotten : Legibility → ℕ → ℕ → Legibility
with_rotten pages u page = record {
  reads = λ v other. pages.reads v other && not (is_page u page v other);
  rotten = λ v other. pages.rotten v other || is_page u page v other;
}

-- a map, and the pages of whose names it is said; of the names of other pages nothing is
pub record Legible : Type 0 where
  pub map : Map
  pub pages : Legibility

-- these records of these pages
abbrev pub of : Legibility → Map → Legible
of pages m = record { map = m; pages = pages }

-- said of every page, none of which is rotten
abbrev pub whole : Map → Legible
whole m = of every m

-- said of these pages alone
abbrev pub but : (ℕ → ℕ → Bool) → Legible → Legible
but reads m = of (record { reads = reads; rotten = m.pages.rotten }) m.map
