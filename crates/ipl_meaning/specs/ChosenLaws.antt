-- The headers that are chosen are those that count, and those that count are chosen.
use Rattle.std.specs.Prelude.{ℕ, ◌≡◌, ◌<◌, Some, None}
use Rattle.ipl_format.specs.Sector.{Sector}
use Rattle.ipl_meaning.specs.Chart.{Chart, IsChosen, IsDataHeader, IsStatusHeader}
use Rattle.ipl_meaning.specs.Chosen.{Winner, head_of, current_at, status_at, units_at}

-- the winner is this sector, the header that counts at its place
pub record IsWinnerOf (c : Chart) (places : ℕ) (Fits : Sector → Type 0) (winner : Winner) : Type 0 where
  pub sector : Sector
  pub counts : IsChosen c places Fits winner.place sector
  pub head : winner.head ≡ head_of places sector

-- a current header is the one that counts for its unit
abbrev pub CurrentsAreChosen : Type 0
CurrentsAreChosen =
    (c : Chart) (places u : ℕ) (winner : Winner) → current_at c places u ≡ Some winner
    → (u < units_at c places) × IsWinnerOf c places (IsDataHeader u) winner

-- the one that counts is current
abbrev pub ChosenAreCurrent : Type 0
ChosenAreCurrent =
    (c : Chart) (places u p : ℕ) (head : Sector) → u < units_at c places → IsChosen c places (IsDataHeader u) p head
    → current_at c places u ≡ Some (record { place = p; head = head_of places head })

-- a unit without a current header has no header
abbrev pub NoneIsCurrent : Type 0
NoneIsCurrent =
    (c : Chart) (places u p : ℕ) (head : Sector) → u < units_at c places
    → current_at c places u ≡ None
    → p < places → c p 0 ≡ Some head → ¬ IsDataHeader u head

-- the status header is the one that counts
abbrev pub StatusesAreChosen : Type 0
StatusesAreChosen =
    (c : Chart) (places : ℕ) (winner : Winner) → status_at c places ≡ Some winner → IsWinnerOf c places IsStatusHeader winner

-- the one that counts is the status header
abbrev pub ChosenAreStatus : Type 0
ChosenAreStatus =
    (c : Chart) (places p : ℕ) (head : Sector) → IsChosen c places IsStatusHeader p head
    → status_at c places ≡ Some (record { place = p; head = head_of places head })

-- where there is none, no place has one
abbrev pub NoneIsStatus : Type 0
NoneIsStatus =
    (c : Chart) (places p : ℕ) (head : Sector) → status_at c places ≡ None → p < places → c p 0 ≡ Some head
    → ¬ IsStatusHeader head
